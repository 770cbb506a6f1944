use Rattle.world_keeps_streams.proofs.Common.{◌≡◌, ◌⊎◌, inl, inr, ℕ, zero, suc, ◌<◌, Bool, true, false, List, [], ◌∷◌, length, slice_index_or, refl, ap, sym, subst, ◌∙◌, arith, Contains, spent, receiving_end, asked_at, Entry, first, second, Crossed, program, crossings_of, texts_for, gave, none_there}
use Rattle.host_pairs.specs.Commands.{asked_with_size, granted}
use Rattle.promise.specs.Safe.{Match, sends}
use Rattle.world_keeps_streams.specs.Came.{HasTakenCls}
use Rattle.world_keeps_streams.specs.Worked.{ended_moments, quit_moments, took}
use Rattle.bit_messages.specs.Octets.{octets_of}
use Rattle.ncp_control.specs.Packing.{packed_count}
use Rattle.ncp_control.specs.Reading.{read_of, command_of}
use Rattle.host_pairs.specs.Control.{orders_of}
use Rattle.host_pairs.specs.declared.entry.Closing.TheVariants as closing
use Rattle.sockets.specs.Accepting.{accepted}
use Rattle.sockets.specs.Requests.{refusal, served, served_notices}
use Rattle.sockets.specs.Sending.{next_out, offered}
use Rattle.interface.specs.declared.crossing.Crossing.TheVariants as crossing
use Rattle.promise.specs.declared.life.Life.{Life}
use Rattle.net_sim.specs.Told.{kept_in}
use Rattle.world_keeps_streams.proofs.law.worked_came.Goals as goal

first_closed : List Entry → Bool
first_closed [] = true
first_closed (e ∷ es) = e.partner_closed

pub returns-clause-taken : goal.returns-clause-taken
unfolding octets_of orders_of read_of command_of packed_count accepted refusal served served_notices next_out offered
returns-clause-taken c = record {
  there = (1, omega arith, refl);
  receiving = refl;
  goes = refl;
  end = record {
    end = record (spent 8 (granted 2 100 (asked_with_size 10 8 (asked_at 6 (receiving_end 16 33 2))))) { closing = closing.Queued; partner_closed = true };
    one = refl;
    others = λ other away. none_there 16 second other (program first ended_moments).peers (refl, tt) away;
    foreign = refl;
    own = refl;
    partner = refl;
  };
  closed = refl;
  link = 2;
  linked = refl;
}

quit : HasTakenCls quit_moments took
unfolding octets_of orders_of read_of command_of packed_count accepted refusal served served_notices next_out offered
quit = record {
  there = (1, omega arith, refl);
  receiving = refl;
  goes = refl;
  end = record {
    end = record (granted 2 100 (asked_with_size 10 8 (asked_at 6 (receiving_end 16 33 2)))) { closing = closing.Queued; partner_closed = true };
    one = refl;
    others = λ other away. none_there 16 second other (program first quit_moments).peers (refl, tt) away;
    foreign = refl;
    own = refl;
    partner = refl;
  };
  closed = refl;
  link = 2;
  linked = refl;
}

pub returns-clause-closing : goal.returns-clause-closing
returns-clause-closing c = quit

pub returns-clause-had : goal.returns-clause-had
returns-clause-had c = record { later = Crossed (crossing.Down second) ∷ []; earlier = quit_moments; is = refl; then = quit }

pub returns-clause-open : goal.returns-clause-open
unfolding octets_of orders_of read_of command_of packed_count accepted refusal served served_notices next_out offered first_closed
returns-clause-open c f = let both : false ≡ true = ap first_closed f.end.one ∙ f.closed in absurd (cc)

pub returns-clause-counts : goal.returns-clause-counts
unfolding octets_of orders_of read_of command_of packed_count accepted refusal served served_notices next_out offered
returns-clause-counts c = (refl, refl, refl)

-- one of two lives
of_two : (x y s : Life) → Contains (x ∷ y ∷ []) s → (x ≡ s) ⊎ (y ≡ s)
of_two x y s there = by there.0 there.1 there.2 where
  by : (i : ℕ) → i < 2 → slice_index_or (x ∷ y ∷ []) i s ≡ s → (x ≡ s) ⊎ (y ≡ s)
  by zero less is = inl is
  by (suc zero) less is = inr is
  by (suc (suc i)) less is = absurd (omega (arith, less))

lives_are : (kept_in quit_moments).book.lives ≡ gave ∷ took ∷ []
unfolding octets_of orders_of read_of command_of packed_count accepted refusal served served_notices next_out offered
lives_are = refl

came_are : length (texts_for took 2 (crossings_of quit_moments)) ≡ 1
unfolding octets_of orders_of read_of command_of packed_count accepted refusal served served_notices next_out offered
came_are = refl

matches : Match (crossings_of quit_moments) took gave
unfolding octets_of orders_of read_of command_of packed_count accepted refusal served served_notices next_out offered
matches = record { receiving = refl; sending = refl; peers = (refl, refl); sockets = (refl, refl); asked = refl; answered = refl }

sent_all : (s : Life) → (gave ≡ s) ⊎ (took ≡ s) → Match (crossings_of quit_moments) took s → s.messages ≡ 1
sent_all s (inl is) m = ap (λ (x : Life). x.messages) (sym is)
sent_all s (inr is) m = absurd (let both : false ≡ true = ap sends is ∙ m.sending in cc)

pub returns-clause-dropped : goal.returns-clause-dropped
returns-clause-dropped c = record {
  all = λ s there m. sent_all s (of_two gave took s (subst (λ (lives : List Life). Contains lives s) lives_are there)) m ∙ sym came_are;
  source = λ some. (gave, subst (λ (lives : List Life). Contains lives gave) (sym lives_are) (0, omega arith, refl), matches);
}

pub returns-clause-waits : goal.returns-clause-waits
unfolding octets_of orders_of read_of command_of packed_count accepted refusal served served_notices next_out offered
returns-clause-waits c h =
    let one : 1 ≡ 0 = h.all gave (0, omega arith, refl) (record { receiving = refl; sending = refl; peers = (refl, refl); sockets = (refl, refl); asked = refl; answered = refl }) in absurd (omega (arith, one))

pub returns-clause-late : goal.returns-clause-late
unfolding octets_of orders_of read_of command_of packed_count accepted refusal served served_notices next_out offered
returns-clause-late c h = let one : 1 ≡ 0 = h.all gave (0, omega arith, refl) matches in absurd (omega (arith, one))

pub returns-clause-link : goal.returns-clause-link
unfolding octets_of orders_of read_of command_of packed_count accepted refusal served served_notices next_out offered
returns-clause-link c h =
    let one : 1 ≡ 0 = h.all gave (0, omega arith, refl) (record { receiving = refl; sending = refl; peers = (refl, refl); sockets = (refl, refl); asked = refl; answered = refl }) in absurd (omega (arith, one))
