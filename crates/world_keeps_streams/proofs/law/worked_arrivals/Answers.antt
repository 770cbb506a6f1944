use Rattle.world_keeps_streams.proofs.Common.{◌≡◌, inl, inr, ℕ, Bool, true, false, List, [], ◌∷◌, Option, None, refl, ap, ◌∙◌, arith, Host, same_host, some_is, spent, is_open, receiving_end, sending_end, asked_at, Entry, first, second, program, bits_sent, none_there}
use Rattle.host_pairs.specs.Commands.{asked_on_link, asked_with_size, granted}
use Rattle.world_keeps_streams.proofs.Facts.{untrue}
use Rattle.bit_messages.specs.Octets.{octets_of}
use Rattle.ncp_control.specs.Packing.{packed_count}
use Rattle.ncp_control.specs.Reading.{read_of, command_of}
use Rattle.host_pairs.specs.Control.{orders_of}
use Rattle.sockets.specs.Accepting.{accepted}
use Rattle.sockets.specs.Requests.{refusal, served, served_notices}
use Rattle.sockets.specs.Sending.{next_out, offered}
use Rattle.world_keeps_streams.proofs.law.worked_arrivals.Goals as goal

first_link : List Entry → Option ℕ
first_link [] = None
first_link (e ∷ es) = e.link

first_open : List Entry → Bool
first_open [] = true
first_open (e ∷ es) = is_open e

other_host : second ≡ first → ⊥
other_host e = let no : false ≡ true = ap (λ (h : Host). same_host h first) e in absurd (cc)

pub returns-clause-open : goal.returns-clause-open
unfolding octets_of orders_of read_of command_of packed_count accepted refusal served served_notices next_out offered
returns-clause-open c = record {
  there = (1, omega arith, refl);
  receiving = refl;
  goes = refl;
  host = refl;
  peer = refl;
  end = record { end = granted 2 100 (asked_with_size 10 8 (asked_at 6 (receiving_end 16 33 2))); one = refl; others = λ other away. none_there 16 second other (program first bits_sent).peers (refl, tt) away; foreign = refl; own = refl; partner = refl };
  link = refl;
  unclosed = inl refl;
  off_control = refl;
}

pub returns-clause-arrives : goal.returns-clause-arrives
unfolding octets_of orders_of read_of command_of packed_count accepted refusal served served_notices next_out offered
returns-clause-arrives c = refl

pub returns-clause-closing : goal.returns-clause-closing
unfolding octets_of orders_of read_of command_of packed_count accepted refusal served served_notices next_out offered first_open
returns-clause-closing c f = elim f.unclosed [
  | inl is ↦ (let both : false ≡ true = ap first_open f.end.one ∙ is in absurd (cc))
  | inr none ↦ none (inl (refl, refl))
]

pub returns-clause-dropped : goal.returns-clause-dropped
unfolding octets_of orders_of read_of command_of packed_count accepted refusal served served_notices next_out offered
returns-clause-dropped c = refl

pub returns-clause-between : goal.returns-clause-between
unfolding octets_of orders_of read_of command_of packed_count accepted refusal served served_notices next_out offered
returns-clause-between c = record {
  there = (1, omega arith, refl);
  sender_there = (0, omega arith, refl);
  matches = record { receiving = refl; sending = refl; peers = (refl, refl); sockets = (refl, refl); asked = refl; answered = refl };
  goes = refl;
  sender_goes = refl;
  host = refl;
  peer = refl;
  giver = record {
    end = spent 8 (granted 2 100 (asked_at 8 (asked_on_link 7 2 (sending_end 33 16 8))));
    one = refl;
    others = λ other away. none_there 33 first other (program second bits_sent).peers (refl, tt) away;
    foreign = refl;
    own = refl;
    partner = refl;
  };
  linked = refl;
  end = record { end = granted 2 100 (asked_with_size 10 8 (asked_at 6 (receiving_end 16 33 2))); one = refl; others = λ other away. none_there 16 second other (program first bits_sent).peers (refl, tt) away; foreign = refl; own = refl; partner = refl };
  unclosed = inl refl;
}

pub returns-clause-link : goal.returns-clause-link
unfolding octets_of orders_of read_of command_of packed_count accepted refusal served served_notices next_out offered first_link
returns-clause-link c f = let e : 2 ≡ 3 = some_is {A = ℕ} 2 3 (ap first_link f.giver.one ∙ f.linked) in omega (arith, e)

pub returns-clause-host : goal.returns-clause-host
returns-clause-host c f = other_host f.host

pub returns-clause-unclosed : goal.returns-clause-unclosed
unfolding octets_of orders_of read_of command_of packed_count accepted refusal served served_notices next_out offered first_open
returns-clause-unclosed c f = elim f.unclosed [
  | inl is ↦ (let both : false ≡ true = ap first_open f.end.one ∙ is in absurd (cc))
  | inr none ↦ none (inl (refl, refl))
]

pub returns-clause-itself : goal.returns-clause-itself
returns-clause-itself c f = untrue f.matches.sending
