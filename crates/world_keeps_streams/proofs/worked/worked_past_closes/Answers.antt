use Rattle.world_keeps_streams.proofs.Common.{is_receive_socket, some_is, Entry, HasClosed, name_now, numbered, pair_with, first, second, Crossed, Moment, program, sent_moments, mine_on, own_calls, IsClosedByPartner, WasClosedByPartner}
use Rattle.std.proofs.Common.{◌≡◌, ◌⊎◌, inl, inr, ◌<◌, ℕ, suc, Bool, true, false, List, [], ◌∷◌, ◌++◌, Option, None, drop, length, slice_index_or, refl, ap, sym, subst, ◌∙◌, arith, zero}
use Rattle.world_keeps_streams.specs.Worked.{quit_moments, close_sent, took}
use Rattle.bit_messages.specs.Octets.{octets_of}
use Rattle.interface.specs.declared.crossing.Crossing.TheVariants as crossing
use Rattle.ncp_control.specs.Packing.{packed_count}
use Rattle.ncp_control.specs.Reading.{read_of, command_of}
use Rattle.host_pairs.specs.Control.{orders_of}
use Rattle.sockets.specs.Accepting.{accepted}
use Rattle.sockets.specs.Requests.{refusal, served, served_notices}
use Rattle.sockets.specs.Sending.{next_out, offered}
use Rattle.promise.specs.Safe.{receives}
use Rattle.net_sim.specs.Told.{kept_in}
use Rattle.promise.specs.declared.life.Life.{Life}
use Rattle.world_keeps_lives.proofs.lemmas.{has_not, never_earlier, never_has, none_has}
use Rattle.world_keeps_streams.proofs.worked.worked_past_closes.Goals as goal

-- ---- whether the partner of a life has closed its end

first_closed : List Entry → Bool
first_closed [] = false
first_closed (e ∷ es) = e.partner_closed

has_closed : List Moment → Life → Bool
has_closed ms x = first_closed (mine_on x.socket (pair_with x.peer (program x.host ms).peers).entries)

not_then : (ms : List Moment) (x : Life) → never_has has_closed ms ≡ true → IsClosedByPartner ms x → ⊥
unfolding has_closed first_closed
not_then ms x never f =
    let unclosed : has_closed ms x ≡ false = has_not has_closed ms x never f.there in
    let both : false ≡ true = sym unclosed ∙ ap first_closed f.end.one ∙ f.closed in
    absurd (cc)

not_so_far : (ms : List Moment) (x : Life) → never_has has_closed ms ≡ true → WasClosedByPartner ms x → ⊥
not_so_far ms x never f = not_then f.earlier f.receiver (never_earlier has_closed f.later f.earlier (subst (λ (all : List Moment). never_has has_closed all ≡ true) f.is never)) f.then

-- it is so now, or it was
since : (m : Moment) (ms later earlier : List Moment) → m ∷ ms ≡ later ++ earlier → (m ∷ ms ≡ earlier) ⊎ ((more : List Moment) × (ms ≡ more ++ earlier))
since m ms [] earlier is = inl is
since m ms (x ∷ later) earlier is = inr (later, ap (drop 1) is)

-- ---- the two connections

pub returns-clause-never : goal.returns-clause-never
unfolding octets_of orders_of read_of command_of packed_count accepted refusal served served_notices next_out offered first_closed has_closed none_has never_has
returns-clause-never c = not_so_far sent_moments _ refl

first_link : List Entry → Option ℕ
first_link [] = None
first_link (e ∷ es) = e.link

-- the receiving life, whose user closed before its partner's CLS came in
quit_life : IsClosedByPartner quit_moments (slice_index_or (kept_in quit_moments).book.lives 1 took) → ⊥
unfolding octets_of orders_of read_of command_of packed_count accepted refusal served served_notices next_out offered first_link
quit_life f =
    let link_is : 2 ≡ f.link = some_is 2 f.link (ap first_link f.end.one ∙ f.linked) in
    f.unclosed (subst (λ (k : ℕ). HasClosed numbered second k (name_now numbered second (own_calls first second quit_moments) 16 33) (own_calls first second quit_moments)) link_is (inr (inr (inl (refl, refl)))))

-- and the other life sends
quit_there : (k : ℕ) (x : Life) → k < length (kept_in quit_moments).book.lives → slice_index_or (kept_in quit_moments).book.lives k x ≡ x → IsClosedByPartner quit_moments x → ⊥
unfolding octets_of orders_of read_of command_of packed_count accepted refusal served served_notices next_out offered
quit_there zero x lt is f = let both : false ≡ true = ap receives is ∙ f.receiving in absurd (cc)
quit_there (suc zero) x lt is f = quit_life (subst (λ (y : Life). IsClosedByPartner quit_moments y) (sym is) f)
quit_there (suc (suc k)) x lt is f = absurd (omega (arith, lt))

pub returns-clause-quit : goal.returns-clause-quit
unfolding octets_of orders_of read_of command_of packed_count accepted refusal served served_notices next_out offered first_closed has_closed none_has never_has
returns-clause-quit c f = elim (since (Crossed (crossing.In close_sent)) (drop 1 quit_moments) f.later f.earlier f.is) [
  | inl now ↦
      let g : IsClosedByPartner quit_moments f.receiver = subst (λ (ms : List Moment). IsClosedByPartner ms f.receiver) (sym now) f.then in
      quit_there g.there.0 f.receiver g.there.1 g.there.2 g
  | inr (more, is) ↦
      let never : never_has has_closed (drop 1 quit_moments) ≡ true = refl in
      not_then f.earlier f.receiver (never_earlier has_closed more f.earlier (subst (λ (all : List Moment). never_has has_closed all ≡ true) is never)) f.then
]

pub returns-clause-sending : goal.returns-clause-sending
returns-clause-sending c = λ ms x f. ap (λ n. is_receive_socket n.own) f.same ∙ f.then.receiving

pub returns-clause-none : goal.returns-clause-none
unfolding octets_of orders_of read_of command_of packed_count accepted refusal served served_notices next_out offered first_closed has_closed none_has never_has
returns-clause-none c = λ sender f. not_so_far sent_moments _ refl f.closed

pub returns-clause-another : goal.returns-clause-another
unfolding octets_of orders_of read_of command_of packed_count accepted refusal served served_notices next_out offered
returns-clause-another c = λ f. let both : 33 ≡ 35 = f.matches.sockets.0 in absurd (omega (arith, both))

pub returns-clause-receiver : goal.returns-clause-receiver
returns-clause-receiver c = λ ms sender life f. f.matches.sending
