-- Events that make no packet, move no flow and show nothing.
use Rattle.subnet.proofs.Common.{◌≡◌, ℕ, Option, Some, None, refl, sym, subst, All, Contains, All-weaker, All-contains, Flow, Direction, IsPacket, Message, State, ImpTurn, answer_packet, resend, route, claim, end_down, end_up, abandon, IsImp, AllUnmoved, Net, imp_at, with_turn, packets, at_imp, drop_frame, NothingNew, IsAt, IsSound}
use Rattle.packetiser.specs.declared.packet.PacketKind.TheVariants as kind
use Rattle.flow_law.proofs.lemmas.{silent_follows}
use Rattle.imp_node.proofs.lemmas.{abandon_imp, abandon_unmoved, at_set, claim_imp, claim_unmoved, end_down_imp, end_down_unmoved, end_up_imp, end_up_unmoved, resend_imp, resend_unmoved, route_imp, route_unmoved}
use Rattle.subnet.proofs.Moves.Askable.{same_askable}
use Rattle.subnet.proofs.Moves.Views.{turn_view, alive_less, same_messages}
use Rattle.subnet.proofs.Packets.HavingByEvents.{drop_nothing, resend_nothing, route_nothing, claim_nothing, end_down_nothing, end_up_nothing, abandon_nothing}

-- packets that were there are by the format
pub formats_less : (n m : Net) → NothingNew n m → All IsPacket (packets n) → All IsPacket (packets m)
formats_less n m among formats = All-weaker (Contains (packets n)) IsPacket (λ p there. All-contains IsPacket (packets n) p formats there) (packets m) among

-- ---- a call of one IMP

quiet_turn : (n : Net) (i : ℕ) (s : State) (turn : ImpTurn) → imp_at n.imps i ≡ Some s → AllUnmoved s turn.state → IsImp i turn.state → turn.state.hosts ≡ s.hosts → NothingNew n (with_turn i turn n) → IsSound n → IsSound (with_turn i turn n)
quiet_turn n i s turn at still imp hosts among is =
    let m : Net = with_turn i turn n in
    record {
      flows = silent_follows _ n.log _ _ _ _ (λ f. turn_view n i s turn f at (still f)) (λ f x. alive_less n m f x among) is.flows;
      imps = λ k. at_set IsAt n.imps i k (Some turn.state) None (is.imps k) imp;
      formats = formats_less n m among is.formats;
      answers = subst (All (λ (q : Message). IsPacket (answer_packet kind.Rfnm q.flow q.number))) (sym (same_messages n.imps i s _ at hosts)) is.answers;
      askable = λ f. same_askable n m f (turn_view n i s turn f at (still f)) is;
    }

quiet_call : (n : Net) (i : ℕ) (call : State → ImpTurn) → ((s : State) → AllUnmoved s (call s).state) → ((s : State) → IsImp i s → IsImp i (call s).state) → ((s : State) → (call s).state.hosts ≡ s.hosts)
    → NothingNew n (at_imp (imp_at n.imps i) i call n) → IsSound n → IsSound (at_imp (imp_at n.imps i) i call n)
quiet_call n i call still keeps hosts among is = by (imp_at n.imps i) refl among where
  by : (o : Option State) → imp_at n.imps i ≡ o → NothingNew n (at_imp o i call n) → IsSound (at_imp o i call n)
  by None at among = is
  by (Some s) at among = quiet_turn n i s (call s) at (still s) (keeps s (subst (IsAt i) at (is.imps i))) (hosts s) among is

-- ---- the events

pub drop_sound : (n : Net) (l : ℕ) (d : Direction) (k : ℕ) → IsSound n → IsSound (drop_frame n l d k)
drop_sound n l d k is =
    let m : Net = drop_frame n l d k in
    record {
      flows = silent_follows _ n.log _ _ _ _ (λ f. refl) (λ f x. alive_less n m f x (drop_nothing n l d k)) is.flows;
      imps = is.imps;
      formats = formats_less n m (drop_nothing n l d k) is.formats;
      answers = is.answers;
      askable = is.askable;
    }

pub resend_sound : (n : Net) (i : ℕ) → IsSound n → IsSound (at_imp (imp_at n.imps i) i resend n)
resend_sound n i is = quiet_call n i resend resend_unmoved (resend_imp i) (λ s. refl) (resend_nothing n i) is

pub route_sound : (n : Net) (i : ℕ) → IsSound n → IsSound (at_imp (imp_at n.imps i) i route n)
route_sound n i is = quiet_call n i route route_unmoved (route_imp i) (λ s. refl) (route_nothing n i) is

pub claim_sound : (n : Net) (i : ℕ) → IsSound n → IsSound (at_imp (imp_at n.imps i) i claim n)
claim_sound n i is = quiet_call n i claim claim_unmoved (claim_imp i) (λ s. refl) (claim_nothing n i) is

pub end_down_sound : (n : Net) (i k : ℕ) → IsSound n → IsSound (at_imp (imp_at n.imps i) i (λ s. end_down s k) n)
end_down_sound n i k is = quiet_call n i _ (λ s. end_down_unmoved s k) (λ s imp. end_down_imp i s k imp) (λ s. refl) (end_down_nothing n i k) is

pub end_up_sound : (n : Net) (i k : ℕ) → IsSound n → IsSound (at_imp (imp_at n.imps i) i (λ s. end_up s k) n)
end_up_sound n i k is = quiet_call n i _ (λ s. end_up_unmoved s k) (λ s imp. end_up_imp i s k imp) (λ s. refl) (end_up_nothing n i k) is

pub abandon_sound : (n : Net) (i : ℕ) (g : Flow) → IsSound n → IsSound (at_imp (imp_at n.imps i) i (λ s. abandon s g) n)
abandon_sound n i g is = quiet_call n i _ (λ s. abandon_unmoved s g) (λ s imp. abandon_imp i s g imp) (λ s. refl) (abandon_nothing n i g) is
