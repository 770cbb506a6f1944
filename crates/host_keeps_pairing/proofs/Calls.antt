-- Each call of a host's program, at one pair of its sockets with one peer.
use Rattle.host_keeps_pairing.proofs.Common.{◌≡◌, ℕ, ◌≤◌, Bool, true, false, ◌==◌, if◌then◌else◌, cond, List, [], ◌∷◌, Some, refl, ap, sym, subst, ◌∙◌, Host, same_host, Flow, Answer, HostMessage, same_host-refl, End, nothing, TurnState, if_ready, message_taken, orders_taken, accepted_answer, turn_of, Legal, Order, orders_of, data_taken, is_busy, commands_of, PairState, NcpState, pair_with, with_pair, desk_of, AreInOrder, is_ready, Parcel, pair_after, parcel_gone, next_in, Peer, next_pair, pair_changed, AllFit, MayAllGo, all_gone, marks, marks_in, HasEnd, kept_in, AreFree, AreJoint}
use Rattle.interface.specs.declared.crossing.Inbound.TheVariants as inbound
use Rattle.ncp_control.specs.declared.command.Command.TheVariants as command
use Rattle.sockets.specs.Accepting.{accepted, accepted_message}
use Rattle.sockets.specs.Pairs.{opening_state}
use Rattle.sockets.specs.Sending.{offered}
use Rattle.sockets.proofs.lemmas.{next_is}
use Rattle.host_pairs.proofs.lemmas.{what_goes}
use Rattle.host_keeps_pairing.specs.Words.{all_taken}
use Rattle.host_keeps_pairing.proofs.Passes.{parcel_goes, parcel_may}
use Rattle.host_keeps_pairing.proofs.Turns.{after_answer, after_data, after_reply, after_reset, orders_idle, orders_ready, same_kept}

-- the pair that is changed
pub put : (g : Host) (q : PairState) (peers : List Peer) → pair_with g (with_pair g q peers) ≡ q
put g q peers = let r : pair_with g (with_pair g q peers) ≡ cond (same_host g g) q (pair_with g peers) = pair_changed g g q peers in let e : same_host g g ≡ true = same_host-refl g in rw e at r

-- ---- a message

-- where it is for this host, it is taken in the pair with its source
abbrev pub taken_by : NcpState → HostMessage → ℕ → PairState
taken_by s m stamp = (message_taken m.flow.source stamp m.flow.link.0 m.text (turn_of s m.flow.source)).pair

message_pair : (s : NcpState) (m : HostMessage) (stamp : ℕ) → same_host s.own m.flow.destination ≡ true → pair_with m.flow.source (accepted s (inbound.Message m) stamp).0.peers ≡ taken_by s m stamp
unfolding accepted
message_pair s m stamp own = by (same_host s.own m.flow.destination) refl where
  by : (b : Bool) → same_host s.own m.flow.destination ≡ b → pair_with m.flow.source (accepted_message s m stamp).0.peers ≡ taken_by s m stamp
  by true e = rw e (put _ _ s.peers)
  by false e = absurd (let r : true ≡ false = sym own ∙ e in cc)

on_control : (s : NcpState) (m : HostMessage) (stamp : ℕ) → (m.flow.link.0 == 0) ≡ true
    → taken_by s m stamp ≡ (orders_taken m.flow.source stamp (orders_of m.text) (turn_of s m.flow.source)).pair
on_control s m stamp zero = ap (λ (b : Bool). (if b then orders_taken m.flow.source stamp (orders_of m.text) (turn_of s m.flow.source) else if_ready (data_taken m.flow.link.0 m.text) (turn_of s m.flow.source)).pair) zero

module _ (origin : ℕ → ℕ) (own foreign : ℕ) where
  pub opening_has : (h peer : Host) → HasEnd origin own foreign (pair_with peer (opening_state h).peers) nothing
  opening_has h peer = record { ends = λ place. (refl, refl); idle = λ i. refl }

  at_pair : (s : NcpState) (m : HostMessage) (stamp : ℕ) (x : End) (q : PairState) → same_host s.own m.flow.destination ≡ true → taken_by s m stamp ≡ q → HasEnd origin own foreign q x
      → HasEnd origin own foreign (pair_with m.flow.source (accepted s (inbound.Message m) stamp).0.peers) x
  at_pair s m stamp x q mine is h = subst (λ (p : PairState). HasEnd origin own foreign p x) (sym (message_pair s m stamp mine ∙ is)) h

  pub message_hears : (s : NcpState) (m : HostMessage) (stamp : ℕ) (x : End) → same_host s.own m.flow.destination ≡ true → (m.flow.link.0 == 0) ≡ true → is_ready (pair_with m.flow.source s.peers).phase ≡ true
      → AreJoint (orders_of m.text) → AreFree m.flow.source stamp (orders_of m.text) (turn_of s m.flow.source) → AllFit (marks_in (origin stamp) foreign own (orders_of m.text)) x
      → HasEnd origin own foreign (pair_with m.flow.source s.peers) x
      → HasEnd origin own foreign (pair_with m.flow.source (accepted s (inbound.Message m) stamp).0.peers) (all_taken (marks_in (origin stamp) foreign own (orders_of m.text)) x)
  message_hears s m stamp x mine zero ready joint free fit h =
      at_pair s m stamp _ _ mine (on_control s m stamp zero)
      (orders_ready origin own foreign _ stamp _ _ x joint free fit ready h)

  pub message_idle : (s : NcpState) (m : HostMessage) (stamp : ℕ) (x : End) → same_host s.own m.flow.destination ≡ true → (m.flow.link.0 == 0) ≡ true → is_ready (pair_with m.flow.source s.peers).phase ≡ false
      → AreJoint (orders_of m.text) → HasEnd origin own foreign (pair_with m.flow.source s.peers) x → HasEnd origin own foreign (pair_with m.flow.source (accepted s (inbound.Message m) stamp).0.peers) x
  message_idle s m stamp x mine zero idle joint h =
      at_pair s m stamp x _ mine (on_control s m stamp zero ∙ ap (λ (t : TurnState). t.pair) (orders_idle _ stamp _ _ joint idle)) h

  one_order : (s : NcpState) (m : HostMessage) (stamp : ℕ) (o : Order) → (m.flow.link.0 == 0) ≡ true → orders_of m.text ≡ o ∷ []
      → taken_by s m stamp ≡ (orders_taken m.flow.source stamp (o ∷ []) (turn_of s m.flow.source)).pair
  one_order s m stamp o zero is = on_control s m stamp zero ∙ ap (λ (os : List Order). (orders_taken m.flow.source stamp os (turn_of s m.flow.source)).pair) is

  pub message_resets : (s : NcpState) (m : HostMessage) (stamp : ℕ) → same_host s.own m.flow.destination ≡ true → (m.flow.link.0 == 0) ≡ true → orders_of m.text ≡ Legal command.Rst ∷ []
      → HasEnd origin own foreign (pair_with m.flow.source (accepted s (inbound.Message m) stamp).0.peers) nothing
  message_resets s m stamp mine zero is =
      at_pair s m stamp nothing _ mine (one_order s m stamp _ zero is) (after_reset origin own foreign m.flow.source (turn_of s m.flow.source))

  pub message_replies : (s : NcpState) (m : HostMessage) (stamp : ℕ) (x : End) → same_host s.own m.flow.destination ≡ true → (m.flow.link.0 == 0) ≡ true → orders_of m.text ≡ Legal command.Rrp ∷ []
      → HasEnd origin own foreign (pair_with m.flow.source s.peers) x → HasEnd origin own foreign (pair_with m.flow.source (accepted s (inbound.Message m) stamp).0.peers) x
  message_replies s m stamp x mine zero is h =
      at_pair s m stamp x _ mine (one_order s m stamp _ zero is) (after_reply origin own foreign m.flow.source (turn_of s m.flow.source) x h)

  pub message_data : (s : NcpState) (m : HostMessage) (stamp : ℕ) (x : End) → same_host s.own m.flow.destination ≡ true → (m.flow.link.0 == 0) ≡ false
      → HasEnd origin own foreign (pair_with m.flow.source s.peers) x → HasEnd origin own foreign (pair_with m.flow.source (accepted s (inbound.Message m) stamp).0.peers) x
  message_data s m stamp x mine away h =
      let is : taken_by s m stamp ≡ (if_ready (data_taken m.flow.link.0 m.text) (turn_of s m.flow.source)).pair =
      ap (λ (b : Bool). (if b then orders_taken m.flow.source stamp (orders_of m.text) (turn_of s m.flow.source) else if_ready (data_taken m.flow.link.0 m.text) (turn_of s m.flow.source)).pair) away in
      at_pair s m stamp x _ mine is (after_data origin own foreign _ m.text (turn_of s m.flow.source) x h)

  -- ---- an answer

  answer_by : (s : NcpState) (kind : Answer) (f : Flow) (x : End) → HasEnd origin own foreign (pair_with f.destination s.peers) x → (b c : Bool) → same_host s.own f.source ≡ b → is_busy (pair_with f.destination s.peers).busy f.link.0 ≡ c
      → HasEnd origin own foreign (pair_with f.destination (accepted_answer s kind f).0.peers) (kept_in (pair_with f.destination (accepted_answer s kind f).0.peers) x)
  answer_by s kind f x h true true e g =
      rw (e, g) (subst (λ (p : PairState). HasEnd origin own foreign p (kept_in p x)) (sym (put f.destination _ s.peers))
      (after_answer origin own foreign _ kind _ _ x h))
  answer_by s kind f x h true false e g = rw (e, g) (same_kept origin own foreign _ x h)
  answer_by s kind f x h false c e g = rw e (same_kept origin own foreign _ x h)

  pub answer_keeps : (s : NcpState) (kind : Answer) (f : Flow) (stamp : ℕ) (x : End) → HasEnd origin own foreign (pair_with f.destination s.peers) x
      → HasEnd origin own foreign (pair_with f.destination (accepted s (inbound.Answer kind f) stamp).0.peers) (kept_in (pair_with f.destination (accepted s (inbound.Answer kind f) stamp).0.peers) x)
  unfolding accepted
  answer_keeps s kind f stamp x h = answer_by s kind f x h _ _ refl refl

  -- ---- what goes out

  pub offer_may : (s : NcpState) (stamp : ℕ) (g : Peer) (parcel : Parcel) (x : End) (next : ℕ) → AreInOrder s.peers → next_in s.peers ≡ Some (g, parcel) → next ≤ stamp → HasEnd origin own foreign (pair_with g.host s.peers) x
      → MayAllGo (marks stamp own foreign (commands_of g.pair parcel)) x next
  offer_may s stamp g parcel x next order is below h =
      parcel_may origin own foreign stamp g.pair parcel x next below (subst (λ (q : PairState). HasEnd origin own foreign q x) (next_pair _ g parcel order is) h)

  pub offer_says : (s : NcpState) (stamp : ℕ) (g : Peer) (parcel : Parcel) (x : End) → AreInOrder s.peers → next_in s.peers ≡ Some (g, parcel) → HasEnd origin own foreign (pair_with g.host s.peers) x
      → HasEnd origin own foreign (pair_with g.host (offered s stamp).0.peers) (all_gone (marks stamp own foreign (commands_of g.pair parcel)) x)
  unfolding offered
  offer_says s stamp g parcel x order is h =
      let after : PairState = pair_after parcel g.pair (parcel_gone g.host stamp g.pair.busy parcel (desk_of g.pair s.listening)) in
      let gone : HasEnd origin own foreign after (all_gone (marks stamp own foreign (commands_of g.pair parcel)) x) =
      parcel_goes origin own foreign stamp g.host _ g.pair parcel x (what_goes g.pair parcel (next_is g parcel s.peers is)) (subst (λ (q : PairState). HasEnd origin own foreign q x) (next_pair _ g parcel order is) h) in
      rw is (subst (λ (q : PairState). HasEnd origin own foreign q (all_gone (marks stamp own foreign (commands_of g.pair parcel)) x)) (sym (put g.host after s.peers)) gone)
