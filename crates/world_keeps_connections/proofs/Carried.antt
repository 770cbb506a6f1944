-- What a host's user knows of an end is carried through each call of its program, with any peer.
use Rattle.world_keeps_connections.proofs.Common.{◌≡◌, ℕ, ◌==◌, Bool, true, false, List, [], ◌∷◌, Some, None, refl, sym, subst, ◌∙◌, Host, same_host, Flow, Answer, HostMessage, same_host-true, Notice, accepted, NcpState, pair_with, refusal, served, served_notices, offered, Request, End, HasEnd, Knows, all_known}
use Rattle.interface.specs.declared.crossing.Inbound.TheVariants as inbound
use Rattle.host_pairs.specs.About.{AreAbout}
use Rattle.host_pairs.specs.Allowed.{commands_of}
use Rattle.host_pairs.specs.Control.{orders_of}
use Rattle.host_pairs.specs.Pair.{PairState}
use Rattle.host_pairs.specs.Parcels.{Parcel}
use Rattle.ncp_control.specs.Phases.{is_ready}
use Rattle.sockets.specs.Accepting.{turn_of}
use Rattle.sockets.specs.Peers.{AreInOrder}
use Rattle.sockets.specs.Sending.{next_in}
use Rattle.sockets.specs.declared.peer.Peer.{Peer}
use Rattle.sockets.proofs.lemmas.{answer_about, answer_leaves, message_about, message_leaves, offer_about, offer_leaves}
use Rattle.pairing_law.specs.Ends.{nothing}
use Rattle.pairing_law.specs.Sides.{Life}
use Rattle.host_keeps_pairing.specs.Words.{AllFit, all_gone, all_taken, marks, marks_in}
use Rattle.host_keeps_pairing.specs.Ends.{Stand, Standing, at, kept_in}
use Rattle.host_keeps_pairing.specs.Hearing.{AreFree, AreJoint, after_request}
use Rattle.host_keeps_pairing.proofs.lemmas.{answer_keeps, answer_knows, data_told_same, idle_leaves, message_data, message_hears, message_idle, message_knows, message_replies, message_resets, offer_knows, offer_says, others_leave, request_keeps, request_knows, rrp_leaves, rst_knows}
use Rattle.net_sim.specs.Projection.{IsApart, message_on}
use Rattle.reset_law.specs.Events.{Message}
use Rattle.world_keeps_pairing.proofs.lemmas.{AText, AnRrp, AnRst, Sort, plain_joint, sort_of}

module _ (origin : ℕ → ℕ) (own foreign : ℕ) where
  -- a program has one end of the law
  end_once : (q : PairState) (x y : End) → HasEnd origin own foreign q x → HasEnd origin own foreign q y → x ≡ y
  end_once q x y h j = by (at own foreign q.entries) (h.ends 0) (j.ends 0) where
    by : (ss : List Standing) → Stand true origin 0 ss (marks 0 own foreign q.queue) x → Stand true origin 0 ss (marks 0 own foreign q.queue) y → x ≡ y
    by [] a b = a.1 ∙ sym b.1
    by (s ∷ []) a b = a.2 ∙ sym b.2
    by (s ∷ t ∷ ss) a b = absurd a

  pub carries : (q : PairState) (x y : End) (k : List Life) → HasEnd origin own foreign q x → HasEnd origin own foreign q y → Knows k x → Knows k y
  carries q x y k h j knows = subst (λ (z : End). Knows k z) (end_once q x y h j) knows

  -- what a call reports, and what its program has afterwards
  abbrev pub Carries : Host → NcpState → NcpState → List Notice → Type 0
  Carries p old new ns = (x y : End) (k : List Life) → HasEnd origin own foreign (pair_with p old.peers) x → HasEnd origin own foreign (pair_with p new.peers) y → Knows k x → Knows (all_known origin p own foreign ns k) y

  -- a call that is about another peer
  carries_other : (p g : Host) (old new : NcpState) (ns : List Notice) → same_host p g ≡ false → AreAbout g ns → pair_with p new.peers ≡ pair_with p old.peers → Carries p old new ns
  carries_other p g old new ns away about same x y k h j knows =
      subst (λ (l : List Life). Knows l y) (sym (others_leave origin own foreign p g ns k about away))
      (carries (pair_with p new.peers) x y k (subst (λ (q : PairState). HasEnd origin own foreign q x) (sym same) h) j knows)

  carries_by : (p g : Host) (old new : NcpState) (ns : List Notice) → AreAbout g ns → (same_host p g ≡ false → pair_with p new.peers ≡ pair_with p old.peers) → (same_host p g ≡ true → Carries g old new ns) → Carries p old new ns
  carries_by p g old new ns about leaves work = by (same_host p g) refl where
    by : (b : Bool) → same_host p g ≡ b → Carries p old new ns
    by true e = subst (λ (y : Host). Carries y old new ns) (sym (same_host-true p g e)) (work e)
    by false e = carries_other p g old new ns e about (leaves e)

  -- ---- the calls

  pub offer_carries : (p : Host) (s : NcpState) (stamp : ℕ) (g : Peer) (parcel : Parcel) → AreInOrder s.peers → next_in s.peers ≡ Some (g, parcel) → Carries p s (offered s stamp).0 (offered s stamp).1
  offer_carries p s stamp g parcel order n =
      carries_by p g.host s (offered s stamp).0 (offered s stamp).1 (offer_about s stamp g parcel n) (offer_leaves s stamp g parcel p n)
      (λ e x y k h j knows. carries (pair_with g.host (offered s stamp).0.peers) (all_gone (marks stamp own foreign (commands_of g.pair parcel)) x) y (all_known origin g.host own foreign (offered s stamp).1 k)
      (offer_says origin own foreign s stamp g parcel x order n h) j (offer_knows origin own foreign s stamp g parcel x k order n h knows))

  pub answer_carries : (p : Host) (s : NcpState) (kind : Answer) (f : Flow) (stamp : ℕ) → Carries p s (accepted s (inbound.Answer kind f) stamp).0 (accepted s (inbound.Answer kind f) stamp).1
  answer_carries p s kind f stamp =
      carries_by p f.destination s (accepted s (inbound.Answer kind f) stamp).0 (accepted s (inbound.Answer kind f) stamp).1 (answer_about s kind f stamp) (answer_leaves s kind f stamp p)
      (λ e x y k h j knows. carries (pair_with f.destination (accepted s (inbound.Answer kind f) stamp).0.peers) (kept_in (pair_with f.destination (accepted s (inbound.Answer kind f) stamp).0.peers) x) y (all_known origin f.destination own foreign (accepted s (inbound.Answer kind f) stamp).1 k)
      (answer_keeps origin own foreign s kind f stamp x h) j (answer_knows origin own foreign s kind f stamp x k h knows))

  pub request_carries : (p : Host) (s : NcpState) (r : Request) → refusal s r ≡ None → Carries p s (served s r) (served_notices s r)
  request_carries p s r ok x y k h j knows =
      carries (pair_with p (served s r).peers) (after_request p r x) y (all_known origin p own foreign (served_notices s r) k) (request_keeps origin own foreign s r p x ok h) j (request_knows origin own foreign s r p x k h knows)

  -- ---- a message

  -- what is asked of one that is heard, of a peer whose end is this
  abbrev pub Fitting : NcpState → HostMessage → ℕ → End → Type 0
  Fitting s m stamp x = is_ready (pair_with m.flow.source s.peers).phase ≡ true → (m.flow.link.0 == 0) ≡ true → AreJoint (orders_of m.text)
      → AreFree m.flow.source stamp (orders_of m.text) (turn_of s m.flow.source) × AllFit (marks_in (origin stamp) foreign own (orders_of m.text)) x

  module _ (s : NcpState) (m : HostMessage) (stamp : ℕ) (mine : same_host s.own m.flow.destination ≡ true) (apart : IsApart m.flow.link.0 m.text (message_on m.flow.link.0 m.text)) where
    -- nothing is reported of it, and the end stays
    stays : (x y : End) (k : List Life) → all_known origin m.flow.source own foreign (accepted s (inbound.Message m) stamp).1 k ≡ k → HasEnd origin own foreign (pair_with m.flow.source (accepted s (inbound.Message m) stamp).0.peers) x
        → HasEnd origin own foreign (pair_with m.flow.source (accepted s (inbound.Message m) stamp).0.peers) y → Knows k x → Knows (all_known origin m.flow.source own foreign (accepted s (inbound.Message m) stamp).1 k) y
    stays x y k same h j knows = subst (λ (l : List Life). Knows l y) (sym same) (carries (pair_with m.flow.source (accepted s (inbound.Message m) stamp).0.peers) x y k h j knows)

    control_carries : (x y : End) (k : List Life) → (m.flow.link.0 == 0) ≡ true → Fitting s m stamp x → Sort m.flow.link.0 m.text → HasEnd origin own foreign (pair_with m.flow.source s.peers) x
        → HasEnd origin own foreign (pair_with m.flow.source (accepted s (inbound.Message m) stamp).0.peers) y → Knows k x → Knows (all_known origin m.flow.source own foreign (accepted s (inbound.Message m) stamp).1 k) y
    control_carries x y k zero fit (AnRst z orders is) h j knows =
        carries (pair_with m.flow.source (accepted s (inbound.Message m) stamp).0.peers) nothing y (all_known origin m.flow.source own foreign (accepted s (inbound.Message m) stamp).1 k)
        (message_resets origin own foreign s m stamp mine zero orders) j (rst_knows origin own foreign s m stamp x k mine zero orders h knows)
    control_carries x y k zero fit (AnRrp z orders is) h j knows = stays x y k (rrp_leaves origin own foreign s m stamp k mine zero orders) (message_replies origin own foreign s m stamp x mine zero orders h) j knows
    control_carries x y k zero fit (AText is) h j knows = by (is_ready (pair_with m.flow.source s.peers).phase) refl where
      joint : AreJoint (orders_of m.text)
      joint = plain_joint (orders_of m.text) (subst (λ (n : Message). IsApart m.flow.link.0 m.text n) is apart zero)

      by : (b : Bool) → is_ready (pair_with m.flow.source s.peers).phase ≡ b → Knows (all_known origin m.flow.source own foreign (accepted s (inbound.Message m) stamp).1 k) y
      by true ready =
          let f : AreFree m.flow.source stamp (orders_of m.text) (turn_of s m.flow.source) × AllFit (marks_in (origin stamp) foreign own (orders_of m.text)) x = fit ready zero joint in
          carries (pair_with m.flow.source (accepted s (inbound.Message m) stamp).0.peers) (all_taken (marks_in (origin stamp) foreign own (orders_of m.text)) x) y (all_known origin m.flow.source own foreign (accepted s (inbound.Message m) stamp).1 k)
          (message_hears origin own foreign s m stamp x mine zero ready joint f.0 f.1 h) j (message_knows origin own foreign s m stamp x k mine zero ready joint f.0 f.1 h knows)
      by false idle = stays x y k (idle_leaves origin own foreign s m stamp k mine zero idle joint) (message_idle origin own foreign s m stamp x mine zero idle joint h) j knows

    source_carries : (x y : End) (k : List Life) → Fitting s m stamp x → HasEnd origin own foreign (pair_with m.flow.source s.peers) x
        → HasEnd origin own foreign (pair_with m.flow.source (accepted s (inbound.Message m) stamp).0.peers) y → Knows k x → Knows (all_known origin m.flow.source own foreign (accepted s (inbound.Message m) stamp).1 k) y
    source_carries x y k fit h j knows = by (m.flow.link.0 == 0) refl where
      by : (z : Bool) → (m.flow.link.0 == 0) ≡ z → Knows (all_known origin m.flow.source own foreign (accepted s (inbound.Message m) stamp).1 k) y
      by true zero = control_carries x y k zero fit (sort_of m.flow.link.0 m.text) h j knows
      by false away = stays x y k (data_told_same origin own foreign s m stamp k mine away) (message_data origin own foreign s m stamp x mine away h) j knows

  -- of each peer: only what it says itself has to have RST and RRP by themselves
  pub message_carries : (s : NcpState) (m : HostMessage) (stamp : ℕ) → same_host s.own m.flow.destination ≡ true
      → (p : Host) → (same_host p m.flow.source ≡ true → IsApart m.flow.link.0 m.text (message_on m.flow.link.0 m.text))
      → (x y : End) (k : List Life) → (same_host p m.flow.source ≡ true → Fitting s m stamp x) → HasEnd origin own foreign (pair_with p s.peers) x
      → HasEnd origin own foreign (pair_with p (accepted s (inbound.Message m) stamp).0.peers) y → Knows k x → Knows (all_known origin p own foreign (accepted s (inbound.Message m) stamp).1 k) y
  message_carries s m stamp mine p apart x y k fit h j knows = by (same_host p m.flow.source) refl where
    by : (b : Bool) → same_host p m.flow.source ≡ b
        → Knows (all_known origin p own foreign (accepted s (inbound.Message m) stamp).1 k) y
    by true e =
        let is : p ≡ m.flow.source = same_host-true p m.flow.source e in
        subst (λ (g : Host). Knows (all_known origin g own foreign (accepted s (inbound.Message m) stamp).1 k) y) (sym is)
        (source_carries s m stamp mine (apart e) x y k (fit e) (subst (λ (g : Host). HasEnd origin own foreign (pair_with g s.peers) x) is h)
        (subst (λ (g : Host). HasEnd origin own foreign (pair_with g (accepted s (inbound.Message m) stamp).0.peers) y) is j) knows)
    by false e = carries_other p m.flow.source s (accepted s (inbound.Message m) stamp).0 (accepted s (inbound.Message m) stamp).1 e (message_about s m stamp) (message_leaves s m stamp p e) x y k h j knows
