-- What each call of a host's program does to the end of two sockets, by what the message of it is.
use Rattle.world_keeps_pairing.proofs.Common.{Host, same_host, Flow, Answer, HostMessage, same_host-true, Command, commands_of, MayGo, Order, Legal, Wrong, orders_of, PairState, is_ready, accepted, turn_of, NcpState, pair_with, Peer, IsRanged, IsReadBack, offer_read, AreFree, AreJoint, End, nothing, Mark, Message, Reset, Reply, Other, Pair, data_away}
use Rattle.std.proofs.Common.{◌≡◌, ℕ, ◌≤◌, ◌==◌, Bool, false, if◌then◌else◌, List, [], ◌∷◌, ◌++◌, map, Some, refl, ap, sym, subst, ◌∙◌, true}
use Rattle.host_pairs.specs.Parcels.{Parcel, link_for, text_for, next_of}
use Rattle.host_pairs.proofs.lemmas.{what_goes}
use Rattle.sockets.specs.Sending.{next_in, offered}
use Rattle.sockets.proofs.lemmas.{message_leaves, next_is, next_pair, offer_leaves, answer_leaves}
use Rattle.host_keeps_pairing.specs.Words.{AllFit, MayAllGo, all_gone, marks, marks_in, mark_of, all_taken}
use Rattle.host_keeps_pairing.specs.Ends.{HasEnd, kept_in}
use Rattle.host_keeps_pairing.proofs.lemmas.{same_kept, answer_keeps, message_data, message_hears, message_idle, message_replies, message_resets, offer_may, offer_says}
use Rattle.net_sim.specs.Projection.{Agrees, IsApart, message_on, AllPlain, IsPlain, is_alone, is_rst, is_rrp}
use Rattle.interface.specs.declared.crossing.Inbound.TheVariants as inbound
use Rattle.ncp_control.specs.declared.command.Command.TheVariants as command
use Rattle.host_pairs.specs.Parcels as parcel
use Rattle.sockets.specs.Peers.{AreInOrder}

-- ---- what a text is for a reset

pub data Sort (link : ℕ) (text : List Bool) : Type 0 where
  AnRst : (zero : (link == 0) ≡ true) → (orders : orders_of text ≡ Legal command.Rst ∷ []) → (is : message_on link text ≡ Reset) → Sort link text
  AnRrp : (zero : (link == 0) ≡ true) → (orders : orders_of text ≡ Legal command.Rrp ∷ []) → (is : message_on link text ≡ Reply) → Sort link text
  AText : (is : message_on link text ≡ Other text) → Sort link text

rst_only : (c : Command) → is_rst c ≡ true → c ≡ command.Rst
rst_only command.Rst e = refl
rst_only c e = absurd (let no : false ≡ true = e in cc)

rrp_only : (c : Command) → is_rrp c ≡ true → c ≡ command.Rrp
rrp_only command.Rrp e = refl
rrp_only c e = absurd (let no : false ≡ true = e in cc)

alone_is : (test : Command → Bool) (only : Command) → ((c : Command) → test c ≡ true → c ≡ only) → (orders : List Order) → is_alone test orders ≡ true → orders ≡ Legal only ∷ []
alone_is test only k [] e = absurd (let no : false ≡ true = e in cc)
alone_is test only k (Legal c ∷ []) e = ap (λ (x : Command). Legal x ∷ []) (k c e)
alone_is test only k (Wrong code octets ∷ []) e = absurd (let no : false ≡ true = e in cc)
alone_is test only k (Legal c ∷ o ∷ orders) e = absurd (let no : false ≡ true = e in cc)
alone_is test only k (Wrong code octets ∷ o ∷ orders) e = absurd (let no : false ≡ true = e in cc)

sort_by : (link : ℕ) (text : List Bool) (zero rst rrp : Bool) → (link == 0) ≡ zero → is_alone is_rst (orders_of text) ≡ rst → is_alone is_rrp (orders_of text) ≡ rrp → Sort link text
sort_by link text false rst rrp e f g = AText (rw e refl)
sort_by link text true true rrp e f g = AnRst e (alone_is is_rst _ rst_only _ f) (rw (e, f) refl)
sort_by link text true false true e f g = AnRrp e (alone_is is_rrp _ rrp_only _ g) (rw (e, f, g) refl)
sort_by link text true false false e f g = AText (rw (e, f, g) refl)

pub sort_of : (link : ℕ) (text : List Bool) → Sort link text
sort_of link text = sort_by link text _ _ _ refl refl refl

-- ---- plain orders have neither RST nor RRP

joint_one : (o : Order) → IsPlain o → AreJoint (o ∷ [])
joint_one (Wrong code octets) h = (tt, tt)
joint_one (Legal command.Rst) h = absurd (let no : true ≡ false = h.0 in cc)
joint_one (Legal command.Rrp) h = absurd (let no : true ≡ false = h.1 in cc)
joint_one (Legal c) h = (refl, tt)

pub plain_joint : (orders : List Order) → AllPlain orders → AreJoint orders
plain_joint [] h = tt
plain_joint (o ∷ orders) h = ((joint_one o h.0).0, plain_joint orders h.1)

-- ---- what goes out

legal_marks : (place own foreign : ℕ) (cs : List Command) → marks_in place own foreign (map Legal cs) ≡ marks place own foreign cs
legal_marks place own foreign [] = refl
legal_marks place own foreign (c ∷ cs) = ap (λ (l : List Mark). mark_of place own foreign c ++ l) (legal_marks place own foreign cs)

-- what a parcel says is what is read on link 0
abbrev pub read_marks : ℕ → ℕ → ℕ → ℕ → List Bool → List Mark
read_marks place own foreign link text = if link == 0 then marks_in place own foreign (orders_of text) else []

parcel_marks : (place own foreign : ℕ) (q : PairState) (p : Pair) (x : Parcel) → Agrees q p → next_of q ≡ Some x → IsReadBack q x → marks place own foreign (commands_of q x) ≡ read_marks place own foreign (link_for x) (text_for q x)
parcel_marks place own foreign q p (parcel.Bytes e size count) a n back =
    let may : MayGo q (parcel.Bytes e size count) = what_goes q _ n in
    let away : (parcel.link_of e.link == 0) ≡ false = data_away q e size count a.linked may.1.linked n in
    ap (λ (b : Bool). if b then marks_in place own foreign (orders_of (text_for q (parcel.Bytes e size count))) else []) (sym away)
parcel_marks place own foreign q p x a n back = sym (ap (marks_in place own foreign) back ∙ legal_marks place own foreign (commands_of q x))

module _ (origin : ℕ → ℕ) (own foreign : ℕ) where
  abbrev pub Has : Host → NcpState → End → Type 0
  Has p s x = HasEnd origin own foreign (pair_with p s.peers) x

  -- the message of what goes out
  pub goes_marks : (s : NcpState) (stamp : ℕ) (g : Peer) (x : Parcel) (a : Pair) → AreInOrder s.peers → next_in s.peers ≡ Some (g, x) → IsRanged s → Agrees (pair_with g.host s.peers) a
      → marks stamp own foreign (commands_of g.pair x) ≡ read_marks stamp own foreign (link_for x) (text_for g.pair x)
  goes_marks s stamp g x a order n ranged agrees =
      parcel_marks stamp own foreign g.pair a x (subst (λ (q : PairState). Agrees q a) (next_pair _ g x order n) agrees) (next_is g x s.peers n) (offer_read s g x ranged n)

  pub out_may : (s : NcpState) (stamp : ℕ) (g : Peer) (x : Parcel) (a : Pair) (e : End) (next : ℕ) → AreInOrder s.peers → next_in s.peers ≡ Some (g, x) → IsRanged s → Agrees (pair_with g.host s.peers) a
      → next ≤ stamp → Has g.host s e → MayAllGo (read_marks stamp own foreign (link_for x) (text_for g.pair x)) e next
  out_may s stamp g x a e next order n ranged agrees below h =
      subst (λ (ms : List Mark). MayAllGo ms e next) (goes_marks s stamp g x a order n ranged agrees) (offer_may origin own foreign s stamp g x e next order n below h)

  pub out_has : (s : NcpState) (stamp : ℕ) (g : Peer) (x : Parcel) (a : Pair) (p : Host) (e : End) → AreInOrder s.peers → next_in s.peers ≡ Some (g, x) → IsRanged s → (same_host p g.host ≡ true → Agrees (pair_with g.host s.peers) a)
      → Has p s e → (c : Bool) → same_host p g.host ≡ c → Has p (offered s stamp).0 (all_gone (if c then read_marks stamp own foreign (link_for x) (text_for g.pair x) else []) e)
  out_has s stamp g x a p e order n ranged agrees h true same =
      let is : g.host ≡ p = sym (same_host-true p g.host same) in
      let there : Has g.host s e = subst (λ (y : Host). Has y s e) (sym is) h in
      let gone : Has g.host (offered s stamp).0 (all_gone (read_marks stamp own foreign (link_for x) (text_for g.pair x)) e) =
      subst (λ (ms : List Mark). Has g.host (offered s stamp).0 (all_gone ms e)) (goes_marks s stamp g x a order n ranged (agrees same)) (offer_says origin own foreign s stamp g x e order n there) in
      subst (λ (y : Host). Has y (offered s stamp).0 (all_gone (read_marks stamp own foreign (link_for x) (text_for g.pair x)) e)) is gone
  out_has s stamp g x a p e order n ranged agrees h false same = subst (λ (q : PairState). HasEnd origin own foreign q e) (sym (offer_leaves s stamp g x p n same)) h

  -- ---- what comes in

  -- the end after a message of the peer
  abbrev pub after_text : ℕ → Bool → Message → List Order → End → End
  after_text place ready Reset orders e = nothing
  after_text place ready Reply orders e = e
  after_text place ready (Other text) orders e = if ready then all_taken (marks_in place foreign own orders) e else e

  -- a message on link 0
  control_has : (s : NcpState) (m : HostMessage) (stamp : ℕ) (e : End) → same_host s.own m.flow.destination ≡ true → (m.flow.link.0 == 0) ≡ true → IsApart m.flow.link.0 m.text (message_on m.flow.link.0 m.text)
      → (is_ready (pair_with m.flow.source s.peers).phase ≡ true → AreJoint (orders_of m.text) → AreFree m.flow.source stamp (orders_of m.text) (turn_of s m.flow.source) × AllFit (marks_in (origin stamp) foreign own (orders_of m.text)) e)
      → Has m.flow.source s e → Sort m.flow.link.0 m.text
      → Has m.flow.source (accepted s (inbound.Message m) stamp).0 (after_text (origin stamp) (is_ready (pair_with m.flow.source s.peers).phase) (message_on m.flow.link.0 m.text) (orders_of m.text) e)
  control_has s m stamp e mine zero apart fit h (AnRst z orders is) =
      subst (λ (x : Message). Has m.flow.source (accepted s (inbound.Message m) stamp).0 (after_text (origin stamp) (is_ready (pair_with m.flow.source s.peers).phase) x (orders_of m.text) e)) (sym is)
      (message_resets origin own foreign s m stamp mine zero orders)
  control_has s m stamp e mine zero apart fit h (AnRrp z orders is) =
      subst (λ (x : Message). Has m.flow.source (accepted s (inbound.Message m) stamp).0 (after_text (origin stamp) (is_ready (pair_with m.flow.source s.peers).phase) x (orders_of m.text) e)) (sym is)
      (message_replies origin own foreign s m stamp e mine zero orders h)
  control_has s m stamp e mine zero apart fit h (AText is) =
      subst (λ (x : Message). Has m.flow.source (accepted s (inbound.Message m) stamp).0 (after_text (origin stamp) (is_ready (pair_with m.flow.source s.peers).phase) x (orders_of m.text) e)) (sym is)
      (by (is_ready (pair_with m.flow.source s.peers).phase) refl) where
        joint : AreJoint (orders_of m.text)
        joint = plain_joint (orders_of m.text) (subst (λ (x : Message). IsApart m.flow.link.0 m.text x) is apart zero)

        by : (b : Bool) → is_ready (pair_with m.flow.source s.peers).phase ≡ b → Has m.flow.source (accepted s (inbound.Message m) stamp).0 (if b then all_taken (marks_in (origin stamp) foreign own (orders_of m.text)) e else e)
        by true r = let f : AreFree m.flow.source stamp (orders_of m.text) (turn_of s m.flow.source) × AllFit (marks_in (origin stamp) foreign own (orders_of m.text)) e = fit r joint in message_hears origin own foreign s m stamp e mine zero r joint f.0 f.1 h
        by false r = message_idle origin own foreign s m stamp e mine zero r joint h

  -- any message of the peer
  pub in_has : (s : NcpState) (m : HostMessage) (stamp : ℕ) (e : End) → same_host s.own m.flow.destination ≡ true → IsApart m.flow.link.0 m.text (message_on m.flow.link.0 m.text)
      → (is_ready (pair_with m.flow.source s.peers).phase ≡ true → (m.flow.link.0 == 0) ≡ true → AreJoint (orders_of m.text) → AreFree m.flow.source stamp (orders_of m.text) (turn_of s m.flow.source) × AllFit (marks_in (origin stamp) foreign own (orders_of m.text)) e)
      → Has m.flow.source s e → (zero : Bool) → (m.flow.link.0 == 0) ≡ zero
      → Has m.flow.source (accepted s (inbound.Message m) stamp).0
      (if zero then after_text (origin stamp) (is_ready (pair_with m.flow.source s.peers).phase) (message_on m.flow.link.0 m.text) (orders_of m.text) e else e)
  in_has s m stamp e mine apart fit h true zero = control_has s m stamp e mine zero apart (λ r j. fit r zero j) h (sort_of _ m.text)
  in_has s m stamp e mine apart fit h false zero = message_data origin own foreign s m stamp e mine zero h

  -- and of another
  pub in_leaves : (s : NcpState) (m : HostMessage) (stamp : ℕ) (p : Host) (e : End) → same_host p m.flow.source ≡ false → Has p s e → Has p (accepted s (inbound.Message m) stamp).0 e
  in_leaves s m stamp p e away h = subst (λ (q : PairState). HasEnd origin own foreign q e) (sym (message_leaves s m stamp p away)) h

  -- an answer
  pub answer_has : (s : NcpState) (kind : Answer) (f : Flow) (stamp : ℕ) (p : Host) (e : End) → Has p s e → (c : Bool) → same_host p f.destination ≡ c
      → HasEnd origin own foreign (pair_with p (accepted s (inbound.Answer kind f) stamp).0.peers) (kept_in (pair_with p (accepted s (inbound.Answer kind f) stamp).0.peers) e)
  answer_has s kind f stamp p e h true same =
      let is : p ≡ f.destination = same_host-true p _ same in
      subst (λ (y : Host). HasEnd origin own foreign (pair_with y (accepted s (inbound.Answer kind f) stamp).0.peers) (kept_in (pair_with y (accepted s (inbound.Answer kind f) stamp).0.peers) e)) (sym is)
      (answer_keeps origin own foreign s kind f stamp e (subst (λ (y : Host). Has y s e) is h))
  answer_has s kind f stamp p e h false same =
      subst (λ (q : PairState). HasEnd origin own foreign q (kept_in q e)) (sym (answer_leaves s kind f stamp p same)) (same_kept origin own foreign _ e h)
