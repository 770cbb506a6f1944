-- Two programs with all that crosses between them: links are free, and all is tied to the law.
use Rattle.world_keeps_pairing.proofs.Common.{◌≡◌, ℕ, ◌==◌, Bool, true, false, ◌&&◌, if◌then◌else◌, List, [], ◌∷◌, Some, refl, ap, sym, subst, ◌∙◌, Host, same_host, HostMessage, same_host-refl, same_host-true, Order, orders_of, desk_of, PairState, IsRanged, offer_read, pair_range, text_good, MayAllGo, marks, AreFree, AreJoint, NcpState, pair_with, Peer, End, Side, AreSteps, Receiver, Sender, Sockets, Step, Word, receiver, said_words, placed_event, tagged, with_place, Event, Message, Other, Out, Reply, Reset, place, In, pair, Agrees, event_of, message_on, IsApart, Crossed, IsNext, IsStory, Moment, events_of, places, program, program_own, story_agrees, NameFree, TakesFreeAt, law_events, all_heard, all_said, heard_in, onto, steps, words_by, words_of, Waiting, boxes, AreOurs, Network}
use Rattle.host_pairs.specs.Data.{data_taken}
use Rattle.host_pairs.specs.Parcels.{Parcel, link_for, pair_after, parcel_gone, text_for}
use Rattle.host_pairs.specs.Turn.{TurnState, orders_taken, with_desk, if_ready, message_taken}
use Rattle.host_keeps_pairing.specs.Ends.{HasEnd, Stand, at}
use Rattle.host_keeps_pairing.proofs.lemmas.{eqb-sym, orders_idle, put}
use Rattle.sockets.specs.Accepting.{turn_of, accepted, accepted_message}
use Rattle.sockets.specs.Sending.{next_in, offered}
use Rattle.sockets.proofs.lemmas.{next_is, next_pair}
use Rattle.interface.specs.declared.crossing.Crossing.TheVariants as crossing
use Rattle.interface.specs.declared.crossing.Inbound.TheVariants as inbound
use Rattle.ncp_control.specs.Phases as phases
use Rattle.host_keeps_ranges.specs.Ranges as ranges
use Rattle.pairing_law.proofs.lemmas.Seen as words
use Rattle.reset_law.specs.Runs.{IsRun}
use Rattle.reset_law.specs.Stays as stay
use Rattle.world_keeps_pairing.proofs.LinkDesks.{linked_data}
use Rattle.world_keeps_pairing.proofs.LinkTurns.{orders_links}
use Rattle.world_keeps_pairing.proofs.LinkGone.{words_tagged, parcel_links, read_words, words_said}
use Rattle.world_keeps_pairing.proofs.LinkAll.{heard_nothing, Linked}
use Rattle.world_keeps_pairing.proofs.Local.{Links, all_claims}
use Rattle.world_keeps_pairing.proofs.Messages.{are_same, boxed, boxed_is, heard_off, place_in, stays_as}
use Rattle.world_keeps_pairing.proofs.Programs.{AnRrp, AnRst, AText, Sort, plain_joint, sort_of}
use Rattle.world_keeps_pairing.proofs.Tied.{IsOrigin, heard_all, steps_turn, taken_steps, under_heard_in, Tied, may_turn}
use Rattle.world_keeps_pairing.proofs.Claims.{Claim, heard_claims, said_claims}
use Rattle.world_keeps_pairing.proofs.LinkCalls.{LinksOf}
use Rattle.world_keeps_pairing.proofs.LinkMoments.{heard_next, said_next, sender_said}
use Rattle.world_keeps_pairing.proofs.Marks.{AllPairs, IsPair, texts_pairs}
use Rattle.world_keeps_pairing.proofs.Moments.{Side_of, place_is}
use Rattle.world_keeps_pairing.proofs.Moves.{sender_speaks}
use Rattle.world_keeps_pairing.proofs.Sides.{receiver_half, receiver_waits, sender_half}
use Rattle.world_keeps_pairing.proofs.Views.{View, same_view, sender_says}

-- ---- all that was said is of a receiving socket and a sending one

onto_pairs : (ws base : List Word) → AllPairs ws → AllPairs base → AllPairs (onto ws base)
onto_pairs [] base h k = k
onto_pairs (w ∷ ws) base h k = onto_pairs ws (w ∷ base) h.1 (h.0, k)

said_are : (a b : Host) (events : List Event) → AllPairs (said_words Receiver (steps a b events))
said_are a b events =
    subst AllPairs (sym (ap (λ (v : View). v.receiver_said) (same_view a b events))) (onto_pairs (words_of Receiver (stay.said_in_stay a b 0 events)) [] (texts_pairs Receiver (stay.said_in_stay a b 0 events)) tt)

pub offered_pair : (s : NcpState) (stamp : ℕ) (g : Peer) (x : Parcel) → next_in s.peers ≡ Some (g, x) → pair_with g.host (offered s stamp).0.peers ≡ pair_after x g.pair (parcel_gone g.host stamp g.pair.busy x (desk_of g.pair s.listening))
unfolding offered
offered_pair s stamp g x is = rw is (put g.host _ _)

-- ---- what goes out to a peer

module _ (origin : Host → Host → ℕ → ℕ) (hosts : Network) (a b : Host) (m : HostMessage) (moments : List Moment) (ours : AreOurs hosts a b) (story : IsStory hosts (Crossed (crossing.Out m) ∷ moments)) (ranged : (h : Host) → hosts.strange h ≡ false → IsRanged (program h moments)) (t : Tied origin a b moments) (u : Tied origin b a moments)
    (h : Linked a b moments) where
  abbrev e : Event
  e = placed_event (event_of (crossing.Out m)) (events_of moments)

  abbrev vs : List Word
  vs = words_of Sender (stay.said_by b a 0 (placed_event (event_of (crossing.Out m)) (events_of moments)))

  abbrev xs : List Step
  xs = all_said Sender vs (steps a b (law_events moments))

  abbrev ws : List Word
  ws = words_of Receiver (stay.said_by a b 0 (placed_event (event_of (crossing.Out m)) (events_of moments)))

  base_steps : AreSteps xs
  base_steps =
      sender_speaks vs _ (texts_pairs Sender _) t.steps
      (λ s q. subst (λ (y : Side). MayAllGo (words.at s vs) y.end y.next) (sym (sender_half s a b (law_events moments)))
      (may_turn s q Sender b a (origin b a) hosts (ours.1, ours.0) (Crossed (crossing.Out m)) moments story (ranged b ours.1) (t.sender_next s q) (t.sender s q)))

  base_receiver : (s : Sockets) → receiver s xs ≡ receiver s (steps a b (law_events moments))
  base_receiver s = receiver_waits s vs _

  pub out_here : same_host a m.flow.source ≡ true → same_host b m.flow.destination ≡ true → NameFree ws xs × LinksOf (said_claims (all_said Receiver ws xs)) (heard_claims (steps b a (law_events moments))) (pair_with b (offered (program a moments) (places moments)).0.peers)
  out_here from to =
      let is_a : a ≡ m.flow.source = same_host-true a _ from in
      let is_b : b ≡ m.flow.destination = same_host-true b _ to in
      let n : IsNext (program a moments) m = subst (λ (y : Host). IsNext (program y moments) m) (sym is_a) (story.0 (subst (λ (y : Host). hosts.strange y ≡ false) is_a ours.0)) in
      let s : NcpState = program a moments in
      let to_peer : b ≡ n.peer.host = is_b ∙ ap (λ (y : HostMessage). y.flow.destination) n.message in
      let link : m.flow.link.0 ≡ link_for n.parcel = ap (λ (y : HostMessage). y.flow.link.0) n.message in
      let text : m.text ≡ text_for n.peer.pair n.parcel = ap (λ (y : HostMessage). y.text) n.message in
      let q : PairState = n.peer.pair in
      let q_is : pair_with b (program a moments).peers ≡ n.peer.pair = ap (λ (y : Host). pair_with y (program a moments).peers) to_peer ∙ next_pair _ n.peer _ n.order n.next in
      -- the words
      let words_are : ws ≡ read_words Receiver (places moments) (link_for n.parcel) (text_for n.peer.pair n.parcel) =
      ap (λ (y : Host). words_of Receiver (stay.said_by a b 0 (Out y m.flow.destination m.flow.link.0 (with_place (place (events_of moments)) (message_on m.flow.link.0 m.text))))) (sym is_a)
      ∙ ap (λ (y : Host). words_of Receiver (stay.said_by a b 0 (Out a y m.flow.link.0 (with_place (place (events_of moments)) (message_on m.flow.link.0 m.text))))) (sym is_b)
      ∙ words_said a b _ _ m.text
      ∙ ap (λ (k : ℕ). read_words Receiver k m.flow.link.0 m.text) (place_is moments)
      ∙ ap (λ (k : ℕ). read_words Receiver (places moments) k m.text) link
      ∙ ap (λ (k : List Bool). read_words Receiver (places moments) (link_for n.parcel) k) text in
      let agrees : Agrees n.peer.pair (pair a b (events_of moments)) = subst (λ (p : PairState). Agrees p (pair a b (events_of moments))) q_is (story_agrees hosts moments a b ours story.1) in
      let pairs : AllPairs (said_words Receiver xs) = subst AllPairs (sym (ap (λ (v : View). v.receiver_said) (sender_says vs _))) (said_are a b (law_events moments)) in
      let range : ranges.IsPair n.peer.pair = subst (λ (p : PairState). ranges.IsPair p) q_is (pair_range b _ (ranged a ours.0).pairs) in
      let receives : (s : Sockets) → IsPair s → (pl : ℕ) → Stand true (origin a b) pl (at s.receive s.send n.peer.pair.entries) (marks pl s.receive s.send n.peer.pair.queue) (receiver s xs).end =
      λ s k pl. subst (λ (x : Side). Stand true (origin a b) pl (at s.receive s.send n.peer.pair.entries) (marks pl s.receive s.send n.peer.pair.queue) x.end) (sym (base_receiver s ∙ receiver_half s a b (law_events moments)))
      (subst (λ (p : PairState). Stand true (origin a b) pl (at s.receive s.send p.entries) (marks pl s.receive s.send p.queue) (Side_of s k Receiver a b (origin a b) moments).end) q_is ((t.receiver s k).ends pl)) in
      let sends : (s : Sockets) → IsPair s → (pl : ℕ) → (x : End) × Stand true (origin a b) pl (at s.send s.receive n.peer.pair.entries) (marks pl s.send s.receive n.peer.pair.queue) x =
      λ s k pl. (
        (Side_of s k Sender a b (origin a b) moments).end,
        subst (λ (p : PairState). Stand true (origin a b) pl (at s.send s.receive p.entries) (marks pl s.send s.receive p.queue) (Side_of s k Sender a b (origin a b) moments).end) q_is ((u.sender s k).ends pl),
      ) in
      let may : (s : Sockets) → IsPair s → MayAllGo (words.at s (read_words Receiver (places moments) (link_for n.parcel) (text_for n.peer.pair n.parcel))) (receiver s xs).end (receiver s xs).next =
      λ s k. subst (λ (l : List Word). MayAllGo (words.at s l) (receiver s xs).end (receiver s xs).next) words_are
      (subst (λ (y : Side). MayAllGo (words.at s ws) y.end y.next) (sym (base_receiver s ∙ receiver_half s a b (law_events moments)))
      (may_turn s k Receiver a b (origin a b) hosts ours (Crossed (crossing.Out m)) moments story (ranged a ours.0) (t.receiver_next s k) (t.receiver s k))) in
      let links : LinksOf (said_claims xs) (heard_claims (steps b a (law_events moments))) n.peer.pair =
      subst (λ (cs : List Claim). LinksOf cs (heard_claims (steps b a (law_events moments))) n.peer.pair) (sym (sender_said vs (steps a b (law_events moments))))
      (subst (λ (p : PairState). LinksOf (said_claims (steps a b (law_events moments))) (heard_claims (steps b a (law_events moments))) p) q_is h) in
      let k : NameFree (read_words Receiver (places moments) (link_for n.parcel) (text_for n.peer.pair n.parcel)) xs
      × LinksOf (said_claims (all_said Receiver (read_words Receiver (places moments) (link_for n.parcel) (text_for n.peer.pair n.parcel)) xs)) (heard_claims (steps b a (law_events moments)))
      (pair_after n.parcel n.peer.pair (parcel_gone n.peer.host (places moments) n.peer.pair.busy n.parcel (desk_of n.peer.pair (program a moments).listening))) =
      parcel_links (origin a b) n.peer.host (places moments) (heard_claims (steps b a (law_events moments))) _ _ _ _ xs agrees (next_is n.peer n.parcel (program a moments).peers n.next)
      (offer_read _ n.peer _ (ranged a ours.0) n.next) range.commands base_steps pairs receives sends may links in
      let after : pair_with b (offered (program a moments) (places moments)).0.peers ≡ pair_after n.parcel n.peer.pair (parcel_gone n.peer.host (places moments) n.peer.pair.busy n.parcel (desk_of n.peer.pair (program a moments).listening)) =
      ap (λ (y : Host). pair_with y (offered (program a moments) (places moments)).0.peers) to_peer ∙ offered_pair _ _ n.peer _ n.next in
      subst (λ (l : List Word). NameFree l xs × LinksOf (said_claims (all_said Receiver l xs)) (heard_claims (steps b a (law_events moments))) (pair_with b (offered (program a moments) (places moments)).0.peers)) (sym words_are)
      (k.0, subst (λ (p : PairState). LinksOf (said_claims (all_said Receiver (read_words Receiver (places moments) (link_for n.parcel) (text_for n.peer.pair n.parcel)) xs)) (heard_claims (steps b a (law_events moments))) p) (sym after) k.1)

-- ---- what comes of a peer

pub message_pair : (s : NcpState) (m : HostMessage) (stamp : ℕ) → same_host s.own m.flow.destination ≡ true → pair_with m.flow.source (accepted s (inbound.Message m) stamp).0.peers ≡ (message_taken m.flow.source stamp m.flow.link.0 m.text (turn_of s m.flow.source)).pair
unfolding accepted
message_pair s m stamp own = by (same_host s.own m.flow.destination) refl where
  by : (b : Bool) → same_host s.own m.flow.destination ≡ b → pair_with m.flow.source (accepted_message s m stamp).0.peers ≡ (message_taken m.flow.source stamp m.flow.link.0 m.text (turn_of s m.flow.source)).pair
  by true e = rw e (put _ _ s.peers)
  by false e = absurd (let both : true ≡ false = sym own ∙ e in cc)

data_links : (said taken : List Claim) (link : ℕ) (text : List Bool) (t : TurnState) → LinksOf said taken t.pair → LinksOf said taken (if_ready (data_taken link text) t).pair
data_links said taken link text t h = by (phases.is_ready t.pair.phase) where
  by : (b : Bool) → LinksOf said taken (if b then with_desk t (data_taken link text (desk_of t.pair t.listening)) else t).pair
  by true = linked_data said taken link text _ h
  by false = h

-- host `a` takes the message of `b`; the names are those of the message
module _ (origin : Host → Host → ℕ → ℕ) (hosts : Network) (m : HostMessage) (moments : List Moment) (ours : AreOurs hosts m.flow.source m.flow.destination) (story : IsStory hosts (Crossed (crossing.In m) ∷ moments)) (run : IsRun hosts (events_of (Crossed (crossing.In m) ∷ moments))) (ranged : (h : Host) → hosts.strange h ≡ false → IsRanged (program h moments))
    (from : IsOrigin origin (Crossed (crossing.In m)) moments) (u : Tied origin m.flow.source m.flow.destination moments) (h : Linked m.flow.destination m.flow.source moments) where
  abbrev s0 : Sockets
  s0 = record { receive = 0; send = 1 }

  abbrev ys : List Step
  ys = steps m.flow.source m.flow.destination (law_events moments)

  abbrev said0 : List Claim
  said0 = said_claims (steps m.flow.destination m.flow.source (law_events moments))

  abbrev turn : TurnState
  turn = turn_of (program m.flow.destination moments) m.flow.source

  peer_steps : AreSteps (steps m.flow.source m.flow.destination (law_events (Crossed (crossing.In m) ∷ moments)))
  peer_steps = steps_turn hosts origin m.flow.source m.flow.destination (Crossed (crossing.In m)) moments ours story run ranged tt u

  -- a text on link 0, where the host is through a reset
  text_links : (pl : ℕ) → boxed s0 (refl, refl) Sender (origin m.flow.destination m.flow.source) hosts m moments ours story run ≡ Other (tagged pl m.text) → (m.flow.link.0 == 0) ≡ true → origin m.flow.destination m.flow.source (places moments) ≡ pl → AreJoint (orders_of m.text)
      → phases.is_ready (pair_with m.flow.source (program m.flow.destination moments).peers).phase ≡ true → stay.stays m.flow.destination m.flow.source (law_events moments) ≡ true
      → AreFree m.flow.source (places moments) (orders_of m.text) turn
      × Links (all_claims (orders_taken m.flow.source (places moments) (orders_of m.text) turn).pair.queue said0) (heard_claims (all_heard Sender (words_by Receiver (origin m.flow.destination m.flow.source (places moments)) (orders_of m.text)) ys)) (orders_taken m.flow.source (places moments) (orders_of m.text) turn).pair.entries
  text_links pl e zero at_place joint ready stays =
      let n : Message = Other (tagged pl m.text) in
      let all : AreSteps (steps m.flow.source m.flow.destination (In m.flow.source m.flow.destination m.flow.link.0 (Other (tagged pl m.text)) ∷ law_events moments)) =
      subst (λ (y : Message). AreSteps (steps m.flow.source m.flow.destination (In m.flow.source m.flow.destination m.flow.link.0 y ∷ law_events moments))) e peer_steps in
      let taken : AreSteps (heard_in (stay.stays m.flow.source m.flow.destination (law_events moments)) Receiver (words_of Sender (stay.heard_by m.flow.destination m.flow.source 0 (In m.flow.source m.flow.destination m.flow.link.0 (Other (tagged pl m.text)))))
      (heard_in (stay.stays m.flow.destination m.flow.source (law_events moments)) Sender (words_of Receiver (stay.heard_by m.flow.source m.flow.destination 0 (In m.flow.source m.flow.destination m.flow.link.0 (Other (tagged pl m.text))))) ys)) =
      taken_steps m.flow.source m.flow.destination (In m.flow.source m.flow.destination m.flow.link.0 (Other (tagged pl m.text))) (law_events moments) all in
      let heard : AreSteps (all_heard Sender (words_of Receiver (stay.heard_by m.flow.source m.flow.destination 0 (In m.flow.source m.flow.destination m.flow.link.0 (Other (tagged pl m.text))))) ys) =
      heard_all _ Sender (words_of Receiver (stay.heard_by m.flow.source m.flow.destination 0 (In m.flow.source m.flow.destination m.flow.link.0 (Other (tagged pl m.text))))) ys stays
      (under_heard_in (stay.stays m.flow.source m.flow.destination (law_events moments)) Receiver (words_of Sender (stay.heard_by m.flow.destination m.flow.source 0 (In m.flow.source m.flow.destination m.flow.link.0 (Other (tagged pl m.text))))) _ taken) in
      let is : words_of Receiver (stay.heard_by m.flow.source m.flow.destination 0 (In m.flow.source m.flow.destination m.flow.link.0 (Other (tagged pl m.text)))) ≡ words_by Receiver (origin m.flow.destination m.flow.source (places moments)) (orders_of m.text) =
      ap (λ (b : Bool). words_of Receiver (if b then tagged pl m.text ∷ [] else [])) (ap (λ (b : Bool). b && 0 == m.flow.link.0) (are_same m.flow.source m.flow.destination) ∙ eqb-sym 0 _ ∙ zero)
      ∙ words_tagged Receiver pl m.text ∙ ap (λ (k : ℕ). words_by Receiver k (orders_of m.text)) (sym at_place) in
      orders_links (origin m.flow.destination m.flow.source) m.flow.source (places moments) said0 _ turn ys joint (text_good m.text) ready
      (subst (λ (l : List Word). AreSteps (all_heard Sender l ys)) is heard)
      (λ s k. subst (λ (x : Side). HasEnd (origin m.flow.destination m.flow.source) s.send s.receive (pair_with m.flow.source (program m.flow.destination moments).peers) x.end) (sym (sender_half s m.flow.source m.flow.destination (law_events moments))) (u.sender s k)) h

  -- what was heard after it
  abbrev Heard : Message → List Claim
  Heard n = heard_claims (heard_in (stay.stays m.flow.destination m.flow.source (law_events moments)) Sender (words_of Receiver (stay.heard_by m.flow.source m.flow.destination 0 (In m.flow.source m.flow.destination m.flow.link.0 n))) ys)

  abbrev q1 : PairState
  q1 = (message_taken m.flow.source (places moments) m.flow.link.0 m.text turn).pair

  in_done : (n : Message) → boxed s0 (refl, refl) Sender (origin m.flow.destination m.flow.source) hosts m moments ours story run ≡ n → LinksOf said0 (Heard n) q1 → Linked m.flow.destination m.flow.source (Crossed (crossing.In m) ∷ moments)
  in_done n e k =
      let own : same_host (program m.flow.destination moments).own m.flow.destination ≡ true = ap (λ (y : Host). same_host y m.flow.destination) (program_own _ moments) ∙ same_host-refl m.flow.destination in
      let pair_is : pair_with m.flow.source (program m.flow.destination (Crossed (crossing.In m) ∷ moments)).peers ≡ q1 =
      ap (λ (b : Bool). pair_with m.flow.source (if b then (accepted (program m.flow.destination moments) (inbound.Message m) (places moments)).0 else program m.flow.destination moments).peers) (same_host-refl m.flow.destination)
      ∙ message_pair _ m _ own in
      let heard : heard_claims (steps m.flow.source m.flow.destination (law_events (Crossed (crossing.In m) ∷ moments))) ≡ Heard n =
      heard_next m.flow.source m.flow.destination (placed_event (event_of (crossing.In m)) (events_of moments)) (law_events moments) ∙ ap Heard e in
      let said : said_claims (steps m.flow.destination m.flow.source (law_events (Crossed (crossing.In m) ∷ moments))) ≡ said0 =
      said_next m.flow.destination m.flow.source (placed_event (event_of (crossing.In m)) (events_of moments)) (law_events moments) in
      subst (λ (p : PairState). LinksOf (said_claims (steps m.flow.destination m.flow.source (law_events (Crossed (crossing.In m) ∷ moments)))) (heard_claims (steps m.flow.source m.flow.destination (law_events (Crossed (crossing.In m) ∷ moments)))) p) (sym pair_is)
      (subst (λ (cs : List Claim). LinksOf cs (heard_claims (steps m.flow.source m.flow.destination (law_events (Crossed (crossing.In m) ∷ moments)))) q1) (sym said)
      (subst (λ (cs : List Claim). LinksOf said0 cs q1) (sym heard) k))

  quiet_heard : (n : Message) → stay.heard_by m.flow.source m.flow.destination 0 (In m.flow.source m.flow.destination m.flow.link.0 n) ≡ [] → LinksOf said0 (heard_claims ys) q1 → LinksOf said0 (Heard n) q1
  quiet_heard n none k =
      subst (λ (cs : List Claim). LinksOf said0 cs q1)
      (sym (ap (λ (ts : List (List Bool)). heard_claims (heard_in (stay.stays m.flow.destination m.flow.source (law_events moments)) Sender (words_of Receiver ts) ys)) none
      ∙ ap heard_claims (heard_nothing _ ys))) k

  on_zero : (z : Bool) → (m.flow.link.0 == 0) ≡ z → (if z then orders_taken m.flow.source (places moments) (orders_of m.text) turn else if_ready (data_taken m.flow.link.0 m.text) turn).pair ≡ q1
  on_zero z e = ap (λ (b : Bool). (if b then orders_taken m.flow.source (places moments) (orders_of m.text) turn else if_ready (data_taken m.flow.link.0 m.text) turn).pair) (sym e)

  place0 : (n : ℕ) × (boxes m.flow.source m.flow.destination (events_of moments) m.flow.link.0 ≡ Waiting n (message_on m.flow.link.0 m.text))
  place0 = place_in s0 (refl, refl) Sender (origin m.flow.destination m.flow.source) hosts m moments ours story run

  boxed0 : (n : Message) → message_on m.flow.link.0 m.text ≡ n → boxed s0 (refl, refl) Sender (origin m.flow.destination m.flow.source) hosts m moments ours story run ≡ with_place place0.0 n
  unfolding place0
  boxed0 n e = boxed_is s0 (refl, refl) Sender (origin m.flow.destination m.flow.source) hosts m moments ours story run n e

  stays0 : (b : Bool) → message_on m.flow.link.0 m.text ≡ Other m.text → phases.is_ready (pair_with m.flow.source (program m.flow.destination moments).peers).phase ≡ b → stay.stays m.flow.destination m.flow.source (law_events moments) ≡ b
  stays0 b is r = stays_as s0 (refl, refl) Sender (origin m.flow.destination m.flow.source) hosts m moments ours story run _ (boxed0 _ is) b r

  joint0 : (m.flow.link.0 == 0) ≡ true → message_on m.flow.link.0 m.text ≡ Other m.text → AreJoint (orders_of m.text)
  joint0 zero is = plain_joint _ (subst (λ (n : Message). IsApart m.flow.link.0 m.text n) is (story.0 ours) zero)

  at_zero : (m.flow.link.0 == 0) ≡ true → Sort m.flow.link.0 m.text → Linked m.flow.destination m.flow.source (Crossed (crossing.In m) ∷ moments)
  at_zero zero (AnRst z orders is) =
      in_done Reset (boxed0 Reset is)
      (quiet_heard Reset refl (subst (λ (p : PairState). LinksOf said0 (heard_claims ys) p) (ap (λ (os : List Order). (orders_taken m.flow.source (places moments) os turn).pair) (sym orders) ∙ on_zero true zero) (record { sends = tt; names = tt; own = tt; single = λ l. tt })))
  at_zero zero (AnRrp z orders is) =
      in_done Reply (boxed0 Reply is)
      (quiet_heard Reply refl (subst (λ (p : PairState). LinksOf said0 (heard_claims ys) p) (ap (λ (os : List Order). (orders_taken m.flow.source (places moments) os turn).pair) (sym orders) ∙ on_zero true zero) h))
  at_zero zero (AText is) = by (phases.is_ready (pair_with m.flow.source (program m.flow.destination moments).peers).phase) refl where
    by : (b : Bool) → phases.is_ready (pair_with m.flow.source (program m.flow.destination moments).peers).phase ≡ b → Linked m.flow.destination m.flow.source (Crossed (crossing.In m) ∷ moments)
    by true ready =
        let at_place : origin m.flow.destination m.flow.source (places moments) ≡ place0.0 = from place0.0 place0.1 zero in
        let k : AreFree m.flow.source (places moments) (orders_of m.text) turn
        × Links (all_claims (orders_taken m.flow.source (places moments) (orders_of m.text) turn).pair.queue said0) (heard_claims (all_heard Sender (words_by Receiver (origin m.flow.destination m.flow.source (places moments)) (orders_of m.text)) ys)) (orders_taken m.flow.source (places moments) (orders_of m.text) turn).pair.entries =
        text_links _ (boxed0 _ is) zero at_place (joint0 zero is) ready (stays0 true is ready) in
        let words_are : words_of Receiver (stay.heard_by m.flow.source m.flow.destination 0 (In m.flow.source m.flow.destination m.flow.link.0 (Other (tagged place0.0 m.text)))) ≡ words_by Receiver (origin m.flow.destination m.flow.source (places moments)) (orders_of m.text) =
        ap (λ (b : Bool). words_of Receiver (if b then tagged place0.0 m.text ∷ [] else [])) (ap (λ (b : Bool). b && 0 == m.flow.link.0) (are_same m.flow.source m.flow.destination) ∙ eqb-sym 0 _ ∙ zero)
        ∙ words_tagged Receiver _ m.text ∙ ap (λ (k : ℕ). words_by Receiver k (orders_of m.text)) (sym at_place) in
        let heard : Heard (Other (tagged place0.0 m.text)) ≡ heard_claims (all_heard Sender (words_by Receiver (origin m.flow.destination m.flow.source (places moments)) (orders_of m.text)) ys) =
        ap (λ (b : Bool). heard_claims (heard_in b Sender (words_of Receiver (stay.heard_by m.flow.source m.flow.destination 0 (In m.flow.source m.flow.destination m.flow.link.0 (Other (tagged place0.0 m.text))))) ys)) (stays0 true is ready)
        ∙ ap (λ (l : List Word). heard_claims (all_heard Sender l ys)) words_are in
        in_done (Other (tagged place0.0 m.text)) (boxed0 _ is)
        (subst (λ (p : PairState). LinksOf said0 (Heard (Other (tagged place0.0 m.text))) p) (on_zero true zero)
        (subst (λ (cs : List Claim). LinksOf said0 cs (orders_taken m.flow.source (places moments) (orders_of m.text) turn).pair) (sym heard) k.1))
    by false idle =
        let heard : Heard (Other (tagged place0.0 m.text)) ≡ heard_claims ys =
        ap (λ (b : Bool). heard_claims (heard_in b Sender (words_of Receiver (stay.heard_by m.flow.source m.flow.destination 0 (In m.flow.source m.flow.destination m.flow.link.0 (Other (tagged place0.0 m.text))))) ys)) (stays0 false is idle) in
        in_done _ (boxed0 _ is)
        (subst (λ (p : PairState). LinksOf said0 (Heard (Other (tagged place0.0 m.text))) p)
        (ap (λ (t : TurnState). t.pair) (sym (orders_idle _ _ _ turn (joint0 zero is) idle)) ∙ on_zero true zero)
        (subst (λ (cs : List Claim). LinksOf said0 cs turn.pair) (sym heard) h))

  pub in_linked : Linked m.flow.destination m.flow.source (Crossed (crossing.In m) ∷ moments)
  in_linked = by (m.flow.link.0 == 0) refl where
    by : (z : Bool) → (m.flow.link.0 == 0) ≡ z → Linked m.flow.destination m.flow.source (Crossed (crossing.In m) ∷ moments)
    by true zero = at_zero zero (sort_of _ m.text)
    by false away =
        let is : message_on m.flow.link.0 m.text ≡ Other m.text = rw away refl in
        let none : stay.heard_by m.flow.source m.flow.destination 0 (In m.flow.source m.flow.destination m.flow.link.0 (Other (tagged place0.0 m.text))) ≡ [] =
        heard_off _ _ _ (eqb-sym 0 _ ∙ away) in
        in_done _ (boxed0 _ is)
        (quiet_heard (Other (tagged place0.0 m.text)) none (subst (λ (p : PairState). LinksOf said0 (heard_claims ys) p) (on_zero false away) (data_links said0 _ _ m.text turn h)))

  free_at : (m.flow.link.0 == 0) ≡ true → phases.is_ready (pair_with m.flow.source (program m.flow.destination moments).peers).phase ≡ true → Sort m.flow.link.0 m.text → AreFree m.flow.source (places moments) (orders_of m.text) turn
  free_at zero ready (AnRst z orders is) = subst (λ (os : List Order). AreFree m.flow.source (places moments) os turn) (sym orders) (tt, tt)
  free_at zero ready (AnRrp z orders is) = subst (λ (os : List Order). AreFree m.flow.source (places moments) os turn) (sym orders) (tt, tt)
  free_at zero ready (AText is) = (text_links _ (boxed0 _ is) zero (from place0.0 place0.1 zero) (joint0 zero is) ready (stays0 true is ready)).0

  pub in_free : TakesFreeAt hosts (Crossed (crossing.In m)) moments
  in_free = λ our ready zero. free_at zero ready (sort_of _ m.text)
