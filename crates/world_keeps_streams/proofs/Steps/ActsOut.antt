-- A message goes out of a host.
use Rattle.world_keeps_streams.proofs.Common.{◌≡◌, ℕ, ◌==◌, Bool, true, false, not, ◌&&◌, if◌then◌else◌, List, [], ◌∷◌, ◌++◌, Some, refl, ap, sym, subst, ◌∙◌, eqb-true, Host, same_host, HostMessage, same_host-true, Command, Stream, desk_of, PairState, link_for, next_of, pair_after, parcel_gone, text_for, eqb-sym, IsRanged, IsReadBack, offer_read, IsTelling, gone_now, name_of, Joint, NotTaken, Party, Steps, Pair, pair_moved, pair, stays_ready, ready_phase, NcpState, pair_with, next_in, offered, message_on, Moment, Crossed, IsNext, IsStory, event_in, events_of, places, program, story_agrees, keeps, next_calls, own_calls, parcel_calls, AreOurs, Network, clash}
use Rattle.reset_law.specs.Boxes.{Put, posted, boxes, Box, Empty, Waiting}
use Rattle.reset_law.specs.Events.{Message, Other, Out, Send, are, place, when, Reset, Reply}
use Rattle.sockets.proofs.lemmas.{next_is, next_pair, offer_leaves}
use Rattle.world_keeps_pairing.proofs.lemmas.{AText, AnRrp, AnRst, Sort, offered_pair, sort_of}
use Rattle.interface.specs.declared.crossing.Crossing.TheVariants as crossing
use Rattle.ncp_control.specs.declared.phase.Phase.TheVariants as phase
use Rattle.reset_law.specs.Runs.{IsRun}
use Rattle.ncp_control.specs.Phases as phases
use Rattle.reset_law.specs.Stays as stay
use Rattle.world_keeps_streams.proofs.Steps.Going.{Goes, stays_as}
use Rattle.world_keeps_streams.proofs.Steps.GoesOut.{box_is_free}
use Rattle.world_keeps_streams.proofs.Steps.GoesSaid.{parcel_goes}
use Rattle.world_keeps_streams.proofs.Steps.Held.{Acted, Held, HereIn, act_by, acted_out, side}
use Rattle.world_keeps_streams.proofs.Steps.Joined.{commands_in, post_in}
use Rattle.world_keeps_streams.proofs.Calls.MayCalls.{MayCalls}
use Rattle.world_keeps_streams.proofs.Stays.Resets.{leaves_by}
use Rattle.world_keeps_streams.proofs.Calls.Chain.{ready_both, plain_at}

-- where a request of the one hasn't gone out, the other hasn't taken it
abbrev pub FindsNone : (ℕ → ℕ → ℕ → ℕ) → (ℕ → ℕ → ℕ → ℕ) → Host → Host → List Moment → Party → Type 0
FindsNone number other h p moments b =
    stay.stays h p (events_of moments) ≡ true → b.stays ≡ true → NotTaken (name_of number (gone_now p (own_calls h p moments))) (name_of other b.gone) (pair_with p (program h moments).peers).entries b.entries

kept_text : (t : Bool) (k : ℕ) (text : List Bool) (q : Pair) → phases.is_ready q.phase ≡ true → (phases.is_ready (pair_moved (when t (Send k (Other text))) q).phase && not false) ≡ true
kept_text true k text q e = rw e refl
kept_text false k text q e = rw e refl

module _ (number other : ℕ → ℕ → ℕ → ℕ) (tells : IsTelling number) (others : IsTelling other) (link : ℕ) where
  -- of two hosts that have left nothing is said of what waits
  both_gone : (x y : Stream) (a c b : Party) → Joint number other tells others link x y a b → a.stays ≡ false → c.stays ≡ false → b.stays ≡ false → Joint number other tells others link x y c b
  both_gone x y a c b j e f g = record {
    inv_x = j.inv_x;
    inv_y = j.inv_y;
    exact_x = λ s t. clash _ c.stays s f;
    exact_y = λ s t. clash _ c.stays s f;
    mine = λ s. clash _ c.stays s f;
    theirs = λ s. clash _ b.stays s g;
    to_b = λ s. clash _ b.stays s g;
    to_a = λ s. clash _ c.stays s f;
    told_b = λ s t. clash _ c.stays s f;
    told_a = λ s t. clash _ c.stays s f;
    box_x = record { whole = λ s. clash _ b.stays s g; left = λ s t. clash _ c.stays t f };
    box_y = record { whole = λ s. clash _ c.stays s f; left = λ s t. clash _ b.stays t g };
  }

  module _ (off : (link == 0) ≡ false) (steps : Steps number other tells others link) (hosts : Network) (h p : Host) (ours : AreOurs hosts h p) (moments : List Moment) (rest : List Command) (b : Party) (x y : Stream)
      (held : Held number other tells others link h p moments (commands_in (boxes h p (events_of moments) 0)) rest (post_in (boxes h p (events_of moments) link)) b x y)
      (m : HostMessage) (story : IsStory hosts (Crossed (crossing.Out m) ∷ moments)) (run : IsRun hosts (events_of (Crossed (crossing.Out m) ∷ moments))) (ranged : IsRanged (program h moments))
      (alone : are h p m.flow.source m.flow.destination ≡ true → (text : List Bool) → message_on m.flow.link.0 m.text ≡ Other text → stay.stays h p (events_of moments) ≡ false → b.stays ≡ false) where
    abbrev X : ℕ → Box
    X = boxes h p (events_of moments)

    abbrev s : NcpState
    s = program h moments

    abbrev Sent : Bool → ℕ → Box
    Sent t = posted (place (events_of moments)) (when t (Put m.flow.link.0 (message_on m.flow.link.0 m.text))) (boxes h p (events_of moments))

    module _ (mine : same_host h m.flow.source ≡ true) (theirs : same_host p m.flow.destination ≡ true) where
      own_host : h ≡ m.flow.source
      own_host = same_host-true h m.flow.source mine

      peer_host : p ≡ m.flow.destination
      peer_host = same_host-true p m.flow.destination theirs

      was_empty : X m.flow.link.0 ≡ Empty
      was_empty =
          subst (λ (g : Host). boxes g p (events_of moments) m.flow.link.0 ≡ Empty) (sym own_host)
          (subst (λ (g : Host). boxes m.flow.source g (events_of moments) m.flow.link.0 ≡ Empty) (sym peer_host) run.0.1)

      zero_empty : (0 == m.flow.link.0) ≡ true → X 0 ≡ Empty
      zero_empty z = subst (λ (l : ℕ). X l ≡ Empty) (sym (eqb-true 0 m.flow.link.0 z)) was_empty

      -- where the host doesn't stay
      signal_out : (n : Message) → message_on m.flow.link.0 m.text ≡ n → (m.flow.link.0 == 0) ≡ true → (place' : ℕ) → commands_in (Waiting place' n) ≡ [] → stay.stays h p (events_of (Crossed (crossing.Out m) ∷ moments)) ≡ false
          → Joint number other tells others link x y (side h p (Crossed (crossing.Out m) ∷ moments) (commands_in (X 0) ++ rest) (post_in (X link))) b
          → Acted number other tells others link h p (Crossed (crossing.Out m) ∷ moments) (commands_in (Sent true 0)) (post_in (Sent true link)) b x y
      signal_out n is z place' none left j =
          let zero' : (0 == m.flow.link.0) ≡ true = eqb-sym 0 m.flow.link.0 ∙ z in
          let away : (link == m.flow.link.0) ≡ false = subst (λ (l : ℕ). (link == l) ≡ false) (eqb-true 0 m.flow.link.0 zero') off in
          let box : commands_in (Waiting (place (events_of moments)) (message_on m.flow.link.0 m.text)) ≡ [] = ap (λ (k : Message). commands_in (Waiting (place (events_of moments)) k)) is ∙ none in
          rw (zero', away) (acted_out number other tells others link h p _ _ rest _ b x y left
          (subst (λ (cs : List Command). Joint number other tells others link x y (side h p (Crossed (crossing.Out m) ∷ moments) (cs ++ rest) (post_in (X link))) b) (ap commands_in (zero_empty zero') ∙ sym box) j))

      text_out : (text : List Bool) → message_on m.flow.link.0 m.text ≡ Other text → stay.stays h p (events_of (Crossed (crossing.Out m) ∷ moments)) ≡ false
          → Joint number other tells others link x y (side h p (Crossed (crossing.Out m) ∷ moments) (commands_in (X 0) ++ rest) (post_in (X link))) b
          → Acted number other tells others link h p (Crossed (crossing.Out m) ∷ moments) (commands_in (Sent true 0)) (post_in (Sent true link)) b x y
      text_out text is left j = by (stay.stays h p (events_of moments)) refl where
        these : are h p m.flow.source m.flow.destination ≡ true
        these = rw (mine, theirs) refl

        by : (t : Bool) → stay.stays h p (events_of moments) ≡ t → Acted number other tells others link h p (Crossed (crossing.Out m) ∷ moments) (commands_in (Sent true 0)) (post_in (Sent true link)) b x y
        by true e =
            let none : keeps h p (event_in (Crossed (crossing.Out m))) (events_of moments) ≡ false = leaves_by h p (event_in (Crossed (crossing.Out m))) (events_of moments) e left in
            let keep : keeps h p (event_in (Crossed (crossing.Out m))) (events_of moments) ≡ true =
            subst (λ (n : Message). keeps h p (Out m.flow.source m.flow.destination m.flow.link.0 n) (events_of moments) ≡ true) (sym is)
            (kept_text (are h p m.flow.source m.flow.destination) m.flow.link.0 text (pair h p (events_of moments)) (stays_ready (events_of moments) h p e)) in
            clash _ (keeps h p (event_in (Crossed (crossing.Out m))) (events_of moments)) keep none
        by false e =
            acted_out number other tells others link h p (Crossed (crossing.Out m) ∷ moments) (commands_in (Sent true 0)) rest (post_in (Sent true link)) b x y left
            (both_gone x y (side h p (Crossed (crossing.Out m) ∷ moments) (commands_in (X 0) ++ rest) (post_in (X link))) (side h p (Crossed (crossing.Out m) ∷ moments) (commands_in (Sent true 0) ++ rest) (post_in (Sent true link))) b j left left (alone these text is e))

      out_by_sort : Sort m.flow.link.0 m.text → stay.stays h p (events_of (Crossed (crossing.Out m) ∷ moments)) ≡ false
          → Joint number other tells others link x y (side h p (Crossed (crossing.Out m) ∷ moments) (commands_in (X 0) ++ rest) (post_in (X link))) b
          → Acted number other tells others link h p (Crossed (crossing.Out m) ∷ moments) (commands_in (Sent true 0)) (post_in (Sent true link)) b x y
      out_by_sort (AnRst z orders is) left j = signal_out Reset is z 0 refl left j
      out_by_sort (AnRrp z orders is) left j = signal_out Reply is z 0 refl left j
      out_by_sort (AText is) left j = text_out m.text is left j

      -- where it stays
      stay_goes : (next : IsNext (program h moments) m) → stay.stays h p (events_of moments) ≡ true → FindsNone number other h p moments b → HereIn number other tells others link h p moments (commands_in (X 0)) (post_in (X link)) b x y
          → MayCalls (next_calls p (places moments) (program h moments).listening (next_in (program h moments).peers))
          → Goes number other tells others link p (next_calls p (places moments) (program h moments).listening (next_in (program h moments).peers) ++ own_calls h p moments) (pair_with p (offered (program h moments) (places moments)).0.peers)
          (commands_in (Sent true 0)) (post_in (Sent true link)) b x y
      stay_goes n e none here may =
          rw n.next
          (rw to_peer
          (subst (λ (k : PairState). Goes number other tells others link p (parcel_calls p (places moments) n.parcel n.peer.pair (program h moments).listening ++ own_calls h p moments) k (commands_in (Sent true 0)) (post_in (Sent true link)) b x y) (sym now)
          (subst (λ (k : PairState). Goes number other tells others link p (parcel_calls p (places moments) n.parcel k (program h moments).listening ++ own_calls h p moments) (gone k) (commands_in (Sent true 0)) (post_in (Sent true link)) b x y) same_pair
          (subst (λ (l : ℕ). Goes number other tells others link p (parcel_calls p (places moments) n.parcel q (program h moments).listening ++ own_calls h p moments) (gone q)
          (commands_in (if 0 == l then Waiting (place (events_of moments)) (message_on l m.text) else X 0)) (post_in (if link == l then Waiting (place (events_of moments)) (message_on l m.text) else X link)) b x y) (sym link_is)
          (subst (λ (t : List Bool). Goes number other tells others link p (parcel_calls p (places moments) n.parcel q (program h moments).listening ++ own_calls h p moments) (gone q)
          (commands_in (if 0 == link_for n.parcel then Waiting (place (events_of moments)) (message_on (link_for n.parcel) t) else X 0)) (post_in (if link == link_for n.parcel then Waiting (place (events_of moments)) (message_on (link_for n.parcel) t) else X link)) b x y) (sym text_is)
          (parcel_goes number other tells others link off steps p (places moments) (place (events_of moments)) (own_calls h p moments) (program h moments).listening b q x y (X 0) (X link) here (pair h p (events_of moments), story_agrees hosts moments h p ours story.1)
          ready (none e) n.parcel goes_next back (λ z. zero_empty (ap (λ (l : ℕ). 0 == l) link_is ∙ z)) (λ f. ap post_in (box_is_free hosts h p ours moments run.2 story.1 e link f)) may_parcel)))))) where
            q : PairState
            q = pair_with p (program h moments).peers

            gone : PairState → PairState
            gone k = pair_after n.parcel k (parcel_gone p (places moments) k.busy n.parcel (desk_of k (program h moments).listening))

            to_peer : same_host p n.peer.host ≡ true
            to_peer = ap (λ (k : HostMessage). same_host p k.flow.destination) (sym n.message) ∙ theirs

            is_peer : p ≡ n.peer.host
            is_peer = same_host-true p n.peer.host to_peer

            same_pair : pair_with p (program h moments).peers ≡ n.peer.pair
            same_pair = ap (λ (g : Host). pair_with g (program h moments).peers) is_peer ∙ next_pair (program h moments).peers n.peer n.parcel n.order n.next

            now : pair_with p (offered (program h moments) (places moments)).0.peers ≡ pair_after n.parcel n.peer.pair (parcel_gone p (places moments) n.peer.pair.busy n.parcel (desk_of n.peer.pair (program h moments).listening))
            now =
                subst (λ (g : Host). pair_with g (offered (program h moments) (places moments)).0.peers ≡ pair_after n.parcel n.peer.pair (parcel_gone g (places moments) n.peer.pair.busy n.parcel (desk_of n.peer.pair (program h moments).listening))) (sym is_peer)
                (offered_pair (program h moments) (places moments) n.peer n.parcel n.next)

            link_is : m.flow.link.0 ≡ link_for n.parcel
            link_is = ap (λ (k : HostMessage). k.flow.link.0) n.message

            text_is : m.text ≡ text_for (pair_with p (program h moments).peers) n.parcel
            text_is = ap (λ (k : HostMessage). k.text) n.message ∙ ap (λ (k : PairState). text_for k n.parcel) (sym same_pair)

            ready : (pair_with p (program h moments).peers).phase ≡ phase.Ready
            ready = ready_phase (pair_with p (program h moments).peers).phase (sym (ready_both hosts h p moments ours story.1) ∙ stays_ready (events_of moments) h p e)

            goes_next : next_of (pair_with p (program h moments).peers) ≡ Some n.parcel
            goes_next = ap next_of same_pair ∙ next_is n.peer n.parcel (program h moments).peers n.next

            back : IsReadBack (pair_with p (program h moments).peers) n.parcel
            back = subst (λ (k : PairState). IsReadBack k n.parcel) (sym same_pair) (offer_read (program h moments) n.peer n.parcel ranged n.next)

            may_peer : MayCalls (parcel_calls p (places moments) n.parcel n.peer.pair (program h moments).listening)
            may_peer = rw (n.next, to_peer) at may

            may_parcel : MayCalls (parcel_calls p (places moments) n.parcel (pair_with p (program h moments).peers) (program h moments).listening)
            may_parcel = subst (λ (k : PairState). MayCalls (parcel_calls p (places moments) n.parcel k (program h moments).listening)) (sym same_pair) may_peer

    next_here : same_host h m.flow.source ≡ true → IsNext (program h moments) m
    next_here e = subst (λ (g : Host). IsNext (program g moments) m) (sym (same_host-true h m.flow.source e)) (story.0 (plain_at hosts h m.flow.source e ours.0))

    pub act_out : stay.begins h p (event_in (Crossed (crossing.Out m))) (events_of moments) ≡ false → FindsNone number other h p moments b
        → (keeps h p (event_in (Crossed (crossing.Out m))) (events_of moments) ≡ true → stay.stays h p (events_of moments) ≡ true → MayCalls (if same_host h m.flow.source then next_calls p (places moments) (program h moments).listening (next_in (program h moments).peers) else []))
        → Acted number other tells others link h p (Crossed (crossing.Out m) ∷ moments) (commands_in (boxes h p (events_of (Crossed (crossing.Out m) ∷ moments)) 0)) (post_in (boxes h p (events_of (Crossed (crossing.Out m) ∷ moments)) link)) b x y
    act_out old none may =
        act_by number other tells others link steps h p (Crossed (crossing.Out m)) moments (commands_in (X 0)) rest (post_in (X link)) b x y
        (commands_in (boxes h p (events_of (Crossed (crossing.Out m) ∷ moments)) 0)) (post_in (boxes h p (events_of (Crossed (crossing.Out m) ∷ moments)) link)) b old held
        (λ k e still here. goes (same_host h m.flow.source) (same_host p m.flow.destination) refl refl e here (may k e))
        (λ left j. out (same_host h m.flow.source) (same_host p m.flow.destination) refl refl left j) where
          goes : (t u : Bool) → same_host h m.flow.source ≡ t → same_host p m.flow.destination ≡ u → stay.stays h p (events_of moments) ≡ true → HereIn number other tells others link h p moments (commands_in (X 0)) (post_in (X link)) b x y
              → MayCalls (if t then next_calls p (places moments) (program h moments).listening (next_in (program h moments).peers) else [])
              → Goes number other tells others link p ((if t then next_calls p (places moments) (program h moments).listening (next_in (program h moments).peers) else []) ++ own_calls h p moments)
              (pair_with p (if t then (offered (program h moments) (places moments)).0 else program h moments).peers) (commands_in (Sent (t && u) 0)) (post_in (Sent (t && u) link)) b x y
          goes true true mine theirs e here calls = stay_goes mine theirs (next_here mine) e none here calls
          goes true false mine theirs e here calls =
              let n : IsNext (program h moments) m = next_here mine in
              let next : next_in (program h moments).peers ≡ Some (n.peer, n.parcel) = n.next in
              let away : same_host p n.peer.host ≡ false = ap (λ (k : HostMessage). same_host p k.flow.destination) (sym n.message) ∙ theirs in
              let same : pair_with p (offered (program h moments) (places moments)).0.peers ≡ pair_with p (program h moments).peers = offer_leaves (program h moments) (places moments) n.peer n.parcel p n.next away in
              rw same (rw next (rw away (stays_as number other tells others link p (own_calls h p moments) (pair_with p (program h moments).peers) (commands_in (X 0)) (post_in (X link)) b x y here)))
          goes false u mine theirs e here calls = stays_as number other tells others link p (own_calls h p moments) (pair_with p (program h moments).peers) (commands_in (X 0)) (post_in (X link)) b x y here

          out : (t u : Bool) → same_host h m.flow.source ≡ t → same_host p m.flow.destination ≡ u → stay.stays h p (events_of (Crossed (crossing.Out m) ∷ moments)) ≡ false
              → Joint number other tells others link x y (side h p (Crossed (crossing.Out m) ∷ moments) (commands_in (X 0) ++ rest) (post_in (X link))) b
              → Acted number other tells others link h p (Crossed (crossing.Out m) ∷ moments) (commands_in (Sent (t && u) 0)) (post_in (Sent (t && u) link)) b x y
          out true true mine theirs left j = out_by_sort mine theirs (sort_of m.flow.link.0 m.text) left j
          out true false mine theirs left j = acted_out number other tells others link h p (Crossed (crossing.Out m) ∷ moments) (commands_in (X 0)) rest (post_in (X link)) b x y left j
          out false u mine theirs left j = acted_out number other tells others link h p (Crossed (crossing.Out m) ∷ moments) (commands_in (X 0)) rest (post_in (X link)) b x y left j
