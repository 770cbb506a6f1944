-- A host takes a message of its peer.
use Rattle.world_keeps_streams.proofs.Common.{eqb-true, Host, same_host, HostMessage, same_host-true, Command, Stream, Legal, orders_of, data_taken, desk_of, is_busy, PairState, message_taken, orders_taken, with_desk, AreJoint, eqb-sym, IsTelling, stays_ready, accepted, turn_of, pair_with, message_leaves, IsApart, message_on, Moment, Crossed, IsStory, event_in, events_of, places, program, program_own, keeps, AText, AnRrp, AnRst, Sort, message_pair, plain_joint, sort_of, waiting, AreOurs, Network}
use Rattle.std.proofs.Common.{◌≡◌, ℕ, ◌==◌, Bool, true, false, not, ◌&&◌, if◌then◌else◌, List, [], ◌∷◌, ◌++◌, length, Option, Some, None, refl, ap, sym, subst, ◌∙◌, append-nil}
use Rattle.stream_law.specs.Words.{covers, for, is_size}
use Rattle.pair_keeps_streams.proofs.lemmas.{Fetched, Free, Joint, Lies, Party, Post, Steps, receives}
use Rattle.reset_law.specs.Boxes.{Fetch, posted, boxes, Box, Waiting, Taken, WaitsWith, fetched}
use Rattle.reset_law.specs.Events.{In, Message, Other, are, place, when, Reset, Reply}
use Rattle.world_keeps_streams.specs.Calls.{message_calls, orders_heard, own_calls}
use Rattle.interface.specs.declared.crossing.Crossing.TheVariants as crossing
use Rattle.interface.specs.declared.crossing.Inbound.TheVariants as inbound
use Rattle.ncp_control.specs.declared.command.Command.TheVariants as command
use Rattle.ncp_control.specs.Allocation as counters
use Rattle.stream_law.specs.Receivers as receivers
use Rattle.stream_law.specs.Receivers.{Receiver}
use Rattle.stream_law.specs.Within.{IsPrefix}
use Rattle.ncp_control.specs.Phases as program_phases
use Rattle.reset_law.specs.Runs.{IsRun}
use Rattle.reset_law.specs.Stays as stay
use Rattle.world_keeps_streams.proofs.Steps.Going.{Goes, Here, passes_here, stays_as, takes_here}
use Rattle.world_keeps_streams.proofs.Steps.GoesHeard.{blind, deaf, heard_run, reply_heard}
use Rattle.world_keeps_streams.proofs.Steps.Held.{Acted, Held, HereIn, act_by, acted_out, left_held, side}
use Rattle.world_keeps_streams.proofs.Steps.Joined.{IsSettled, commands_in, commands_of_message, legal_in, post_in}
use Rattle.world_keeps_streams.proofs.Calls.MayCalls.{MayCalls}
use Rattle.world_keeps_streams.proofs.Calls.Chain.{ready_both, plain_at}

-- what a receiver that takes data keeps
pub record Took (old new : Receiver) : Type 0 where
  pub granted : (c : ℕ) → new.granted c ≡ old.granted c
  pub returned : (c : ℕ) → new.returned c ≡ old.returned c
  pub taken : (c : ℕ) → IsPrefix (old.taken c) (new.taken c)
  pub settled : (c : ℕ) → IsSettled old new c

same_took : (r : Receiver) → Took r r
same_took r = record { granted = λ c. refl; returned = λ c. refl; taken = λ c. ([], append-nil (r.taken c)); settled = λ c. record { over = refl; first = refl; taken = λ o. refl } }

front_if : (v : Bool) (xs ys : List (List Bool)) (bits : List Bool) → (v ≡ true → ys ≡ xs) → IsPrefix xs (if v then ys ++ bits ∷ [] else xs)
front_if true xs ys bits e = (bits ∷ [], ap (λ (l : List (List Bool)). l ++ bits ∷ []) (sym (e refl)))
front_if false xs ys bits e = ([], append-nil xs)

-- an end that is open takes for its connection only
not_over : (u v w x y : Bool) → ((u && not v && not w) && x && y) ≡ true → w ≡ false
not_over u v false x y e = refl
not_over false v true x y e = absurd (let no : false ≡ true = e in cc)
not_over true true true x y e = absurd (let no : false ≡ true = e in cc)
not_over true false true x y e = absurd (let no : false ≡ true = e in cc)

settled_if : (k c : ℕ) (bits : List Bool) (r : Receiver) → r.over c ≡ false → r.over k ≡ true → for c (r.taken c ++ bits ∷ []) r.taken k ≡ r.taken k
settled_if k c bits r unheard over = by (k == c) refl where
  by : (v : Bool) → (k == c) ≡ v → (if v then r.taken c ++ bits ∷ [] else r.taken k) ≡ r.taken k
  by true e = absurd (let both : true ≡ false = sym over ∙ ap r.over (eqb-true k c e) ∙ unheard in cc)
  by false e = refl

took_by : (v : Bool) (c : ℕ) (bits : List Bool) (r : Receiver) → (v ≡ true → r.over c ≡ false) → Took r (if v then record r { allocation = counters.spent r.allocation (length bits); taken = for c (r.taken c ++ bits ∷ []) r.taken } else r)
took_by true c bits r unheard = record {
  granted = λ k. refl;
  returned = λ k. refl;
  taken = λ k. front_if (k == c) (r.taken k) (r.taken c) bits (λ e. ap (λ (l : ℕ). r.taken l) (sym (eqb-true k c e)));
  settled = λ k. record { over = refl; first = refl; taken = settled_if k c bits r (unheard refl) };
}
took_by false c bits r unheard = same_took r

took : (size : ℕ) (bits : List Bool) (r : Receiver) (o : Option ℕ) → Took r (receivers.takes size bits o r)
took size bits r None = same_took r
took size bits r (Some c) =
    took_by _ c bits r (not_over r.opened r.closed _ _ _)

-- ---- what a message is

module _ (number other : ℕ → ℕ → ℕ → ℕ) (tells : IsTelling number) (others : IsTelling other) (link : ℕ) (off : (link == 0) ≡ false) (steps : Steps number other tells others link) (hosts : Network) (h p : Host) (ours : AreOurs hosts h p) (moments : List Moment) (front rest : List Command) (post : Post)
    (b : Party) (more : List Command) (x y : Stream) where
  -- the peer, by what lies in its boxes
  abbrev pub peer_by : (ℕ → Box) → Party
  peer_by Z = record b { pending = commands_in (Z 0) ++ more; post = post_in (Z link) }

  module _ (held : Held number other tells others link h p moments front rest post (peer_by (boxes p h (events_of moments))) x y)
      (m : HostMessage) (story : IsStory hosts (Crossed (crossing.In m) ∷ moments)) (run : IsRun hosts (events_of (Crossed (crossing.In m) ∷ moments)))
      (room : stay.stays h p (events_of moments) ≡ true → is_busy (pair_with p (program h moments).peers).busy link ≡ false → post ≡ Free) where
    abbrev Y : ℕ → Box
    Y = boxes p h (events_of moments)

    abbrev Got : Bool → ℕ → Box
    Got v = posted (place (events_of moments)) (when v (Fetch m.flow.link.0)) (boxes p h (events_of moments))

    abbrev Out_of : (ℕ → Box) → Type 0
    Out_of Z = Acted number other tells others link h p (Crossed (crossing.In m) ∷ moments) front post (peer_by Z) x y

    same_peer : (Z : ℕ → Box) → commands_in (Z 0) ≡ commands_in (Y 0) → post_in (Z link) ≡ post_in (Y link) → peer_by Z ≡ peer_by Y
    same_peer Z e f = by (commands_in (Z 0)) (post_in (Z link)) e f where
      by : (cs : List Command) (o : Post) → cs ≡ commands_in (Y 0) → o ≡ post_in (Y link) → (let z : Party = record b { pending = cs ++ more; post = o } in z) ≡ peer_by Y
      by cs o e f = rw (e, f) refl

    module _ (mine : same_host h m.flow.destination ≡ true) (theirs : same_host p m.flow.source ≡ true) where
      own_host : h ≡ m.flow.destination
      own_host = same_host-true h m.flow.destination mine

      peer_host : p ≡ m.flow.source
      peer_host = same_host-true p m.flow.source theirs

      waits : WaitsWith (Y m.flow.link.0) (message_on m.flow.link.0 m.text)
      waits =
          subst (λ (g : Host). WaitsWith (boxes g h (events_of moments) m.flow.link.0) (message_on m.flow.link.0 m.text)) (sym peer_host)
          (subst (λ (g : Host). WaitsWith (boxes m.flow.source g (events_of moments) m.flow.link.0) (message_on m.flow.link.0 m.text)) (sym own_host) run.0.1)

      box : (n : ℕ) × (Y m.flow.link.0 ≡ Waiting n (message_on m.flow.link.0 m.text))
      box = waiting _ _ waits

      -- by the link, what lies there then
      zero_got : (0 == m.flow.link.0) ≡ true → (Got true 0 ≡ Taken box.0 (message_on m.flow.link.0 m.text)) × (Y 0 ≡ Waiting box.0 (message_on m.flow.link.0 m.text))
      zero_got z =
          let old : Y 0 ≡ Waiting box.0 (message_on m.flow.link.0 m.text) = subst (λ (l : ℕ). Y l ≡ Waiting box.0 (message_on m.flow.link.0 m.text)) (sym (eqb-true 0 m.flow.link.0 z)) box.1 in
          let new : fetched _ ≡ Taken box.0 (message_on m.flow.link.0 m.text) = ap fetched box.1 in
          (rw z new, old)

      away_zero : (0 == m.flow.link.0) ≡ false → Got true 0 ≡ Y 0
      away_zero z = rw z refl

      link_got : (link == m.flow.link.0) ≡ true → (Got true link ≡ Taken box.0 (message_on m.flow.link.0 m.text)) × (Y link ≡ Waiting box.0 (message_on m.flow.link.0 m.text))
      link_got z =
          let old : Y link ≡ Waiting box.0 (message_on m.flow.link.0 m.text) = subst (λ (l : ℕ). Y l ≡ Waiting box.0 (message_on m.flow.link.0 m.text)) (sym (eqb-true link m.flow.link.0 z)) box.1 in
          let new : fetched _ ≡ Taken box.0 (message_on m.flow.link.0 m.text) = ap fetched box.1 in
          (rw z new, old)

      away_link : (link == m.flow.link.0) ≡ false → Got true link ≡ Y link
      away_link z = rw z refl

      not_link : (m.flow.link.0 == 0) ≡ true → (link == m.flow.link.0) ≡ false
      not_link z = subst (λ (l : ℕ). (link == l) ≡ false) (sym (eqb-true m.flow.link.0 0 z)) off

      zero_is : (m.flow.link.0 == 0) ≡ true → (0 == m.flow.link.0) ≡ true
      zero_is z = eqb-sym 0 m.flow.link.0 ∙ z

      signal_same : (n : Message) → message_on m.flow.link.0 m.text ≡ n → commands_of_message n ≡ [] → (m.flow.link.0 == 0) ≡ true → peer_by (Got true) ≡ peer_by Y
      signal_same n is none z =
          let got : (Got true 0 ≡ Taken box.0 (message_on m.flow.link.0 m.text)) × (Y 0 ≡ Waiting box.0 (message_on m.flow.link.0 m.text)) = zero_got (zero_is z) in
          same_peer (Got true) (ap commands_in got.0 ∙ sym (ap commands_in got.1 ∙ ap commands_of_message is ∙ none)) (ap post_in (away_link (not_link z)))

      -- a text on link 0 is gone from what waits
      text_got : message_on m.flow.link.0 m.text ≡ Other m.text → (m.flow.link.0 == 0) ≡ true → (peer_by (Got true) ≡ record (peer_by Y) { pending = more }) × (commands_in (Y 0) ≡ legal_in (orders_of m.text))
      text_got is z =
          let got : (Got true 0 ≡ Taken box.0 (message_on m.flow.link.0 m.text)) × (Y 0 ≡ Waiting box.0 (message_on m.flow.link.0 m.text)) = zero_got (zero_is z) in
          (by (commands_in (Got true 0)) (post_in (Got true link)) (ap commands_in got.0) (ap post_in (away_link (not_link z))), ap commands_in got.1 ∙ ap commands_of_message is) where
            by : (cs : List Command) (o : Post) → cs ≡ [] → o ≡ post_in (Y link) → (let w : Party = record b { pending = cs ++ more; post = o } in w) ≡ record (peer_by Y) { pending = more }
            by cs o e f = rw (e, f) refl

      -- data are
      data_got : message_on m.flow.link.0 m.text ≡ Other m.text → (m.flow.link.0 == 0) ≡ false → (link == m.flow.link.0) ≡ true → (peer_by (Got true) ≡ record (peer_by Y) { post = Fetched }) × (post_in (Y link) ≡ Lies m.text)
      data_got is z l =
          let got : (Got true link ≡ Taken box.0 (message_on m.flow.link.0 m.text)) × (Y link ≡ Waiting box.0 (message_on m.flow.link.0 m.text)) = link_got l in
          (by (commands_in (Got true 0)) (post_in (Got true link)) (ap commands_in (away_zero (eqb-sym 0 m.flow.link.0 ∙ z))) (ap post_in got.0), ap post_in got.1 ∙ ap (λ (n : Message). post_in (Waiting box.0 n)) is) where
            by : (cs : List Command) (o : Post) → cs ≡ commands_in (Y 0) → o ≡ Fetched → (let w : Party = record b { pending = cs ++ more; post = o } in w) ≡ record (peer_by Y) { post = Fetched }
            by cs o e f = rw (e, f) refl

      other_same : (m.flow.link.0 == 0) ≡ false → (link == m.flow.link.0) ≡ false → peer_by (Got true) ≡ peer_by Y
      other_same z l = same_peer (Got true) (ap commands_in (away_zero (eqb-sym 0 m.flow.link.0 ∙ z))) (ap post_in (away_link l))

      -- ---- a host that doesn't stay

      module _ (left : stay.stays h p (events_of (Crossed (crossing.In m) ∷ moments)) ≡ false) (j : Joint number other tells others link x y (side h p (Crossed (crossing.In m) ∷ moments) (front ++ rest) post) (peer_by Y)) where
        same_out : peer_by (Got true) ≡ peer_by Y → Out_of (Got true)
        same_out e =
            acted_out number other tells others link h p _ front rest post _ x y left
            (subst (λ (w : Party). Joint number other tells others link x y (side h p (Crossed (crossing.In m) ∷ moments) (front ++ rest) post) w) (sym e) j)

        text_out : message_on m.flow.link.0 m.text ≡ Other m.text → (m.flow.link.0 == 0) ≡ true → Out_of (Got true)
        text_out is z =
            acted_out number other tells others link h p _ front rest post _ x y left
            (subst (λ (w : Party). Joint number other tells others link x y (side h p (Crossed (crossing.In m) ∷ moments) (front ++ rest) post) w) (sym (text_got is z).0)
            (deaf number other tells others link x y _ _ j left more))

        data_out : message_on m.flow.link.0 m.text ≡ Other m.text → (m.flow.link.0 == 0) ≡ false → (link == m.flow.link.0) ≡ true → (v : Bool) → b.stays ≡ v → Out_of (Got true)
        data_out is z l false gone =
            acted_out number other tells others link h p _ front rest post _ x y left
            (subst (λ (w : Party). Joint number other tells others link x y (side h p (Crossed (crossing.In m) ∷ moments) (front ++ rest) post) w) (sym (data_got is z l).0)
            (blind number other tells others link x y _ _ j left gone Fetched))
        data_out is z l true stays =
            let g : (size : ℕ) × (bits : List Bool) × Joint number other tells others link (receives (receivers.Take size bits ∷ []) x) y (side h p (Crossed (crossing.In m) ∷ moments) (front ++ rest) post) (record (peer_by Y) { post = Fetched }) =
            steps.ghost x y (side h p (Crossed (crossing.In m) ∷ moments) (front ++ rest) post) (peer_by Y) j left stays m.text (data_got is z l).1 in
            let r : Took x.receiver (receivers.takes g.0 g.1 x.receiver.end x.receiver) = took g.0 g.1 x.receiver x.receiver.end in
            record {
              first = receives (receivers.Take g.0 g.1 ∷ []) x;
              second = y;
              rest = rest;
              held = left_held number other tells others link h p _ front rest post _ _ y left
                  (subst (λ (w : Party). Joint number other tells others link (receives (receivers.Take g.0 g.1 ∷ []) x) y (side h p (Crossed (crossing.In m) ∷ moments) (front ++ rest) post) w) (sym (data_got is z l).0) g.2);
              sender = refl;
              receiver = refl;
              granted = λ e c. r.granted c;
              returned = λ e c. r.returned c;
              taken = λ e c. r.taken c;
              settled = λ e c. record { over = (r.settled c).over; first = (r.settled c).first; taken = (r.settled c).taken };
              said = λ e c. refl;
            }

        left_by : Sort m.flow.link.0 m.text → (z l : Bool) → (m.flow.link.0 == 0) ≡ z → (link == m.flow.link.0) ≡ l → Out_of (Got true)
        left_by (AnRst zero orders is) z l e f = same_out (signal_same Reset is refl zero)
        left_by (AnRrp zero orders is) z l e f = same_out (signal_same Reply is refl zero)
        left_by (AText is) true l e f = text_out is e
        left_by (AText is) false true e f = data_out is e f b.stays refl
        left_by (AText is) false false e f = same_out (other_same e f)

      -- ---- a host that stays

      module _ (k : keeps h p (event_in (Crossed (crossing.In m))) (events_of moments) ≡ true) (e : stay.stays h p (events_of moments) ≡ true) (here : HereIn number other tells others link h p moments front post (peer_by Y) x y)
          (may : MayCalls (message_calls p (places moments) m.flow.link.0 m.text (turn_of (program h moments) p))) where
        ready : program_phases.is_ready (pair_with p (program h moments).peers).phase ≡ true
        ready = sym (ready_both hosts h p moments ours story.1) ∙ stays_ready (events_of moments) h p e

        own_is : same_host (program h moments).own m.flow.destination ≡ true
        own_is = ap (λ (g : Host). same_host g m.flow.destination) (program_own h moments) ∙ mine

        now : pair_with p (accepted (program h moments) (inbound.Message m) (places moments)).0.peers ≡ (message_taken p (places moments) m.flow.link.0 m.text (turn_of (program h moments) p)).pair
        now =
            subst (λ (g : Host). pair_with g (accepted (program h moments) (inbound.Message m) (places moments)).0.peers ≡ (message_taken g (places moments) m.flow.link.0 m.text (turn_of (program h moments) g)).pair) (sym peer_host)
            (message_pair (program h moments) m (places moments) own_is)

        abbrev Turns : Party → Type 0
        Turns w =
            Goes number other tells others link p (message_calls p (places moments) m.flow.link.0 m.text (turn_of (program h moments) p) ++ own_calls h p moments) (message_taken p (places moments) m.flow.link.0 m.text (turn_of (program h moments) p)).pair front post w x y

        no_reset : (r v : Bool) → (r && not v) ≡ true → v ≡ true → ⊥
        no_reset true true f g = absurd (let no : false ≡ true = f in cc)
        no_reset true false f g = absurd (let no : false ≡ true = g in cc)
        no_reset false v f g = absurd (let no : false ≡ true = f in cc)

        kept_reset : message_on m.flow.link.0 m.text ≡ Reset → ⊥
        kept_reset is =
            let kept : keeps h p (In m.flow.source m.flow.destination m.flow.link.0 Reset) (events_of moments) ≡ true = subst (λ (n : Message). keeps h p (In m.flow.source m.flow.destination m.flow.link.0 n) (events_of moments) ≡ true) is k in
            no_reset (stay.ready h p (In m.flow.source m.flow.destination m.flow.link.0 Reset ∷ events_of moments)) (are h p m.flow.destination m.flow.source) kept (rw (mine, theirs) refl)

        reply_turns : (m.flow.link.0 == 0) ≡ true → orders_of m.text ≡ Legal command.Rrp ∷ [] → Turns (peer_by Y)
        reply_turns z orders =
            rw (ready, z, orders)
            (reply_heard number other tells others link steps p (places moments) (own_calls h p moments) front post (peer_by Y) _
            _ _ x y (room e) refl refl here)

        text_turns : message_on m.flow.link.0 m.text ≡ Other m.text → (m.flow.link.0 == 0) ≡ true → Turns (record (peer_by Y) { pending = more })
        text_turns is z =
            let joint : AreJoint (orders_of m.text) = plain_joint _ (subst (λ (n : Message). IsApart m.flow.link.0 m.text n) is (story.0 (plain_at hosts p m.flow.source theirs ours.1, plain_at hosts h m.flow.destination mine ours.0)) z) in
            let calls_may : MayCalls (orders_heard p (places moments) (orders_of m.text) (turn_of (program h moments) p) []) = rw (ready, z) at may in
            rw (ready, z)
            (heard_run number other tells others link steps p (places moments) (own_calls h p moments) front post (peer_by Y) _ _ [] more x y joint ready (room e) calls_may
            (subst (λ (cs : List Command). Here number other tells others link p (own_calls h p moments) (pair_with p (program h moments).peers) front post (record (peer_by Y) { pending = cs ++ more }) x y) (text_got is z).1 here))

        data_turns : message_on m.flow.link.0 m.text ≡ Other m.text → (m.flow.link.0 == 0) ≡ false → (link == m.flow.link.0) ≡ true → Turns (record (peer_by Y) { post = Fetched })
        data_turns is z l =
            rw (ready, z)
            (takes_here number other tells others link p (own_calls h p moments) (pair_with p (program h moments).peers) front post (peer_by Y) x y here steps (program h moments).listening m.flow.link.0 m.text (eqb-sym m.flow.link.0 link ∙ l) (data_got is z l).1
            _ refl refl)

        other_turns : (m.flow.link.0 == 0) ≡ false → (link == m.flow.link.0) ≡ false → Turns (peer_by Y)
        other_turns z l =
            rw (ready, z)
            (passes_here number other tells others link p (own_calls h p moments) (pair_with p (program h moments).peers) front post (peer_by Y) x y here steps (program h moments).listening m.flow.link.0 m.text (eqb-sym m.flow.link.0 link ∙ l)
            _ refl refl)

        turns_by : Sort m.flow.link.0 m.text → (z l : Bool) → (m.flow.link.0 == 0) ≡ z → (link == m.flow.link.0) ≡ l → Turns (peer_by (Got true))
        turns_by (AnRst zero orders is) z l f g = absurd (kept_reset is)
        turns_by (AnRrp zero orders is) z l f g = subst (λ (w : Party). Turns w) (sym (signal_same Reply is refl zero)) (reply_turns zero orders)
        turns_by (AText is) true l f g = subst (λ (w : Party). Turns w) (sym (text_got is f).0) (text_turns is f)
        turns_by (AText is) false true f g = subst (λ (w : Party). Turns w) (sym (data_got is f g).0) (data_turns is f g)
        turns_by (AText is) false false f g = subst (λ (w : Party). Turns w) (sym (other_same f g)) (other_turns f g)

        stay_goes : Goes number other tells others link p (message_calls p (places moments) m.flow.link.0 m.text (turn_of (program h moments) p) ++ own_calls h p moments) (pair_with p (accepted (program h moments) (inbound.Message m) (places moments)).0.peers)
            front post (peer_by (Got true)) x y
        stay_goes =
            subst (λ (n : PairState). Goes number other tells others link p (message_calls p (places moments) m.flow.link.0 m.text (turn_of (program h moments) p) ++ own_calls h p moments) n front post (peer_by (Got true)) x y) (sym now)
            (turns_by (sort_of m.flow.link.0 m.text) _ _ refl refl)

    pub act_in : stay.begins h p (event_in (Crossed (crossing.In m))) (events_of moments) ≡ false
        → (keeps h p (event_in (Crossed (crossing.In m))) (events_of moments) ≡ true → stay.stays h p (events_of moments) ≡ true
        → MayCalls (if same_host h m.flow.destination && same_host p m.flow.source then message_calls p (places moments) m.flow.link.0 m.text (turn_of (program h moments) p) else []))
        → Acted number other tells others link h p (Crossed (crossing.In m) ∷ moments) front post (peer_by (boxes p h (events_of (Crossed (crossing.In m) ∷ moments)))) x y
    act_in old may =
        act_by number other tells others link steps h p (Crossed (crossing.In m)) moments front rest post (peer_by Y) x y front post (peer_by (boxes p h (events_of (Crossed (crossing.In m) ∷ moments)))) old held
        (λ k e still here. goes (same_host h m.flow.destination) (same_host p m.flow.source) refl refl k e here (may k e))
        (λ left j. out (same_host h m.flow.destination) (same_host p m.flow.source) refl refl left j) where
          goes : (v u : Bool) → same_host h m.flow.destination ≡ v → same_host p m.flow.source ≡ u → keeps h p (event_in (Crossed (crossing.In m))) (events_of moments) ≡ true → stay.stays h p (events_of moments) ≡ true
              → HereIn number other tells others link h p moments front post (peer_by Y) x y → MayCalls (if v && u then message_calls p (places moments) m.flow.link.0 m.text (turn_of (program h moments) p) else [])
              → Goes number other tells others link p ((if v && u then message_calls p (places moments) m.flow.link.0 m.text (turn_of (program h moments) p) else []) ++ own_calls h p moments)
              (pair_with p (if v then (accepted (program h moments) (inbound.Message m) (places moments)).0 else program h moments).peers) front post (peer_by (Got (u && v))) x y
          goes true true mine theirs k e here calls = stay_goes mine theirs k e here calls
          goes true false mine theirs k e here calls =
              let same : pair_with p (accepted (program h moments) (inbound.Message m) (places moments)).0.peers ≡ pair_with p (program h moments).peers = message_leaves (program h moments) m (places moments) p theirs in
              rw same (stays_as number other tells others link p (own_calls h p moments) (pair_with p (program h moments).peers) front post (peer_by Y) x y here)
          goes false true mine theirs k e here calls = stays_as number other tells others link p (own_calls h p moments) (pair_with p (program h moments).peers) front post (peer_by Y) x y here
          goes false false mine theirs k e here calls = stays_as number other tells others link p (own_calls h p moments) (pair_with p (program h moments).peers) front post (peer_by Y) x y here

          out : (v u : Bool) → same_host h m.flow.destination ≡ v → same_host p m.flow.source ≡ u → stay.stays h p (events_of (Crossed (crossing.In m) ∷ moments)) ≡ false
              → Joint number other tells others link x y (side h p (Crossed (crossing.In m) ∷ moments) (front ++ rest) post) (peer_by Y) → Out_of (Got (u && v))
          out true true mine theirs left j = left_by mine theirs left j (sort_of m.flow.link.0 m.text) (m.flow.link.0 == 0) (link == m.flow.link.0) refl refl
          out true false mine theirs left j = acted_out number other tells others link h p (Crossed (crossing.In m) ∷ moments) front rest post (peer_by Y) x y left j
          out false true mine theirs left j = acted_out number other tells others link h p (Crossed (crossing.In m) ∷ moments) front rest post (peer_by Y) x y left j
          out false false mine theirs left j = acted_out number other tells others link h p (Crossed (crossing.In m) ∷ moments) front rest post (peer_by Y) x y left j
