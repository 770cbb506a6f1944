-- Where the request of an end hasn't gone out, the peer has no end that took it.
use Rattle.world_keeps_streams.proofs.Common.{◌≡◌, ℕ, Bool, true, false, List, [], ◌∷◌, Option, Some, None, refl, ap, sym, subst, ◌∙◌, Host, HostMessage, IsTelling, gone_now, numbered, numbered_tells, Asks, Mark, placed_event, Side, Event, HaveAddresses, Moment, Crossed, Asked, event_in, events_of, crossings_of, law_events, origin_in, keeps, numbered_by_peer, own_calls, AreOurs, Network, Happened}
use Rattle.pairing_law.specs.Links.{Sockets, Receiver, Sender}
use Rattle.pairing_law.proofs.lemmas.{asks_said, Joined as Paired}
use Rattle.world_keeps_pairing.proofs.lemmas.{all_says, at_texts, half, hears_if, left_if, mail_below, met_if, odd_send, IsPair, before}
use Rattle.interface.specs.Mailboxes as mail
use Rattle.interface.specs.declared.crossing.Crossing.TheVariants as crossing
use Rattle.reset_law.specs.Stays as stay
use Rattle.world_keeps_streams.proofs.Heard.Calls.{heard_calls}
use Rattle.world_keeps_streams.proofs.Heard.Marks.{said_heard}
use Rattle.world_keeps_streams.proofs.Requests.Now.{Counts, heard_there, joined_halves, unsaid_there}
use Rattle.world_keeps_streams.proofs.Requests.Sides.{Lawful, begins_same}
use Rattle.world_keeps_streams.proofs.Steps.Goes.{AllFind, Finds, Untaken}
use Rattle.world_keeps_streams.proofs.Steps.Joined.{Joined, turned_tells}

-- what the receiver of two sockets heard
abbrev pub heard_at : Host → Host → Sockets → List Moment → List Mark
heard_at p h s ms = (half p h (at_texts s Receiver) (at_texts s Sender) (law_events ms)).heard

-- nothing is heard by what goes out
out_heard : (p h : Host) (s : Sockets) (m : HostMessage) (ms : List Moment) → stay.begins p h (event_in (Crossed (crossing.Out m))) (events_of ms) ≡ false → heard_at p h s (Crossed (crossing.Out m) ∷ ms) ≡ heard_at p h s ms
out_heard p h s m ms none =
    let e : Event = placed_event (event_in (Crossed (crossing.Out m))) (events_of ms) in
    let x : Side = half p h (at_texts s Receiver) (at_texts s Sender) (law_events ms) in
    let said : List Mark = at_texts s Receiver (stay.said_by p h 0 (placed_event (event_in (Crossed (crossing.Out m))) (events_of ms))) in
    ap (λ (v : Bool). (met_if v (before p h (at_texts s Receiver) (at_texts s Sender) e (law_events ms) x)).heard) (begins_same p h (event_in (Crossed (crossing.Out m))) (events_of ms) ∙ none)
    ∙ left (keeps p h e (law_events ms)) (hears_if (stay.stays p h (law_events ms)) [] (all_says said x))
    ∙ took (stay.stays p h (law_events ms)) (all_says said x)
    ∙ said_heard said x where
      left : (v : Bool) (z : Side) → (left_if v z).heard ≡ z.heard
      left true z = refl
      left false z = refl

      took : (v : Bool) (z : Side) → (hears_if v [] z).heard ≡ z.heard
      took true z = refl
      took false z = refl

module _ (number other : ℕ → ℕ → ℕ → ℕ) (tells : IsTelling number) (same : (own foreign g : ℕ) → other own foreign g ≡ number foreign own g) (hosts : Network) (ms ns : List Moment) (l : Lawful hosts ms) (k : Lawful hosts ns) (h p : Host) (ours : AreOurs hosts h p)
    (counts : stay.stays h p (events_of ms) ≡ true → Counts h p ms) (counts_there : stay.stays p h (events_of ns) ≡ true → Counts p h ns) (heard : (s : Sockets) → heard_at p h s ns ≡ heard_at p h s ms) where
  pub untaken : Untaken number other h p ms ns
  untaken on there own foreign e f odd even found asked found_there named = by f.partner refl where
    q : IsPair (record { receive = foreign; send = own })
    q = (even, odd_send own odd)

    gone_same : gone_now h (own_calls p h ns) foreign own ≡ gone_now p (own_calls h p ms) own foreign
    gone_same = tells.gone own foreign (gone_now h (own_calls p h ns) foreign own) own foreign (gone_now p (own_calls h p ms) own foreign) (sym (same foreign own (gone_now h (own_calls p h ns) foreign own)) ∙ named)

    paired : Paired (half p h (at_texts (record { receive = foreign; send = own }) Receiver) (at_texts (record { receive = foreign; send = own }) Sender) (law_events ms))
        (half h p (at_texts (record { receive = foreign; send = own }) Sender) (at_texts (record { receive = foreign; send = own }) Receiver) (law_events ms))
    paired = joined_halves hosts ms l p h (ours.1, ours.0) (record { receive = foreign; send = own }) q

    by : (o : Option ℕ) → f.partner ≡ o → f.partner ≡ None
    by None none = none
    by (Some t) some = absurd (
        let there_heard : Asks (gone_now h (own_calls p h ns) foreign own) (origin_in (crossings_of ns) p h t) (heard_at p h (record { receive = foreign; send = own }) ns) =
        heard_there hosts ns k p h (ours.1, ours.0) (record { receive = foreign; send = own }) q (counts_there there) there f found_there t some in
        let here_heard : Asks (gone_now p (own_calls h p ms) own foreign) (origin_in (crossings_of ns) p h t) (heard_at p h (record { receive = foreign; send = own }) ms) =
        subst (λ (g : ℕ). Asks g (origin_in (crossings_of ns) p h t) (heard_at p h (record { receive = foreign; send = own }) ms)) gone_same
        (subst (λ (w : List Mark). Asks (gone_now h (own_calls p h ns) foreign own) (origin_in (crossings_of ns) p h t) w) (heard (record { receive = foreign; send = own })) there_heard) in
        unsaid_there hosts ms l p h (ours.1, ours.0) (record { receive = foreign; send = own }) q (counts on) on e found asked (origin_in (crossings_of ns) p h t)
        (asks_said (gone_now p (own_calls h p ms) own foreign) (origin_in (crossings_of ns) p h t) (heard_at p h (record { receive = foreign; send = own }) ms)
        (half h p (at_texts (record { receive = foreign; send = own }) Sender) (at_texts (record { receive = foreign; send = own }) Receiver) (law_events ms)).said
        paired.here.older here_heard))

-- ---- of two hosts

module _ (link : ℕ) (hosts : Network) (addresses : HaveAddresses hosts.all) (a b : Host) (ours : AreOurs hosts a b) where
  module _ (m : HostMessage) (moments : List Moment) (run : mail.IsRun hosts.all (crossings_of (Crossed (crossing.Out m) ∷ moments))) (time : Happened hosts (Crossed (crossing.Out m) ∷ moments))
      (none : stay.begins a b (event_in (Crossed (crossing.Out m))) (events_of moments) ≡ false) (old : Joined a b link moments) where
    below : mail.IsRun hosts.all (crossings_of moments)
    below = mail_below hosts.all (Crossed (crossing.Out m)) moments run

    counts_a : stay.stays a b (events_of moments) ≡ true → Counts a b moments
    counts_a on = heard_calls numbered numbered_tells link hosts addresses moments below time.1 a b ours (old.allowed_a on)

    counts_b : stay.stays b a (events_of moments) ≡ true → Counts b a moments
    counts_b on = heard_calls numbered_by_peer turned_tells link hosts addresses moments below time.1 b a (ours.1, ours.0) (old.allowed_b on)

    out_finds : Finds link a b (Crossed (crossing.Out m)) moments
    out_finds = record {
      first = untaken numbered numbered_by_peer numbered_tells (λ own foreign g. refl) hosts moments moments (addresses, below, time.1) (addresses, below, time.1) a b ours counts_a counts_b (λ s. refl);
      second = λ allowed. untaken numbered_by_peer numbered turned_tells (λ own foreign g. refl) hosts moments (Crossed (crossing.Out m) ∷ moments) (addresses, below, time.1) (addresses, run, time) b a (ours.1, ours.0) counts_b
          (λ on. heard_calls numbered numbered_tells link hosts addresses (Crossed (crossing.Out m) ∷ moments) run time a b ours (allowed on)) (λ s. out_heard a b s m moments none);
    }

  pub finds : AllFind link hosts a b
  finds (Crossed (crossing.Out m)) moments run time none old = out_finds m moments run time none old
  finds (Crossed (crossing.In m)) moments run time none old = record { first = tt; second = λ allowed. tt }
  finds (Crossed (crossing.Answer kind f)) moments run time none old = record { first = tt; second = λ allowed. tt }
  finds (Crossed (crossing.Down h)) moments run time none old = record { first = tt; second = λ allowed. tt }
  finds (Crossed (crossing.Up h)) moments run time none old = record { first = tt; second = λ allowed. tt }
  finds (Asked h r) moments run time none old = record { first = tt; second = λ allowed. tt }
