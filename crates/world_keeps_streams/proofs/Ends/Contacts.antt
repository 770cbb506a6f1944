-- What goes out next to a host with which a contact was asked for is an RST.
use Rattle.world_keeps_streams.proofs.Common.{◌≡◌, ℕ, suc, ◌<◌, ◌≤◌, ◌==◌, ◌&&◌, ◌||◌, not, Bool, true, false, if◌then◌else◌, List, [], ◌∷◌, ◌++◌, length, Some, refl, ap, sym, subst, ◌∙◌, arith, list_any, Seen, Host, same_host, Answer, Crossing, HostMessage, same_host-true, or_nothing, Legal, orders_of, PairState, Parcel, what_goes, both, not_is, MayGo, Phase, Pair, pair, pair_moved, pair_with, Asked, Crossed, IsNext, Moment, events_of, places, program, contacts_of, crossings_of, message_on, story_agrees, places_same, Called, IsLawful, WorldState, AreOurs, Network, all_ours, filter-append}
use Rattle.reset_law.specs.Events.{Message, Begin, Hear, Send, Take, Other, when, Reply, Reset, is_up}
use Rattle.promise.specs.Ends.{is_contact, AreContacts, contacts_now, still_contacts}
use Rattle.std.proofs.lemmas.List.{append-nil}
use Rattle.interface.specs.declared.crossing.Answer.TheVariants as answer
use Rattle.interface.specs.declared.crossing.Crossing.TheVariants as crossing
use Rattle.ncp_control.specs.Phases.{failed_phase, is_want, reply_phase, reset_phase, taken_phase}
use Rattle.ncp_control.specs.declared.command.Command.TheVariants as command
use Rattle.ncp_control.specs.declared.phase.Phase.TheVariants as phase
use Rattle.host_pairs.specs.Parcels as parcel
use Rattle.net_sim.specs.Among.{contacts_among}
use Rattle.reset_law.specs.Events as signals
use Rattle.sockets.specs.declared.request.Request.TheVariants as request
use Rattle.world_keeps_streams.proofs.Ends.Courses.{any_with, contacts_below, is_there, none_there, not_there}
use Rattle.world_keeps_streams.proofs.Ends.Marks.{never}
use Rattle.world_keeps_streams.proofs.Ends.Owes.{AData, AReply, AReset, Outs, Several, next_out, outs, pair_is}
use Rattle.world_keeps_streams.proofs.Requests.Sides.{Lawful, below, coupled_in, book_lawful}

-- ---- whether a contact was the last thing, moment by moment

abbrev calling : Host → Host → List Moment → Bool
calling h p [] = false
calling h p (Crossed c ∷ ms) = still_contacts h p c (calling h p ms)
calling h p (Asked g (request.Contact q) ∷ ms) = (same_host h g && same_host p q) || calling h p ms
calling h p (Asked g r ∷ ms) = calling h p ms

-- a contact at a later place isn't of a log
any_later : (h p : Host) (place : ℕ) (cs : List Called) (c : Called) → (c.place ≡ place → ⊥)
    → list_any (is_contact h p place) (cs ++ c ∷ []) ≡ list_any (is_contact h p place) cs
any_later h p place cs c never_there =
    any_with h p place cs c ∙ ap (λ (v : Bool). list_any (is_contact h p place) cs || v)
    (not_there h p place c _ never_there refl) ∙ or_nothing _

later_call : (h p : Host) (cs : List Called) (c : Called) (log : List Crossing) → length log < c.place
    → contacts_now (cs ++ c ∷ []) h p log ≡ contacts_now cs h p log
later_call h p cs c [] less = any_later h p 0 cs c (λ e. absurd (omega (arith, less, e)))
later_call h p cs c (d ∷ log) less =
    ap (λ (v : Bool). v || still_contacts h p d (contacts_now (cs ++ c ∷ []) h p log))
    (any_later h p _ cs c (λ e. (let l : length (d ∷ log) < c.place = less in absurd
    (omega (arith, l, e)))))
    ∙ ap (λ (v : Bool). list_any (is_contact h p (length (d ∷ log))) cs || still_contacts h p d v)
    (later_call h p cs c log (let l : suc (length log) < c.place = less in omega (arith, l)))

or_swap : (u v w : Bool) → ((u || v) || w) ≡ (v || (u || w))
or_swap true true w = refl
or_swap true false w = refl
or_swap false true w = refl
or_swap false false w = refl

or_last : (u v : Bool) → (u || v) ≡ (v || u)
or_last true true = refl
or_last true false = refl
or_last false true = refl
or_last false false = refl

-- and one at its end is the last thing
now_call : (h p : Host) (cs : List Called) (c : Called) (log : List Crossing) → c.place ≡ length log
    → contacts_now (cs ++ c ∷ []) h p log ≡ (is_contact h p (length log) c || contacts_now cs h p log)
now_call h p cs c [] at = any_with h p 0 cs c ∙ or_last (list_any (is_contact h p 0) cs) (is_contact h p 0 c)
now_call h p cs c (d ∷ log) at =
    ap (λ (v : Bool). v || still_contacts h p d (contacts_now (cs ++ c ∷ []) h p log))
    (any_with h p (length (d ∷ log)) cs c)
    ∙ ap (λ (v : Bool). (list_any (is_contact h p (length (d ∷ log))) cs || is_contact h p
    (length (d ∷ log)) c) || still_contacts h p d v) (later_call h p cs c log
    (let l : c.place ≡ suc (length log) = at in omega (arith, l)))
    ∙ or_swap (list_any (is_contact h p (length (d ∷ log))) cs) (is_contact h p (length (d ∷ log)) c)
    (still_contacts h p d (contacts_now cs h p log))

calls_same : (h p : Host) (ms : List Moment) → contacts_now (contacts_of ms) h p (crossings_of ms) ≡ calling h p ms
calls_same h p [] = refl
calls_same h p (Crossed c ∷ ms) =
    ap (λ (v : Bool). v || still_contacts h p c (contacts_now (contacts_of ms) h p (crossings_of ms)))
    (none_there h p _ _ _
    (let e : places ms ≡ length (crossings_of ms) = places_same ms in omega (arith, e)) (contacts_below ms))
    ∙ ap (λ (v : Bool). still_contacts h p c v) (calls_same h p ms)
calls_same h p (Asked g (request.Contact q) ∷ ms) =
    now_call h p _ _ _ (places_same ms)
    ∙ ap (λ (v : Bool). v || contacts_now (contacts_of ms) h p (crossings_of ms))
    (is_there h p g q _ _ (places_same ms))
    ∙ ap (λ (v : Bool). (same_host h g && same_host p q) || v) (calls_same h p ms)
calls_same h p (Asked g r ∷ ms) =
    ap (λ (cs : List Called). contacts_now cs h p (crossings_of ms)) (append-nil (contacts_of ms)) ∙ calls_same h p ms

-- ---- by the law of resets an RST waits then

taken_want : (v : Bool) (m : Message) (q : Pair) → q.phase ≡ phase.Want
    → (pair_moved (when v (Take m)) q).phase ≡ phase.Want
taken_want true Reset q e = ap reset_phase e
taken_want true Reply q e = ap reply_phase e
taken_want true (Other text) q e = e
taken_want false m q e = e

rfnm_want : (v : Bool) (ph : Phase) → ph ≡ phase.Want → (if v then taken_phase ph else ph) ≡ phase.Want
rfnm_want true ph e = ap taken_phase e
rfnm_want false ph e = e

told_want : (v : Bool) (link : ℕ) (k : Answer) (q : Pair) → q.phase ≡ phase.Want
    → (pair_moved (when v (Hear link k)) q).phase ≡ phase.Want
told_want true link answer.Rfnm q e = rfnm_want _ q.phase e
told_want true link answer.Dead q e = ap (λ (ph : Phase). failed_phase ph q.owed) e
told_want true link answer.Incomplete q e = ap (λ (ph : Phase). failed_phase ph q.owed) e
told_want true link answer.NotTaken q e = ap (λ (ph : Phase). failed_phase ph q.owed) e
told_want false link k q e = e

module _ (hosts : Network) (h p : Host) (plain : hosts.strange h ≡ false) where
  abbrev Wants : List Moment → Type 0
  Wants ms = ((pair h p (events_of ms)).phase ≡ phase.Want) × (is_up hosts.all h (events_of ms) ≡ true)

  wants : (ms : List Moment) → Lawful hosts ms → calling h p ms ≡ true → Wants ms
  wants [] l e = never (sym e)
  wants (Crossed (crossing.Out m) ∷ ms) l e =
      let parts : (calling h p ms ≡ true) × (not (same_host h m.flow.source && same_host p m.flow.destination) ≡ true) =
      both (calling h p ms) (not (same_host h m.flow.source && same_host p m.flow.destination)) e in
      let w : Wants ms = wants ms (below hosts (Crossed (crossing.Out m)) ms l) parts.0 in (
        ap (λ (v : Bool). (pair_moved (when v (Send m.flow.link.0 (message_on m.flow.link.0 m.text)))
            (pair h p (events_of ms))).phase) (not_is (same_host h m.flow.source && same_host p m.flow.destination) parts.1)
            ∙ w.0,
        w.1,
      )
  wants (Crossed (crossing.In m) ∷ ms) l e =
      let w : Wants ms = wants ms (below hosts (Crossed (crossing.In m)) ms l) e in (
        taken_want (same_host h m.flow.destination && same_host p m.flow.source) (message_on m.flow.link.0 m.text)
            (pair h p (events_of ms)) w.0,
        w.1,
      )
  wants (Crossed (crossing.Answer kind f) ∷ ms) l e =
      let w : Wants ms = wants ms (below hosts (Crossed (crossing.Answer kind f)) ms l) e in
      (told_want (same_host h f.source && same_host p f.destination) f.link.0 kind (pair h p (events_of ms)) w.0, w.1)
  wants (Crossed (crossing.Down g) ∷ ms) l e =
      let parts : (calling h p ms ≡ true) × (not (same_host h g) ≡ true) =
      both (calling h p ms) (not (same_host h g)) e in
      let w : Wants ms = wants ms (below hosts (Crossed (crossing.Down g)) ms l) parts.0 in
      let off : same_host h g ≡ false = not_is (same_host h g) parts.1 in (
        ap (λ (v : Bool). (pair_moved (when v Begin) (pair h p (events_of ms))).phase) off ∙ w.0,
        ap (λ (v : Bool). if v then false else is_up hosts.all h (events_of ms)) off ∙ w.1,
      )
  wants (Crossed (crossing.Up g) ∷ ms) l e =
      by (same_host h g) refl (wants ms (below hosts (Crossed (crossing.Up g)) ms l) e) where
        down : is_up hosts.all g (events_of ms) ≡ false
        down = (coupled_in hosts (Crossed (crossing.Up g) ∷ ms) l).run.0.1

        by : (v : Bool) → same_host h g ≡ v → Wants ms → Wants (Crossed (crossing.Up g) ∷ ms)
        by true here w =
            never (sym w.1 ∙ ap (λ (x : Host). is_up hosts.all x (events_of ms)) (same_host-true h g here) ∙ down)
        by false off w = (
          ap (λ (v : Bool). (pair_moved (when v Begin) (pair h p (events_of ms))).phase) off ∙ w.0,
          ap (λ (v : Bool). if v then true else is_up hosts.all h (events_of ms)) off ∙ w.1,
        )
  wants (Asked g (request.Contact q) ∷ ms) l e =
      by (same_host h g && same_host p q) refl e (wants ms (below hosts (Asked g (request.Contact q)) ms l)) where
        up : hosts.strange g ≡ false → is_up hosts.all g (events_of ms) ≡ true
        up = (coupled_in hosts (Asked g (request.Contact q) ∷ ms) l).run.1

        is_host : (same_host h g && same_host p q) ≡ true → h ≡ g
        is_host here = same_host-true h g (both (same_host h g) (same_host p q) here).0

        by : (v : Bool) → (same_host h g && same_host p q) ≡ v → (v || calling h p ms) ≡ true
            → (calling h p ms ≡ true → Wants ms) → Wants (Asked g (request.Contact q) ∷ ms)
        by true here t rest = (
          ap (λ (v : Bool). (pair_moved (when v signals.Call) (pair h p (events_of ms))).phase) here,
          ap (λ (x : Host). is_up hosts.all x (events_of ms)) (is_host here)
              ∙ up (subst (λ (x : Host). hosts.strange x ≡ false) (is_host here) plain),
        )
        by false off t rest = (
          ap (λ (v : Bool). (pair_moved (when v signals.Call) (pair h p (events_of ms))).phase) off
              ∙ (rest t).0,
          (rest t).1,
        )
  wants (Asked g r ∷ ms) l e = wants ms (below hosts (Asked g r) ms l) e

-- ---- of contacts, those between hosts with programs

either_none : (o : Bool) (h p : Host) (c : Crossing) (v w : Bool)
    → ((o && v) || still_contacts h p c (o && w)) ≡ (o && (v || still_contacts h p c w))
either_none true h p c v w = refl
either_none false h p (crossing.Out m) v w = refl
either_none false h p (crossing.Down g) v w = refl
either_none false h p c v w = refl

abbrev are_ours : (Host → Bool) → Host → Host → Bool
are_ours strange h p = not (strange h) && not (strange p)

module _ (strange : Host → Bool) (h p : Host) where
  called_among : (place : ℕ) (cs : List Called)
      → list_any (is_contact h p place) (contacts_among strange cs) ≡ (are_ours strange h p && list_any (is_contact h p place) cs)
  called_among place [] = none (are_ours strange h p) where
    none : (o : Bool) → false ≡ (o && false)
    none true = refl
    none false = refl
  called_among place (c ∷ cs) = by (is_contact h p place c) refl (called_among place cs) where
    rest : Bool
    rest = list_any (is_contact h p place) cs

    among : List Called
    among = contacts_among strange cs

    one : (o : Bool) → list_any (is_contact h p place) among ≡ (o && rest) → is_contact h p place c ≡ true
        → list_any (is_contact h p place) (if o then c ∷ among else among) ≡ (o && true)
    one true older is = ap (λ (v : Bool). v || list_any (is_contact h p place) among) is
    one false older is = older

    other : (o : Bool) → is_contact h p place c ≡ false
        → list_any (is_contact h p place) (if o then c ∷ among else among) ≡ list_any (is_contact h p place) among
    other true is = ap (λ (v : Bool). v || list_any (is_contact h p place) among) is
    other false is = refl

    by : (v : Bool) → is_contact h p place c ≡ v
        → list_any (is_contact h p place) among ≡ (are_ours strange h p && rest)
        → list_any (is_contact h p place) (if are_ours strange c.host c.peer then c ∷ among else among)
        ≡ (are_ours strange h p && (is_contact h p place c || rest))
    by true is older =
        let two : (same_host h c.host ≡ true) × (same_host p c.peer ≡ true) =
        both (same_host h c.host) (same_host p c.peer)
        (both (same_host h c.host && same_host p c.peer) (c.place == place) is).0 in
        let host : h ≡ c.host = same_host-true h c.host two.0 in
        let peer : p ≡ c.peer = same_host-true p c.peer two.1 in
        ap (λ (x : Host). list_any (is_contact h p place) (if are_ours strange x c.peer then c ∷ among else among)) (sym host)
        ∙ ap (λ (x : Host). list_any (is_contact h p place) (if are_ours strange h x then c ∷ among else among)) (sym peer)
        ∙ one (are_ours strange h p) older is ∙ ap (λ (v : Bool). are_ours strange h p && (v || rest)) (sym is)
    by false is older =
        other (are_ours strange c.host c.peer) is ∙ older ∙ ap (λ (v : Bool). are_ours strange h p && (v || rest)) (sym is)

  now_among : (cs : List Called) (log : List Crossing)
      → contacts_now (contacts_among strange cs) h p log ≡ (are_ours strange h p && contacts_now cs h p log)
  now_among cs [] = called_among 0 cs
  now_among cs (c ∷ log) =
      ap (λ (v : Bool). v || still_contacts h p c (contacts_now (contacts_among strange cs) h p log))
      (called_among _ cs)
      ∙ ap (λ (v : Bool). (are_ours strange h p && list_any (is_contact h p (length (c ∷ log))) cs) || still_contacts h p c v)
      (now_among cs log)
      ∙ either_none _ h p c _ _

among_all : (cs : List Called) → contacts_among (λ h. false) cs ≡ cs
among_all [] = refl
among_all (c ∷ cs) = ap (λ (xs : List Called). c ∷ xs) (among_all cs)

-- ---- and it is what goes out

module _ (hosts : Network) where
  -- a contact more, at the end of a log
  more_calls : (cs : List Called) (c : Called) (log : List Crossing) → length log ≤ c.place → AreContacts cs log
      → AreContacts (cs ++ c ∷ []) log
  more_calls cs c [] le are = tt
  more_calls cs c (crossing.Out m ∷ log) le are =
      let l : suc (length log) ≤ c.place = le in (
        (λ t. are.0 (sym (later_call m.flow.source m.flow.destination cs c log (omega (arith, l))) ∙ t)),
        more_calls cs c log (omega (arith, l)) are.1,
      )
  more_calls cs c (crossing.In m ∷ log) le are =
      more_calls cs c log (let l : suc (length log) ≤ c.place = le in omega (arith, l)) are
  more_calls cs c (crossing.Answer kind f ∷ log) le are =
      more_calls cs c log (let l : suc (length log) ≤ c.place = le in omega (arith, l)) are
  more_calls cs c (crossing.Down g ∷ log) le are =
      more_calls cs c log (let l : suc (length log) ≤ c.place = le in omega (arith, l)) are
  more_calls cs c (crossing.Up g ∷ log) le are =
      more_calls cs c log (let l : suc (length log) ≤ c.place = le in omega (arith, l)) are

  -- what goes out while an RST waits
  reset_goes : (m : HostMessage) (ms : List Moment) → Lawful hosts (Crossed (crossing.Out m) ∷ ms)
      → AreOurs hosts m.flow.source m.flow.destination → calling m.flow.source m.flow.destination ms ≡ true → (m.flow.link.0 ≡ 0)
      × (orders_of m.text ≡ Legal command.Rst ∷ [])
  reset_goes m ms l ours t = by (outs hosts ms lower m.flow.source m n with_peer) where
    lower : Lawful hosts ms
    lower = below hosts (Crossed (crossing.Out m)) ms l

    n : IsNext (program m.flow.source ms) m
    n = (coupled_in hosts (Crossed (crossing.Out m) ∷ ms) l).story.0 ours.0

    with_peer : AreOurs hosts m.flow.source n.peer.host
    with_peer = (ours.0, subst (λ (g : Host). hosts.strange g ≡ false) (ap (λ (y : HostMessage). y.flow.destination) n.message) ours.1)

    wanted : n.peer.pair.phase ≡ phase.Want
    wanted =
        ap (λ (q : PairState). q.phase) (sym (pair_is hosts ms lower m.flow.source m n with_peer))
        ∙ ap (λ (x : Host). (pair_with x (program m.flow.source ms).peers).phase)
        (ap (λ (y : HostMessage). y.flow.destination) (sym n.message))
        ∙ sym (story_agrees hosts ms m.flow.source m.flow.destination ours (coupled_in hosts ms lower).story).phase
        ∙ (wants hosts m.flow.source m.flow.destination ours.0 ms lower t).0

    go : (x : Parcel) → n.parcel ≡ x → MayGo n.peer.pair x
    go x is =
        what_goes n.peer.pair x (next_out hosts ms lower m.flow.source m n with_peer ∙ ap (λ (y : Parcel). Some y) is)

    unready : n.peer.pair.phase ≡ phase.Ready → ⊥
    unready ready = absurd (let no : phase.Ready ≡ phase.Want = sym ready ∙ wanted in cc)

    by : Outs n.peer.pair n.parcel m → (m.flow.link.0 ≡ 0) × (orders_of m.text ≡ Legal command.Rst ∷ [])
    by (AReset want zero orders is) = (zero, orders)
    by (AReply owed zero orders is) = never (sym (ap is_want wanted) ∙ (go parcel.Reply is).unwanted)
    by (Several count is zero orders) = absurd (unready (go (parcel.Commands count) is).0.ready)
    by (AData e size count is away) = absurd (unready (go (parcel.Bytes e size count) is).0.ready)

  pub contacts_now_are : (ms : List Moment) → Lawful hosts ms
      → AreContacts (contacts_among hosts.strange (contacts_of ms)) (crossings_of ms)
  contacts_now_are [] l = tt
  contacts_now_are (Crossed (crossing.Out m) ∷ ms) l = (
    (λ t. goes (now_among hosts.strange m.flow.source m.flow.destination (contacts_of ms) (crossings_of ms)) t),
    contacts_now_are ms (below hosts (Crossed (crossing.Out m)) ms l),
  ) where
    calls : Bool
    calls = contacts_now (contacts_of ms) m.flow.source m.flow.destination (crossings_of ms)

    goes : contacts_now (contacts_among hosts.strange (contacts_of ms)) m.flow.source m.flow.destination (crossings_of ms)
        ≡ (are_ours hosts.strange m.flow.source m.flow.destination && calls)
        → contacts_now (contacts_among hosts.strange (contacts_of ms)) m.flow.source m.flow.destination (crossings_of ms) ≡ true
        → (m.flow.link.0 ≡ 0) × (orders_of m.text ≡ Legal command.Rst ∷ [])
    goes e t =
        let parts : ((not (hosts.strange m.flow.source) && not (hosts.strange m.flow.destination)) ≡ true) × (calls ≡ true) =
        both (not (hosts.strange m.flow.source) && not (hosts.strange m.flow.destination)) calls (sym e ∙ t) in
        let ours : (not (hosts.strange m.flow.source) ≡ true) × (not (hosts.strange m.flow.destination) ≡ true) =
        both (not (hosts.strange m.flow.source)) (not (hosts.strange m.flow.destination)) parts.0 in
        reset_goes m ms l (not_is (hosts.strange m.flow.source) ours.0, not_is (hosts.strange m.flow.destination) ours.1)
        (sym (calls_same m.flow.source m.flow.destination ms) ∙ parts.1)
  contacts_now_are (Crossed (crossing.In m) ∷ ms) l =
      contacts_now_are ms (below hosts (Crossed (crossing.In m)) ms l)
  contacts_now_are (Crossed (crossing.Answer kind f) ∷ ms) l =
      contacts_now_are ms (below hosts (Crossed (crossing.Answer kind f)) ms l)
  contacts_now_are (Crossed (crossing.Down g) ∷ ms) l =
      contacts_now_are ms (below hosts (Crossed (crossing.Down g)) ms l)
  contacts_now_are (Crossed (crossing.Up g) ∷ ms) l =
      contacts_now_are ms (below hosts (Crossed (crossing.Up g)) ms l)
  contacts_now_are (Asked g (request.Contact q) ∷ ms) l =
      subst (λ (cs : List Called). AreContacts cs (crossings_of ms))
      (sym (filter-append (λ (c : Called). not (hosts.strange c.host) && not (hosts.strange c.peer)) (contacts_of ms) (new ∷ [])))
      (by (not (hosts.strange g) && not (hosts.strange q)) (contacts_now_are ms (below hosts (Asked g (request.Contact q)) ms l))) where
        new : Called
        new = record { host = g; place = places ms; peer = q }

        among : List Called
        among = contacts_among hosts.strange (contacts_of ms)

        by : (v : Bool) → AreContacts among (crossings_of ms)
            → AreContacts (among ++ (if v then new ∷ [] else [])) (crossings_of ms)
        by true rest =
            more_calls among new (crossings_of ms)
            (let e : places ms ≡ length (crossings_of ms) = places_same ms in omega (arith, e)) rest
        by false rest = subst (λ (cs : List Called). AreContacts cs (crossings_of ms)) (sym (append-nil among)) rest
  contacts_now_are (Asked g r ∷ ms) l =
      subst (λ (cs : List Called). AreContacts (contacts_among hosts.strange cs) (crossings_of ms))
      (sym (append-nil (contacts_of ms))) (contacts_now_are ms (below hosts (Asked g r) ms l))

-- where all hosts run the program, of all contacts
pub contacts_are : (hosts : List Host) (ms : List Moment) → Lawful (all_ours hosts) ms
    → AreContacts (contacts_of ms) (crossings_of ms)
contacts_are hosts ms l =
    subst (λ (cs : List Called). AreContacts cs (crossings_of ms)) (among_all _)
    (contacts_now_are (all_ours hosts) ms l)

pub world_contacts : {C : Type 0} (seen : C → Seen) (hosts : List Host) (w : WorldState C) → IsLawful seen hosts w
    → AreContacts w.kept.book.contacts w.kept.book.crossings
world_contacts seen hosts w lawful =
    subst (λ (cs : List Called). AreContacts cs w.kept.book.crossings) (sym lawful.whole.contacts)
    (subst (λ (log : List Crossing). AreContacts (contacts_of lawful.whole.moments) log) (sym lawful.whole.crossings)
    (contacts_are hosts lawful.whole.moments (book_lawful seen hosts w lawful)))
