-- How many CLS a host has said of a connection while it stays, and that it says none any more once it has left.
use Rattle.world_keeps_streams.proofs.Common.{Host, is_sent, Entry, Side, hears, says, placed_event, Joined, count, stays_same, closes_said, begins_either, stays_ready, pair_with, Moment, event_in, events_of, program, crossings_of, Coupled, law_events, origin_in, keeps, Network, AreOurs}
use Rattle.std.proofs.Common.{◌≡◌, ◌+◌, ◌≤◌, ◌&&◌, ◌||◌, not, if◌then◌else◌, Bool, List, [], ◌∷◌, ◌++◌, refl, ap, sym, subst, ◌∙◌, arith, true, false}
use Rattle.pairing_law.specs.Links.{Sockets, Who, Receiver, Sender}
use Rattle.pairing_law.specs.Marks.{Ask, Close, Mark, closes}
use Rattle.reset_law.specs.Events.{Contact, Event, Other, Out, are, Reply, Reset}
use Rattle.world_keeps_pairing.proofs.lemmas.{all_hears, all_says, all_tied, are_origins, at_texts, hears_if, left_if, met_if, other, served_in, IsPair, before}
use Rattle.reset_law.specs.Stays as stay
use Rattle.world_keeps_streams.proofs.Books.Counts.{Counted, bounds, counted, side_of}
use Rattle.world_keeps_streams.proofs.Deeds.Effects.{Among}
use Rattle.world_keeps_streams.proofs.Requests.Now.{joined_halves, side_stays}
use Rattle.world_keeps_streams.proofs.Requests.Sides.{Lawful, begins_same, coupled_in}

-- at none of these moments, after older ones, is a host together with its peer: its pair was reset, or it has stopped
abbrev pub HasLeft : Host → Host → List Moment → List Moment → Type 0
HasLeft h p [] older = Unit {0}
HasLeft h p (x ∷ moments) older = (stay.stays h p (events_of (x ∷ (moments ++ older))) ≡ false) × HasLeft h p moments older

-- ---- marks

hears_said : (ms : List Mark) (x : Side) → (all_hears ms x).said ≡ x.said
hears_said [] x = refl
hears_said (m ∷ ms) x = hears_said ms (hears m x)

took_said : (v : Bool) (ms : List Mark) (x : Side) → (hears_if v ms x).said ≡ x.said
took_said true ms x = hears_said ms x
took_said false ms x = refl

left_said : (v : Bool) (x : Side) → (left_if v x).said ≡ x.said
left_said true x = refl
left_said false x = refl

one_more : (v : Bool) (m : Mark) (word : List Mark) → closes word ≤ closes (if v then m ∷ word else word)
one_more true (Ask p) word = omega arith
one_more true Close word = omega arith
one_more false m word = omega arith

says_more : (ms : List Mark) (x : Side) → closes x.said ≤ closes (all_says ms x).said
says_more [] x = omega arith
says_more (m ∷ ms) x =
    let one : closes x.said ≤ closes (if x.stays then m ∷ x.said else x.said) = one_more x.stays m x.said in
    let more : closes (if x.stays then m ∷ x.said else x.said) ≤ closes (all_says ms (says m x)).said = says_more ms (says m x) in
    omega (arith, one, more)

says_none : (ms : List Mark) (x : Side) → x.stays ≡ false → (all_says ms x).said ≡ x.said
says_none [] x away = refl
says_none (m ∷ ms) x away = says_none ms (says m x) away ∙ ap (λ (v : Bool). if v then m ∷ x.said else x.said) away

-- ---- an event more

module _ (h p : Host) (spoken heard : List (List Bool) → List Mark) (e : Event) (events : List Event) (x : Side) where
  abbrev spoke : Side
  spoke = all_says (spoken (stay.said_by h p 0 e)) x

  abbrev next : Side
  next = met_if (stay.begins h p e events) (before h p spoken heard e events x)

  pub said_now : stay.begins h p e events ≡ false → next.said ≡ spoke.said
  said_now none =
      ap (λ (v : Bool). (met_if v (before h p spoken heard e events x)).said) none
      ∙ left_said (keeps h p e events) (hears_if (stay.stays h p events) (heard (stay.heard_by p h 0 e)) spoke)
      ∙ took_said (stay.stays h p events) (heard (stay.heard_by p h 0 e)) spoke

  grows : stay.begins h p e events ≡ false → closes x.said ≤ closes next.said
  grows none = subst (λ (word : List Mark). closes x.said ≤ closes word) (sym (said_now none)) (says_more (spoken (stay.said_by h p 0 e)) x)

stayed : (v r s : Bool) → (v || (r && true && s)) ≡ false → r ≡ true → s ≡ true → ⊥
stayed true r s off ready on = let no : true ≡ false = off in absurd (cc)
stayed false true true off ready on = let no : true ≡ false = off in absurd (cc)
stayed false true false off ready on = absurd (cc)
stayed false false s off ready on = absurd (cc)

-- by an event by which a host leaves it says nothing
silent : (h p : Host) (e : Event) (events : List Event) → stay.stays h p events ≡ true → stay.stays h p (e ∷ events) ≡ false → stay.said_by h p 0 e ≡ []
silent h p (Contact x y) events on off = refl
silent h p (Out x y k Reset) events on off = refl
silent h p (Out x y k Reply) events on off = refl
silent h p (Out x y k (Other text)) events on off = by (are h p x y) refl where
  ready : stay.ready h p events ≡ true
  ready = stays_ready events h p on

  by : (v : Bool) → are h p x y ≡ v → stay.said_by h p 0 (Out x y k (Other text)) ≡ []
  by false away = rw away refl
  by true is =
      absurd (stayed (stay.begins h p (Out x y k (Other text)) events) (stay.ready h p (Out x y k (Other text) ∷ events)) (stay.stays h p events) off (rw is ready) on)
silent h p e events on off = refl

-- ---- a moment more

pub no_begin : (h p : Host) (e : Event) (events : List Event) → stay.stays h p (e ∷ events) ≡ false → stay.begins h p e events ≡ false
no_begin h p e events off = by (stay.begins h p e events) off where
  by : (v : Bool) → (v || (stay.ready h p (e ∷ events) && not (stay.takes_reset h p e) && stay.stays h p events)) ≡ false → v ≡ false
  by true off = off
  by false off = refl

module _ (s : Sockets) (who : Who) (h p : Host) where
  pub grows_by : (y : Moment) (ms : List Moment) → stay.begins h p (event_in y) (events_of ms) ≡ false → closes (side_of s who h p ms).said ≤ closes (side_of s who h p (y ∷ ms)).said
  grows_by y ms none =
      grows h p (at_texts s who) (at_texts s (other who)) (placed_event (event_in y) (events_of ms)) (law_events ms) (side_of s who h p ms)
      (begins_same h p (event_in y) (events_of ms) ∙ none)

  stands_by : (y : Moment) (ms : List Moment) → stay.stays h p (events_of (y ∷ ms)) ≡ false → (side_of s who h p (y ∷ ms)).said ≡ (side_of s who h p ms).said
  stands_by y ms off =
      said_now h p (at_texts s who) (at_texts s (other who)) (placed_event (event_in y) (events_of ms)) (law_events ms) (side_of s who h p ms)
      (begins_same h p (event_in y) (events_of ms) ∙ no_begin h p (event_in y) (events_of ms) off)
      ∙ by (side_of s who h p ms).stays refl where
        by : (v : Bool) → (side_of s who h p ms).stays ≡ v → (all_says (at_texts s who (stay.said_by h p 0 (placed_event (event_in y) (events_of ms)))) (side_of s who h p ms)).said ≡ (side_of s who h p ms).said
        by false away = says_none (at_texts s who (stay.said_by h p 0 (placed_event (event_in y) (events_of ms)))) (side_of s who h p ms) away
        by true here =
            let on : stay.stays h p (law_events ms) ≡ true = sym (side_stays h p (at_texts s who) (at_texts s (other who)) (law_events ms)) ∙ here in
            let none : stay.said_by h p 0 (placed_event (event_in y) (events_of ms)) ≡ [] =
            silent h p (placed_event (event_in y) (events_of ms)) (law_events ms) on (stays_same h p (events_of (y ∷ ms)) ∙ off) in
            ap (λ (texts : List (List Bool)). (all_says (at_texts s who texts) (side_of s who h p ms)).said) none

  -- a host that has left has said what it had
  pub stands : (between last : List Moment) → HasLeft h p between last → (side_of s who h p (between ++ last)).said ≡ (side_of s who h p last).said
  stands [] last left = refl
  stands (y ∷ between) last left = stands_by y (between ++ last) left.0 ∙ stands between last left.1

  -- and its peer no less than before
  pub grows_on : (between last : List Moment) → HasLeft p h between last → closes (side_of s who h p last).said ≤ closes (side_of s who h p (between ++ last)).said
  grows_on [] last left = omega arith
  grows_on (y ∷ between) last left =
      let older : closes (side_of s who h p last).said ≤ closes (side_of s who h p (between ++ last)).said = grows_on between last left.1 in
      let now : closes (side_of s who h p (between ++ last)).said ≤ closes (side_of s who h p (y ∷ (between ++ last))).said =
      grows_by y (between ++ last) (begins_either h p (event_in y) (events_of (between ++ last)) ∙ no_begin p h (event_in y) (events_of (between ++ last)) left.0) in
      omega (arith, older, now)

-- ---- both hosts

-- where a receiver's end is there and has heard the sender's CLS, its host has heard one more than it has said
module _ (hosts : Network) (ms : List Moment) (l : Lawful hosts ms) (a b : Host) (ours : AreOurs hosts a b) (s : Sockets) (q : IsPair s) (mine : stay.stays a b (events_of ms) ≡ true)
    (e : Entry) (e_in : Among e (pair_with b (program a ms).peers).entries) (own : e.own ≡ s.receive) (foreign : e.foreign ≡ s.send) (heard : e.partner_closed ≡ true) where
  j : Joined (side_of s Receiver a b ms) (side_of s Sender b a ms)
  j = joined_halves hosts ms l a b ours s q

  here : Counted (side_of s Receiver a b ms).said (side_of s Receiver a b ms).heard (is_sent e.closing) e.partner_closed
  here =
      let c : Coupled hosts ms = coupled_in hosts ms l in
      counted hosts ms l s q Receiver a b
      (((all_tied hosts (origin_in (crossings_of ms)) ms (are_origins 0 (crossings_of ms) [] ms refl) c.story c.run (served_in hosts ms l.2)).tied a b ours).receiver s q)
      j.floor j.other (side_of s Sender b a ms) j.here mine e e_in own foreign

  unsent : is_sent e.closing ≡ false
  unsent = by (is_sent e.closing) refl where
    by : (v : Bool) → is_sent e.closing ≡ v → v ≡ false
    by false t = refl
    by true t = absurd (let two : (true && true) ≡ false = ap (λ (v : Bool). v && true) (sym t) ∙ ap (λ (v : Bool). is_sent e.closing && v) (sym heard) ∙ here.live in cc)

  pub heard_more : closes (side_of s Receiver a b ms).heard ≡ closes (side_of s Receiver a b ms).said + 1
  heard_more =
      let x : closes (side_of s Receiver a b ms).heard ≡ here.now + 1 = here.heard ∙ ap (λ (v : Bool). here.now + count v) heard in
      let y : closes (side_of s Receiver a b ms).said ≡ here.now + 0 = here.said ∙ ap (λ (v : Bool). here.now + count v) unsent in
      omega (arith, x, y)

-- and the end of the sender's CLS has gone out, and has heard none: now, or before its host left
module _ (hosts : Network) (between last : List Moment) (l : Lawful hosts (between ++ last)) (older : Lawful hosts last)
    (a b : Host) (ours : AreOurs hosts a b) (s : Sockets) (q : IsPair s) where
  pub sender_closed : HasLeft b a between last → stay.stays a b (events_of (between ++ last)) ≡ true → stay.stays b a (events_of last) ≡ true
      → (e : Entry) → Among e (pair_with b (program a (between ++ last)).peers).entries → e.own ≡ s.receive → e.foreign ≡ s.send
      → e.partner_closed ≡ true
      → (f : Entry) → Among f (pair_with a (program b last).peers).entries → f.own ≡ s.send → f.foreign ≡ s.receive
      → (is_sent f.closing ≡ true) × (f.partner_closed ≡ false)
  sender_closed left mine theirs e e_in e_own e_foreign heard f f_in f_own f_foreign =
      let more : closes (side_of s Receiver a b (between ++ last)).heard ≡ closes (side_of s Receiver a b (between ++ last)).said + 1 = heard_more hosts (between ++ last) l a b ours s q mine e e_in e_own e_foreign heard in
      bounds (closes (side_of s Receiver a b (between ++ last)).said) there.now (is_sent f.closing) f.partner_closed
      (omega (arith, up, more, there.said)) (omega (arith, down, there.heard)) where
        j : Joined (side_of s Receiver a b (between ++ last)) (side_of s Sender b a (between ++ last))
        j = joined_halves hosts (between ++ last) l a b ours s q

        k : Joined (side_of s Receiver a b last) (side_of s Sender b a last)
        k = joined_halves hosts last older a b ours s q

        there : Counted (side_of s Sender b a last).said (side_of s Sender b a last).heard (is_sent f.closing) f.partner_closed
        there =
            let c : Coupled hosts last = coupled_in hosts last older in
            counted hosts last older s q Sender b a
            (((all_tied hosts (origin_in (crossings_of last)) last (are_origins 0 (crossings_of last) [] last refl) c.story c.run (served_in hosts last older.2)).tied a b ours).sender s q)
            k.other k.floor (side_of s Receiver a b last) k.there theirs f f_in f_own f_foreign

        up : closes (side_of s Receiver a b (between ++ last)).heard ≤ closes (side_of s Sender b a last).said
        up = subst (λ (word : List Mark). closes (side_of s Receiver a b (between ++ last)).heard ≤ closes word) (stands s Sender b a between last left) (closes_said _ _ j.here.older)

        down : closes (side_of s Sender b a last).heard ≤ closes (side_of s Receiver a b (between ++ last)).said
        down =
            let heard_before : closes (side_of s Sender b a last).heard ≤ closes (side_of s Receiver a b last).said = closes_said _ _ k.there.older in
            let grown : closes (side_of s Receiver a b last).said ≤ closes (side_of s Receiver a b (between ++ last)).said = grows_on s Receiver a b between last left in
            omega (arith, heard_before, grown)
