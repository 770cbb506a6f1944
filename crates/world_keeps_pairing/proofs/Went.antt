-- Where requests went out: a place is that of one message, of one host to one other.
use Rattle.world_keeps_pairing.proofs.Common.{◌≡◌, ◌⊎◌, inl, inr, ℕ, zero, suc, ◌-◌, ◌<◌, Bool, true, false, if◌then◌else◌, List, [], ◌∷◌, length, drop, Option, Some, None, refl, ap, sym, subst, ◌∙◌, arith, Host, same_host, same_flow, Flow, Crossing, HostMessage, same_flow-true, same_host-true, End, nothing, fits, Mark, Ask, Close, placed_event, Sockets, Who, Event, place, event_of, last_out, Moment, Crossed, Asked, events_of, crossings_of, law_events, place_or, keeps}
use Rattle.pairing_law.specs.Sides.{Side, hears, says, Life, lives_opened}
use Rattle.net_sim.proofs.lemmas.{by_request, place_same}
use Rattle.interface.specs.declared.crossing.Crossing.TheVariants as crossing
use Rattle.reset_law.specs.Stays as stay
use Rattle.promise.specs.Safe as book
use Rattle.world_keeps_pairing.proofs.Marks.{AllAt, IsPair, foreign_of, own_of}
use Rattle.world_keeps_pairing.proofs.Moments.{Side_of}
use Rattle.world_keeps_pairing.proofs.Programs.{read_marks}
use Rattle.world_keeps_pairing.proofs.Sides.{all_hears, all_says, at_texts, before, hears_if, left_if, met_if}
use Rattle.world_keeps_pairing.proofs.Tied.{read_at}
use Rattle.world_keeps_pairing.proofs.Turns.{other, said_is, when_all}

-- a message went out from one host to another at this place
abbrev pub Went : Host → Host → ℕ → List Crossing → Type 0
Went a b n [] = ⊥
Went a b n (crossing.Out m ∷ log) = ((n ≡ length log) × (a ≡ m.flow.source) × (b ≡ m.flow.destination)) ⊎ Went a b n log
Went a b n (crossing.In m ∷ log) = Went a b n log
Went a b n (crossing.Answer kind f ∷ log) = Went a b n log
Went a b n (crossing.Down h ∷ log) = Went a b n log
Went a b n (crossing.Up h ∷ log) = Went a b n log

went_below : (a b : Host) (n : ℕ) (log : List Crossing) → Went a b n log → n < length log
went_below a b n [] w = absurd w
went_below a b n (crossing.Out m ∷ log) (inl w) = let is : n ≡ length log = w.0 in omega (arith, is)
went_below a b n (crossing.Out m ∷ log) (inr w) = let lt : n < length log = went_below a b n log w in omega (arith, lt)
went_below a b n (crossing.In m ∷ log) w = let lt : n < length log = went_below a b n log w in omega (arith, lt)
went_below a b n (crossing.Answer kind f ∷ log) w = let lt : n < length log = went_below a b n log w in omega (arith, lt)
went_below a b n (crossing.Down h ∷ log) w = let lt : n < length log = went_below a b n log w in omega (arith, lt)
went_below a b n (crossing.Up h ∷ log) w = let lt : n < length log = went_below a b n log w in omega (arith, lt)

pub went_once : (a b c d : Host) (n : ℕ) (log : List Crossing) → Went a b n log → Went c d n log → (a ≡ c) × (b ≡ d)
went_once a b c d n [] v w = absurd v
went_once a b c d n (crossing.Out m ∷ log) (inl v) (inl w) = (v.1 ∙ sym w.1, v.2 ∙ sym w.2)
went_once a b c d n (crossing.Out m ∷ log) (inl v) (inr w) = let lt : n < length log = went_below c d n log w in let is : n ≡ length log = v.0 in absurd (omega (arith, lt, is))
went_once a b c d n (crossing.Out m ∷ log) (inr v) (inl w) = let lt : n < length log = went_below a b n log v in let is : n ≡ length log = w.0 in absurd (omega (arith, lt, is))
went_once a b c d n (crossing.Out m ∷ log) (inr v) (inr w) = went_once a b c d n log v w
went_once a b c d n (crossing.In m ∷ log) v w = went_once a b c d n log v w
went_once a b c d n (crossing.Answer kind f ∷ log) v w = went_once a b c d n log v w
went_once a b c d n (crossing.Down h ∷ log) v w = went_once a b c d n log v w
went_once a b c d n (crossing.Up h ∷ log) v w = went_once a b c d n log v w

went_more : (a b : Host) (n : ℕ) (c : Crossing) (log : List Crossing) → Went a b n log → Went a b n (c ∷ log)
went_more a b n (crossing.Out m) log w = inr w
went_more a b n c log w = w

drop_went : (a b : Host) (n k : ℕ) (log : List Crossing) → Went a b n (drop k log) → Went a b n log
drop_went a b n zero log w = w
drop_went a b n (suc k) [] w = w
drop_went a b n (suc k) (c ∷ log) w = went_more a b n c log (drop_went a b n k log w)

pub before_went : (a b : Host) (n stamp : ℕ) (log : List Crossing) → Went a b n (book.before stamp log) → Went a b n log
before_went a b n stamp log w = drop_went a b n _ log w

-- the last message of a flow went out
last_by : (f : Flow) (m : HostMessage) (n : ℕ) (log : List Crossing) (b : Bool) → same_flow f m.flow ≡ b → (last_out f log ≡ Some n → Went f.source f.destination n log) → (if b then Some (length log) else last_out f log) ≡ Some n
    → Went f.source f.destination n (crossing.Out m ∷ log)
last_by f m n log true e rest is =
    let same : f ≡ m.flow = same_flow-true f m.flow e in
    inl (sym (ap (place_or 0) is), ap (λ (g : Flow). g.source) same, ap (λ (g : Flow). g.destination) same)
last_by f m n log false e rest is = inr (rest is)

pub last_went : (f : Flow) (n : ℕ) (log : List Crossing) → last_out f log ≡ Some n → Went f.source f.destination n log
last_went f n [] is = absurd (let no_place : None ≡ Some n = is in cc)
last_went f n (crossing.Out m ∷ log) is = last_by f m n log _ refl (last_went f n log) is
last_went f n (crossing.In m ∷ log) is = last_went f n log is
last_went f n (crossing.Answer kind g ∷ log) is = last_went f n log is
last_went f n (crossing.Down h ∷ log) is = last_went f n log is
last_went f n (crossing.Up h ∷ log) is = last_went f n log is

-- ---- the own requests of a side went out

module _ (h p : Host) where
  abbrev pub AllWent : List Crossing → List Life → Type 0
  AllWent log [] = Unit {0}
  AllWent log (x ∷ lives) = Went h p x.own log × AllWent log lives

  abbrev pub AskedWent : List Crossing → Option ℕ → Type 0
  AskedWent log None = Unit {0}
  AskedWent log (Some n) = Went h p n log

  abbrev pub SideWent : List Crossing → Side → Type 0
  SideWent log x = AskedWent log x.end.asked × AllWent log x.lives

  abbrev MarksWent : List Crossing → List Mark → Type 0
  MarksWent log [] = Unit {0}
  MarksWent log (Ask n ∷ ms) = Went h p n log × MarksWent log ms
  MarksWent log (Close ∷ ms) = MarksWent log ms

  all_went_more : (c : Crossing) (log : List Crossing) (lives : List Life) → AllWent log lives → AllWent (c ∷ log) lives
  all_went_more c log [] w = tt
  all_went_more c log (x ∷ lives) w = (went_more h p x.own c log w.0, all_went_more c log lives w.1)

  asked_more : (c : Crossing) (log : List Crossing) (o : Option ℕ) → AskedWent log o → AskedWent (c ∷ log) o
  asked_more c log None w = tt
  asked_more c log (Some n) w = went_more h p n c log w

  opened_went : (log : List Crossing) (a q : Option ℕ) (lives : List Life) → AskedWent log a → AllWent log lives → AllWent log (lives_opened a q lives)
  opened_went log None q lives a w = w
  opened_went log (Some n) None lives a w = w
  opened_went log (Some n) (Some k) lives a w = (a, w)

  end_if : (log : List Crossing) (b : Bool) (o : Option ℕ) (e : End) → e.asked ≡ o → AskedWent log o → AskedWent log (if b then nothing else e).asked
  end_if log true o e is w = tt
  end_if log false o e is w = subst (λ (a : Option ℕ). AskedWent log a) (sym is) w

  says_went : (log : List Crossing) (ms : List Mark) (x : Side) → MarksWent log ms → SideWent log x → SideWent log (all_says ms x)
  says_went log [] x m w = w
  says_went log (Ask n ∷ ms) x m w = says_went log ms (says (Ask n) x) m.1 (m.0, opened_went log (Some n) x.end.partner _ m.0 w.1)
  says_went log (Close ∷ ms) x m w = says_went log ms (says Close x) m (end_if log _ _ _ refl w.0, w.1)

  hears_one : (log : List Crossing) (m : Mark) (x : Side) → SideWent log x → SideWent log (hears m x)
  hears_one log (Ask n) x w = by (fits (Ask n) x.end) where
    by : (b : Bool) → AskedWent log (if b then record x.end { partner = Some n } else x.end).asked × AllWent log (if b then lives_opened x.end.asked (Some n) x.lives else x.lives)
    by true = (w.0, opened_went log _ _ _ w.0 w.1)
    by false = w
  hears_one log Close x w = by (fits Close x.end) x.end.gone where
    by : (b c : Bool) → AskedWent log (if b then (if c then nothing else record x.end { taken = true }) else x.end).asked × AllWent log (if b then x.lives else x.lives)
    by true true = (tt, w.1)
    by true false = (w.0, w.1)
    by false c = (w.0, w.1)

  hears_went : (log : List Crossing) (ms : List Mark) (x : Side) → SideWent log x → SideWent log (all_hears ms x)
  hears_went log [] x w = w
  hears_went log (m ∷ ms) x w = hears_went log ms (hears m x) (hears_one log m x w)

  hears_if_went : (log : List Crossing) (b : Bool) (ms : List Mark) (x : Side) → SideWent log x → SideWent log (hears_if b ms x)
  hears_if_went log true ms x w = hears_went log ms x w
  hears_if_went log false ms x w = w

  left_went : (log : List Crossing) (keep : Bool) (x : Side) → SideWent log x → SideWent log (left_if keep x)
  left_went log true x w = w
  left_went log false x w = (tt, w.1)

  met_went : (log : List Crossing) (begin : Bool) (x : Side) → SideWent log x → SideWent log (met_if begin x)
  met_went log true x w = w
  met_went log false x w = w

  at_went : (log : List Crossing) (n : ℕ) (ms : List Mark) → AllAt n ms → Went h p n log → MarksWent log ms
  at_went log n [] a w = tt
  at_went log n (Ask k ∷ ms) a w = (subst (λ (j : ℕ). Went h p j log) (sym a.0) w, at_went log n ms a.1 w)
  at_went log n (Close ∷ ms) a w = at_went log n ms a w

  -- ---- each moment

  module _ (s : Sockets) (is_pair : IsPair s) (who : Who) (origin : ℕ → ℕ) where
    event_went : (log : List Crossing) (e : Event) (moments : List Moment) → MarksWent log (at_texts s who (stay.said_by h p 0 e)) → SideWent log (Side_of s is_pair who h p origin moments)
        → SideWent log (met_if (stay.begins h p e (law_events moments)) (before h p (at_texts s who) (at_texts s (other who)) e (law_events moments) (Side_of s is_pair who h p origin moments)))
    event_went log e moments m w =
        let x : Side = Side_of s is_pair who h p origin moments in
        let y : Side = all_says (at_texts s who (stay.said_by h p 0 e)) (Side_of s is_pair who h p origin moments) in
        let z : Side = hears_if (stay.stays h p (law_events moments)) (at_texts s (other who) (stay.heard_by p h 0 e)) y in
        met_went log (stay.begins h p e (law_events moments)) (left_if (keeps h p e (law_events moments)) z)
        (left_went log (keeps h p e (law_events moments)) z (hears_if_went log (stay.stays h p (law_events moments)) (at_texts s (other who) (stay.heard_by p h 0 e)) y
        (says_went log (at_texts s who (stay.said_by h p 0 e)) x m w)))

    out_marks : (m : HostMessage) (moments : List Moment) (b c : Bool) → same_host h m.flow.source ≡ b → same_host p m.flow.destination ≡ c
        → MarksWent (crossings_of (Crossed (crossing.Out m) ∷ moments)) (when_all b c (read_marks (place (events_of moments)) (own_of who s) (foreign_of who s) m.flow.link.0 m.text))
    out_marks m moments true true e f =
        at_went (crossings_of (Crossed (crossing.Out m) ∷ moments)) _ (read_marks (place (events_of moments)) (own_of who s) (foreign_of who s) m.flow.link.0 m.text) (read_at s is_pair who h p origin _ m.flow.link.0 m.text)
        (inl (place_same moments, same_host-true h m.flow.source e, same_host-true p m.flow.destination f))
    out_marks m moments true false e f = tt
    out_marks m moments false c e f = tt

    side_more : (c : Crossing) (log : List Crossing) (x : Side) → SideWent log x → SideWent (c ∷ log) x
    side_more c log x w = (asked_more c log _ w.0, all_went_more c log _ w.1)

    pub side_went : (moments : List Moment) → SideWent (crossings_of moments) (Side_of s is_pair who h p origin moments)
    side_went [] = (tt, tt)
    side_went (Crossed (crossing.Out m) ∷ moments) =
        event_went (crossings_of (Crossed (crossing.Out m) ∷ moments)) (placed_event (event_of (crossing.Out m)) (events_of moments)) moments
        (subst (λ (ms : List Mark). MarksWent (crossings_of (Crossed (crossing.Out m) ∷ moments)) ms)
        (sym (said_is s is_pair who h p _ _ _ _ m.text))
        (out_marks m moments _ _ refl refl))
        (side_more (crossing.Out m) (crossings_of moments) (Side_of s is_pair who h p origin moments) (side_went moments))
    side_went (Crossed c ∷ moments) =
        event_went (crossings_of (Crossed c ∷ moments)) (placed_event (event_of c) (events_of moments)) moments tt (side_more c (crossings_of moments) (Side_of s is_pair who h p origin moments) (side_went moments))
    side_went (Asked g r ∷ moments) =
        event_went (crossings_of (Asked g r ∷ moments)) _ moments
        (by_request (λ e. MarksWent (crossings_of moments) (at_texts s who (stay.said_by h p 0 (placed_event e (events_of moments))))) g r (λ peer. tt) tt) (side_went moments)
