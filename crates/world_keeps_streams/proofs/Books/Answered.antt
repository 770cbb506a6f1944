-- Data whose sender got RFNM have arrived where they came for a receiving life.
use Rattle.world_keeps_streams.proofs.Common.{◌≡◌, ℕ, Bool, true, false, List, [], ◌∷◌, ◌++◌, length, refl, ap, sym, subst, ◌∙◌, Seen, Host, same_host, SinceLastOut, taken_in, went_out, Flow, Crossing, HostMessage, same_flow-true, waits_with, IsLawful, Asked, Crossed, Moment, crossings_of, WorldState, Network, AreOurs, all_ours}
use Rattle.interface.specs.Mailboxes.{box_of, Box, Empty, Fits, IsRun, Taken, Waiting, fetched, same_flow}
use Rattle.interface.specs.declared.crossing.Answer.TheVariants as answer
use Rattle.interface.specs.declared.crossing.Crossing.TheVariants as crossing
use Rattle.world_keeps_streams.specs.Answered.{AllAnswered, HasArrived}
use Rattle.world_keeps_streams.proofs.Books.Arrives.{arrives, rest_lawful}
use Rattle.world_keeps_streams.proofs.Requests.Sides.{Lawful, below, book_lawful}
use Rattle.world_keeps_streams.proofs.Ours.{ours_of}

-- ---- a message that waits

-- a flow's last message out hasn't been taken, and this is its text
pub record Waits (f : Flow) (text : List Bool) (log : List Crossing) : Type 0 where
  pub out : SinceLastOut f log
  pub text_is : out.message.text ≡ text
  pub untaken : taken_in f out.since ≡ []

waits_more : (f : Flow) (text : List Bool) (c : Crossing) (log : List Crossing) → ((since : List Crossing) → went_out f (c ∷ since) ≡ went_out f since)
    → ((since : List Crossing) → taken_in f (c ∷ since) ≡ taken_in f since) → Waits f text log → Waits f text (c ∷ log)
waits_more f text c log out_same in_same w = record {
  out = record {
    since = c ∷ w.out.since;
    message = w.out.message;
    before = w.out.before;
    parts = ap (λ (xs : List Crossing). c ∷ xs) w.out.parts;
    flow = w.out.flow;
    last = out_same w.out.since ∙ w.out.last;
  };
  text_is = w.text_is;
  untaken = in_same w.out.since ∙ w.untaken;
}

text_waits : (p q : ℕ) (s t : List Bool) → Waiting p s ≡ Waiting q t → s ≡ t
text_waits p q s t e = ap text_in e where
  text_in : Box → List Bool
  text_in Empty = []
  text_in (Waiting place text) = text
  text_in (Taken place text) = []

pub not_empty : {X : Type 0} (p : ℕ) (s : List Bool) → Empty ≡ Waiting p s → X
not_empty p s e = absurd (cc)

pub not_fetched : {X : Type 0} (p : ℕ) (s : List Bool) (box : Box) → fetched box ≡ Waiting p s → X
not_fetched p s Empty e = absurd (cc)
not_fetched p s (Waiting q t) e = absurd (cc)
not_fetched p s (Taken q t) e = absurd (cc)

pub waiting : (f : Flow) (log : List Crossing) (place : ℕ) (text : List Bool) → box_of f log ≡ Waiting place text → Waits f text log
waiting f [] place text e = absurd (cc)
waiting f (crossing.Out m ∷ log) place text e = by (same_flow f m.flow) refl (λ now. waiting f log place text now) where
  by : (v : Bool) → same_flow f m.flow ≡ v → (box_of f log ≡ Waiting place text → Waits f text log) → Waits f text (crossing.Out m ∷ log)
  by true is rest =
      let now : Waiting (length log) m.text ≡ Waiting place text = rw is at e in
      record {
        out = record { since = []; message = m; before = log; parts = refl; flow = sym (same_flow-true f m.flow is); last = refl };
        text_is = text_waits (length log) place m.text text now;
        untaken = refl;
      }
  by false is rest = waits_more f text (crossing.Out m) log (λ since. rw is refl) (λ since. refl) (rest (rw is at e))
waiting f (crossing.In m ∷ log) place text e = by (same_flow f m.flow) refl (λ now. waiting f log place text now) where
  by : (v : Bool) → same_flow f m.flow ≡ v → (box_of f log ≡ Waiting place text → Waits f text log) → Waits f text (crossing.In m ∷ log)
  by true is rest = not_fetched place text (box_of f log) (rw is at e)
  by false is rest = waits_more f text (crossing.In m) log (λ since. refl) (λ since. rw is refl) (rest (rw is at e))
waiting f (crossing.Answer kind g ∷ log) place text e = by (same_flow f g) refl (λ now. waiting f log place text now) where
  by : (v : Bool) → same_flow f g ≡ v → (box_of f log ≡ Waiting place text → Waits f text log) → Waits f text (crossing.Answer kind g ∷ log)
  by true is rest = not_empty place text (rw is at e)
  by false is rest = waits_more f text (crossing.Answer kind g) log (λ since. refl) (λ since. refl) (rest (rw is at e))
waiting f (crossing.Down h ∷ log) place text e = waits_more f text (crossing.Down h) log (λ since. refl) (λ since. refl) (waiting f log place text e)
waiting f (crossing.Up h ∷ log) place text e = by (same_host f.source h) refl (λ now. waiting f log place text now) where
  by : (v : Bool) → same_host f.source h ≡ v → (box_of f log ≡ Waiting place text → Waits f text log) → Waits f text (crossing.Up h ∷ log)
  by true is rest = not_empty place text (rw is at e)
  by false is rest = waits_more f text (crossing.Up h) log (λ since. refl) (λ since. refl) (rest (rw is at e))

-- ---- one that was taken

-- it was taken at one of these moments, and none went out or was taken since
record WasTaken (f : Flow) (moments : List Moment) : Type 0 where
  message : HostMessage
  since : List Moment
  before : List Moment
  is : moments ≡ since ++ Crossed (crossing.In message) ∷ before
  flow : f ≡ message.flow
  out : Waits f message.text (crossings_of before)
  last : went_out f (crossings_of since) ≡ false
  once : taken_in f (crossings_of since) ≡ []

taken_more : (f : Flow) (y : Moment) (ms : List Moment) → ((since : List Moment) → went_out f (crossings_of (y ∷ since)) ≡ went_out f (crossings_of since))
    → ((since : List Moment) → taken_in f (crossings_of (y ∷ since)) ≡ taken_in f (crossings_of since)) → WasTaken f ms → WasTaken f (y ∷ ms)
taken_more f y ms out_same in_same w = record {
  message = w.message;
  since = y ∷ w.since;
  before = w.before;
  is = ap (λ (xs : List Moment). y ∷ xs) w.is;
  flow = w.flow;
  out = w.out;
  last = out_same w.since ∙ w.last;
  once = in_same w.since ∙ w.once;
}

empty_taken : {X : Type 0} (p : ℕ) (s : List Bool) → Empty ≡ Taken p s → X
empty_taken p s e = absurd (cc)

waiting_taken : {X : Type 0} (p q : ℕ) (s t : List Bool) → Waiting q t ≡ Taken p s → X
waiting_taken p q s t e = absurd (cc)

taken : (hosts : List Host) (f : Flow) (ms : List Moment) → IsRun hosts (crossings_of ms) → (place : ℕ) (text : List Bool) → box_of f (crossings_of ms) ≡ Taken place text → WasTaken f ms
taken hosts f [] run place text e = empty_taken place text e
taken hosts f (Asked h r ∷ ms) run place text e = taken_more f (Asked h r) ms (λ since. refl) (λ since. refl) (taken hosts f ms run place text e)
taken hosts f (Crossed (crossing.Out m) ∷ ms) run place text e = by (same_flow f m.flow) refl (λ now. taken hosts f ms run.1 place text now) where
  by : (v : Bool) → same_flow f m.flow ≡ v → (box_of f (crossings_of ms) ≡ Taken place text → WasTaken f ms) → WasTaken f (Crossed (crossing.Out m) ∷ ms)
  by true is rest = waiting_taken place (length (crossings_of ms)) text m.text (rw is at e)
  by false is rest = taken_more f (Crossed (crossing.Out m)) ms (λ since. rw is refl) (λ since. refl) (rest (rw is at e))
taken hosts f (Crossed (crossing.In m) ∷ ms) run place text e = by (same_flow f m.flow) refl (λ now. taken hosts f ms run.1 place text now) where
  by : (v : Bool) → same_flow f m.flow ≡ v → (box_of f (crossings_of ms) ≡ Taken place text → WasTaken f ms) → WasTaken f (Crossed (crossing.In m) ∷ ms)
  by true is rest =
      let same : f ≡ m.flow = same_flow-true f m.flow is in
      let w : (p : ℕ) × (box_of m.flow (crossings_of ms) ≡ Waiting p m.text) = waits_with (box_of m.flow (crossings_of ms)) m.text run.0.1 in
      record {
        message = m;
        since = [];
        before = ms;
        is = refl;
        flow = same;
        out = waiting f (crossings_of ms) w.0 m.text (ap (λ (g : Flow). box_of g (crossings_of ms)) same ∙ w.1);
        last = refl;
        once = refl;
      }
  by false is rest = taken_more f (Crossed (crossing.In m)) ms (λ since. refl) (λ since. rw is refl) (rest (rw is at e))
taken hosts f (Crossed (crossing.Answer kind g) ∷ ms) run place text e = by (same_flow f g) refl (λ now. taken hosts f ms run.1 place text now) where
  by : (v : Bool) → same_flow f g ≡ v → (box_of f (crossings_of ms) ≡ Taken place text → WasTaken f ms) → WasTaken f (Crossed (crossing.Answer kind g) ∷ ms)
  by true is rest = empty_taken place text (rw is at e)
  by false is rest = taken_more f (Crossed (crossing.Answer kind g)) ms (λ since. refl) (λ since. refl) (rest (rw is at e))
taken hosts f (Crossed (crossing.Down h) ∷ ms) run place text e = taken_more f (Crossed (crossing.Down h)) ms (λ since. refl) (λ since. refl) (taken hosts f ms run.1 place text e)
taken hosts f (Crossed (crossing.Up h) ∷ ms) run place text e = by (same_host f.source h) refl (λ now. taken hosts f ms run.1 place text now) where
  by : (v : Bool) → same_host f.source h ≡ v → (box_of f (crossings_of ms) ≡ Taken place text → WasTaken f ms) → WasTaken f (Crossed (crossing.Up h) ∷ ms)
  by true is rest = empty_taken place text (rw is at e)
  by false is rest = taken_more f (Crossed (crossing.Up h)) ms (λ since. refl) (λ since. refl) (rest (rw is at e))

-- ---- what RFNM means

fits : (box : Box) → Fits answer.Rfnm box → (place : ℕ) × (text : List Bool) × (box ≡ Taken place text)
fits Empty h = absurd h
fits (Waiting place text) h = absurd h
fits (Taken place text) h = (place, text, refl)

same_message : (m n : HostMessage) → m.flow ≡ n.flow → m.text ≡ n.text → m ≡ n
same_message m n flow text =
    ap (λ (g : Flow). let k : HostMessage = record { flow = g; text = m.text } in k) flow ∙ ap (λ (t : List Bool). let k : HostMessage = record { flow = n.flow; text = t } in k) text

pub answered : (hosts : Network) (ms : List Moment) (f : Flow) → AreOurs hosts f.source f.destination
    → Lawful hosts (Crossed (crossing.Answer answer.Rfnm f) ∷ ms) → HasArrived f ms
answered hosts ms f ours l =
    let older : Lawful hosts ms = below hosts (Crossed (crossing.Answer answer.Rfnm f)) ms l in
    let t : (place : ℕ) × (text : List Bool) × (box_of f (crossings_of ms) ≡ Taken place text) = fits (box_of f (crossings_of ms)) l.1.0.1 in
    let w : WasTaken f ms = taken hosts.all f ms older.1 t.0 t.1 t.2 in
    let k : Lawful hosts (Crossed (crossing.In w.message) ∷ w.before) = rest_lawful hosts w.since (Crossed (crossing.In w.message) ∷ w.before) (subst (λ (ns : List Moment). Lawful hosts ns) w.is older) in
    record {
      message = w.message;
      since = w.since;
      before = w.before;
      is = w.is;
      out = w.out.out;
      whole = same_message w.out.out.message w.message (w.out.out.flow ∙ w.flow) w.out.text_is;
      untaken = w.out.untaken;
      last = w.last;
      once = w.once;
      arrives = λ x c. arrives hosts k.0 w.message w.before k.1 k.2 x (ours_of hosts x f.destination f.source (ours.1, ours.0) (c.host ∙ ap (λ (g : Flow). g.destination) (sym w.flow), c.peer ∙ ap (λ (g : Flow). g.source) (sym w.flow))) c;
    }

all_answered : (hosts : Network) (ms : List Moment) → Lawful hosts ms → (f : Flow) (later earlier : List Moment)
    → ms ≡ later ++ Crossed (crossing.Answer answer.Rfnm f) ∷ earlier → AreOurs hosts f.source f.destination
    → HasArrived f earlier
all_answered hosts ms l f later earlier is ours =
    answered hosts earlier f ours (rest_lawful hosts later (Crossed (crossing.Answer answer.Rfnm f) ∷ earlier) (subst (λ (ns : List Moment). Lawful hosts ns) is l))

pub world_answered : {C : Type 0} (seen : C → Seen) (hosts : List Host) (w : WorldState C) → (lawful : IsLawful seen hosts w) → AllAnswered lawful.whole.moments
world_answered seen hosts w lawful f later earlier is off = all_answered (all_ours hosts) lawful.whole.moments (book_lawful seen hosts w lawful) f later earlier is (refl, refl)
