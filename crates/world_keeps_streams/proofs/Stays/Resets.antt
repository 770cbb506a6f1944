-- What the law of resets says of a stay: how it begins, who says what in it, and what is outstanding.
use Rattle.world_keeps_streams.proofs.Common.{Host, is_busy, PairState, kind_in, is_signal, Agrees, keeps, AreOurs, Network}
use Rattle.std.proofs.Common.{◌≡◌, ℕ, Bool, true, false, not, ◌&&◌, ◌||◌, ◌==◌, List, [], ◌∷◌, Option, Some, None, is_some, refl, ap, sym, ◌∙◌, eq-eqb, ◌≢◌}
use Rattle.reset_law.specs.Events.{Other, Event, Out, Reset, Reply, is_up}
use Rattle.reset_law.specs.Boxes.{boxes, Box, Empty, Waiting, Taken}
use Rattle.reset_law.specs.Pairs.{pair, Plain, Kind, Rst, Rrp}
use Rattle.reset_law.specs.Stays.{ready, begins, takes_reset, joint, stays}
use Rattle.reset_law.proofs.lemmas.{NoPlain, alone_run, begin_quiet, contradicts, ready_phase, sound_run, stays_ready, empty_kind, joint_stays, phase_ready, ready_up}
use Rattle.reset_law.specs.Runs.{IsRun}
use Rattle.world_keeps_streams.proofs.Steps.Joined.{commands_in}

-- who says something outside of a stay has a peer that isn't in one
pub out_alone : (hosts : Network) (a b : Host) → AreOurs hosts a b → (l : ℕ) (text : List Bool) (events : List Event) → IsRun hosts (Out a b l (Other text) ∷ events) → stays a b events ≡ false → stays b a events ≡ false
out_alone hosts a b ours l text events r left = by (stays b a events) refl where
  by : (v : Bool) → stays b a events ≡ v → stays b a events ≡ false
  by false e = e
  by true e =
      let both : joint a b events ≡ true = rw (phase_ready _ (r.1 ours).0, stays_ready events b a e) refl in
      absurd (contradicts (stays a b events) (joint_stays hosts events r.2 a b ours both) left)

-- ---- events with which a stay continues, or ends

stays_parts : (t r k s : Bool) → (t || (r && not k && s)) ≡ true → t ≡ false → ((r && not k) ≡ true) × (s ≡ true)
stays_parts true r k s e f = absurd (cc)
stays_parts false true true s e f = absurd (cc)
stays_parts false true false s e f = (refl, e)
stays_parts false false k s e f = absurd (cc)

-- a stay that continues was one before, and is kept
pub stays_on : (a b : Host) (e : Event) (events : List Event) → stays a b (e ∷ events) ≡ true → begins a b e events ≡ false → (keeps a b e events ≡ true) × (stays a b events ≡ true)
stays_on a b e events s old = stays_parts _ _ _ _ s old

pub goes_on : (a b : Host) (e : Event) (events : List Event) → keeps a b e events ≡ true → stays a b events ≡ true → stays a b (e ∷ events) ≡ true
goes_on a b e events k s = by (begins a b e events) (ready a b (e ∷ events)) (takes_reset a b e) (stays a b events) k s where
  by : (t r k s : Bool) → (r && not k) ≡ true → s ≡ true → (t || (r && not k && s)) ≡ true
  by true r k s e f = refl
  by false true true s e f = absurd (cc)
  by false true false s e f = f
  by false false k s e f = absurd (cc)

pub leaves_by : (a b : Host) (e : Event) (events : List Event) → stays a b events ≡ true → stays a b (e ∷ events) ≡ false → keeps a b e events ≡ false
leaves_by a b e events s left = by (keeps a b e events) refl where
  by : (v : Bool) → keeps a b e events ≡ v → keeps a b e events ≡ false
  by false k = k
  by true k = absurd (contradicts (stays a b (e ∷ events)) (goes_on a b e events k s) left)

-- outside of a stay nothing but its beginning leads into one
pub stays_out : (a b : Host) (e : Event) (events : List Event) → stays a b events ≡ false → begins a b e events ≡ false → stays a b (e ∷ events) ≡ false
stays_out a b e events left old = by (begins a b e events) (ready a b (e ∷ events)) (takes_reset a b e) (stays a b events) old left where
  by : (t r k s : Bool) → t ≡ false → s ≡ false → (t || (r && not k && s)) ≡ false
  by true r k s e f = absurd (cc)
  by false true true s e f = refl
  by false true false s e f = f
  by false false k s e f = refl

pub begins_stays : (a b : Host) (e : Event) (events : List Event) → begins a b e events ≡ true → stays a b (e ∷ events) ≡ true
begins_stays a b e events begun = by (begins a b e events) begun where
  by : (t : Bool) → t ≡ true → (t || (ready a b (e ∷ events) && not (takes_reset a b e) && stays a b events)) ≡ true
  by true f = refl
  by false f = absurd (cc)

-- ---- what is outstanding where a stay begins

no_commands : (x : Box) → kind_in x ≢ Some Plain → commands_in x ≡ []
no_commands Empty none = refl
no_commands (Waiting p Reset) none = refl
no_commands (Waiting p Reply) none = refl
no_commands (Waiting p (Other text)) none = absurd (none refl)
no_commands (Taken p m) none = refl

-- on a connection's link nothing is outstanding but texts
away_empty : (hosts : Network) (events : List Event) → IsRun hosts events → (a b : Host) → AreOurs hosts a b → (l : ℕ) → (l == 0) ≡ false → kind_in (boxes a b events l) ≢ Some Plain → boxes a b events l ≡ Empty
away_empty hosts events r a b ours l off none = empty_kind _ (by (kind_in (boxes a b events l)) refl) where
  signal : (k : Kind) → is_signal (Some k) ≡ true → kind_in (boxes a b events l) ≡ Some k → ⊥
  signal k is e = contradicts (l == 0) (eq-eqb l 0 ((alone_run hosts events r a b ours).on_zero l (ap is_signal e ∙ is))) off

  by : (k : Option Kind) → kind_in (boxes a b events l) ≡ k → kind_in (boxes a b events l) ≡ None
  by None e = e
  by (Some Plain) e = absurd (none e)
  by (Some Rst) e = absurd (signal Rst refl e)
  by (Some Rrp) e = absurd (signal Rrp refl e)

pub free_links : (hosts : Network) (e : Event) (events : List Event) → IsRun hosts (e ∷ events) → (a b : Host) → AreOurs hosts a b → begins a b e events ≡ true → (l : ℕ) → (l == 0) ≡ false
    → (boxes a b (e ∷ events) l ≡ Empty) × (boxes b a (e ∷ events) l ≡ Empty)
free_links hosts e events r a b ours begun l off =
    let q : NoPlain (boxes a b (e ∷ events)) × NoPlain (boxes b a (e ∷ events)) = begin_quiet hosts e events r a b ours begun in
    (away_empty hosts (e ∷ events) r a b ours l off (q.0 l), away_empty hosts (e ∷ events) r b a (ours.1, ours.0) l off (q.1 l))

pub free_control : (hosts : Network) (e : Event) (events : List Event) → IsRun hosts (e ∷ events) → (a b : Host) → AreOurs hosts a b → begins a b e events ≡ true
    → (commands_in (boxes a b (e ∷ events) 0) ≡ []) × (commands_in (boxes b a (e ∷ events) 0) ≡ [])
free_control hosts e events r a b ours begun =
    let q : NoPlain (boxes a b (e ∷ events)) × NoPlain (boxes b a (e ∷ events)) = begin_quiet hosts e events r a b ours begun in
    (no_commands _ (q.0 0), no_commands _ (q.1 0))

-- ---- what a host that is up knows of its boxes

box_free : (hosts : Network) (events : List Event) → IsRun hosts events → (a b : Host) → AreOurs hosts a b → is_up hosts.all a events ≡ true → (l : ℕ) → (pair a b events).out l ≡ None → boxes a b events l ≡ Empty
box_free hosts events r a b ours up l none = empty_kind _ (sym ((sound_run hosts events r a b ours up).outstanding.boxed l) ∙ none)

-- the same, by its program
pub box_busy : (hosts : Network) (events : List Event) → IsRun hosts events → (a b : Host) → AreOurs hosts a b → is_up hosts.all a events ≡ true → (q : PairState) → Agrees q (pair a b events) → (l : ℕ) → is_busy q.busy l ≡ false → boxes a b events l ≡ Empty
box_busy hosts events r a b ours up q agrees l free = box_free hosts events r a b ours up l (by ((pair a b events).out l) refl) where
  by : (o : Option Kind) → (pair a b events).out l ≡ o → (pair a b events).out l ≡ None
  by None e = e
  by (Some k) e = absurd (contradicts (is_busy q.busy l) (sym (agrees.busy l) ∙ ap is_some e) free)

-- a host that is ready is up
pub up_ready : (hosts : Network) (events : List Event) → IsRun hosts events → (a b : Host) → AreOurs hosts a b → ready a b events ≡ true → is_up hosts.all a events ≡ true
up_ready hosts events r a b ours e = ready_up hosts events r a b ours (ready_phase _ e)
