-- A host that is through a reset takes only what went out after its last clean point.
use Rattle.reset_law.proofs.Common.{Host, same_host, Phase, Closed, Want, Gone, Heard, Ready, Box, Empty, Waiting, Taken, WaitsWith, Post, Put, Fetch, ClearAll, fetched, posted, at_link, boxes, AreOurs, Network}
use Rattle.std.proofs.Common.{◌≡◌, ◌≢◌, ◌⊎◌, ℕ, ◌+◌, ◌<◌, Bool, true, false, ◌&&◌, List, [], ◌∷◌, Option, Some, None, refl, ap, sym, subst, ◌∙◌, inl, inr, if◌then◌else◌, arith}
use Rattle.std.proofs.lemmas.Bool.{and_from}
use Rattle.interface.specs.declared.crossing.Answer.TheVariants as answer
use Rattle.interface.proofs.lemmas.{and_true}
use Rattle.ncp_control.specs.Phases.{taken_phase, failed_phase}
use Rattle.reset_law.specs.Events.{Message, Reset, Reply, Other, Event, Contact, Out, In, Told, Down, Up, Idle, Part, Call, Send, Take, Hear, Begin, when, are, place}
use Rattle.reset_law.specs.Pairs.{Pair, kind_of, pair_moved, pair}
use Rattle.reset_law.specs.Monitor.{Monitor, IsAfter, monitored, monitor}
use Rattle.reset_law.specs.Invariant.{kind_in, is_signal, InReady, Shape, Sound}
use Rattle.reset_law.specs.Runs.{IsRun, WaitsAfterClean}
use Rattle.reset_law.proofs.Links.{at}
use Rattle.reset_law.proofs.Runs.{carry, IsAlone, sound_run, alone_run, ready_up}

-- ---- clean points lie in the past

abbrev IsPast : ℕ → Option ℕ → Type 0
IsPast n None = Unit {0}
IsPast n (Some c) = c < n

past_more : (n : ℕ) (o : Option ℕ) → IsPast n o → IsPast (1 + n) o
past_more n None h = tt
past_more n (Some c) h = omega arith

past_either : (b : Bool) (n : ℕ) (o : Option ℕ) → IsPast n o → IsPast (1 + n) (if b then o else Some n)
past_either true n o h = past_more n o h
past_either false n o h = omega arith

past_other : (b : Bool) (n : ℕ) (o : Option ℕ) → IsPast n o → IsPast (1 + n) (if b then Some n else o)
past_other true n o h = omega arith
past_other false n o h = past_more n o h

past_step : (part : Part) (here : ℕ) (m : Monitor) → IsPast here m.clean → IsPast (1 + here) (monitored here (Some part) m).clean
past_step Call here m h = past_more here m.clean h
past_step (Send l Reset) here m h = past_more here m.clean h
past_step (Send l Reply) here m h = past_more here m.clean h
past_step (Send l (Other text)) here m h = past_more here m.clean h
past_step (Take Reset) here m h = past_either m.pending here m.clean h
past_step (Take Reply) here m h = past_other _ here m.clean h
past_step (Take (Other text)) here m h = past_more here m.clean h
past_step (Hear l answer.Rfnm) here m h = past_more here m.clean h
past_step (Hear l c) here m h = past_more here m.clean h
past_step Begin here m h = tt

past_if : (t : Bool) (part : Part) (here : ℕ) (m : Monitor) → IsPast here m.clean → IsPast (1 + here) (monitored here (when t part) m).clean
past_if true part here m h = past_step part here m h
past_if false part here m h = past_more here m.clean h

past_call : (t : Bool) (here : ℕ) (m : Monitor) → IsPast here m.clean → IsPast here (monitored here (when t Call) m).clean
past_call true here m h = h
past_call false here m h = h

past_run : (events : List Event) (a b : Host) → IsPast (place events) (monitor a b events).clean
past_run [] a b = tt
past_run (Contact x y ∷ events) a b = past_call _ _ _ (past_run events a b)
past_run (Out x y l message ∷ events) a b = past_if _ _ _ _ (past_run events a b)
past_run (In x y l message ∷ events) a b = past_if _ _ _ _ (past_run events a b)
past_run (Told x y l k ∷ events) a b = past_if _ _ _ _ (past_run events a b)
past_run (Down x ∷ events) a b = past_if _ Begin _ _ (past_run events a b)
past_run (Up x ∷ events) a b = past_if _ Begin _ _ (past_run events a b)
past_run (Idle ∷ events) a b = past_run events a b

-- ---- what stays ready

ready_after_rfnm : (b : Bool) (ph : Phase) → (if b then taken_phase ph else ph) ≡ Ready → ph ≡ Ready
ready_after_rfnm true Closed e = absurd (cc)
ready_after_rfnm true Want e = absurd (cc)
ready_after_rfnm true (Gone true) e = absurd (cc)
ready_after_rfnm true (Gone false) e = absurd (cc)
ready_after_rfnm true Heard e = absurd (cc)
ready_after_rfnm true Ready e = refl
ready_after_rfnm false ph e = e

ready_after_failure : (ph : Phase) (owed : Bool) → failed_phase ph owed ≡ Ready → ph ≡ Ready
ready_after_failure Heard true e = absurd (cc)
ready_after_failure Heard false e = absurd (cc)
ready_after_failure Ready owed e = refl
ready_after_failure ph owed e = absurd (cc)

-- all but RST and RRP that are taken leave a host ready only where it was, and with the same clean point
abbrev IsPlain : Part → Type 0
IsPlain (Take Reset) = ⊥
IsPlain (Take Reply) = ⊥
IsPlain part = Unit {0}

plain_ready : (part : Part) (here : ℕ) (p : Pair) (m : Monitor) → IsPlain part → (pair_moved (Some part) p).phase ≡ Ready → (p.phase ≡ Ready) × ((monitored here (Some part) m).clean ≡ m.clean)
plain_ready Call here p m plain e = absurd (cc)
plain_ready (Send l Reset) here p m plain e = absurd (cc)
plain_ready (Send l Reply) here p m plain e = (e, refl)
plain_ready (Send l (Other text)) here p m plain e = (e, refl)
plain_ready (Take Reset) here p m plain e = absurd plain
plain_ready (Take Reply) here p m plain e = absurd plain
plain_ready (Take (Other text)) here p m plain e = (e, refl)
plain_ready (Hear l answer.Rfnm) here p m plain e = (ready_after_rfnm _ p.phase e, refl)
plain_ready (Hear l c) here p m plain e = (ready_after_failure p.phase p.owed e, refl)
plain_ready Begin here p m plain e = absurd (cc)

pub still_ready : (t : Bool) (part : Part) (here : ℕ) (p : Pair) (m : Monitor) → IsPlain part → (pair_moved (when t part) p).phase ≡ Ready → (p.phase ≡ Ready) × ((monitored here (when t part) m).clean ≡ m.clean)
still_ready true part here p m plain e = plain_ready part here p m plain e
still_ready false part here p m plain e = (e, refl)

-- ---- what waits

-- whatever waits went out after this point
abbrev IsFresh : (ℕ → Box) → Option ℕ → Type 0
IsFresh bs o = (l p : ℕ) (text : List Bool) → bs l ≡ Waiting p (Other text) → IsAfter p o

pub not_waiting : (x : Box) (p : ℕ) (m : Message) → fetched x ≢ Waiting p m
not_waiting Empty p m e = absurd (cc)
not_waiting (Waiting q n) p m e = absurd (cc)
not_waiting (Taken q n) p m e = absurd (cc)

fresh_fetched : (bs : ℕ → Box) (l : ℕ) (o : Option ℕ) → IsFresh bs o → IsFresh (at_link bs l (fetched (bs l))) o
fresh_fetched bs l o h k p text e = elim (at bs l (fetched (bs l)) k) [
  | inl t ↦ absurd (not_waiting (bs l) p (Other text) (sym t.1 ∙ e))
  | inr t ↦ h k p text (sym t.1 ∙ e)
]

fresh_cleared : (bs : ℕ → Box) (l : ℕ) (o : Option ℕ) → IsFresh bs o → IsFresh (at_link bs l Empty) o
fresh_cleared bs l o h k p text e = elim (at bs l Empty k) [
  | inl t ↦ (let both : Empty ≡ Waiting p (Other text) = sym t.1 ∙ e in absurd (cc))
  | inr t ↦ h k p text (sym t.1 ∙ e)
]

fresh_put : (bs : ℕ → Box) (l here : ℕ) (m : Message) (o : Option ℕ) → IsAfter here o → IsFresh bs o → IsFresh (at_link bs l (Waiting here m)) o
fresh_put bs l here m o after h k p text e = elim (at bs l (Waiting here m) k) [
  | inl t ↦
      (let same : Waiting here m ≡ Waiting p (Other text) = sym t.1 ∙ e in
      let place : here ≡ p = cc in
      subst (λ (q : ℕ). IsAfter q o) place after)
  | inr t ↦ h k p text (sym t.1 ∙ e)
]

fresh_if : (t : Bool) (post : Post) (here : ℕ) (bs : ℕ → Box) (o : Option ℕ) → (t ≡ true → IsFresh (posted here (Some post) bs) o) → IsFresh bs o → IsFresh (posted here (when t post) bs) o
fresh_if true post here bs o f h = f refl
fresh_if false post here bs o f h = h

-- after a signal is taken nothing waits
signal_alone : (bs : ℕ → Box) (l : ℕ) (m : Message) (o : Option ℕ) → IsAlone bs → WaitsWith (bs l) m → is_signal (Some (kind_of m)) ≡ true → IsFresh (at_link bs l (fetched (bs l))) o
signal_alone bs l m o alone waits signal k p text e =
    let there : is_signal (kind_in (bs l)) ≡ true = here (bs l) waits in
    let zero : l ≡ 0 = alone.on_zero l there in
    let at_zero : is_signal (kind_in (bs 0)) ≡ true = subst (λ (j : ℕ). is_signal (kind_in (bs j)) ≡ true) zero there in
    elim (at bs l (fetched (bs l)) k) [
      | inl t ↦ absurd (not_waiting (bs l) p (Other text) (sym t.1 ∙ e))
      | inr t ↦
          (let away : k ≢ 0 = λ none. t.0 (none ∙ sym zero) in
          let both : Empty ≡ Waiting p (Other text) = sym (alone.empty at_zero k away) ∙ sym t.1 ∙ e in
          absurd (cc))
    ]
  where
    here : (x : Box) → WaitsWith x m → is_signal (kind_in x) ≡ true
    here Empty w = absurd w
    here (Waiting q n) w = ap (λ (y : Message). is_signal (Some (kind_of y))) w ∙ signal
    here (Taken q n) w = absurd w

-- ---- over whole lists of events

pub turned_about : (a b x y : Host) → are b a y x ≡ true → are a b x y ≡ true
turned_about a b x y e = let t : (same_host b y ≡ true) × (same_host a x ≡ true) = and_true (same_host b y) (same_host a x) e in and_from (same_host a x) (same_host b y) t.1 t.0

-- a host that is ready after a message is taken was ready before, with the same clean point, or took a signal
pub ready_taken : (t : Bool) (message : Message) (here : ℕ) (p : Pair) (m : Monitor) → (pair_moved (when t (Take message)) p).phase ≡ Ready
    → ((t ≡ true) × (is_signal (Some (kind_of message)) ≡ true)) ⊎ ((p.phase ≡ Ready) × ((monitored here (when t (Take message)) m).clean ≡ m.clean))
ready_taken true Reset here p m e = inl (refl, refl)
ready_taken true Reply here p m e = inl (refl, refl)
ready_taken true (Other text) here p m e = inr (e, refl)
ready_taken false message here p m e = inr (e, refl)

-- a host that is ready has a clean point, which lies in the past
point_before : (hosts : Network) (events : List Event) → IsRun hosts events → (a b : Host) → AreOurs hosts a b → (pair a b events).phase ≡ Ready → IsAfter (place events) (monitor a b events).clean
point_before hosts events r a b ours ready =
    let s : Sound (pair a b events) (monitor a b events) (boxes a b events) = sound_run hosts events r a b ours (ready_up hosts events r a b ours ready) in
    let S : Phase → Type 0 = λ ph. Shape ph (monitor a b events) (pair a b events).begun (pair a b events).out in
    let i : InReady (monitor a b events) (pair a b events).out = subst S ready s.shape in
    subst (λ (o : Option ℕ). IsAfter (place events) o) (sym i.clean) (subst (λ (o : Option ℕ). IsPast (place events) o) i.clean (past_run events a b))

fresh_run : (hosts : Network) (events : List Event) → IsRun hosts events → (a b : Host) → AreOurs hosts a b → (pair b a events).phase ≡ Ready → IsFresh (boxes a b events) (monitor b a events).clean
fresh_run hosts [] r a b ours ready = absurd (cc)
fresh_run hosts (Contact x y ∷ events) r a b ours ready =
    let t : ((pair b a events).phase ≡ Ready) × ((monitor b a (Contact x y ∷ events)).clean ≡ (monitor b a events).clean) = still_ready (are b a x y) Call (place events) (pair b a events) (monitor b a events) tt ready in
    subst (λ (o : Option ℕ). IsFresh (boxes a b events) o) (sym t.1) (fresh_run hosts events r.2 a b ours t.0)
fresh_run hosts (Out x y l message ∷ events) r a b ours ready =
    let t : ((pair b a events).phase ≡ Ready) × ((monitor b a (Out x y l message ∷ events)).clean ≡ (monitor b a events).clean) =
    still_ready (are b a x y) (Send l message) (place events) (pair b a events) (monitor b a events) tt ready in
    subst (λ (o : Option ℕ). IsFresh (boxes a b (Out x y l message ∷ events)) o) (sym t.1)
    (fresh_if (are a b x y) (Put l message) (place events) (boxes a b events) (monitor b a events).clean
    (λ e. fresh_put (boxes a b events) l (place events) message (monitor b a events).clean (point_before hosts events r.2 b a (ours.1, ours.0) t.0) (fresh_run hosts events r.2 a b ours t.0))
    (fresh_run hosts events r.2 a b ours t.0))
fresh_run hosts (In x y l message ∷ events) r a b ours ready = elim (ready_taken (are b a y x) message (place events) (pair b a events) (monitor b a events) ready) [
  | inl s ↦
      (let same : are a b x y ≡ true = turned_about a b x y s.0 in
      let waits : WaitsWith (boxes a b events l) message = carry (λ v w. WaitsWith (boxes v w events l) message) a b x y same r.0.1 in
      rw same (signal_alone (boxes a b events) l message (monitor b a (In x y l message ∷ events)).clean (alone_run hosts events r.2 a b ours) waits s.1))
  | inr t ↦
      subst (λ (o : Option ℕ). IsFresh (boxes a b (In x y l message ∷ events)) o) (sym t.1)
      (fresh_if (are a b x y) (Fetch l) (place events) (boxes a b events) (monitor b a events).clean
      (λ e. fresh_fetched (boxes a b events) l (monitor b a events).clean (fresh_run hosts events r.2 a b ours t.0))
      (fresh_run hosts events r.2 a b ours t.0))
]
fresh_run hosts (Told x y l k ∷ events) r a b ours ready =
    let t : ((pair b a events).phase ≡ Ready) × ((monitor b a (Told x y l k ∷ events)).clean ≡ (monitor b a events).clean) =
    still_ready _ _ _ _ _ tt ready in
    subst (λ (o : Option ℕ). IsFresh (boxes a b (Told x y l k ∷ events)) o) (sym t.1)
    (fresh_if _ _ _ _ _
    (λ e. fresh_cleared (boxes a b events) l (monitor b a events).clean (fresh_run hosts events r.2 a b ours t.0))
    (fresh_run hosts events r.2 a b ours t.0))
fresh_run hosts (Down x ∷ events) r a b ours ready =
    let t : ((pair b a events).phase ≡ Ready) × ((monitor b a (Down x ∷ events)).clean ≡ (monitor b a events).clean) = still_ready _ Begin _ _ _ tt ready in
    subst (λ (o : Option ℕ). IsFresh (boxes a b events) o) (sym t.1) (fresh_run hosts events r.2 a b ours t.0)
fresh_run hosts (Up x ∷ events) r a b ours ready =
    let t : ((pair b a events).phase ≡ Ready) × ((monitor b a (Up x ∷ events)).clean ≡ (monitor b a events).clean) = still_ready _ Begin _ _ _ tt ready in
    subst (λ (o : Option ℕ). IsFresh (boxes a b (Up x ∷ events)) o) (sym t.1)
    (fresh_if _ ClearAll _ _ _ (λ e l p text waits. absurd (cc)) (fresh_run hosts events r.2 a b ours t.0))
fresh_run hosts (Idle ∷ events) r a b ours ready = fresh_run hosts events r.2 a b ours ready

-- the box of a message that is taken
waiting : (x : Box) (m : Message) → WaitsWith x m → (p : ℕ) × (x ≡ Waiting p m)
waiting Empty m w = absurd w
waiting (Waiting p n) m w = (p, ap (λ (y : Message). Waiting p y) w)
waiting (Taken p n) m w = absurd w

pub clean_run : (hosts : Network) (events : List Event) (a b : Host) (l : ℕ) (text : List Bool) → AreOurs hosts a b → IsRun hosts (In a b l (Other text) ∷ events) → (pair b a events).phase ≡ Ready
    → WaitsAfterClean a b l text events
clean_run hosts events a b l text ours r ready =
    let w : (p : ℕ) × (boxes a b events l ≡ Waiting p (Other text)) = waiting _ _ r.0.1 in
    record { place = w.0; waits = w.1; after = fresh_run hosts events r.2 a b ours ready l w.0 text w.1 }
