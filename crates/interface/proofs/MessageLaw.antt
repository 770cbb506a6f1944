-- From a run of the mailboxes only: messages are answered and taken as they should be.
use Rattle.std.proofs.Common.{◌≡◌, ℕ, Bool, true, false, List, [], ◌∷◌, ◌++◌, length, refl, ap, sym, subst, ◌∙◌, inl, inr, ◌⊎◌, if◌then◌else◌}
use Rattle.interface.specs.Host.{Host, same_host}
use Rattle.interface.specs.Mailboxes.{Box, Empty, Waiting, Taken, WaitsWith, Fits, fetched, box_of, same_flow, IsRun}
use Rattle.interface.specs.Messages.{taken_in, went_out, SinceLastOut, TakenOnce, SafeMessages}
use Rattle.interface.specs.declared.address.Flow.{Flow}
use Rattle.interface.specs.declared.crossing.Answer.TheVariants as answer
use Rattle.interface.specs.declared.crossing.Crossing.{Crossing}
use Rattle.interface.specs.declared.crossing.Crossing.TheVariants as crossing
use Rattle.interface.specs.declared.message.HostMessage.{HostMessage}
use Rattle.interface.proofs.Lists.{or_false, same_flow-true, same_flow-refl}

-- the older part of a run is a run too
pub run_below : (hosts : List Host) (newer older : List Crossing) → IsRun hosts (newer ++ older) → IsRun hosts older
run_below hosts [] older r = r
run_below hosts (c ∷ newer) older r = run_below hosts newer older r.1

-- ---- before the first message out

pub record Quiet (box : Box) (texts : List (List Bool)) : Type 0 where
  pub empty : box ≡ Empty
  pub none : texts ≡ []

-- the box, and what was taken in some part of the log, after one crossing more
pub quiet_in : (f : Flow) (m : HostMessage) (log part : List Crossing) → WaitsWith (box_of m.flow log) m.text → Quiet (box_of f log) (taken_in f part)
    → (b : Bool) → same_flow f m.flow ≡ b → Quiet (box_of f (crossing.In m ∷ log)) (taken_in f (crossing.In m ∷ part))
quiet_in f m log part needs q true e =
    let P : Flow → Type 0 = λ g. WaitsWith (box_of g log) m.text in
    let here : WaitsWith (box_of f log) m.text = subst P (sym (same_flow-true f m.flow e)) needs in
    let Q : Box → Type 0 = λ x. WaitsWith x m.text in
    absurd (subst Q q.empty here)
quiet_in f m log part needs q false e = rw e q

pub quiet_if : (b : Bool) (box : Box) → box ≡ Empty → (if b then Empty else box) ≡ Empty
quiet_if true box e = refl
quiet_if false box e = e

pub quiet_out : (b : Bool) (place : ℕ) (text : List Bool) (box : Box) → b ≡ false → box ≡ Empty → (if b then Waiting place text else box) ≡ Empty
quiet_out true place text box n e = absurd (cc)
quiet_out false place text box n e = e

quiet_run : (hosts : List Host) (f : Flow) (log : List Crossing) → IsRun hosts log → went_out f log ≡ false → Quiet (box_of f log) (taken_in f log)
quiet_run hosts f [] r n = record { empty = refl; none = refl }
quiet_run hosts f (crossing.Out m ∷ log) r n =
    let t = or_false (same_flow f m.flow) (went_out f log) n in
    let q = quiet_run hosts f log r.1 t.1 in
    record { empty = quiet_out (same_flow f m.flow) (length log) m.text (box_of f log) t.0 q.empty; none = q.none }
quiet_run hosts f (crossing.In m ∷ log) r n = quiet_in f m log log r.0.1 (quiet_run hosts f log r.1 n) (same_flow f m.flow) refl
quiet_run hosts f (crossing.Answer k g ∷ log) r n =
    let q = quiet_run hosts f log r.1 n in record { empty = quiet_if (same_flow f g) (box_of f log) q.empty; none = q.none }
quiet_run hosts f (crossing.Down h ∷ log) r n = quiet_run hosts f log r.1 n
quiet_run hosts f (crossing.Up h ∷ log) r n =
    let q = quiet_run hosts f log r.1 n in record { empty = quiet_if (same_host f.source h) (box_of f log) q.empty; none = q.none }

-- ---- since the last message out

-- what was taken since a message with this text went out, by the box
abbrev pub Tells : Box → List Bool → List (List Bool) → Type 0
Tells Empty text taken = (taken ≡ []) ⊎ (taken ≡ text ∷ [])
Tells (Waiting place kept) text taken = (kept ≡ text) × (taken ≡ [])
Tells (Taken place kept) text taken = taken ≡ text ∷ []

-- whatever the box, nothing or the one text was taken
at_most_once : (box : Box) (text : List Bool) (taken : List (List Bool)) → Tells box text taken → (taken ≡ []) ⊎ (taken ≡ text ∷ [])
at_most_once Empty text taken h = h
at_most_once (Waiting place kept) text taken h = inl h.1
at_most_once (Taken place kept) text taken h = inr h

tells_in : (box : Box) (text other : List Bool) (taken : List (List Bool)) → WaitsWith box other → Tells box text taken → Tells (fetched box) text (other ∷ taken)
tells_in Empty text other taken holds h = absurd holds
tells_in (Waiting place kept) text other taken holds h =
    ap (λ (x : List Bool). x ∷ taken) (sym holds ∙ h.0) ∙ ap (λ (x : List (List Bool)). text ∷ x) h.1
tells_in (Taken place kept) text other taken holds h = absurd holds

tells_if : (b : Bool) (box : Box) (text : List Bool) (taken : List (List Bool)) → Tells box text taken → Tells (if b then Empty else box) text taken
tells_if true box text taken h = at_most_once box text taken h
tells_if false box text taken h = h

tells_more_in : (f : Flow) (m : HostMessage) (log since : List Crossing) (text : List Bool) → WaitsWith (box_of m.flow log) m.text → Tells (box_of f log) text (taken_in f since)
    → (b : Bool) → same_flow f m.flow ≡ b → Tells (box_of f (crossing.In m ∷ log)) text (taken_in f (crossing.In m ∷ since))
tells_more_in f m log since text needs h true e =
    let P : Flow → Type 0 = λ g. WaitsWith (box_of g log) m.text in
    rw e (tells_in (box_of f log) text m.text (taken_in f since) (subst P (sym (same_flow-true f m.flow e)) needs) h)
tells_more_in f m log since text needs h false e = rw e h

tells_more_out : (f : Flow) (m : HostMessage) (log since : List Crossing) (text : List Bool) → same_flow f m.flow ≡ false → Tells (box_of f log) text (taken_in f since)
    → Tells (box_of f (crossing.Out m ∷ log)) text (taken_in f since)
tells_more_out f m log since text e h = rw e h

pub tells_run : (hosts : List Host) (f : Flow) (since : List Crossing) (m : HostMessage) (before : List Crossing) → m.flow ≡ f
    → IsRun hosts (since ++ crossing.Out m ∷ before) → went_out f since ≡ false → Tells (box_of f (since ++ crossing.Out m ∷ before)) m.text (taken_in f since)
tells_run hosts f [] m before e r n =
    let same : same_flow f m.flow ≡ true = ap (λ (g : Flow). same_flow f g) e ∙ same_flow-refl f in rw same (refl, refl)
tells_run hosts f (crossing.Out x ∷ since) m before e r n =
    let t = or_false (same_flow f x.flow) (went_out f since) n in
    tells_more_out f x (since ++ crossing.Out m ∷ before) since m.text t.0 (tells_run hosts f since m before e r.1 t.1)
tells_run hosts f (crossing.In x ∷ since) m before e r n =
    tells_more_in f x (since ++ crossing.Out m ∷ before) since m.text r.0.1 (tells_run hosts f since m before e r.1 n) (same_flow f x.flow) refl
tells_run hosts f (crossing.Answer k g ∷ since) m before e r n =
    tells_if (same_flow f g) (box_of f (since ++ crossing.Out m ∷ before)) m.text (taken_in f since) (tells_run hosts f since m before e r.1 n)
tells_run hosts f (crossing.Down h ∷ since) m before e r n = tells_run hosts f since m before e r.1 n
tells_run hosts f (crossing.Up h ∷ since) m before e r n =
    tells_if (same_host f.source h) (box_of f (since ++ crossing.Out m ∷ before)) m.text (taken_in f since) (tells_run hosts f since m before e r.1 n)

-- ---- the last message out

-- one more crossing, which isn't a message out of the flow
since_more : (f : Flow) (c : Crossing) (log : List Crossing) → ((since : List Crossing) → went_out f since ≡ false → went_out f (c ∷ since) ≡ false) → SinceLastOut f log → SinceLastOut f (c ∷ log)
since_more f c log keeps s = record {
  since = c ∷ s.since;
  message = s.message;
  before = s.before;
  parts = ap (λ (xs : List Crossing). c ∷ xs) s.parts;
  flow = s.flow;
  last = keeps s.since s.last;
}

found_out : (f : Flow) (m : HostMessage) (log : List Crossing) → (went_out f log ≡ false) ⊎ SinceLastOut f log → (b : Bool) → same_flow f m.flow ≡ b
    → (went_out f (crossing.Out m ∷ log) ≡ false) ⊎ SinceLastOut f (crossing.Out m ∷ log)
found_out f m log rest true e = inr (record { since = []; message = m; before = log; parts = refl; flow = sym (same_flow-true f m.flow e); last = refl })
found_out f m log rest false e = elim rest [
  | inl none ↦ inl (rw e none)
  | inr s ↦ inr (since_more f (crossing.Out m) log (λ since n. rw e n) s)
]

passes_by : (f : Flow) (c : Crossing) (log : List Crossing) → ((since : List Crossing) → went_out f since ≡ false → went_out f (c ∷ since) ≡ false)
    → (went_out f log ≡ false) ⊎ SinceLastOut f log → (went_out f (c ∷ log) ≡ false) ⊎ SinceLastOut f (c ∷ log)
passes_by f c log keeps rest = elim rest [ inl none ↦ inl (keeps log none) | inr s ↦ inr (since_more f c log keeps s) ]

pub last_out : (f : Flow) (log : List Crossing) → (went_out f log ≡ false) ⊎ SinceLastOut f log
last_out f [] = inl refl
last_out f (crossing.Out m ∷ log) = found_out f m log (last_out f log) (same_flow f m.flow) refl
last_out f (crossing.In m ∷ log) = passes_by f (crossing.In m) log (λ since n. n) (last_out f log)
last_out f (crossing.Answer k g ∷ log) = passes_by f (crossing.Answer k g) log (λ since n. n) (last_out f log)
last_out f (crossing.Down h ∷ log) = passes_by f (crossing.Down h) log (λ since n. n) (last_out f log)
last_out f (crossing.Up h ∷ log) = passes_by f (crossing.Up h) log (λ since n. n) (last_out f log)

-- an RFNM finds a message that was taken
rfnm_tells : (box : Box) (text : List Bool) (taken : List (List Bool)) → Fits answer.Rfnm box → Tells box text taken → taken ≡ text ∷ []
rfnm_tells Empty text taken fit h = absurd fit
rfnm_tells (Waiting place kept) text taken fit h = absurd fit
rfnm_tells (Taken place kept) text taken fit h = h

rfnm_below : (hosts : List Host) (f : Flow) (log : List Crossing) → IsRun hosts log → Fits answer.Rfnm (box_of f log) → TakenOnce f log
rfnm_below hosts f log r fit = elim (last_out f log) [
  | inl none ↦ absurd (let P : Box → Type 0 = λ x. Fits answer.Rfnm x in subst P (quiet_run hosts f log r none).empty fit)
  | inr s ↦
      (let P : List Crossing → Type 0 = λ x. IsRun hosts x in
      let Q : List Crossing → Type 0 = λ x. Fits answer.Rfnm (box_of f x) in
      record {
        out = s;
        once = rfnm_tells (box_of f (s.since ++ crossing.Out s.message ∷ s.before)) s.message.text (taken_in f s.since) (subst Q s.parts fit)
            (tells_run hosts f s.since s.message s.before s.flow (subst P s.parts r) s.last);
      })
]

pub safe_messages : (hosts : List Host) (log : List Crossing) → IsRun hosts log → SafeMessages log
safe_messages hosts log r =
    let P : List Crossing → Type 0 = λ x. IsRun hosts x in
    record {
      answered = λ newer older f e.
          (let below : IsRun hosts (crossing.Answer answer.Rfnm f ∷ older) = run_below hosts newer (crossing.Answer answer.Rfnm f ∷ older) (subst P e r) in
          rfnm_below hosts f older below.1 below.0.1);
      once = λ newer since before m e n.
          (let below : IsRun hosts (since ++ crossing.Out m ∷ before) = run_below hosts newer (since ++ crossing.Out m ∷ before) (subst P e r) in
          at_most_once (box_of m.flow (since ++ crossing.Out m ∷ before)) m.text (taken_in m.flow since) (tells_run hosts m.flow since m before refl below n));
      none_before = λ newer older f e n. (quiet_run hosts f older (run_below hosts newer older (subst P e r)) n).none;
    }
