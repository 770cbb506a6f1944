-- A turn in which nothing was reported before, and one in which no end has to close.
use Rattle.std.proofs.Common.{◌≡◌, ℕ, ◌++◌, ◌==◌, Bool, true, false, cond, not, List, [], ◌∷◌, length, map, filter, refl, ap, sym, ◌∙◌}
use Rattle.std.specs.List.{list_any}
use Rattle.std.proofs.lemmas.List.{append-nil}
use Rattle.ncp_control.specs.declared.command.Command.{Command}
use Rattle.interface.specs.Host.{Host}
use Rattle.interface.specs.declared.crossing.Answer.TheVariants as answer
use Rattle.host_pairs.specs.Entries.{is_due, must_close, closed_when, cls_of}
use Rattle.ncp_control.specs.Phases.{is_ready, rfnm_phase}
use Rattle.host_pairs.specs.Desk.{command_queued, desk_of}
use Rattle.host_pairs.specs.Turn.{TurnState, answered_turn, freed, is_quiet, settled_turn, with_desk}
use Rattle.host_pairs.specs.declared.entry.Entry.{Entry}
use Rattle.host_pairs.specs.declared.notice.Notice.{Notice}
use Rattle.ncp_control.specs.declared.phase.Phase.{Phase}
use Rattle.ncp_control.specs.declared.phase.Phase.TheVariants as phase
use Rattle.host_pairs.proofs.OpeningLemmas.{both, none_of, not_is}

-- what is reported first is all that is reported
pub told_first : (told notices : List Notice) → (length told == 0) ≡ true → told ++ notices ≡ notices
told_first told notices e = ap (λ (xs : List Notice). xs ++ notices) (none_of told e)

-- a command that is queued at the desk is queued in the pair, and nothing is reported
pub queued_turn : (t : TurnState) (c : Command) → record t { pair = record t.pair { queue = t.pair.queue ++ c ∷ [] } } ≡ with_desk t (command_queued c (desk_of t.pair t.listening))
queued_turn t c = sym (ap (λ (ns : List Notice). record { pair = record t.pair { queue = t.pair.queue ++ c ∷ [] }; listening = t.listening; notices = ns }) (append-nil t.notices))

-- nothing is done at the desk
pub same_turn : (t : TurnState) → t ≡ with_desk t (desk_of t.pair t.listening)
same_turn t = sym (ap (λ (ns : List Notice). record { pair = t.pair; listening = t.listening; notices = ns }) (append-nil t.notices))

none_step : (busy : List ℕ) (e : Entry) (es : List Entry) → (list_any (must_close busy) es ≡ false → filter (must_close busy) es ≡ []) → (b : Bool) → must_close busy e ≡ b
    → list_any (must_close busy) (e ∷ es) ≡ false → filter (must_close busy) (e ∷ es) ≡ []
none_step busy e es rest true is none = absurd (let t : true ≡ false = rw is at none in cc)
none_step busy e es rest false is none = rw is (rest (rw is at none))

none_close : (busy : List ℕ) (es : List Entry) → list_any (must_close busy) es ≡ false → filter (must_close busy) es ≡ []
none_close busy [] none = refl
none_close busy (e ∷ es) none = none_step busy e es (none_close busy es) (must_close busy e) refl none

same_step : (busy : List ℕ) (e : Entry) (es : List Entry) → (list_any (must_close busy) es ≡ false → map (λ e. closed_when (must_close busy e) e) es ≡ es)
    → (b : Bool) → must_close busy e ≡ b → list_any (must_close busy) (e ∷ es) ≡ false → map (λ e. closed_when (must_close busy e) e) (e ∷ es) ≡ e ∷ es
same_step busy e es rest true is none = absurd (let t : true ≡ false = rw is at none in cc)
same_step busy e es rest false is none = rw is (ap (λ (xs : List Entry). e ∷ xs) (rest (rw is at none)))

same_ends : (busy : List ℕ) (es : List Entry) → list_any (must_close busy) es ≡ false → map (λ e. closed_when (must_close busy e) e) es ≡ es
same_ends busy [] none = refl
same_ends busy (e ∷ es) none = same_step busy e es (same_ends busy es) (must_close busy e) refl none

abbrev settled_with : TurnState → List Entry → List Command → List Notice → TurnState
settled_with t es cs ns = record { pair = record t.pair { entries = es; queue = cs }; listening = t.listening; notices = ns }

-- where no end has to close, nothing changes
pub none_settles : (t : TurnState) → list_any (must_close t.pair.busy) t.pair.entries ≡ false → t ≡ settled_turn t
none_settles t none =
    let queue : t.pair.queue ++ map cls_of (filter (must_close t.pair.busy) t.pair.entries) ≡ t.pair.queue =
    ap (λ (es : List Entry). t.pair.queue ++ map cls_of es) (none_close t.pair.busy t.pair.entries none) ∙ append-nil t.pair.queue in
    sym (ap (λ (es : List Entry). settled_with t es (t.pair.queue ++ map cls_of (filter (must_close t.pair.busy) t.pair.entries)) (t.notices ++ [])) (same_ends t.pair.busy t.pair.entries none)
    ∙ ap (λ (cs : List Command). settled_with t t.pair.entries cs (t.notices ++ [])) queue
    ∙ ap (λ (ns : List Notice). settled_with t t.pair.entries t.pair.queue ns) (append-nil t.notices))

-- ---- an RFNM of which nothing else comes

undue_step : (busy : List ℕ) (e : Entry) (es : List Entry) → (list_any (λ e. is_due e.closing) es ≡ false → list_any (must_close busy) es ≡ false)
    → (b : Bool) → is_due e.closing ≡ b → list_any (λ e. is_due e.closing) (e ∷ es) ≡ false → list_any (must_close busy) (e ∷ es) ≡ false
undue_step busy e es rest true is none = absurd (let t : true ≡ false = rw is at none in cc)
undue_step busy e es rest false is none = rw is (rest (rw is at none))

-- an end that isn't due doesn't close, whatever is answered
undue : (busy : List ℕ) (es : List Entry) → list_any (λ e. is_due e.closing) es ≡ false → list_any (must_close busy) es ≡ false
undue busy [] none = refl
undue busy (e ∷ es) none = undue_step busy e es (undue busy es) (is_due e.closing) refl none

either : (b : Bool) (p : Phase) → cond b p p ≡ p
either true p = refl
either false p = refl

ready_stays : (link : ℕ) (p : Phase) → is_ready p ≡ true → rfnm_phase link p ≡ p
ready_stays link phase.Closed e = absurd (cc)
ready_stays link phase.Want e = absurd (cc)
ready_stays link (phase.Gone early) e = absurd (cc)
ready_stays link phase.Heard e = absurd (cc)
ready_stays link phase.Ready e = either (link == 0) phase.Ready

abbrev freed_turn : ℕ → TurnState → TurnState
freed_turn link t = record t { pair = freed link t.pair }

abbrev with_phase : Phase → TurnState → TurnState
with_phase p t = record t { pair = record t.pair { phase = p } }

-- it is taken so
pub quiet_turn : (peer : Host) (link : ℕ) (t : TurnState) → is_quiet t.pair ≡ true → answered_turn peer answer.Rfnm link t ≡ freed_turn link t
quiet_turn peer link t quiet =
    let parts : (is_ready t.pair.phase ≡ true) × (not (list_any (λ e. is_due e.closing) t.pair.entries) ≡ true) = both _ _ quiet in
    let none : list_any (must_close (freed link t.pair).busy) t.pair.entries ≡ false = undue (freed link t.pair).busy t.pair.entries (not_is _ parts.1) in
    ap (λ (p : Phase). settled_turn (with_phase p (freed_turn link t))) (ready_stays link t.pair.phase parts.0)
    ∙ sym (none_settles (freed_turn link t) none)
