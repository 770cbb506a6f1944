-- What is written is that of the input which was read.
use Rattle.simulator.proofs.Common.{detail_of, Options, Verdict}
use Rattle.script.specs.Input.{IsParted}
use Rattle.std.proofs.Common.{◌≡◌, inl, inr, ℕ, Bool, true, false, List, [], ◌∷◌, ◌++◌, Option, Some, Ok, Err, codes, refl, subst, sym, ◌∙◌, ◌⊎◌}
use Rattle.simulator.specs.Program.{EndsReplay, EndsAudit, EndsTrace, Replayed, sides}
use Rattle.command_line.proofs.lemmas.{said_kept}
use Rattle.command_line.specs.Audits.{IsKeptLog, kept, verdict_text}
use Rattle.command_line.specs.Laws.{FirstPart, OneOutput}
use Rattle.command_line.specs.declared.fault.ScriptFault.TheVariants as script
use Rattle.simulator.proofs.Traces.AmongTrace.{first_of_trace}

pub same_replay : OneOutput → (check : Bool) (options : Options) (input before after other : List ℕ)
    (left rest : Option (List ℕ)) (unread unheard : Bool)
    → Replayed check options (sides (Some input) left unread (Some before) (Some after))
    → Replayed check options (sides (Some input) rest unheard (Some before) (Some other)) → after ≡ other
same_replay one true options input before after other left rest unread unheard h k = h ∙ sym k
same_replay one false options input before after other left rest unread unheard h k =
    one.same options.book (detail_of options.texts) input before after other h.1 k.1

pub replay_part : FirstPart → (check : Bool) (options : Options) (input before part whole : List ℕ)
    (left rest : Option (List ℕ)) (unread unheard : Bool) → options.check ≡ check
    → EndsReplay options (sides (Some input) left unread (Some before) (Some part)) (Err script.OutOfMemory)
    → Replayed check options (sides (Some input) rest unheard (Some before) (Some whole))
    → (part ≡ before) ⊎ ((more : List ℕ) × (whole ≡ part ++ more))
replay_part first true options input before part whole left rest unread unheard is ends done = inl (ends.nothing is refl)
replay_part first false options input before part whole left rest unread unheard is ends done =
    elim (ends.first_part refl) [
      | inl kept ↦ inl kept
      | inr stops ↦ inr (first.part options.book (detail_of options.texts) input before part whole stops done.1)
    ]

pub trace_part : (input before part whole : List ℕ) (left rest : Option (List ℕ)) (unread unheard : Bool)
    → EndsTrace (sides (Some input) left unread (Some before) (Some part)) (Err script.OutOfMemory)
    → EndsTrace (sides (Some input) rest unheard (Some before) (Some whole)) (Ok tt)
    → (part ≡ before) ⊎ ((more : List ℕ) × (whole ≡ part ++ more))
trace_part input before part whole left rest unread unheard ends done = elim (ends.first_part refl) [
  | inl kept ↦ inl kept
  | inr stops ↦ inr (first_of_trace input before part whole stops done.traced)
]

-- ---- no input

none_left : (front rest : List (List ℕ)) (x : List ℕ) → [] ≡ front ++ x ∷ rest → ⊥
none_left [] rest x e = cc
none_left (y ∷ front) rest x e = cc

unmarked : (front rest : List (List ℕ)) → [] ∷ [] ≡ front ++ codes "%" ∷ rest → ⊥
unmarked [] rest e = cc
unmarked (x ∷ front) rest e = none_left front rest (codes "%") (cc)

pub no_parts : (topology script : List ℕ) → IsParted [] topology script → ⊥
no_parts topology script h = elim h.lines [
  | inl e ↦ unmarked h.before _ e
  | inr e ↦ unmarked h.before _ e.0
]

pub no_input : (options : Options) (left before after : Option (List ℕ))
    → EndsReplay options (sides (Some []) left false before after) (Ok tt) → ⊥
no_input options left before after ends = no_parts _ _ (ends.read refl).2.parted

none_read : (first : List ℕ) (x : ℕ) → first ++ x ∷ [] ≡ [] → ⊥
none_read [] x e = cc
none_read (y ∷ first) x e = cc

pub invented : (options : Options) (x : ℕ) (unread : Bool) (before after : Option (List ℕ))
    → EndsReplay options (sides (Some []) (Some (x ∷ [])) unread before after) (Ok tt) → ⊥
invented options x unread before after ends = none_read ends.reads.0 x (sym ends.reads.1)

-- ---- audits

pub audited_kept : (input before after : List ℕ) (left : Option (List ℕ)) (unread : Bool) (said : Verdict)
    → IsKeptLog input → EndsAudit (sides (Some input) left unread (Some before) (Some after)) (Ok said)
    → (said ≡ kept) × (after ≡ before ++ codes "kept\n")
audited_kept input before after left unread said k ends =
    let same : said ≡ kept = said_kept input said (Some before) (Some after) ends.says k in (
      same,
      subst (λ (v : Verdict). after ≡ before ++ verdict_text ends.says.strangers ends.says.book v) same
          ends.says.written,
    )
