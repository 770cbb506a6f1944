-- A frame that an IMP passes on at once.
use Rattle.subnet.proofs.Common.{◌≡◌, ℕ, ◌≤◌, zero, suc, true, false, List, [], ◌∷◌, length, set, Option, Some, None, refl, ap, sym, subst, arith, Frame, Outgoing, State, ImpTurn, at_imp, imps_by, frames_by, Net, imp_at, put_all}
use Rattle.subnet.specs.Inside.Passing.{passes_at}

-- an IMP that passes something on is there
none_there : (imps : List (Option State)) (i : ℕ) → length imps ≤ i → imp_at imps i ≡ None
none_there [] i far = refl
none_there (x ∷ xs) zero far = absurd (omega (arith, far))
none_there (x ∷ xs) (suc i) far = none_there xs i (omega (arith, far))

untrue : false ≡ true → ⊥
untrue e = cc

pub passes_within : (imps : List (Option State)) (i k : ℕ) (f : Frame) → passes_at k f (imp_at imps i) ≡ true → length imps ≤ i → ⊥
passes_within imps i k f is far = untrue (subst (λ (o : Option State). passes_at k f o ≡ true) (none_there imps i far) is)

-- its frames are on lines
pub passed_at : (n : Net) (i : ℕ) (o : Option State) (turn : State → ImpTurn) (outs : List Outgoing) → frames_by o turn ≡ outs
    → record n { imps = imps_by n.imps i o turn; lines = put_all n.lines i outs } ≡ at_imp o i turn n
passed_at n i None turn outs sent = ap (λ (frames : List Outgoing). record n { lines = put_all n.lines i frames }) (sym sent)
passed_at n i (Some s) turn outs sent = ap (λ (frames : List Outgoing). record n { imps = set n.imps i (Some (turn s).state); lines = put_all n.lines i frames }) (sym sent)
