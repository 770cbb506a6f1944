-- What is handed on: round by round, event by event; and rounds that count.
use Rattle.std.proofs.Common.{◌≡◌, ℕ, zero, suc, ◌+◌, ◌<◌, ◌≤◌, Bool, true, false, List, [], ◌∷◌, ◌++◌, Option, Some, nat_lt, refl, sym, ap, subst, ◌∙◌, add-one, arith, inl, inr}
use Rattle.std.proofs.KnownBytes.{Appends-kept}
use Rattle.std.proofs.lemmas.List.{append_assoc}
use Rattle.std.specs.Io.KnownBytes.{Keeps}
use Rattle.std.proofs.lemmas.Bool.Decides.{nat_tests}
use Rattle.replay.specs.InTurn.{EndsInTurn, Happening, InTurn, WritesLines, text_of}
use Rattle.replay.specs.Seen.{HandsOn, IsSeen, RoundsPass}
use Rattle.replay.specs.Worked.{At, Counts, Never}

-- one round more, which is seen if it has to be
pub one_round_seen : {T : Type 0} (Goes : ℕ → T → T → Type 0) (IsSeen : T → Type 0) (passed : ℕ) (old mid new : T)
    → RoundsPass Goes IsSeen passed old mid → Goes passed mid new → (64 ≤ passed → IsSeen new)
    → RoundsPass Goes IsSeen (passed + 1) old new
one_round_seen Goes IsSeen passed old mid new before goes seen =
    subst (λ n. RoundsPass Goes IsSeen n old new) (sym (add-one passed)) (mid, before, goes, seen)

-- what an event shows is printed, and handed on as is said
pub seen_written : {S E L W : Type 0} (Happens : Happening S E L) (text : L → List ℕ) (contents : W → Option (List ℕ))
    (Handed : S × W → E → S × W → Type 0) (old : S × W) (e : E) (new : S × W)
    → WritesLines text (Happens old.0 e new.0) (contents old.1) (contents new.1) → Handed old e new
    → WritesLines text (IsSeen Happens text contents Handed old e new) (contents old.1) (contents new.1)
seen_written Happens text contents Handed old e new goes handed = record {
  shown = goes.shown;
  is_shown = record { happens = goes.is_shown; printed = goes.written; handed = handed };
  written = goes.written;
}

-- what is handed on stays written
pub kept_written : {L : Type 0} {text : L → List ℕ} (IsShown : List L → Type 0) (a b c : Option (List ℕ))
    → WritesLines text IsShown a b → Keeps b c → WritesLines text IsShown a c
kept_written {L} {text} IsShown a b c h kept =
    record { shown = h.shown; is_shown = h.is_shown; written = Appends-kept a b c (text_of text h.shown) h.written kept }

-- ---- events in turn, and after them something fails: the last of them had already happened

abbrev pub Each : {E : Type 0} → (E → Type 0) → List E → Type 0
Each P [] = Unit {0}
Each P (e ∷ events) = P e × Each P events

pub ends_last : {S E L : Type 0} (Happens Goes : Happening S E L) (P : E → Type 0)
    → ((old new : S) (e : E) (own : List L) → P e → Happens old e new own → (others : List L) × Goes old e new others)
    → (old new : S) (x : E) (xs : List E) → Each P (x ∷ xs) → (shown : List L) → InTurn Happens old (x ∷ xs) new shown
    → (others : List L) × EndsInTurn Happens Goes old (x ∷ xs) new others
ends_last {S} Happens Goes P may old new x [] are shown (mid, first, rest, goes, (same, none), all) =
    let (others, went) = may old mid x first are.0 goes in (
      others,
      record {
        done = [];
        last = x;
        left = [];
        parts = refl;
        mid = old;
        front = [];
        before = (refl, refl);
        own = others;
        goes = subst (λ (s : S). Goes old x s others) (sym same) went;
        lines = refl;
      },
    )
ends_last Happens Goes P may old new x (y ∷ xs) are shown (mid, first, rest, goes, more, all) =
    let (others, k) = ends_last Happens Goes P may mid new y xs are.1 rest more in (
      first ++ others,
      record {
        done = x ∷ k.done;
        last = k.last;
        left = k.left;
        parts = ap (λ es. x ∷ es) k.parts;
        mid = k.mid;
        front = first ++ k.front;
        before = (mid, first, k.front, goes, k.before, refl);
        own = k.own;
        goes = k.goes;
        lines = ap (λ ls. first ++ ls) k.lines ∙ sym (append_assoc first k.front k.own);
      },
    )

-- ---- rounds that count: which of them are seen

pub none_seen : (n : ℕ) → n ≤ 64 → RoundsPass Counts Never n 0 n
none_seen zero few = refl
none_seen (suc n) few = (n, none_seen n (omega (arith, few)), (refl, refl), λ more. omega (arith, more, few))

earlier_or_last : {Q : Type 0} (k n : ℕ) → k ≤ suc n → (k ≤ n → Q) → (k ≡ suc n → Q) → Q
earlier_or_last {Q} k n le earlier last = by (nat_lt k (suc n)) refl
  where
    by : (t : Bool) → nat_lt k (suc n) ≡ t → Q
    by true e = let less : k < suc n = grind (arith, nat_tests) in earlier (omega (arith, less))
    by false e = let more : suc n ≤ k = grind (arith, nat_tests) in last (omega (arith, more, le))

-- each round after the 64th
seen_at : (IsSeen : ℕ → Type 0) (k n m : ℕ) → RoundsPass Counts IsSeen n 0 m → 64 < k → k ≤ n → IsSeen k
seen_at IsSeen k zero m h late le = absurd (omega (arith, late, le))
seen_at IsSeen k (suc n) m (mid, before, goes, seen) late le =
    earlier_or_last k n le (λ less. seen_at IsSeen k n mid before late less)
    (λ same. subst IsSeen (goes.1 ∙ sym same) (seen (omega (arith, late, same))))

-- a calm that never rests passes whole
whole : (IsSeen : ℕ → Type 0) (n m : ℕ) → HandsOn Counts IsSeen Never (Some n) 0 m → 64 < n
    → RoundsPass Counts IsSeen n 0 m
whole IsSeen n m h long =
    let passes = h long in
    elim (passes.3) [
      | inl all ↦ subst (λ p. RoundsPass Counts IsSeen p 0 m) all passes.2
      | inr rests ↦ absurd rests
    ]

pub seen : RoundsPass Counts Never 65 0 65 → ⊥
seen h = seen_at Never 65 65 65 h (omega arith) (omega arith)

pub long : HandsOn Counts Never Never (Some 65) 0 65 → ⊥
long h = seen_at Never 65 65 65 (whole Never 65 65 h (omega arith)) (omega arith) (omega arith)

pub last_alone : HandsOn Counts (At 100) Never (Some 100) 0 100 → ⊥
last_alone h =
    let e : 65 ≡ 100 = seen_at (At 100) 65 100 100 (whole (At 100) 100 100 h (omega arith)) (omega arith) (omega arith) in
    omega (arith, e)

pub first_alone : HandsOn Counts (At 65) Never (Some 100) 0 100 → ⊥
first_alone h =
    let e : 66 ≡ 65 = seen_at (At 65) 66 100 100 (whole (At 65) 100 100 h (omega arith)) (omega arith) (omega arith) in
    omega (arith, e)

pub broken_off : HandsOn Counts Never Never (Some 100) 0 3 → ⊥
broken_off h = seen_at Never 65 100 3 (whole Never 100 3 h (omega arith)) (omega arith) (omega arith)
