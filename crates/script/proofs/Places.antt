-- IMPs, directions, frames and ends of lines as words.
use Rattle.script.proofs.Common.{nat_tests, decimal_injective, All-nil, All-cons, decimal, Direction}
use Rattle.std.proofs.Common.{◌≡◌, ◌≢◌, ℕ, ◌<◌, ◌≤◌, ◌^◌, ◌==◌, Bool, true, false, List, [], ◌∷◌, ◌++◌, if◌then◌else◌, Option, Some, None, refl, sym, ap, ◌∙◌, arith, subst, lit<}
use Rattle.interface.specs.Host.{imp_at, is_imp}
use Rattle.interface.specs.declared.event.Direction.TheVariants as way
use Rattle.script.specs.Spelling.{ReadsAs, IsImp, IsIndex, direction_text}
use Rattle.script.specs.Steps.{Lacks, frame_text, IsFrame, pair_text, IsEnd, AreImps, IsDirection}
use Rattle.script.proofs.Numbers.{All-unmarked_decimal}
use Rattle.script.proofs.Words.{SameThree, same_three, not_cut, not_front, not_back}

-- ---- IMPs

pub imp_small : (n : ℕ) → IsImp n → n ≤ 63
imp_small n is = grind (arith, nat_tests)

imp_unmarked : (n : ℕ) → IsImp n → Lacks 32 (decimal n)
imp_unmarked n is = let small : n ≤ 63 = imp_small n is in All-unmarked_decimal 32 n (lit< tt) (omega arith)

pub no_octet : (word : List ℕ) → ReadsAs decimal (λ n. n < 256) word None → (n : ℕ) → IsImp n → word ≢ decimal n
no_octet word none n is e = let small : n ≤ 63 = imp_small n is in none n (omega arith) e

made_imp : (test : Bool) (x n : ℕ) → Some n ≡ (if test then Some x else None) → x ≡ n
made_imp true x n e = cc
made_imp false x n e = cc

-- the number that a word spells is an IMP's, or none is
pub imp_read : (word : List ℕ) (x : ℕ) (o : Option ℕ) → word ≡ decimal x → x < 256 → o ≡ imp_at x → ReadsAs decimal IsImp word o
imp_read word x (Some n) is small made =
    let same : x ≡ n = made_imp (is_imp x) x n made in
    let F : ℕ → Type 0 = λ m. (word ≡ decimal m) × (imp_at m ≡ Some m) in
    subst F same (is, sym made ∙ ap Some (sym same))
imp_read word x None is small made = λ n meant e.
    let few : n ≤ 63 = imp_small n meant in
    let same : x ≡ n = decimal_injective x n (omega arith) (omega arith) (sym is ∙ e) in
    let there : imp_at x ≡ Some n = ap imp_at same ∙ meant in
    let nothing : Option ℕ = None in
    let bad : nothing ≡ Some n = made ∙ there in
    cc

-- ---- directions

pub direction_unmarked : (d : Direction) → Lacks 32 (direction_text d)
direction_unmarked way.Forward = All-cons (λ x. (x == 32) ≡ false) 43 [] refl (All-nil (λ x. (x == 32) ≡ false))
direction_unmarked way.Back = All-cons (λ x. (x == 32) ≡ false) 45 [] refl (All-nil (λ x. (x == 32) ≡ false))

-- ---- frames

same_frame : (words a b c : List ℕ) (x : ℕ × Direction × ℕ) → words ≡ a ++ 32 ∷ (b ++ 32 ∷ c) → Lacks 32 a → Lacks 32 b → IsFrame x → words ≡ frame_text x → SameThree a b c (decimal x.0) (direction_text x.1) (decimal x.2)
same_frame words a b c x is ha hb meant e =
    let small : x.0 < 2 ^ 32 = meant.0 in
    same_three 32 a b c (decimal x.0) (direction_text x.1) (decimal x.2) ha hb (All-unmarked_decimal 32 x.0 (lit< tt) (omega arith)) (direction_unmarked x.1) (sym is ∙ e)

pub no_line : (words a b c : List ℕ) → words ≡ a ++ 32 ∷ (b ++ 32 ∷ c) → Lacks 32 a → Lacks 32 b → ReadsAs decimal IsIndex a None → (x : ℕ × Direction × ℕ) → IsFrame x → words ≢ frame_text x
no_line words a b c is ha hb none x meant e = none x.0 meant.0 (same_frame words a b c x is ha hb meant e).first

pub no_way : (words a b c : List ℕ) → words ≡ a ++ 32 ∷ (b ++ 32 ∷ c) → Lacks 32 a → Lacks 32 b → ReadsAs direction_text IsDirection b None → (x : ℕ × Direction × ℕ) → IsFrame x → words ≢ frame_text x
no_way words a b c is ha hb none x meant e = none x.1 tt (same_frame words a b c x is ha hb meant e).second

pub no_place : (words a b c : List ℕ) → words ≡ a ++ 32 ∷ (b ++ 32 ∷ c) → Lacks 32 a → Lacks 32 b → ReadsAs decimal IsIndex c None → (x : ℕ × Direction × ℕ) → IsFrame x → words ≢ frame_text x
no_place words a b c is ha hb none x meant e = none x.2 meant.1 (same_frame words a b c x is ha hb meant e).third

-- ---- ends of lines, and two IMPs

pub no_pair : (P : ℕ × ℕ → Type 0) (words : List ℕ) → Lacks 32 words → (x : ℕ × ℕ) → P x → words ≢ pair_text x
no_pair P words h = not_cut 32 words (λ (x : ℕ × ℕ). decimal x.0) (λ (x : ℕ × ℕ). decimal x.1) P h

pub no_end_imp : (words a b : List ℕ) → words ≡ a ++ 32 ∷ b → Lacks 32 a → ReadsAs decimal IsImp a None → (x : ℕ × ℕ) → IsEnd x → words ≢ pair_text x
no_end_imp words a b is h none = not_front 32 words a b (λ (x : ℕ × ℕ). decimal x.0) (λ (x : ℕ × ℕ). decimal x.1) IsEnd is h (λ x meant. imp_unmarked x.0 meant.0) (λ x meant e. none x.0 meant.0 e)

pub no_end_line : (words a b : List ℕ) → words ≡ a ++ 32 ∷ b → Lacks 32 a → ReadsAs decimal IsIndex b None → (x : ℕ × ℕ) → IsEnd x → words ≢ pair_text x
no_end_line words a b is h none = not_back 32 words a b (λ (x : ℕ × ℕ). decimal x.0) (λ (x : ℕ × ℕ). decimal x.1) IsEnd is h (λ x meant. imp_unmarked x.0 meant.0) (λ x meant e. none x.1 meant.1 e)

pub no_first_imp : (words a b : List ℕ) → words ≡ a ++ 32 ∷ b → Lacks 32 a → ReadsAs decimal IsImp a None → (x : ℕ × ℕ) → AreImps x → words ≢ pair_text x
no_first_imp words a b is h none = not_front 32 words a b (λ (x : ℕ × ℕ). decimal x.0) (λ (x : ℕ × ℕ). decimal x.1) AreImps is h (λ x meant. imp_unmarked x.0 meant.0) (λ x meant e. none x.0 meant.0 e)

pub no_second_imp : (words a b : List ℕ) → words ≡ a ++ 32 ∷ b → Lacks 32 a → ReadsAs decimal IsImp b None → (x : ℕ × ℕ) → AreImps x → words ≢ pair_text x
no_second_imp words a b is h none = not_back 32 words a b (λ (x : ℕ × ℕ). decimal x.0) (λ (x : ℕ × ℕ). decimal x.1) AreImps is h (λ x meant. imp_unmarked x.0 meant.0) (λ x meant e. none x.1 meant.1 e)
