-- Octets and the lines in them.
use Rattle.std.proofs.Common.{◌≡◌, ℕ, zero, suc, ◌-◌, Bool, true, false, ◌==◌, ◌&&◌, ◌||◌, if◌then◌else◌, List, [], ◌∷◌, ◌++◌, length, take, slice_index_or, refl, ap, sym, ◌∙◌, arith}
use Rattle.std.proofs.lemmas.Bool.Decides.{nat_tests}
use Rattle.std.proofs.lemmas.List.{append_assoc, append-nil, length-append}
use Rattle.std.proofs.Math.Seq.{take-append_seam}
use Rattle.std.proofs.lemmas.Grind.{flat_map-append, fold-append}
use Rattle.std.proofs.lemmas.List.Folds.{list_any-append}
use Rattle.std.specs.List.{flat_map, fold, list_all, list_any}
use Rattle.std.proofs.lemmas.Bool.{and_parts}
use Rattle.terminal.specs.Lines.{AreLines, Heard, ends_line, has_end, hear, lines_heard, is_printable, spelled}
use Rattle.interface.proofs.lemmas.{and_none, or_first, or_second}

-- ---- the octet before an end

before_at : (rest : List ℕ) (n : ℕ) → length rest ≡ suc n → slice_index_or rest n 0 ≡ 13 → rest ≡ take n rest ++ 13 ∷ []
before_at [] n is last = absurd (omega arith)
before_at (x ∷ []) zero is last = ap (λ (n : ℕ). n ∷ []) last
before_at (x ∷ []) (suc n) is last = absurd (omega arith)
before_at (x ∷ y ∷ ys) zero is last = absurd (omega arith)
before_at (x ∷ y ∷ ys) (suc n) is last = ap (λ (l : List ℕ). x ∷ l) (before_at (y ∷ ys) n (omega arith) last)

before_end : (rest : List ℕ) → slice_index_or rest (length rest - 1) 0 ≡ 13 → rest ≡ take (length rest - 1) rest ++ 13 ∷ []
before_end [] last = absurd (omega arith)
before_end (x ∷ xs) last = before_at (x ∷ xs) (length (x ∷ xs) - 1) (omega arith) last

pub record IsEnd (rest : List ℕ) (x : ℕ) : Type 0 where
  pub feed : x ≡ 10
  pub return : slice_index_or rest (length rest - 1) 0 ≡ 13

is_end : (rest : List ℕ) (x : ℕ) → ends_line rest x ≡ true → IsEnd rest x
is_end rest x ends = record { feed = grind (arith, nat_tests); return = grind (arith, nat_tests) }

-- ---- pairs

abbrev the_heard : List (List ℕ) → List ℕ → Heard
the_heard lines rest = (lines, rest)

abbrev heard_if : Bool → List (List ℕ) → List ℕ → ℕ → Heard
heard_if b lines rest octet = if b then (lines ++ take (length rest - 1) rest ∷ [], []) else (lines, rest ++ octet ∷ [])

-- ---- nothing is lost

abbrev pub total : Heard → List ℕ
total h = flat_map spelled h.0 ++ h.1

one_more : (lines : List (List ℕ)) (rest : List ℕ) (x : ℕ) (b : Bool) → ends_line rest x ≡ b
    → total (if b then (lines ++ take (length rest - 1) rest ∷ [], []) else (lines, rest ++ x ∷ [])) ≡ (flat_map spelled lines ++ rest) ++ x ∷ []
one_more lines rest x true ends =
    let e : IsEnd rest x = is_end rest x ends in
    let l : List ℕ = take (length rest - 1) rest in
    let left : flat_map spelled (lines ++ l ∷ []) ++ [] ≡ flat_map spelled lines ++ (l ++ 13 ∷ 10 ∷ []) =
    append-nil (flat_map spelled (lines ++ l ∷ [])) ∙ flat_map-append spelled lines (l ∷ []) ∙ ap (λ (m : List ℕ). flat_map spelled lines ++ m) (append-nil (spelled l)) in
    let right : (flat_map spelled lines ++ rest) ++ x ∷ [] ≡ flat_map spelled lines ++ (l ++ 13 ∷ 10 ∷ []) =
    ap (λ (n : ℕ). (flat_map spelled lines ++ rest) ++ n ∷ []) e.feed
    ∙ append_assoc (flat_map spelled lines) rest (10 ∷ [])
    ∙ ap (λ (r : List ℕ). flat_map spelled lines ++ (r ++ 10 ∷ [])) (before_end rest e.return)
    ∙ ap (λ (r : List ℕ). flat_map spelled lines ++ r) (append_assoc l (13 ∷ []) (10 ∷ [])) in
    left ∙ sym right
one_more lines rest x false ends = sym (append_assoc (flat_map spelled lines) rest (x ∷ []))

all_of : (lines : List (List ℕ)) (rest octets : List ℕ) → total (fold hear (lines, rest) octets) ≡ (flat_map spelled lines ++ rest) ++ octets
all_of lines rest [] = sym (append-nil (flat_map spelled lines ++ rest))
all_of lines rest (x ∷ xs) =
    let h : Heard = hear (lines, rest) x in
    all_of h.0 h.1 xs
    ∙ ap (λ (t : List ℕ). t ++ xs) (one_more lines rest x (ends_line rest x) refl)
    ∙ append_assoc (flat_map spelled lines ++ rest) (x ∷ []) xs

pub nothing_lost : (rest octets : List ℕ) → flat_map spelled (lines_heard rest octets).0 ++ (lines_heard rest octets).1 ≡ rest ++ octets
nothing_lost rest octets = all_of [] rest octets

-- ---- truth values

swapped : (a b : Bool) → (a && b) ≡ false → (b && a) ≡ false
swapped true true e = e
swapped true false e = refl
swapped false true e = refl
swapped false false e = refl

or_false : (a : Bool) → a ≡ false → (a || false) ≡ false
or_false true e = e
or_false false e = refl

-- ---- ends within octets

-- an octet that ends no line brings no end
push_at : (rest : List ℕ) (n x : ℕ) → length rest ≡ suc n → ((x == 10) && (slice_index_or rest n 0 == 13)) ≡ false → has_end rest ≡ false → has_end (rest ++ x ∷ []) ≡ false
push_at [] n x is stays endless = absurd (omega arith)
push_at (y ∷ []) zero x is stays endless = or_false ((y == 13) && (x == 10)) (swapped (x == 10) (y == 13) stays)
push_at (y ∷ []) (suc n) x is stays endless = absurd (omega arith)
push_at (y ∷ z ∷ zs) zero x is stays endless = absurd (omega arith)
push_at (y ∷ z ∷ zs) (suc n) x is stays endless =
    let here : ((y == 13) && (z == 10)) ≡ false = or_first ((y == 13) && (z == 10)) (has_end (z ∷ zs)) endless in
    rw here (push_at (z ∷ zs) n x (omega arith) stays (or_second ((y == 13) && (z == 10)) (has_end (z ∷ zs)) endless))

open_push : (rest : List ℕ) (x : ℕ) → ends_line rest x ≡ false → has_end rest ≡ false → has_end (rest ++ x ∷ []) ≡ false
open_push [] x stays endless = refl
open_push (y ∷ ys) x stays endless = push_at (y ∷ ys) (length (y ∷ ys) - 1) x (omega arith) stays endless

-- what is before octets without an end has none
open_front : (xs ys : List ℕ) → has_end (xs ++ ys) ≡ false → has_end xs ≡ false
open_front [] ys endless = refl
open_front (x ∷ []) ys endless = refl
open_front (x ∷ z ∷ zs) ys endless =
    let here : ((x == 13) && (z == 10)) ≡ false = or_first ((x == 13) && (z == 10)) (has_end (z ∷ zs ++ ys)) endless in
    rw here (open_front (z ∷ zs) ys (or_second ((x == 13) && (z == 10)) (has_end (z ∷ zs ++ ys)) endless))

-- where there is no end, no octet ends a line
here_at : (r : List ℕ) (n x : ℕ) (xs : List ℕ) → length r ≡ suc n → has_end (r ++ x ∷ xs) ≡ false → ((x == 10) && (slice_index_or r n 0 == 13)) ≡ false
here_at [] n x xs is endless = absurd (omega arith)
here_at (y ∷ []) zero x xs is endless = swapped (y == 13) (x == 10) (or_first ((y == 13) && (x == 10)) (has_end (x ∷ xs)) endless)
here_at (y ∷ []) (suc n) x xs is endless = absurd (omega arith)
here_at (y ∷ z ∷ zs) zero x xs is endless = absurd (omega arith)
here_at (y ∷ z ∷ zs) (suc n) x xs is endless = here_at (z ∷ zs) n x xs (omega arith) (or_second ((y == 13) && (z == 10)) (has_end (z ∷ zs ++ x ∷ xs)) endless)

no_end_here : (r : List ℕ) (x : ℕ) (xs : List ℕ) → has_end (r ++ x ∷ xs) ≡ false → ends_line r x ≡ false
no_end_here [] x xs endless = and_none (x == 10)
no_end_here (y ∷ ys) x xs endless = here_at (y ∷ ys) (length (y ∷ ys) - 1) x xs (omega arith) endless

-- ---- the lines are whole, and the rest is open

pub record AreOpen (h : Heard) : Type 0 where
  pub lines : list_any has_end h.0 ≡ false
  pub rest : has_end h.1 ≡ false

any_push : (lines : List (List ℕ)) (l : List ℕ) → list_any has_end lines ≡ false → has_end l ≡ false → list_any has_end (lines ++ l ∷ []) ≡ false
any_push lines l endless front = list_any-append has_end lines (l ∷ []) ∙ ap (λ (b : Bool). b || (has_end l || false)) endless ∙ or_false (has_end l) front

one_open : (lines : List (List ℕ)) (rest : List ℕ) (x : ℕ) (b : Bool) → ends_line rest x ≡ b → AreOpen (lines, rest)
    → AreOpen (if b then (lines ++ take (length rest - 1) rest ∷ [], []) else (lines, rest ++ x ∷ []))
one_open lines rest x true ends endless =
    let e : IsEnd rest x = is_end rest x ends in
    let front : has_end (take (length rest - 1) rest) ≡ false = open_front (take (length rest - 1) rest) (13 ∷ []) (ap has_end (sym (before_end rest e.return)) ∙ endless.rest) in
    record { lines = any_push lines (take (length rest - 1) rest) endless.lines front; rest = refl }
one_open lines rest x false ends endless = record { lines = endless.lines; rest = open_push rest x ends endless.rest }

pub all_open : (h : Heard) (octets : List ℕ) → AreOpen h → AreOpen (fold hear h octets)
all_open h [] endless = endless
all_open (lines, rest) (x ∷ xs) endless = all_open (hear (lines, rest) x) xs (one_open lines rest x (ends_line rest x) refl endless)

pub are_lines : (rest octets : List ℕ) → has_end rest ≡ false → AreLines (rest ++ octets) (lines_heard rest octets).0 (lines_heard rest octets).1
are_lines rest octets endless =
    let o : AreOpen (lines_heard rest octets) = all_open ([], rest) octets (record { lines = refl; rest = endless }) in
    record { all = sym (nothing_lost rest octets); lines_whole = o.lines; rest_open = o.rest }

-- ---- there is one reading only

-- octets without an end are kept
pub kept : (lines : List (List ℕ)) (r xs : List ℕ) → has_end (r ++ xs) ≡ false → fold hear (lines, r) xs ≡ (lines, r ++ xs)
kept lines r [] endless = ap (λ (z : List ℕ). the_heard lines z) (sym (append-nil r))
kept lines r (x ∷ xs) endless =
    let stays : ends_line r x ≡ false = no_end_here r x xs endless in
    let step : hear (lines, r) x ≡ (lines, r ++ x ∷ []) = ap (λ (b : Bool). heard_if b lines r x) stays in
    let again : has_end ((r ++ x ∷ []) ++ xs) ≡ false = ap has_end (append_assoc r (x ∷ []) xs) ∙ endless in
    ap (λ (h : Heard). fold hear h xs) step ∙ kept lines (r ++ x ∷ []) xs again ∙ ap (λ (z : List ℕ). the_heard lines z) (append_assoc r (x ∷ []) xs)

last_at : (l : List ℕ) (x : ℕ) → slice_index_or (l ++ x ∷ []) (length l) 0 ≡ x
last_at [] x = refl
last_at (y ∷ l) x = last_at l x

before_last_at : (l : List ℕ) (x : ℕ) → length (l ++ x ∷ []) - 1 ≡ length l
before_last_at l x = omega (arith, length-append l (x ∷ []))

-- a line with its end is read as this line
line_read : (lines : List (List ℕ)) (l more : List ℕ) → has_end l ≡ false → fold hear (lines, []) (l ++ 13 ∷ 10 ∷ more) ≡ fold hear (lines ++ l ∷ [], []) more
line_read lines l more endless =
    let returned : List ℕ = l ++ 13 ∷ [] in
    let ends : ends_line returned 10 ≡ true = ap (λ (n : ℕ). slice_index_or returned n 0 == 13) (before_last_at l 13) ∙ ap (λ (n : ℕ). n == 13) (last_at l 13) in
    let cut : take (length returned - 1) returned ≡ l = ap (λ (n : ℕ). take n returned) (before_last_at l 13) ∙ take-append_seam l (13 ∷ []) in
    let step : hear (lines, returned) 10 ≡ (lines ++ l ∷ [], []) = ap (λ (b : Bool). heard_if b lines returned 10) ends ∙ ap (λ (z : List ℕ). the_heard (lines ++ z ∷ []) []) cut in
    fold-append hear (the_heard lines []) l (13 ∷ 10 ∷ more)
    ∙ ap (λ (h : Heard). fold hear h (13 ∷ 10 ∷ more)) (kept lines [] l endless)
    ∙ ap (λ (h : Heard). fold hear h more) step

pub read_again : (before lines : List (List ℕ)) (rest : List ℕ) → list_any has_end lines ≡ false → has_end rest ≡ false
    → fold hear (before, []) (flat_map spelled lines ++ rest) ≡ (before ++ lines, rest)
read_again before [] rest endless last = kept before [] rest last ∙ ap (λ (z : List (List ℕ)). the_heard z rest) (sym (append-nil before))
read_again before (l ∷ lines) rest endless last =
    ap (λ (z : List ℕ). fold hear (the_heard before []) z) (append_assoc (spelled l) (flat_map spelled lines) rest ∙ append_assoc l (13 ∷ 10 ∷ []) (flat_map spelled lines ++ rest))
    ∙ line_read before l (flat_map spelled lines ++ rest) (or_first (has_end l) (list_any has_end lines) endless)
    ∙ read_again (before ++ l ∷ []) lines rest (or_second (has_end l) (list_any has_end lines) endless) last
    ∙ ap (λ (z : List (List ℕ)). the_heard z rest) (append_assoc before (l ∷ []) lines)

pub only_reading : (octets : List ℕ) (lines : List (List ℕ)) (rest : List ℕ) → AreLines octets lines rest → lines_heard [] octets ≡ (lines, rest)
only_reading octets lines rest are = ap (λ (z : List ℕ). fold hear (the_heard [] []) z) are.all ∙ read_again [] lines rest are.lines_whole are.rest_open

-- ---- what is typed has no end

not_return : (x : ℕ) → is_printable x ≡ true → (x == 13) ≡ false
not_return x printable = grind (arith, nat_tests)

typed_open : (text : List ℕ) → list_all is_printable text ≡ true → has_end text ≡ false
typed_open [] all = refl
typed_open (x ∷ []) all = refl
typed_open (x ∷ y ∷ ys) all =
    let both : (is_printable x ≡ true) × (list_all is_printable (y ∷ ys) ≡ true) = and_parts (is_printable x) (list_all is_printable (y ∷ ys)) all in
    let here : (x == 13) ≡ false = not_return x both.0 in
    rw here (typed_open (y ∷ ys) both.1)

pub typed_read : (text : List ℕ) → list_all is_printable text ≡ true → lines_heard [] (spelled text) ≡ (text ∷ [], [])
typed_read text all = line_read [] text [] (typed_open text all)
