-- Going through the lines of a text.
use Rattle.std.proofs.Common.{◌≡◌, ◌≢◌, ℕ, ◌<◌, ◌≤◌, ◌+◌, ◌-◌, ◌==◌, true, false, not, cond, zero, suc, List, [], ◌∷◌, ◌++◌, length, take, drop, map, filter, Some, refl, sym, ap, ◌∙◌, arith, subst, slice_get, count_by, get_or}
use Rattle.std.proofs.lemmas.List.{take_all, drop-drop, length-drop, drop_more, take_more, map-append, append-nil}
use Rattle.std.proofs.lemmas.List.Sums.{count_by-le-length}
use Rattle.std.proofs.lemmas.List.Splits.{length-slice_split, slice_split_at, slice_split_none}
use Rattle.std.proofs.lemmas.List.Elements.{All-append, All-cons, All-nil, filter-append}
use Rattle.std.specs.List.{All}
use Rattle.script.specs.Script.{lines_of, is_passed_over, asks, AskForAs, IsFirstBadAs, IsReachedAs, RanOutAs}

-- the first line is what is before the first octet 10
pub lines_cut : (text line more : List ℕ) → text ≡ line ++ 10 ∷ more → All (λ x. (x == 10) ≡ false) line → lines_of text ≡ line ∷ lines_of more
lines_cut text line more is h = ap lines_of is ∙ slice_split_at (λ b. b == 10) line 10 more h refl

pub lines_uncut : (text : List ℕ) → All (λ x. (x == 10) ≡ false) text → lines_of text ≡ text ∷ []
lines_uncut text h = slice_split_none (λ b. b == 10) text h

pub drop_next : {X : Type 0} (n : ℕ) (xs ys : List X) (y : X) → drop n xs ≡ y ∷ ys → drop (n + 1) xs ≡ ys
drop_next {X} n xs ys y h = sym (drop-drop 1 n xs) ∙ ap (drop 1) h

pub length_next : {X : Type 0} (n : ℕ) (xs ys : List X) (y : X) → drop n xs ≡ y ∷ ys → n < length xs
length_next {X} n xs ys y h =
    let left : length xs - n ≡ length (y ∷ ys) = sym (length-drop n xs) ∙ ap length h in
    omega arith

pub same_first : {X : Type 0} {x y : X} {xs ys : List X} → x ∷ xs ≡ y ∷ ys → x ≡ y
same_first e = cc

at_next : {X : Type 0} (n : ℕ) (xs ys : List X) (y : X) → drop n xs ≡ y ∷ ys → get_or xs n y ≡ y
at_next {X} n xs ys y h = same_first (sym (drop_more xs n y (length_next n xs ys y h)) ∙ h)

pub take_next : {X : Type 0} (n : ℕ) (xs ys : List X) (y : X) → drop n xs ≡ y ∷ ys → take (n + 1) xs ≡ take n xs ++ y ∷ []
take_next {X} n xs ys y h = take_more xs n y (length_next n xs ys y h) ∙ ap (λ x. take n xs ++ x ∷ []) (at_next n xs ys y h)

get_next : {X : Type 0} (n : ℕ) (xs ys : List X) (y : X) → drop n xs ≡ y ∷ ys → slice_get xs n ≡ Some y
get_next {X} n [] ys y h = absurd (let short : n < 0 = length_next n [] ys y h in omega arith)
get_next {X} zero (x ∷ xs) ys y h = ap Some (same_first h)
get_next {X} (suc n) (x ∷ xs) ys y h = get_next n xs ys y h

pub take_whole : {X : Type 0} (n : ℕ) (xs : List X) → drop n xs ≡ [] → take n xs ≡ xs
take_whole {X} n xs h =
    let left : length xs - n ≡ 0 = sym (length-drop n xs) ∙ ap length h in
    take_all n xs (omega arith)

-- a text has at most one line more than octets
pub line_count : (text : List ℕ) → length (lines_of text) ≤ length text + 1
line_count text =
    let counted : length (lines_of text) ≡ count_by (λ b. b == 10) text + 1 = length-slice_split (λ b. b == 10) text in
    let most : count_by (λ b. b == 10) text ≤ length text = count_by-le-length (λ b. b == 10) text in
    omega arith

-- ---- events of any kind, by how they are spelled and which of them are valid

-- one more line that is ignored
pub ask_past : {E : Type 0} (spell : E → List ℕ) (IsMeant : E → Type 0) (events : List E) (lines : List (List ℕ)) (line : List ℕ) → is_passed_over line ≡ true → AskForAs spell IsMeant events lines → AskForAs spell IsMeant events (lines ++ line ∷ [])
ask_past {E} spell IsMeant events lines line passed asked =
    let none : filter asks (line ∷ []) ≡ [] = ap (λ p. cond (not p) (line ∷ []) []) passed in
    record {
      spelled = asked.spelled ∙ sym (append-nil (filter asks lines)) ∙ ap (λ xs. filter asks lines ++ xs) (sym none) ∙ sym (filter-append asks lines (line ∷ []));
      meant = asked.meant;
    }

-- one more line that asks for an event
pub ask_next : {E : Type 0} (spell : E → List ℕ) (IsMeant : E → Type 0) (events : List E) (lines : List (List ℕ)) (line : List ℕ) (e : E) → is_passed_over line ≡ false → line ≡ spell e → IsMeant e → AskForAs spell IsMeant events lines → AskForAs spell IsMeant (events ++ e ∷ []) (lines ++ line ∷ [])
ask_next {E} spell IsMeant events lines line e asked_for is meant asked =
    let one : filter asks (line ∷ []) ≡ line ∷ [] = ap (λ p. cond (not p) (line ∷ []) []) asked_for in
    record {
      spelled = map-append spell events (e ∷ []) ∙ ap (λ xs. xs ++ spell e ∷ []) asked.spelled ∙ ap (λ x. filter asks lines ++ x ∷ []) (sym is) ∙ ap (λ xs. filter asks lines ++ xs) (sym one) ∙ sym (filter-append asks lines (line ∷ []));
      meant = All-append IsMeant events (e ∷ []) asked.meant (All-cons IsMeant e [] meant (All-nil IsMeant));
    }

pub ask_none : {E : Type 0} (spell : E → List ℕ) (IsMeant : E → Type 0) (events : List E) → events ≡ [] → AskForAs spell IsMeant events []
ask_none {E} spell IsMeant events none = record { spelled = ap (map spell) none; meant = subst (All IsMeant) (sym none) (All-nil IsMeant) }

-- the line after those that were read is reached
reached : {E : Type 0} (spell : E → List ℕ) (IsMeant : E → Type 0) (text : List ℕ) (n : ℕ) (line : List ℕ) (rest : List (List ℕ)) (events : List E) → drop n (lines_of text) ≡ line ∷ rest → is_passed_over line ≡ false → AskForAs spell IsMeant events (take n (lines_of text)) → IsReachedAs spell IsMeant text (n + 1) line
reached {E} spell IsMeant text n line rest events here asking asked =
    let back : n + 1 - 1 ≡ n = omega arith in
    record {
      counted = omega arith;
      there = ap (slice_get (lines_of text)) back ∙ get_next n (lines_of text) rest line here;
      asks = ap not asking;
      events = events;
      before = subst (λ k. AskForAs spell IsMeant events (take k (lines_of text))) (sym back) asked;
    }

-- it is the first that is bad
pub first_bad : {E : Type 0} (spell : E → List ℕ) (IsMeant : E → Type 0) (text : List ℕ) (n : ℕ) (line : List ℕ) (rest : List (List ℕ)) (events : List E) → drop n (lines_of text) ≡ line ∷ rest → is_passed_over line ≡ false → ((e : E) → IsMeant e → line ≢ spell e) → AskForAs spell IsMeant events (take n (lines_of text)) → IsFirstBadAs spell IsMeant text (n + 1)
first_bad {E} spell IsMeant text n line rest events here asking bad asked = record { line = line; reached = reached spell IsMeant text n line rest events here asking asked; bad = bad }

-- memory ran out at it
pub ran_out : {E : Type 0} (spell : E → List ℕ) (IsMeant : E → Type 0) (Wants : List ℕ → Type 0) (text : List ℕ) (n : ℕ) (line : List ℕ) (rest : List (List ℕ)) (events : List E) → drop n (lines_of text) ≡ line ∷ rest → is_passed_over line ≡ false → Wants line → AskForAs spell IsMeant events (take n (lines_of text)) → RanOutAs spell IsMeant Wants text
ran_out {E} spell IsMeant Wants text n line rest events here asking wants asked = record { number = n + 1; line = line; reached = reached spell IsMeant text n line rest events here asking asked; wants = wants }
