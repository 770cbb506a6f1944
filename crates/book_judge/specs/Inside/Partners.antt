-- The tests by which the partners of lives are judged. No public clause cites this file.
use Rattle.std.specs.Prelude.{◌≡◌, ℕ, ◌<◌, ◌&&◌, Bool, true, false, not, List, length, slice_get, Option, Some, None}
use Rattle.std.specs.FinMap as map
use Rattle.std.specs.Ordering.{nat_cmp}
use Rattle.promise.specs.Safe.{Name, own_request}
use Rattle.promise.specs.declared.life.Life.{Life}
use Rattle.book_judge.specs.Inside.Asked.{key, same_name}

abbrev pub alike : Bool → Bool → Bool
alike true b = b
alike false b = not b

-- two lives, with the requests of their partners, may both be in one book
abbrev pub are_apart : Name → Life → Name → Life → Bool
are_apart a x b y =
    not (same_name (own_request x) (own_request y)) && not (same_name a b)
    && alike (same_name a (own_request y)) (same_name b (own_request x))

abbrev pub apart_of : Option Name → Option Life → Option Name → Option Life → Bool
apart_of None x b y = true
apart_of (Some a) None b y = true
apart_of (Some a) (Some x) None y = true
apart_of (Some a) (Some x) (Some b) None = true
apart_of (Some a) (Some x) (Some b) (Some y) = are_apart a x b y

abbrev pub apart_at : List Name → List Life → ℕ → ℕ → Bool
apart_at names lives i j = apart_of (slice_get names i) (slice_get lives i) (slice_get names j) (slice_get lives j)

-- the first lives may be in one book with the one at a place
abbrev pub ApartFrom : ℕ → ℕ → List Name → List Life → Type 0
ApartFrom n j names lives = (i : ℕ) → i < n → apart_at names lives i j ≡ true

-- no two of the first lives can't
abbrev pub AllApart : ℕ → List Name → List Life → Type 0
AllApart n names lives = (j : ℕ) → j < n → ApartFrom j j names lives

abbrev pub mate_of : Option Name → Option Life → Name → Name → Bool
mate_of None x partner own = false
mate_of (Some a) None partner own = false
mate_of (Some a) (Some x) partner own = same_name a partner && same_name (own_request x) own

abbrev pub is_mate : List Name → List Life → Option ℕ → Name → Name → Bool
is_mate names lives None partner own = true
is_mate names lives (Some place) partner own = mate_of (slice_get names place) (slice_get lives place) partner own

abbrev pub is_none_at : Option ℕ → Bool
is_none_at None = true
is_none_at (Some place) = false

abbrev pub is_new : map.FinMap nat_cmp ℕ → map.FinMap nat_cmp ℕ → List Name → List Life → Name → Name → Bool
is_new owns partners names lives asked own =
    is_none_at (map.get owns (key own)) && is_none_at (map.get partners (key asked))
    && is_mate names lives (map.get partners (key own)) own asked
    && is_mate names lives (map.get owns (key asked)) own asked

-- a key has a place below this
abbrev pub HasPlace : ℕ → map.FinMap nat_cmp ℕ → ℕ → Type 0
HasPlace n places k = (place : ℕ) × (map.get places k ≡ Some place) × (place < n)

-- the requests of the first lives are noted
pub record AreKnown (n : ℕ) (owns partners : map.FinMap nat_cmp ℕ) (names : List Name) (lives : List Life) : Type 0 where
  pub own_known : (i : ℕ) (x : Life) → i < n → slice_get lives i ≡ Some x → HasPlace n owns (key (own_request x))
  pub partner_known : (i : ℕ) (a : Name) → i < n → slice_get names i ≡ Some a → HasPlace n partners (key a)

-- the first life that can't be in one book with the one at a place
abbrev pub FirstOdd : Option ℕ → List Name → List Life → ℕ → Type 0
FirstOdd None names lives second = ApartFrom second second names lives
FirstOdd (Some first) names lives second = (first < second) × ApartFrom first second names lives × (apart_at names lives first second ≡ false)

-- the first two lives that can't both be in one book
abbrev pub FoundOdds : Option (ℕ × ℕ) → List Name → List Life → Type 0
FoundOdds None names lives = AllApart (length lives) names lives
FoundOdds (Some at) names lives =
    (at.0 < at.1) × (at.1 < length lives) × AllApart at.1 names lives × ApartFrom at.0 at.1 names lives
    × (apart_at names lives at.0 at.1 ≡ false)
