-- Lives by their own requests, and the tests by which streams, grants and closes are judged. No public clause cites this file.
use Rattle.std.specs.Prelude.{◌≡◌, ℕ, ◌<◌, ◌≤◌, ◌+◌, ◌==◌, ◌&&◌, nat_le, min, Bool, true, false, List, [], length, slice_get, Option, Some, None}
use Rattle.std.specs.FinMap as map
use Rattle.std.specs.Ordering.{nat_cmp}
use Rattle.interface.specs.Host.{same_host}
use Rattle.promise.specs.Safe.{IsPrefix, Name, own_request, receives, sends}
use Rattle.promise.specs.declared.life.Amount.{Amount}
use Rattle.promise.specs.declared.life.Fate.{Fate}
use Rattle.promise.specs.declared.life.Fate.TheVariants as fate
use Rattle.promise.specs.declared.life.Life.{Life}
use Rattle.book_judge.specs.Inside.Asked.{key, same_name}
use Rattle.book_judge.specs.Inside.Starts.{counts_of}
use Rattle.book_judge.specs.declared.sought.Sought.{Sought}
use Rattle.book_judge.specs.declared.sought.Sought.TheVariants as sought

-- none of the lives from one place on up to another has an own request with this key
abbrev pub NoneWith : ℕ → ℕ → ℕ → List Life → Type 0
NoneWith k from to lives = (i : ℕ) (x : Life) → from ≤ i → i < to → slice_get lives i ≡ Some x → key (own_request x) ≡ k → ⊥

-- where the last of the first lives is whose own request has this key
abbrev pub IsLast : ℕ → ℕ → List Life → Option ℕ → Type 0
IsLast k n lives None = NoneWith k 0 n lives
IsLast k n lives (Some place) = (place < n) × ((x : Life) → slice_get lives place ≡ Some x → key (own_request x) ≡ k) × NoneWith k (place + 1) n lives

-- of each key the last of the first lives; and of each of these the last one before it with its key
pub record AreChained (n : ℕ) (last : map.FinMap nat_cmp ℕ) (before : List (Option ℕ)) (lives : List Life) : Type 0 where
  pub counts : length before ≡ n
  pub ends : (k : ℕ) → IsLast k n lives (map.get last k)
  pub links : (i : ℕ) (x : Life) → i < n → slice_get lives i ≡ Some x
      → (found : Option ℕ) × (slice_get before i ≡ Some found) × IsLast (key (own_request x)) i lives found

-- ---- matches

-- a receiving life and a sending one match, where these are the requests of their partners
abbrev pub fits : Name → Life → Name → Life → Bool
fits a x b y =
    receives x && sends y && same_host x.peer y.host && same_host y.peer x.host && same_name a (own_request y) && same_name b (own_request x)

abbrev pub fits_of : Name → Life → Option Name → Option Life → Bool
fits_of a x None y = false
fits_of a x (Some b) None = false
fits_of a x (Some b) (Some y) = fits a x b y

-- whether a life fits the one at a place
abbrev pub fits_at : Name → Life → List Name → List Life → ℕ → Bool
fits_at a x names lives i = fits_of a x (slice_get names i) (slice_get lives i)

-- two lives have the same requests, hosts and peers
abbrev pub repeats : Name → Life → Name → Life → Bool
repeats a x b y = same_name a b && same_name (own_request x) (own_request y) && same_host x.host y.host && same_host x.peer y.peer

-- ---- searches

-- the first of a number of places at which this doesn't hold; nothing where it holds at all
abbrev pub FoundFirst : (ℕ → Type 0) → ℕ → Option ℕ → Type 0
FoundFirst Holds n None = (i : ℕ) → i < n → Holds i
FoundFirst Holds n (Some place) = (place < n) × ((i : ℕ) → i < place → Holds i) × (Holds place → ⊥)

-- the first of two places
abbrev pub first_of : Option ℕ → Option ℕ → Option ℕ
first_of None b = b
first_of (Some a) None = Some a
first_of (Some a) (Some b) = Some (min a b)

-- whether this many messages and bits, with what was returned, are no more than what a receiving life granted
abbrev pub is_granted : Life → ℕ → ℕ → Bool
is_granted x count size = nat_le (count + x.returned.messages) x.granted.messages && nat_le (size + x.returned.bits) x.granted.bits

-- a receiving life took all that a sending one sent, and all that was handed over there
abbrev pub TookAll : Life → Life → List Bool → Type 0
TookAll x y handed = (x.bits ≡ y.bits) × (x.messages ≡ y.messages) × (x.bits ≡ handed)

abbrev pub LosesOf : Life → Life → List (List Bool) → ℕ → Type 0
LosesOf x y handed i = (h : List Bool) × (slice_get handed i ≡ Some h) × (TookAll x y h → ⊥)

-- what a sending life is looked for by: that it sent what the receiving one took, more than that granted, or something that it lost;
-- or that it counts a message as that does
abbrev pub Meets : Sought → Life → Life → ℕ → Type 0
Meets sought.Source x y i = IsPrefix x.bits y.bits
Meets sought.Excess x y i = is_granted x y.messages (length y.bits) ≡ false
Meets (sought.Loss handed) x y i = LosesOf x y handed.now i
Meets (sought.Sender starts taking) x y i = counts_of (slice_get starts.now i) y taking ≡ true

-- such a life at a place fits a receiving one, with its partner's request
abbrev pub SoughtAt : Sought → Name → Life → List Name → List Life → ℕ → Type 0
SoughtAt s a x names lives i = (b : Name) × (y : Life) × (slice_get names i ≡ Some b) × (slice_get lives i ≡ Some y) × (fits a x b y ≡ true) × Meets s x y i

-- ---- streams

-- a receiving life took bits that one at a place that fits it sent
abbrev pub SourceAt : Name → Life → List Name → List Life → ℕ → Type 0
SourceAt a x names lives i = SoughtAt sought.Source a x names lives i

abbrev pub IsSourced : Name → Life → List Name → List Life → Type 0
IsSourced a x names lives = receives x ≡ true → (x.bits ≡ [] → ⊥) → (i : ℕ) × SourceAt a x names lives i

abbrev pub IsHanded : Life → List Bool → Type 0
IsHanded x handed = sends x ≡ true → IsPrefix x.bits handed

-- what streams promise of the life at a place
abbrev pub FedAt : List Name → List Life → List (List Bool) → ℕ → Type 0
FedAt names lives handed i =
    (a : Name) (x : Life) (h : List Bool) → slice_get names i ≡ Some a → slice_get lives i ≡ Some x → slice_get handed i ≡ Some h
    → IsSourced a x names lives × IsHanded x h

-- ---- grants

-- a sending life at a place that fits a receiving one sent more than that granted
abbrev pub ExceedsAt : Name → Life → List Name → List Life → ℕ → Type 0
ExceedsAt a x names lives i = SoughtAt sought.Excess a x names lives i

abbrev pub HasGranted : Name → Life → List Name → List Life → Type 0
HasGranted a x names lives =
    receives x ≡ true → (is_granted x x.messages (length x.bits) ≡ true) × ((i : ℕ) → ExceedsAt a x names lives i → ⊥)

abbrev pub same_amount : Amount → Amount → Bool
same_amount a b = a.messages == b.messages && a.bits == b.bits

abbrev pub shown_of : Name → Life → Option Name → Option Life → Bool
shown_of a x None y = false
shown_of a x (Some b) None = false
shown_of a x (Some b) (Some y) = repeats a x b y && same_amount x.granted y.granted && same_amount x.returned y.returned

-- an earlier life has the same requests, and granted as much
abbrev pub is_shown : Name → Life → List Name → List Life → Option ℕ → Bool
is_shown a x names lives None = false
is_shown a x names lives (Some place) = shown_of a x (slice_get names place) (slice_get lives place)

-- what grants promise of the life at a place
abbrev pub GrantedAt : List Name → List Life → ℕ → Type 0
GrantedAt names lives i = (a : Name) (x : Life) → slice_get names i ≡ Some a → slice_get lives i ≡ Some x → HasGranted a x names lives

-- ---- closes

-- a sending life at a place fits a receiving one, which lost something of it
abbrev pub LosesAt : Name → Life → List Name → List Life → List (List Bool) → ℕ → Type 0
LosesAt a x names lives handed i =
    (b : Name) × (y : Life) × (slice_get names i ≡ Some b) × (slice_get lives i ≡ Some y) × (fits a x b y ≡ true) × LosesOf x y handed i

abbrev pub HasTaken : Name → Life → List Name → List Life → List (List Bool) → Type 0
HasTaken a x names lives handed = receives x ≡ true → (i : ℕ) → LosesAt a x names lives handed i → ⊥

-- what closes promise of the life at a place
abbrev pub ClosedAt : List Name → List Life → List (List Bool) → List Fate → ℕ → Type 0
ClosedAt names lives handed fates i =
    (a : Name) (x : Life) → slice_get names i ≡ Some a → slice_get lives i ≡ Some x → slice_get fates i ≡ Some fate.Ended → HasTaken a x names lives handed

-- a life has the requests, the messages and the bits of the one at a place, which its partner ended
abbrev pub AgainAt : Name → Life → List Name → List Life → List Fate → ℕ → Type 0
AgainAt a x names lives fates i =
    (b : Name) × (y : Life) × (slice_get names i ≡ Some b) × (slice_get lives i ≡ Some y) × (slice_get fates i ≡ Some fate.Ended) × (repeats a x b y ≡ true)
    × (x.messages ≡ y.messages) × (x.bits ≡ y.bits)
