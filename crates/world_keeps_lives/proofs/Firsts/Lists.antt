-- Lists of lives with their links: what holds of each, and of each two.
use Rattle.world_keeps_lives.proofs.Common.{◌≡◌, ℕ, zero, suc, ◌<◌, List, [], ◌∷◌, ◌++◌, map, length, slice_index_or, refl, ap, sym, subst, ◌∙◌, arith, Contains, append_assoc, AreTwo, own_request, Life, contains_head, contains_tail}
use Rattle.world_keeps_lives.proofs.Firsts.Linked.{Linked}
use Rattle.world_keeps_lives.proofs.Walk.Rules.{Each, each_in, each_of, each_weaker}

-- ---- each of a list

pub each_two : {A : Type 0} (P Q R : A → Type 0) (xs : List A) → ((x : A) → P x → Q x → R x) → Each P xs → Each Q xs
    → Each R xs
each_two P Q R [] k h j = tt
each_two P Q R (x ∷ xs) k h j = (k x h.0 j.0, each_two P Q R xs k h.1 j.1)

-- what holds of all that a list has
pub each_all : {A : Type 0} (Q : A → Type 0) (xs : List A) → ((x : A) → Contains xs x → Q x) → Each Q xs
each_all Q xs k = each_weaker _ Q xs k (each_of xs)

pub each_changed : {A : Type 0} (P Q : A → Type 0) (f : A → A) (xs : List A) → ((x : A) → P x → Q (f x)) → Each P xs
    → Each Q (map f xs)
each_changed P Q f [] k h = tt
each_changed P Q f (x ∷ xs) k h = (k x h.0, each_changed P Q f xs k h.1)

all_mapped : {A B : Type 0} (f : A → B) (xs : List A) → Each (λ (x : A). Contains (map f xs) (f x)) xs
all_mapped f [] = tt
all_mapped {A} f (x ∷ xs) =
    (contains_head (f x) (map f xs), each_weaker _ _ xs (λ y there. contains_tail (f x) (map f xs) (f y) there) (all_mapped f xs))

pub mapped : {A B : Type 0} (f : A → B) (xs : List A) (x : A) → Contains xs x → Contains (map f xs) (f x)
mapped {A} f xs x there = each_in _ xs x there (all_mapped f xs)

pub record From {A B : Type 0} (f : A → B) (xs : List A) (y : B) : Type 0 where
  pub one : A
  pub there : Contains xs one
  pub is : f one ≡ y

all_from : {A B : Type 0} (f : A → B) (xs : List A) → Each (λ (y : B). From f xs y) (map f xs)
all_from f [] = tt
all_from {A} {B} f (x ∷ xs) = (
  record { one = x; there = contains_head x xs; is = refl },
  each_weaker _ _ (map f xs) (λ y k. record { one = k.one; there = contains_tail x xs k.one k.there; is = k.is }) (all_from f xs),
)

pub from_map : {A B : Type 0} (f : A → B) (xs : List A) (y : B) → Contains (map f xs) y → From f xs y
from_map {A} {B} f xs y there = each_in _ (map f xs) y there (all_from f xs)

-- ---- each two of a list, the one before the other

abbrev pub After : (Linked → Linked → Type 0) → Linked → List Linked → Type 0
After R p [] = Unit {0}
After R p (q ∷ qs) = R p q × After R p qs

abbrev pub Pairwise : (Linked → Linked → Type 0) → List Linked → Type 0
Pairwise R [] = Unit {0}
Pairwise R (p ∷ ps) = After R p ps × Pairwise R ps

after_append : (R : Linked → Linked → Type 0) (p : Linked) (xs ys : List Linked) → After R p xs → After R p ys
    → After R p (xs ++ ys)
after_append R p [] ys h k = k
after_append R p (x ∷ xs) ys h k = (h.0, after_append R p xs ys h.1 k)

pub pairs_append : (R : Linked → Linked → Type 0) (xs ys : List Linked) → Pairwise R xs → Pairwise R ys
    → Each (λ p. After R p ys) xs → Pairwise R (xs ++ ys)
pairs_append R [] ys h k cross = k
pairs_append R (x ∷ xs) ys h k cross = (after_append R x xs ys h.0 cross.0, pairs_append R xs ys h.1 k cross.1)

pub after_all : (R : Linked → Linked → Type 0) (Q : Linked → Type 0) (p : Linked) (ys : List Linked)
    → ((q : Linked) → Q q → R p q) → Each Q ys → After R p ys
after_all R Q p [] k h = tt
after_all R Q p (y ∷ ys) k h = (k y h.0, after_all R Q p ys k h.1)

pub pairs_all : (R : Linked → Linked → Type 0) (Q : Linked → Type 0) (ys : List Linked)
    → ((p q : Linked) → Q p → Q q → R p q) → Each Q ys → Pairwise R ys
pairs_all R Q [] k h = tt
pairs_all R Q (y ∷ ys) k h = (after_all R Q y ys (λ q j. k y q h.0 j) h.1, pairs_all R Q ys k h.1)

after_changed : (R S : Linked → Linked → Type 0) (Q : Linked → Type 0) (f : Linked → Linked) (p : Linked) (xs : List Linked)
    → ((q : Linked) → Q q → R p q → S (f p) (f q)) → Each Q xs → After R p xs → After S (f p) (map f xs)
after_changed R S Q f p [] k h j = tt
after_changed R S Q f p (x ∷ xs) k h j = (k x h.0 j.0, after_changed R S Q f p xs k h.1 j.1)

pub pairs_changed : (R S : Linked → Linked → Type 0) (Q : Linked → Type 0) (f : Linked → Linked) (xs : List Linked)
    → ((p q : Linked) → Q p → Q q → R p q → S (f p) (f q)) → Each Q xs → Pairwise R xs → Pairwise S (map f xs)
pairs_changed R S Q f [] k h j = tt
pairs_changed R S Q f (x ∷ xs) k h j = (after_changed R S Q f x xs (λ q i r. k x q h.0 i r) h.1 j.0, pairs_changed R S Q f xs k h.1 j.1)

after_both : (R S T : Linked → Linked → Type 0) (Q : Linked → Type 0) (p : Linked) (xs : List Linked)
    → ((q : Linked) → Q q → R p q → S p q → T p q) → Each Q xs → After R p xs → After S p xs → After T p xs
after_both R S T Q p [] k h r s = tt
after_both R S T Q p (x ∷ xs) k h r s = (k x h.0 r.0 s.0, after_both R S T Q p xs k h.1 r.1 s.1)

pub pairs_both : (R S T : Linked → Linked → Type 0) (Q : Linked → Type 0) (xs : List Linked)
    → ((p q : Linked) → Q p → Q q → R p q → S p q → T p q) → Each Q xs → Pairwise R xs → Pairwise S xs → Pairwise T xs
pairs_both R S T Q [] k h r s = tt
pairs_both R S T Q (x ∷ xs) k h r s = (after_both R S T Q x xs (λ q i a b. k x q h.0 i a b) h.1 r.0 s.0, pairs_both R S T Q xs k h.1 r.1 s.1)

-- ---- two lives of a list

parted_at : (v : Life) (vs : List Life) (k : ℕ) → k < length vs → slice_index_or vs k v ≡ v
    → (front : List Life) × (rest : List Life) × (vs ≡ front ++ v ∷ rest)
parted_at v [] k less is = absurd (omega (arith, less))
parted_at v (w ∷ vs) zero less is = ([], vs, ap (λ (u : Life). u ∷ vs) is)
parted_at v (w ∷ vs) (suc k) less is =
    let r : (front : List Life) × (rest : List Life) × (vs ≡ front ++ v ∷ rest) = parted_at v vs k (omega (arith, less)) is in (w ∷ r.0, r.1, ap (λ (us : List Life). w ∷ us) r.2)

parted : (v : Life) (vs : List Life) → Contains vs v
    → (front : List Life) × (rest : List Life) × (vs ≡ front ++ v ∷ rest)
parted v vs there = parted_at v vs there.0 there.1 there.2

pub two_in : (xs ys : List Life) (u v : Life) → Contains xs u → Contains ys v → AreTwo (xs ++ ys) u v
two_in xs ys u v i j =
    let p : (front : List Life) × (rest : List Life) × (xs ≡ front ++ u ∷ rest) = parted u xs i in
    let q : (front : List Life) × (rest : List Life) × (ys ≡ front ++ v ∷ rest) = parted v ys j in (
      p.0,
      p.1 ++ q.0,
      q.1,
      ap (λ (l : List Life). l ++ ys) p.2 ∙ ap (λ (l : List Life). (p.0 ++ u ∷ p.1) ++ l) q.2 ∙ sym (append_assoc (p.0 ++ u ∷ p.1) q.0 (v ∷ q.1)) ∙ ap (λ (l : List Life). l ++ v ∷ q.1) (append_assoc p.0 (u ∷ p.1) q.0),
    )

abbrev pub life_of : Linked → Life
life_of p = p.life

-- no two have one own request
abbrev pub AreDistinct : Linked → Linked → Type 0
AreDistinct p q = own_request p.life ≡ own_request q.life → ⊥

pub all_distinct : (front : List Life) (ps : List Linked)
    → ((x y : Life) → AreTwo (front ++ map life_of ps) x y → own_request x ≡ own_request y → ⊥)
    → Pairwise AreDistinct ps
all_distinct front [] once = tt
all_distinct front (p ∷ ps) once = (
  after_all AreDistinct _ p ps
      (λ q there. once p.life q.life
      (let t : AreTwo ((front ++ p.life ∷ []) ++ map life_of ps) p.life q.life = two_in _ _ p.life q.life (behind p.life front) (mapped life_of ps q there) in
      subst (λ (l : List Life). AreTwo l p.life q.life) (append_assoc front (p.life ∷ []) (map life_of ps)) t)) (each_of ps),
  all_distinct (front ++ p.life ∷ []) ps (λ x y two. once x y (subst (λ (l : List Life). AreTwo l x y) (append_assoc front (p.life ∷ []) (map life_of ps)) two)),
) where
  behind : (x : Life) (xs : List Life) → Contains (xs ++ x ∷ []) x
  behind x [] = contains_head x []
  behind x (y ∷ xs) = contains_tail y _ x (behind x xs)

pub map_life : (f : Linked → Linked) (g : Life → Life) → ((p : Linked) → (f p).life ≡ g p.life) → (ps : List Linked)
    → map life_of (map f ps) ≡ map g (map life_of ps)
map_life f g k [] = refl
map_life f g k (p ∷ ps) = ap (λ (x : Life). x ∷ map life_of (map f ps)) (k p) ∙ ap (λ (xs : List Life). g p.life ∷ xs) (map_life f g k ps)
