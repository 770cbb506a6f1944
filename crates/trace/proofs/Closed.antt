-- JSON texts are distinguished: what is before a comma or a closing bracket is one value in one way.
use Rattle.trace.proofs.Common.{false≢true, nat_tests, All-cons, All-head, All-nil, All-tail, All, list_any, Lacks, SameCut, unmarked_where}
use Rattle.std.proofs.Common.{◌≡◌, ◌≢◌, ℕ, zero, suc, ◌==◌, ◌||◌, Bool, true, false, not, List, [], ◌∷◌, ◌++◌, map, if◌then◌else◌, refl, sym, ap, ap₂, ◌∙◌, arith}
use Rattle.std.proofs.lemmas.List.{append_assoc, append-nil, append_cancel_left, append_cancel_right}
use Rattle.trace.specs.Texts.{array, further, listed, member, object, quoted}

-- ---- where a value ends

-- what follows inside of a bracket; outside of all brackets the value is at its end
abbrev pub inside : ℕ → List ℕ → List ℕ
inside zero xs = []
inside (suc depth) xs = xs

abbrev pub outer : ℕ → ℕ
outer zero = zero
outer (suc depth) = depth

abbrev pub opens : ℕ → Bool
opens c = c == 91 || c == 123

abbrev pub closes : ℕ → Bool
closes c = c == 93 || c == 125

-- the first value of a text, which is in this many brackets, and in a string or not
abbrev pub front : ℕ → Bool → List ℕ → List ℕ
front depth quoting [] = []
front depth true (c ∷ cs) = c ∷ front depth (not (c == 34)) cs
front depth false (c ∷ cs) =
    if c == 34 then c ∷ front depth true cs
    else if opens c then c ∷ front (suc depth) false cs
    else if closes c then inside depth (c ∷ front (outer depth) false cs)
    else if c == 44 then inside depth (c ∷ front depth false cs)
    else c ∷ front depth false cs

-- a text whose brackets and strings are closed: whatever is before it, it is passed as a whole
pub record IsClosed (t : List ℕ) : Type 0 where
  pub some : t ≢ []
  pub passes : (depth : ℕ) (r : List ℕ) → front depth false (t ++ r) ≡ t ++ front depth false r

-- what can follow a value
abbrev pub Ends : List ℕ → Type 0
Ends r = front 0 false r ≡ []

front_is : (t r : List ℕ) → IsClosed t → Ends r → front 0 false (t ++ r) ≡ t
front_is t r closed ends = closed.passes 0 r ∙ ap (λ xs. t ++ xs) ends ∙ append-nil t

pub one_front : (t r u s : List ℕ) → IsClosed t → IsClosed u → Ends r → Ends s → t ++ r ≡ u ++ s → SameCut t r u s
one_front t r u s p q f g e =
    let same : t ≡ u = sym (front_is t r p f) ∙ ap (front 0 false) e ∙ front_is u s q g in
    record { front = same; back = append_cancel_left u r s (ap (λ xs. xs ++ r) (sym same) ∙ e) }

-- ---- closed texts

-- an octet that opens, closes and parts nothing
abbrev pub is_plain : ℕ → Bool
is_plain c = not (c == 34 || (opens c || (closes c || c == 44)))

plain_passes : (depth c : ℕ) (cs : List ℕ) → is_plain c ≡ true → front depth false (c ∷ cs) ≡ c ∷ front depth false cs
plain_passes depth c cs plain = by (c == 34) (opens c) (closes c) (c == 44) plain where
  by : (q o k s : Bool) → not (q || (o || (k || s))) ≡ true → (if q then c ∷ front depth true cs else if o then c ∷ front (suc depth) false cs else if k then inside depth (c ∷ front (outer depth) false cs) else if s then inside depth (c ∷ front depth false cs) else c ∷ front depth false cs) ≡ c ∷ front depth false cs
  by true o k s h = absurd (false≢true h)
  by false true k s h = absurd (false≢true h)
  by false false true s h = absurd (false≢true h)
  by false false false true h = absurd (false≢true h)
  by false false false false h = refl

all_plain : (t : List ℕ) → All (λ c. is_plain c ≡ true) t → (depth : ℕ) (r : List ℕ) → front depth false (t ++ r) ≡ t ++ front depth false r
all_plain [] plain depth r = refl
all_plain (c ∷ t) plain depth r =
    plain_passes depth c _ (All-head (λ x. is_plain x ≡ true) c t plain) ∙ ap (λ xs. c ∷ xs) (all_plain t (All-tail (λ x. is_plain x ≡ true) c t plain) depth r)

-- two texts, one after the other
pub both_closed : (t u : List ℕ) → IsClosed t → IsClosed u → IsClosed (t ++ u)
both_closed t u p q = record {
  some = λ e. p.some (first_none t u e);
  passes = λ depth r. ap (front depth false) (append_assoc t u r) ∙ p.passes depth (u ++ r) ∙ ap (λ xs. t ++ xs) (q.passes depth r) ∙ sym (append_assoc t u (front depth false r));
} where
  first_none : (xs ys : List ℕ) → xs ++ ys ≡ [] → xs ≡ []
  first_none [] ys e = refl
  first_none (x ∷ xs) ys e = absurd (cc)

-- a word
pub plain_closed : (t : List ℕ) → t ≢ [] → All (λ c. is_plain c ≡ true) t → IsClosed t
plain_closed t some plain = record { some = some; passes = λ depth r. all_plain t plain depth r }

-- what is in a string
in_string : (t : List ℕ) → Lacks 34 t → (depth : ℕ) (r : List ℕ) → front depth true (t ++ 34 ∷ r) ≡ t ++ 34 ∷ front depth false r
in_string [] lacks depth r = refl
in_string (c ∷ t) lacks depth r =
    let other : (c == 34) ≡ false = All-head (λ x. (x == 34) ≡ false) c t lacks in
    ap (λ (b : Bool). c ∷ front depth (not b) (t ++ 34 ∷ r)) other ∙ ap (λ xs. c ∷ xs) (in_string t (All-tail (λ x. (x == 34) ≡ false) c t lacks) depth r)

pub string_closed : (t : List ℕ) → Lacks 34 t → IsClosed (quoted t)
string_closed t lacks = record {
  some = λ e. absurd (cc);
  passes = λ depth r. ap (λ xs. 34 ∷ front depth true xs) (append_assoc t (34 ∷ []) r) ∙ ap (λ xs. 34 ∷ xs) (in_string t lacks depth r ∙ sym (append_assoc t (34 ∷ []) (front depth false r)));
}

pub member_closed : (name value : List ℕ) → Lacks 34 name → IsClosed value → IsClosed (member name value)
member_closed name value lacks closed =
    both_closed _ _ (string_closed name lacks) (both_closed _ value (plain_closed (58 ∷ []) (λ e. absurd (cc)) (All-cons (λ c. is_plain c ≡ true) 58 [] refl (All-nil (λ c. is_plain c ≡ true)))) closed)

-- items with commas between, in brackets
further_passes : (end : ℕ) → ((depth : ℕ) (r : List ℕ) → front (suc depth) false (end ∷ r) ≡ end ∷ front depth false r) → (xs : List (List ℕ)) → All IsClosed xs
    → (depth : ℕ) (r : List ℕ) → front (suc depth) false (further (end ∷ []) xs ++ r) ≡ further (end ∷ []) xs ++ front depth false r
further_passes end shuts [] closed depth r = shuts depth r
further_passes end shuts (x ∷ xs) closed depth r =
    let one : IsClosed x = All-head IsClosed x xs closed in
    let more = further_passes end shuts xs (All-tail IsClosed x xs closed) depth r in
    ap (λ zs. 44 ∷ zs) (ap (front (suc depth) false) (append_assoc x (further _ xs) r) ∙ one.passes (suc depth) (further _ xs ++ r) ∙ ap (λ zs. x ++ zs) more ∙ sym (append_assoc x (further _ xs) (front depth false r)))

listed_passes : (end : ℕ) → ((depth : ℕ) (r : List ℕ) → front (suc depth) false (end ∷ r) ≡ end ∷ front depth false r) → (xs : List (List ℕ)) → All IsClosed xs
    → (depth : ℕ) (r : List ℕ) → front (suc depth) false (listed (end ∷ []) xs ++ r) ≡ listed (end ∷ []) xs ++ front depth false r
listed_passes end shuts [] closed depth r = shuts depth r
listed_passes end shuts (x ∷ xs) closed depth r =
    let one : IsClosed x = All-head IsClosed x xs closed in
    let more = further_passes end shuts xs (All-tail IsClosed x xs closed) depth r in
    ap (front (suc depth) false) (append_assoc x (further _ xs) r) ∙ one.passes (suc depth) (further _ xs ++ r) ∙ ap (λ zs. x ++ zs) more ∙ sym (append_assoc x (further _ xs) (front depth false r))

pub array_closed : (xs : List (List ℕ)) → All IsClosed xs → IsClosed (array xs)
array_closed xs closed = record { some = λ e. absurd (cc); passes = λ depth r. ap (λ zs. 91 ∷ zs) (listed_passes 93 (λ d s. refl) xs closed depth r) }

pub object_closed : (xs : List (List ℕ)) → All IsClosed xs → IsClosed (object xs)
object_closed xs closed = record { some = λ e. absurd (cc); passes = λ depth r. ap (λ zs. 123 ∷ zs) (listed_passes 125 (λ d s. refl) xs closed depth r) }

-- ---- items are distinguished

pub first_same : {X : Type 0} {x y : X} {xs ys : List X} → x ∷ xs ≡ y ∷ ys → x ≡ y
first_same e = cc

pub rest_same : {X : Type 0} {x y : X} {xs ys : List X} → x ∷ xs ≡ y ∷ ys → xs ≡ ys
rest_same e = cc

pub other_first : {x y : ℕ} {xs ys : List ℕ} → (x == y) ≡ false → x ∷ xs ≡ y ∷ ys → ⊥
other_first {x} {y} apart e = let is : x ≡ y = first_same e in absurd (grind (arith, nat_tests))

further_ends : (end : ℕ) → ((r : List ℕ) → Ends (end ∷ r)) → (xs : List (List ℕ)) → Ends (further (end ∷ []) xs)
further_ends end ends [] = ends []
further_ends end ends (x ∷ xs) = refl

further_once : (end : ℕ) → (44 == end) ≡ false → (end == 44) ≡ false → ((r : List ℕ) → Ends (end ∷ r)) → (xs ys : List (List ℕ)) → All IsClosed xs → All IsClosed ys → further (end ∷ []) xs ≡ further (end ∷ []) ys → xs ≡ ys
further_once end a b ends [] [] p q e = refl
further_once end a b ends [] (y ∷ ys) p q e = absurd (other_first b e)
further_once end a b ends (x ∷ xs) [] p q e = absurd (other_first a e)
further_once end a b ends (x ∷ xs) (y ∷ ys) p q e =
    let cut : SameCut x (further (end ∷ []) xs) y (further (end ∷ []) ys) = one_front x _ y _ (All-head IsClosed x xs p) (All-head IsClosed y ys q) (further_ends end ends xs) (further_ends end ends ys) (rest_same e) in
    ap₂ (λ (z : List ℕ) (zs : List (List ℕ)). z ∷ zs) cut.front (further_once end a b ends xs ys (All-tail IsClosed x xs p) (All-tail IsClosed y ys q) cut.back)

-- an item does not begin with the end
not_end : (end : ℕ) → ((r : List ℕ) → Ends (end ∷ r)) → (x : List ℕ) (xs : List (List ℕ)) → IsClosed x → end ∷ [] ≡ x ++ further (end ∷ []) xs → ⊥
not_end end ends x xs closed e = closed.some (sym (front_is x _ closed (further_ends end ends xs)) ∙ sym (ap (front 0 false) e) ∙ ends [])

listed_once : (end : ℕ) → (44 == end) ≡ false → (end == 44) ≡ false → ((r : List ℕ) → Ends (end ∷ r)) → (xs ys : List (List ℕ)) → All IsClosed xs → All IsClosed ys → listed (end ∷ []) xs ≡ listed (end ∷ []) ys → xs ≡ ys
listed_once end a b ends [] [] p q e = refl
listed_once end a b ends [] (y ∷ ys) p q e = absurd (not_end end ends y ys (All-head IsClosed y ys q) e)
listed_once end a b ends (x ∷ xs) [] p q e = absurd (not_end end ends x xs (All-head IsClosed x xs p) (sym e))
listed_once end a b ends (x ∷ xs) (y ∷ ys) p q e =
    let cut : SameCut x (further (end ∷ []) xs) y (further (end ∷ []) ys) = one_front x _ y _ (All-head IsClosed x xs p) (All-head IsClosed y ys q) (further_ends end ends xs) (further_ends end ends ys) e in
    ap₂ (λ (z : List ℕ) (zs : List (List ℕ)). z ∷ zs) cut.front (further_once end a b ends xs ys (All-tail IsClosed x xs p) (All-tail IsClosed y ys q) cut.back)

pub array_once : (xs ys : List (List ℕ)) → All IsClosed xs → All IsClosed ys → array xs ≡ array ys → xs ≡ ys
array_once xs ys p q e = listed_once 93 refl refl (λ r. refl) xs ys p q (rest_same e)

pub object_once : (xs ys : List (List ℕ)) → All IsClosed xs → All IsClosed ys → object xs ≡ object ys → xs ≡ ys
object_once xs ys p q e = listed_once 125 refl refl (λ r. refl) xs ys p q (rest_same e)

pub quoted_once : (t u : List ℕ) → quoted t ≡ quoted u → t ≡ u
quoted_once t u e = append_cancel_right t u (34 ∷ []) (rest_same e)

pub member_once : (name v w : List ℕ) → member name v ≡ member name w → v ≡ w
member_once name v w e = rest_same (append_cancel_left (quoted name) (58 ∷ v) (58 ∷ w) e)

-- ---- how values of a kind are spelled

-- valid values have texts without a quotation mark, no two alike
pub record Words {X : Type 0} (text : X → List ℕ) (IsValid : X → Type 0) : Type 0 where
  pub plain : (x : X) → IsValid x → Lacks 34 (text x)
  pub once : (x y : X) → IsValid x → IsValid y → text x ≡ text y → x ≡ y

-- valid values have closed texts, no two alike
pub record Spelled {X : Type 0} (text : X → List ℕ) (IsValid : X → Type 0) : Type 0 where
  pub closed : (x : X) → IsValid x → IsClosed (text x)
  pub once : (x y : X) → IsValid x → IsValid y → text x ≡ text y → x ≡ y

-- strings
pub strings_spelled : {X : Type 0} (text : X → List ℕ) (IsValid : X → Type 0) → Words text IsValid → Spelled (λ x. quoted (text x)) IsValid
strings_spelled text IsValid words = record {
  closed = λ x valid. string_closed (text x) (words.plain x valid);
  once = λ x y p q e. words.once x y p q (quoted_once _ _ e);
}

-- lists
each_closed : {X : Type 0} (text : X → List ℕ) (IsValid : X → Type 0) → Spelled text IsValid → (xs : List X) → All IsValid xs → All IsClosed (map text xs)
each_closed text IsValid spelled [] p = All-nil IsClosed
each_closed text IsValid spelled (x ∷ xs) p = All-cons IsClosed (text x) (map text xs) (spelled.closed x (All-head IsValid x xs p)) (each_closed text IsValid spelled xs (All-tail IsValid x xs p))

each_once : {X : Type 0} (text : X → List ℕ) (IsValid : X → Type 0) → Spelled text IsValid → (xs ys : List X) → All IsValid xs → All IsValid ys → map text xs ≡ map text ys → xs ≡ ys
each_once text IsValid spelled [] [] p q e = refl
each_once text IsValid spelled [] (y ∷ ys) p q e = absurd (cc)
each_once text IsValid spelled (x ∷ xs) [] p q e = absurd (cc)
each_once {X} text IsValid spelled (x ∷ xs) (y ∷ ys) p q e =
    ap₂ (λ (z : X) (zs : List X). z ∷ zs) (spelled.once x y (All-head IsValid x xs p) (All-head IsValid y ys q) (first_same e)) (each_once text IsValid spelled xs ys (All-tail IsValid x xs p) (All-tail IsValid y ys q) (rest_same e))

pub lists_spelled : {X : Type 0} (text : X → List ℕ) (IsValid : X → Type 0) → Spelled text IsValid → Spelled (λ xs. array (map text xs)) (All IsValid)
lists_spelled text IsValid spelled = record {
  closed = λ xs p. array_closed (map text xs) (each_closed text IsValid spelled xs p);
  once = λ xs ys p q e. each_once text IsValid spelled xs ys p q (array_once _ _ (each_closed text IsValid spelled xs p) (each_closed text IsValid spelled ys q) e);
}

-- ---- members

-- each of these texts is closed
pub record AreClosed (texts : List (List ℕ)) : Type 0 where
  pub all : All IsClosed texts

pub none_closed : AreClosed []
none_closed = record { all = All-nil IsClosed }

-- one member more, under a plain name
pub also_closed : (name : List ℕ) {value : List ℕ} {others : List (List ℕ)} → list_any (λ c. c == 34) name ≡ false → IsClosed value → AreClosed others → AreClosed (member name value ∷ others)
also_closed name {value} {others} plain closed more = record { all = All-cons IsClosed (member name value) others (member_closed name value (unmarked_where 34 name plain) closed) more.all }
