-- Objects whose members have fixed names, and values that have texts of their own.
use Rattle.world_trace.proofs.Common.{false≢true, append_assoc, All-cons, All-head, All-tail, decimal, Lacks, IsShort, bits_members, member, object, quoted}
use Rattle.std.proofs.Common.{◌≡◌, ℕ, ◌==◌, Bool, true, false, List, [], ◌∷◌, ◌++◌, codes, if◌then◌else◌, length, Option, Some, None, IfSome, Ok, refl, sym, ap, ap₂, subst, ◌∙◌, arith, lit<}
use Rattle.std.specs.List.{All, list_any}
use Rattle.hex.specs.Hex.{IsBytes, encode_upper, decode_of}
use Rattle.trace.proofs.lemmas.{Any, AreClosed, IsClosed, Spelled, also_closed, decimal_closed, first_same, member_once, none_closed, object_closed, object_once, quoted_once, rest_same, short_once, string_closed, bits_closed, bits_same, digits_lack, word_closed}
use Rattle.world_trace.specs.Texts.{number_text}
use Rattle.std.proofs.lemmas.Fmt.{decimal_is_IsNumeral_wide}
use Rattle.std.specs.Str.Parse.{IsNumeral}
use Rattle.hex.proofs.HexLemmas.{decode_of-encode_upper}
use Rattle.script.proofs.lemmas.{spelled_digits}

-- ---- members

-- values under these names
abbrev pub fields : List (List ℕ) → List (List ℕ) → List (List ℕ)
fields [] values = []
fields (n ∷ names) [] = []
fields (n ∷ names) (v ∷ values) = member n v ∷ fields names values

-- names without a quotation mark
abbrev pub AreNames : List (List ℕ) → Type 0
AreNames [] = Unit {0}
AreNames (n ∷ names) = (list_any (λ c. c == 34) n ≡ false) × AreNames names

-- whether they are
abbrev pub all_names : List (List ℕ) → Bool
all_names [] = true
all_names (n ∷ names) = if list_any (λ c. c == 34) n then false else all_names names

pub are_names : (names : List (List ℕ)) → all_names names ≡ true → AreNames names
are_names [] h = tt
are_names (n ∷ names) h = by (λ k. are_names names k) (list_any (λ c. c == 34) n) refl h where
  by : (all_names names ≡ true → AreNames names) → (b : Bool) → list_any (λ c. c == 34) n ≡ b → (if b then false else all_names names) ≡ true → AreNames (n ∷ names)
  by more true e all = absurd (false≢true all)
  by more false e all = (e, more all)

-- one value more
pub also : {v : List ℕ} {values : List (List ℕ)} → IsClosed v → AreClosed values → AreClosed (v ∷ values)
also {v} {values} closed more = record { all = All-cons IsClosed v values closed more.all }

fields_closed : (names values : List (List ℕ)) → AreNames names → All IsClosed values → AreClosed (fields names values)
fields_closed [] values plain closed = none_closed
fields_closed (n ∷ names) [] plain closed = none_closed
fields_closed (n ∷ names) (v ∷ values) plain closed = also_closed n plain.0 (All-head IsClosed v values closed) (fields_closed names values plain.1 (All-tail IsClosed v values closed))

fields_once : (names values others : List (List ℕ)) → length values ≡ length names → length others ≡ length names → fields names values ≡ fields names others → values ≡ others
fields_once [] [] [] long far e = refl
fields_once [] [] (w ∷ others) long far e = absurd (omega (arith, far))
fields_once [] (v ∷ values) others long far e = absurd (omega (arith, long))
fields_once (n ∷ names) [] others long far e = absurd (omega (arith, long))
fields_once (n ∷ names) (v ∷ values) [] long far e = absurd (omega (arith, far))
fields_once (n ∷ names) (v ∷ values) (w ∷ others) long far e =
    ap₂ (λ (x : List ℕ) (xs : List (List ℕ)). x ∷ xs) (member_once n v w (first_same e)) (fields_once names values others (omega (arith, long)) (omega (arith, far)) (rest_same e))

-- an object of such members is closed, and determines the values
pub fields_spelled : {X : Type 0} (names : List (List ℕ)) (values : X → List (List ℕ)) (IsValid : X → Type 0) → all_names names ≡ true → ((x : X) → length (values x) ≡ length names)
    → ((x : X) → IsValid x → AreClosed (values x)) → ((x y : X) → IsValid x → IsValid y → values x ≡ values y → x ≡ y) → Spelled (λ x. object (fields names (values x))) IsValid
fields_spelled names values IsValid plain long closed once = record {
  closed = λ x is. object_closed (fields names (values x)) (fields_closed names (values x) (are_names names plain) (closed x is).all).all;
  once = λ x y p q e. once x y p q
      (fields_once names (values x) (values y) (long x) (long y)
      (object_once (fields names (values x)) (fields names (values y)) (fields_closed names (values x) (are_names names plain) (closed x p).all).all (fields_closed names (values y) (are_names names plain) (closed y q).all).all e));
}

-- ---- numbers

pub decimal_spelled : Spelled decimal IsShort
decimal_spelled = record { closed = λ n is. decimal_closed n; once = short_once }

pub null_closed : IsClosed (codes "null")
null_closed = word_closed 110 (codes "ull") refl

-- a decimal is no word
not_null : (n : ℕ) → IsShort n → decimal n ≡ codes "null" → ⊥
not_null n is e =
    let digits : IsNumeral 10 (codes "null") = subst (IsNumeral 10) e (decimal_is_IsNumeral_wide n is).0 in
    absurd (omega (arith, digits.1.0))

number_closed : (o : Option ℕ) → IfSome o IsShort → IsClosed (number_text o)
number_closed None is = null_closed
number_closed (Some n) is = decimal_closed n

number_once : (o r : Option ℕ) → IfSome o IsShort → IfSome r IsShort → number_text o ≡ number_text r → o ≡ r
number_once None None p q e = refl
number_once None (Some n) p q e = absurd (not_null n q (sym e))
number_once (Some m) None p q e = absurd (not_null m p e)
number_once (Some m) (Some n) p q e = ap (λ (k : ℕ). Some k) (short_once m n p q e)

pub number_spelled : Spelled number_text (λ o. IfSome o IsShort)
number_spelled = record { closed = number_closed; once = number_once }

-- ---- bits and octets

pub bits_object : Spelled (λ bits. object (bits_members bits)) Any
bits_object = record {
  closed = λ bits any. object_closed (bits_members bits) (bits_closed bits).all;
  once = λ a b p q e. bits_same a b (object_once (bits_members a) (bits_members b) (bits_closed a).all (bits_closed b).all e);
}

octets_once : (a b : List ℕ) → IsBytes a → IsBytes b → encode_upper a ≡ encode_upper b → a ≡ b
octets_once a b p q e = let read : Ok a ≡ Ok b = sym (decode_of-encode_upper a p) ∙ ap decode_of e ∙ decode_of-encode_upper b q in cc

pub octets_spelled : Spelled (λ octets. quoted (encode_upper octets)) IsBytes
octets_spelled = record {
  closed = λ octets small. string_closed (encode_upper octets) (digits_lack 34 (lit< tt) (encode_upper octets) (spelled_digits octets small));
  once = λ a b p q e. octets_once a b p q (quoted_once (encode_upper a) (encode_upper b) e);
}

-- ---- names

-- what is before the first quotation mark
before_mark : (a b xs ys : List ℕ) → Lacks 34 a → Lacks 34 b → a ++ 34 ∷ xs ≡ b ++ 34 ∷ ys → a ≡ b
before_mark [] [] xs ys p q e = refl
before_mark [] (y ∷ b) xs ys p q e =
    let mark : 34 ≡ y = first_same e in
    let other : (34 == 34) ≡ false = subst (λ n. (n == 34) ≡ false) (sym mark) (All-head (λ n. (n == 34) ≡ false) y b q) in
    absurd (false≢true (sym other))
before_mark (x ∷ a) [] xs ys p q e =
    let mark : x ≡ 34 = first_same e in
    let other : (34 == 34) ≡ false = subst (λ n. (n == 34) ≡ false) mark (All-head (λ n. (n == 34) ≡ false) x a p) in
    absurd (false≢true (sym other))
before_mark (x ∷ a) (y ∷ b) xs ys p q e =
    ap₂ (λ (n : ℕ) (ns : List ℕ). n ∷ ns) (first_same e)
    (before_mark a b xs ys (All-tail (λ n. (n == 34) ≡ false) x a p) (All-tail (λ n. (n == 34) ≡ false) y b q) (rest_same e))

-- a member has its name only
pub name_once : (n m v w : List ℕ) → Lacks 34 n → Lacks 34 m → member n v ≡ member m w → n ≡ m
name_once n m v w p q e =
    let marked : n ++ 34 ∷ 58 ∷ v ≡ m ++ 34 ∷ 58 ∷ w = sym (append_assoc n (34 ∷ []) (58 ∷ v)) ∙ rest_same e ∙ append_assoc m (34 ∷ []) (58 ∷ w) in
    before_mark n m (58 ∷ v) (58 ∷ w) p q marked
