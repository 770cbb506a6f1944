-- A text and its body.
use Rattle.std.proofs.Common.{◌≡◌, ℕ, ◌+◌, ◌-◌, ◌%◌, ◌<◌, ◌≤◌, Bool, true, false, not, List, [], ◌∷◌, ◌++◌, length, get_or, take, drop, replicate, refl, ap, sym, subst, ◌∙◌, arith, suc, zero}
use Rattle.std.specs.List.{suffix_len}
use Rattle.std.proofs.lemmas.List.{take_at, length-append, length-replicate, replicate-append-replicate}
use Rattle.std.proofs.lemmas.List.Folds.{list_any_at}
use Rattle.std.proofs.lemmas.List.Sums.{suffix_len_is}
use Rattle.std.proofs.Common.{◌⊎◌, inl, inr, None, Some, eq-eqb, drop-cons, nat_lt, ◌==◌, if◌then◌else◌}
use Rattle.std.proofs.lemmas.List.{get_or-drop, length-drop, get_or-replicate, get_or_at, take-append-drop}
use Rattle.std.proofs.lemmas.Bool.{le-ltb, ltb-false, eqb-true}
use Rattle.bit_messages.specs.declared.fault.BitFault.TheVariants as fault
use Rattle.bit_messages.specs.Body.{is_one, has_mark, text_of, IsBodyOf, strip_fault, body, filling}

-- from a place on there are only zeros
pub record HasZerosFrom (end : ℕ) (bits : List Bool) : Type 0 where
  pub within : end ≤ length bits
  pub zeros : (k : ℕ) → end ≤ k → k < length bits → get_or bits k false ≡ false

-- the text before a one that only zeros follow
pub record IsMarkedAt (mark : ℕ) (bits : List Bool) : Type 0 where
  pub marked : has_mark bits ≡ true
  pub text : text_of bits ≡ take mark bits

pub marked_at : (mark : ℕ) (bits : List Bool) → mark < length bits → get_or bits mark false ≡ true → HasZerosFrom (suc mark) bits → IsMarkedAt mark bits
marked_at mark bits lt one after =
    let zeros : (k : ℕ) → suc mark ≤ k → k < length bits → not (get_or bits k false) ≡ true = λ k from to. ap not (after.zeros k from to) in
    let stops : not (get_or bits (suc mark - 1) false) ≡ false = let e : suc mark - 1 ≡ mark = omega arith in ap not (ap (λ (k : ℕ). get_or bits k false) e ∙ one) in
    let suffix : suffix_len (λ (b : Bool). not b) bits ≡ length bits - suc mark = suffix_len_is (λ (b : Bool). not b) bits (suc mark) false after.within zeros (λ _. stops) in
    let end : length bits - suffix_len (λ (b : Bool). not b) bits - 1 ≡ mark = omega (arith, suffix) in
    record { marked = list_any_at is_one bits mark false lt one; text = ap (λ (n : ℕ). take n bits) end }

-- with zeros only there is no mark
pub marked_none : (bits : List Bool) → HasZerosFrom 0 bits → has_mark bits ≡ false
marked_none [] h = refl
marked_none (b ∷ bits) h =
    let here : b ≡ false = h.zeros 0 (omega arith) (omega arith) in
    rw here (marked_none bits record { within = omega arith; zeros = λ k from to. h.zeros (suc k) (omega arith) (omega arith) })

-- what follows the first bit
zeros_under : (b : Bool) (bits : List Bool) (end : ℕ) → HasZerosFrom end bits → HasZerosFrom (suc end) (b ∷ bits)
zeros_under b bits end h = record {
  within = omega (arith, h.within);
  zeros = under;
} where
  under : (k : ℕ) → suc end ≤ k → k < length (b ∷ bits) → get_or (b ∷ bits) k false ≡ false
  under zero from to = absurd (omega arith)
  under (suc k) from to = h.zeros k (omega arith) (omega arith)

first_of_all : (b : Bool) (bits : List Bool) → HasZerosFrom 0 bits
    → HasZerosFrom 0 (b ∷ bits) ⊎ ((mark : ℕ) × (mark < length (b ∷ bits)) × (get_or (b ∷ bits) mark false ≡ true) × HasZerosFrom (suc mark) (b ∷ bits))
first_of_all true bits none = inr (0, omega arith, refl, zeros_under true bits 0 none)
first_of_all false bits none = inl (record { within = omega arith; zeros = all }) where
  all : (k : ℕ) → 0 ≤ k → k < length (false ∷ bits) → get_or (false ∷ bits) k false ≡ false
  all zero from to = refl
  all (suc k) from to = none.zeros k (omega arith) (omega arith)

-- a mark and its place, or no mark at all
find_mark : (bits : List Bool) → HasZerosFrom 0 bits ⊎ ((mark : ℕ) × (mark < length bits) × (get_or bits mark false ≡ true) × HasZerosFrom (suc mark) bits)
find_mark [] = inl (record { within = omega arith; zeros = λ k from to. refl })
find_mark (b ∷ bits) = elim (find_mark bits) [
  | inr (mark, lt, one, after) ↦ inr (suc mark, omega (arith, lt), one, zeros_under b bits (suc mark) after)
  | inl none ↦ first_of_all b bits none
]

-- zeros only are a list of zeros
only_zeros : (bits : List Bool) → HasZerosFrom 0 bits → bits ≡ replicate (length bits) false
only_zeros [] h = refl
only_zeros (b ∷ bits) h =
    let here : b ≡ false = h.zeros 0 (omega arith) (omega arith) in
    let rest : bits ≡ replicate (length bits) false = only_zeros bits record { within = omega arith; zeros = λ k from to. h.zeros (suc k) (omega arith) (omega arith) } in
    ap (λ (v : Bool). v ∷ bits) here ∙ ap (λ (v : List Bool). false ∷ v) rest

drop_zeros : (n : ℕ) (bits : List Bool) → HasZerosFrom n bits → HasZerosFrom 0 (drop n bits)
drop_zeros n bits h = record {
  within = omega arith;
  zeros = λ k from to. get_or-drop n bits k false ∙ h.zeros (n + k) (omega arith) (omega (arith, length-drop n bits, h.within));
}

-- a marked list is a text, the mark, and zeros
pub record IsSplit (bits : List Bool) : Type 0 where
  pub zeros : ℕ
  pub padded : bits ≡ text_of bits ++ true ∷ replicate zeros false

split_at_mark : (mark : ℕ) (bits : List Bool) → mark < length bits → get_or bits mark false ≡ true → HasZerosFrom (suc mark) bits → IsSplit bits
split_at_mark mark bits lt one after =
    let m : IsMarkedAt mark bits = marked_at mark bits lt one after in
    let cut : drop mark bits ≡ get_or bits mark false ∷ drop (suc mark) bits = drop-cons bits mark false lt in
    let rest : drop (suc mark) bits ≡ replicate (length (drop (suc mark) bits)) false = only_zeros (drop (suc mark) bits) (drop_zeros (suc mark) bits after) in
    record {
      zeros = length (drop (suc mark) bits);
      padded =
          (sym (take-append-drop mark bits)
          ∙ ap (λ (v : List Bool). take mark bits ++ v) (cut ∙ ap (λ (v : Bool). v ∷ drop (suc mark) bits) one ∙ ap (λ (v : List Bool). true ∷ v) rest)
          ∙ ap (λ (v : List Bool). v ++ true ∷ replicate (length (drop (suc mark) bits)) false) (sym m.text));
    }

pub split_text : (bits : List Bool) → has_mark bits ≡ true → IsSplit bits
split_text bits marked = elim (find_mark bits) [
  | inl none ↦ (let unmarked : has_mark bits ≡ false = marked_none bits none in absurd (cc))
  | inr (mark, lt, one, after) ↦ split_at_mark mark bits lt one after
]

-- zeros after a list without a mark make none
all_zeros : (bits : List Bool) (zeros : ℕ) → HasZerosFrom 0 bits → HasZerosFrom 0 (bits ++ replicate zeros false)
all_zeros bits zeros h = rw (only_zeros bits h) (rw (replicate-append-replicate (length bits) zeros false) (record { within = omega arith; zeros = λ k from to. get_or-replicate (length bits + zeros) k false false (omega (arith, to, length-replicate (length bits + zeros) false)) }))

pub unmarked_behind : (bits : List Bool) (zeros : ℕ) → has_mark bits ≡ false → has_mark (bits ++ replicate zeros false) ≡ false
unmarked_behind bits zeros none = elim (find_mark bits) [
  | inl all ↦ marked_none (bits ++ replicate zeros false) (all_zeros bits zeros all)
  | inr (mark, lt, one, after) ↦ (let m : IsMarkedAt mark bits = marked_at mark bits lt one after in let yes : has_mark bits ≡ true = m.marked in absurd (cc))
]

-- the zeros after a mark
after_mark : (text : List Bool) (zeros : ℕ) → HasZerosFrom (suc (length text)) (text ++ true ∷ replicate zeros false)
after_mark [] zeros = zeros_under true (replicate zeros false) 0 (record { within = omega arith; zeros = λ k from to. get_or-replicate zeros k false false (omega (arith, to, length-replicate zeros false)) })
after_mark (b ∷ text) zeros = zeros_under b (text ++ true ∷ replicate zeros false) (suc (length text)) (after_mark text zeros)

-- the text before a mark that only zeros follow
pub record IsStripped (text bits : List Bool) : Type 0 where
  pub marked : has_mark bits ≡ true
  pub before : text_of bits ≡ text

pub stripped_padded : (text : List Bool) (zeros : ℕ) → IsStripped text (text ++ true ∷ replicate zeros false)
stripped_padded text zeros =
    let lt : length text < length (text ++ true ∷ replicate zeros false) = omega (arith, length-append text (true ∷ replicate zeros false)) in
    let m : IsMarkedAt (length text) (text ++ true ∷ replicate zeros false) =
    marked_at (length text) (text ++ true ∷ replicate zeros false) lt (get_or_at text true (replicate zeros false) false (length text) refl) (after_mark text zeros) in
    record { marked = m.marked; before = m.text ∙ take_at text (true ∷ replicate zeros false) (length text) refl }

no_fault : (bits : List Bool) → has_mark bits ≡ true → length (text_of bits) ≤ 8063 → length bits % 16 ≡ 0 → strip_fault bits ≡ None
no_fault bits marked short units =
    let fits : nat_lt 8063 (length (text_of bits)) ≡ false = le-ltb 8063 (length (text_of bits)) short in
    let whole : (length bits % 16 == 0) ≡ true = eq-eqb (length bits % 16) 0 units in
    rw (marked, fits, whole) refl

-- what is a body is stripped to its text
pub stripped_body : (text bits : List Bool) → IsBodyOf text bits → (strip_fault bits ≡ None) × (text_of bits ≡ text)
stripped_body text bits h =
    let P : List Bool → Type 0 = λ v. IsStripped text v in
    let s : IsStripped text bits = subst P (sym h.padded) (stripped_padded text h.zeros) in
    (no_fault bits s.marked (omega (arith, h.short, ap length s.before)) h.units, s.before)

-- the three tests of a body, where none of them refuses
pub record Passed (marked long whole : Bool) : Type 0 where
  pub is_marked : marked ≡ true
  pub is_short : long ≡ false
  pub is_whole : whole ≡ true

passed : (marked long whole : Bool)
    → (if not marked then Some fault.NoMark else (if long then Some fault.TooLong else (if whole then None else Some fault.Range))) ≡ None
    → Passed marked long whole
passed true false true e = record { is_marked = refl; is_short = refl; is_whole = refl }
passed true false false e = absurd (cc)
passed true true whole e = absurd (cc)
passed false long whole e = absurd (cc)

-- what is stripped was a body
pub body_from : (bits : List Bool) → strip_fault bits ≡ None → IsBodyOf (text_of bits) bits
body_from bits none =
    let p : Passed (has_mark bits) (nat_lt 8063 (length (text_of bits))) (length bits % 16 == 0) =
    passed (has_mark bits) (nat_lt 8063 (length (text_of bits))) (length bits % 16 == 0) none in
    let s : IsSplit bits = split_text bits p.is_marked in
    record {
      zeros = s.zeros;
      padded = s.padded;
      short = ltb-false 8063 (length (text_of bits)) p.is_short;
      units = eqb-true (length bits % 16) 0 p.is_whole;
    }

-- a body is one
pub body_is : (text : List Bool) → length text ≤ 8063 → IsBodyOf text (body text)
body_is text short = record {
  zeros = filling (length text);
  padded = refl;
  short = short;
  units = omega (arith, length-append text (true ∷ replicate (filling (length text)) false), length-replicate (filling (length text)) false);
}

-- a text of any length is given back
pub text_of-body : (text : List Bool) → text_of (body text) ≡ text
text_of-body text = let s : IsStripped text (body text) = stripped_padded text (filling (length text)) in s.before
