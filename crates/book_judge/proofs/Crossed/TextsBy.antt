-- The texts that cross on a flow, and the data of the first of them.
use Rattle.book_judge.proofs.Common.{ltb-false, ltb-true, cases_lt, Flow, Crossing, and_true, before}
use Rattle.std.proofs.Common.{◌≡◌, ℕ, suc, ◌+◌, ◌-◌, ◌<◌, ◌≤◌, ◌&&◌, Bool, true, false, if◌then◌else◌, List, [], ◌∷◌, ◌++◌, length, take, drop, reverse, Option, Some, None, refl, ap, sym, ◌∙◌, append-nil, arith, inl, inr, subst, ap₂, zero}
use Rattle.std.specs.Prelude.{option_map, max, nat_lt}
use Rattle.std.proofs.lemmas.List.{drop_all, length-append, length-reverse, reverse-append, take-append-drop, take_all, take_at, length-drop, append_assoc, drop_at, drop-append-le}
use Rattle.promise.specs.Formed.{data_in, first_data, text_of, texts_of, data_by, joined}
use Rattle.book_judge.specs.Inside.Joined.{all_bits, bits_in, one_unread, texts_by, unread_in}
use Rattle.book_judge.specs.Inside.Made.{end_of, end_by}
use Rattle.ncp_control.specs.DataHeader.{header_of}
use Rattle.ncp_control.specs.declared.data_header.DataHeader.{DataHeader}

-- ---- what crossed before a place

pub before_place : (log : List Crossing) (n : ℕ) → n ≤ length log → before n (reverse log) ≡ reverse (take n log)
before_place log n h =
    let e : reverse log ≡ reverse (drop n log) ++ reverse (take n log) =
    ap (λ (xs : List Crossing). reverse xs) (sym (take-append-drop n log)) ∙ reverse-append (take n log) (drop n log) in
    let k : length (reverse (drop n log)) ≡ length (reverse log) - n =
    length-reverse (drop n log) ∙ length-drop n log ∙ ap (λ (m : ℕ). m - n) (sym (length-reverse log)) in
    let P : List Crossing → Type 0 = λ z. drop (length (reverse log) - n) z ≡ reverse (take n log) in
    subst P (sym e) (drop_at (reverse (drop n log)) (reverse (take n log)) (length (reverse log) - n) k)

-- also where it is past all that crossed
pub before_take : (log : List Crossing) (n : ℕ) → before n (reverse log) ≡ reverse (take n log)
before_take log n = elim (cases_lt (length log) n) [
  | inl past ↦
      (let none : length (reverse log) - n ≡ 0 = (let e = length-reverse log in omega (arith, e, past)) in
      ap (λ (k : ℕ). drop k (reverse log)) none
      ∙ sym (ap (λ (xs : List Crossing). reverse xs) (take_all n log (omega (arith, past)))))
  | inr within ↦ before_place log n within
]

-- ---- the messages on a link

pub texts_append : (comes : Bool) (f : Flow) (xs ys : List Crossing)
    → texts_by comes f (xs ++ ys) ≡ texts_by comes f xs ++ texts_by comes f ys
texts_append comes f [] ys = refl
texts_append comes f (c ∷ xs) ys =
    ap (λ (zs : List (List Bool)). text_of comes f c ++ zs) (texts_append comes f xs ys)
    ∙ sym (append_assoc (text_of comes f c) (texts_by comes f xs) (texts_by comes f ys))

pub both_below : (a b n : ℕ) → (nat_lt a n && nat_lt b n) ≡ true → max a b + 1 ≤ n
both_below a b n e =
    let t = and_true (nat_lt a n) (nat_lt b n) e in
    let x : a < n = ltb-true a n t.0 in
    let y : b < n = ltb-true b n t.1 in
    omega (arith, x, y)

pub one_above : (a b n : ℕ) → (nat_lt a n && nat_lt b n) ≡ false → n ≤ max a b
one_above a b n e = by (nat_lt a n) (nat_lt b n) refl refl e where
  by : (s t : Bool) → nat_lt a n ≡ s → nat_lt b n ≡ t → (s && t) ≡ false → n ≤ max a b
  by true true p q e = absurd (cc)
  by false t p q e = (let x : n ≤ a = ltb-false a n p in omega (arith, x))
  by true false p q e = (let y : n ≤ b = ltb-false b n q in omega (arith, y))

with_one : (comes : Bool) (f : Flow) (a b : ℕ) (c : Crossing) (log : List Crossing) (t : Bool)
    → (nat_lt a (length log) && nat_lt b (length log)) ≡ t
    → texts_of comes f a b log ≡ texts_by comes f (drop (max a b + 1) (reverse log))
    → texts_of comes f a b log ++ (if t then text_of comes f c else []) ≡ texts_by comes f
    (drop (max a b + 1) (reverse log ++ c ∷ []))
with_one comes f a b c log true e same =
    let le : max a b + 1 ≤ length (reverse log) =
    (let x : max a b + 1 ≤ length log = both_below a b (length log) e in omega (arith, x, length-reverse log)) in
    let parts : drop (max a b + 1) (reverse log ++ c ∷ []) ≡ drop (max a b + 1) (reverse log) ++ c ∷ [] =
    drop-append-le (max a b + 1) (reverse log) (c ∷ []) le in
    ap₂ (λ (us vs : List (List Bool)). us ++ vs) same (sym (append-nil (text_of comes f c)))
    ∙ sym (texts_append comes f (drop (max a b + 1) (reverse log)) (c ∷ []))
    ∙ ap (λ (zs : List Crossing). texts_by comes f zs) (sym parts)
with_one comes f a b c log false e same =
    let above : length log ≤ max a b = one_above a b (length log) e in
    let none : drop (max a b + 1) (reverse log) ≡ [] =
    drop_all (max a b + 1) (reverse log) (omega (arith, above, length-reverse log)) in
    let still : drop (max a b + 1) (reverse log ++ c ∷ []) ≡ [] = drop_all (max a b + 1) (reverse log ++ c ∷ [])
    (omega (arith, above, length-reverse log, length-append (reverse log) (c ∷ []))) in
    append-nil (texts_of comes f a b log) ∙ same ∙ ap (λ (zs : List Crossing). texts_by comes f zs) (none ∙ sym still)

-- of crossings, the newest first
texts_back : (comes : Bool) (f : Flow) (a b : ℕ) (log : List Crossing)
    → texts_of comes f a b log ≡ texts_by comes f (drop (max a b + 1) (reverse log))
texts_back comes f a b [] =
    ap (λ (zs : List Crossing). texts_by comes f zs) (sym (drop_all (max a b + 1) [] (omega arith)))
texts_back comes f a b (c ∷ log) =
    with_one comes f a b c log (nat_lt a (length log) && nat_lt b (length log)) refl (texts_back comes f a b log)
    ∙ ap (λ (zs : List Crossing). texts_by comes f (drop (max a b + 1) zs)) (sym (reverse-append (c ∷ []) log))

-- of a log, the oldest first
pub texts_same : (comes : Bool) (f : Flow) (a b : ℕ) (log : List Crossing) → reverse (reverse log) ≡ log
    → texts_of comes f a b (reverse log) ≡ texts_by comes f (drop (max a b + 1) log)
texts_same comes f a b log twice = texts_back comes f a b (reverse log)
    ∙ ap (λ (zs : List Crossing). texts_by comes f (drop (max a b + 1) zs)) twice

-- ---- where the data of a text end

ends_by : (text : List Bool) (o : Option DataHeader)
    → option_map (λ end. drop 40 (take end text)) (end_by o) ≡ data_by text o
ends_by text None = refl
ends_by text (Some h) = refl

pub data_ends : (comes : Bool) (text : List Bool)
    → option_map (λ end. drop 40 (take end text)) (end_of comes text) ≡ data_in comes text
data_ends true text = ends_by text (header_of text)
data_ends false text = ap (λ (zs : List Bool). Some (drop 40 zs)) (take_all (length text) text (omega arith))

-- ---- all data of texts

pub bits_append : (comes : Bool) (ts us : List (List Bool))
    → all_bits comes (ts ++ us) ≡ all_bits comes ts ++ all_bits comes us
bits_append comes [] us = refl
bits_append comes (t ∷ ts) us = ap (λ (bs : List Bool). bits_in (data_in comes t) ++ bs) (bits_append comes ts us) ∙ sym (append_assoc (bits_in (data_in comes t)) (all_bits comes ts) (all_bits comes us))

pub unread_append : (comes : Bool) (ts us : List (List Bool))
    → unread_in comes (ts ++ us) ≡ unread_in comes ts + unread_in comes us
unread_append comes [] us = omega arith
unread_append comes (t ∷ ts) us = let rest : unread_in comes (ts ++ us) ≡ unread_in comes ts + unread_in comes us = unread_append comes ts us in omega (arith, rest)

-- the first of these texts are all read, and have these bits
pub record AreRead (comes : Bool) (count : ℕ) (ts : List (List Bool)) (bits : List Bool) : Type 0 where
  pub enough : count ≤ length ts
  pub read : unread_in comes (take count ts) ≡ 0
  pub same : all_bits comes (take count ts) ≡ bits

read_more : (comes : Bool) (count : ℕ) (t : List Bool) (ts : List (List Bool)) (bits : List Bool) (o p : Option (List Bool))
    → data_in comes t ≡ o → first_data comes count ts ≡ p → joined o p ≡ Some bits
    → ((rest : List Bool) → first_data comes count ts ≡ Some rest → AreRead comes count ts rest)
    → AreRead comes (suc count) (t ∷ ts) bits
read_more comes count t ts bits None p e f h rec = absurd (let none : None ≡ Some bits = h in cc)
read_more comes count t ts bits (Some front) None e f h rec = absurd (let none : None ≡ Some bits = h in cc)
read_more comes count t ts bits (Some front) (Some rest) e f h rec =
    let r : AreRead comes count ts rest = rec rest f in
    let whole : front ++ rest ≡ bits = cc in
    record {
      enough = (let k : count ≤ length ts = r.enough in omega (arith, k));
      read =
          (let u : one_unread (data_in comes t) + unread_in comes (take count ts) ≡ 0 + unread_in comes (take count ts) = ap (λ (o : Option (List Bool)). one_unread o + unread_in comes (take count ts)) e in
          let v : unread_in comes (take count ts) ≡ 0 = r.read in
          omega (arith, u, v));
      same = ap (λ (o : Option (List Bool)). bits_in o ++ all_bits comes (take count ts)) e ∙ ap (λ (bs : List Bool). front ++ bs) r.same ∙ whole;
    }

pub data_read : (comes : Bool) (count : ℕ) (ts : List (List Bool)) (bits : List Bool)
    → first_data comes count ts ≡ Some bits → AreRead comes count ts bits
data_read comes zero ts bits e = record { enough = omega arith; read = refl; same = (let none : [] ≡ bits = cc in none) }
data_read comes (suc count) [] bits e = absurd (let none : None ≡ Some bits = e in cc)
data_read comes (suc count) (t ∷ ts) bits e = read_more comes count t ts bits (data_in comes t) (first_data comes count ts) refl refl e (λ rest f. data_read comes count ts rest f)

data_more : (comes : Bool) (count : ℕ) (t : List Bool) (ts : List (List Bool)) (o : Option (List Bool))
    → data_in comes t ≡ o → one_unread o + unread_in comes (take count ts) ≡ 0
    → (unread_in comes (take count ts) ≡ 0 → first_data comes count ts ≡ Some (all_bits comes (take count ts)))
    → joined o (first_data comes count ts) ≡ Some (bits_in o ++ all_bits comes (take count ts))
data_more comes count t ts None e h rec = absurd (let n : 1 + unread_in comes (take count ts) ≡ 0 = h in omega (arith, n))
data_more comes count t ts (Some front) e h rec = ap (λ (p : Option (List Bool)). joined (Some front) p) (rec (let n : 0 + unread_in comes (take count ts) ≡ 0 = h in omega (arith, n)))

read_data_of : (comes : Bool) (count : ℕ) (ts : List (List Bool)) → count ≤ length ts
    → unread_in comes (take count ts) ≡ 0 → first_data comes count ts ≡ Some (all_bits comes (take count ts))
read_data_of comes zero ts less none = refl
read_data_of comes (suc count) [] less none = absurd (omega (arith, less))
read_data_of comes (suc count) (t ∷ ts) less none =
    data_more comes count t ts (data_in comes t) refl none (λ rest. read_data_of comes count ts (omega (arith, less)) rest)

pub read_data : (comes : Bool) (count : ℕ) (ts : List (List Bool)) (bits : List Bool) → AreRead comes count ts bits
    → first_data comes count ts ≡ Some bits
read_data comes count ts bits r = read_data_of comes count ts r.enough r.read ∙ ap (λ (bs : List Bool). Some bs) r.same

-- ---- a part of several texts

pub take_two : (n m : ℕ) (ts : List (List Bool)) → n ≤ length ts → take (n + m) ts ≡ take n ts ++ take m (drop n ts)
take_two zero m ts less = let e : 0 + m ≡ m = omega arith in ap (λ (k : ℕ). take k ts) e
take_two (suc n) m [] less = absurd (omega (arith, less))
take_two (suc n) m (t ∷ ts) less =
    let e : suc n + m ≡ suc (n + m) = omega arith in
    ap (λ (k : ℕ). take k (t ∷ ts)) e ∙ ap (λ (us : List (List Bool)). t ∷ us) (take_two n m ts (omega (arith, less)))

-- the bits between two marks are those of the texts between
pub between : (comes : Bool) (n m : ℕ) (ts : List (List Bool)) → n + m ≤ length ts
    → drop (length (all_bits comes (take n ts))) (take (length (all_bits comes (take (n + m) ts))) (all_bits comes ts)) ≡ all_bits comes (take m (drop n ts))
between comes n m ts less =
    let two : take (n + m) ts ≡ take n ts ++ take m (drop n ts) = take_two n m ts (omega (arith, less)) in
    let front : all_bits comes (take (n + m) ts) ≡ all_bits comes (take n ts) ++ all_bits comes (take m (drop n ts)) = ap (all_bits comes) two ∙ bits_append comes (take n ts) (take m (drop n ts)) in
    let whole : all_bits comes ts ≡ all_bits comes (take (n + m) ts) ++ all_bits comes (drop (n + m) ts) = ap (all_bits comes) (sym (take-append-drop (n + m) ts)) ∙ bits_append comes (take (n + m) ts) (drop (n + m) ts) in
    let cut : take (length (all_bits comes (take (n + m) ts))) (all_bits comes ts) ≡ all_bits comes (take (n + m) ts) =
    ap (take (length (all_bits comes (take (n + m) ts)))) whole ∙ take_at (all_bits comes (take (n + m) ts)) (all_bits comes (drop (n + m) ts)) (length (all_bits comes (take (n + m) ts))) refl in
    ap (drop (length (all_bits comes (take n ts)))) (cut ∙ front) ∙ drop_at (all_bits comes (take n ts)) (all_bits comes (take m (drop n ts))) (length (all_bits comes (take n ts))) refl

pub within : (comes : Bool) (n m : ℕ) (ts : List (List Bool)) → n + m ≤ length ts
    → (length (all_bits comes (take n ts)) ≤ length (all_bits comes (take (n + m) ts))) × (length (all_bits comes (take (n + m) ts)) ≤ length (all_bits comes ts))
within comes n m ts less =
    let two : take (n + m) ts ≡ take n ts ++ take m (drop n ts) = take_two n m ts (omega (arith, less)) in
    let front : length (all_bits comes (take (n + m) ts)) ≡ length (all_bits comes (take n ts)) + length (all_bits comes (take m (drop n ts))) =
    ap (λ (us : List (List Bool)). length (all_bits comes us)) two ∙ ap length (bits_append comes (take n ts) (take m (drop n ts))) ∙ length-append (all_bits comes (take n ts)) (all_bits comes (take m (drop n ts))) in
    let whole : length (all_bits comes ts) ≡ length (all_bits comes (take (n + m) ts)) + length (all_bits comes (drop (n + m) ts)) =
    ap (λ (us : List (List Bool)). length (all_bits comes us)) (sym (take-append-drop (n + m) ts)) ∙ ap length (bits_append comes (take (n + m) ts) (drop (n + m) ts)) ∙ length-append (all_bits comes (take (n + m) ts)) (all_bits comes (drop (n + m) ts)) in
    (omega (arith, front), omega (arith, whole))

pub unread_two : (comes : Bool) (n m : ℕ) (ts : List (List Bool)) → n + m ≤ length ts
    → unread_in comes (take (n + m) ts) ≡ unread_in comes (take n ts) + unread_in comes (take m (drop n ts))
unread_two comes n m ts less = ap (unread_in comes) (take_two n m ts (omega (arith, less))) ∙ unread_append comes (take n ts) (take m (drop n ts))

-- ---- texts before a place and after it

pub texts_split : (comes : Bool) (f : Flow) (place : ℕ) (log : List Crossing)
    → texts_by comes f log ≡ texts_by comes f (take place log) ++ texts_by comes f (drop place log)
texts_split comes f place log = ap (texts_by comes f) (sym (take-append-drop place log)) ∙ texts_append comes f (take place log) (drop place log)

pub texts_after : (comes : Bool) (f : Flow) (place n : ℕ) (log : List Crossing)
    → length (texts_by comes f (take place log)) ≡ n
    → texts_by comes f (drop place log) ≡ drop n (texts_by comes f log)
texts_after comes f place n log e = sym (ap (drop n) (texts_split comes f place log) ∙ drop_at (texts_by comes f (take place log)) (texts_by comes f (drop place log)) n e)

pub texts_less : (comes : Bool) (f : Flow) (a b : ℕ) (log : List Crossing) → a ≤ b
    → length (texts_by comes f (take a log)) ≤ length (texts_by comes f (take b log))
texts_less comes f zero b log less = omega arith
texts_less comes f (suc a) zero log less = absurd (omega (arith, less))
texts_less comes f (suc a) (suc b) [] less = omega arith
texts_less comes f (suc a) (suc b) (c ∷ log) less =
    let rest : length (texts_by comes f (take a log)) ≤ length (texts_by comes f (take b log)) = texts_less comes f a b log (omega (arith, less)) in
    let one : length (text_of comes f c ++ texts_by comes f (take a log)) ≡ length (text_of comes f c) + length (texts_by comes f (take a log)) = length-append (text_of comes f c) (texts_by comes f (take a log)) in
    let two : length (text_of comes f c ++ texts_by comes f (take b log)) ≡ length (text_of comes f c) + length (texts_by comes f (take b log)) = length-append (text_of comes f c) (texts_by comes f (take b log)) in
    omega (arith, rest, one, two)

pub texts_within : (comes : Bool) (f : Flow) (place : ℕ) (log : List Crossing)
    → length (texts_by comes f (take place log)) ≤ length (texts_by comes f log)
texts_within comes f place log =
    let both : length (texts_by comes f log) ≡ length (texts_by comes f (take place log)) + length (texts_by comes f (drop place log)) = ap length (texts_split comes f place log) ∙ length-append (texts_by comes f (take place log)) (texts_by comes f (drop place log)) in
    omega (arith, both)

-- as many cross between two places as before the one and not before the other
pub texts_between : (comes : Bool) (f : Flow) (a b : ℕ) (log : List Crossing) → a ≤ b
    → length (texts_by comes f (take b log))
    ≡ length (texts_by comes f (take a log)) + length (texts_by comes f (drop a (take b log)))
texts_between comes f zero b log less = omega arith
texts_between comes f (suc a) zero log less = absurd (omega (arith, less))
texts_between comes f (suc a) (suc b) [] less = omega arith
texts_between comes f (suc a) (suc b) (c ∷ log) less =
    let rest : length (texts_by comes f (take b log))
    ≡ length (texts_by comes f (take a log)) + length (texts_by comes f (drop a (take b log))) =
    texts_between comes f a b log (omega (arith, less)) in
    let one : length (text_of comes f c ++ texts_by comes f (take b log))
    ≡ length (text_of comes f c) + length (texts_by comes f (take b log)) =
    length-append (text_of comes f c) (texts_by comes f (take b log)) in
    let two : length (text_of comes f c ++ texts_by comes f (take a log))
    ≡ length (text_of comes f c) + length (texts_by comes f (take a log)) =
    length-append (text_of comes f c) (texts_by comes f (take a log)) in
    omega (arith, rest, one, two)

pub texts_past : (comes : Bool) (f : Flow) (a b : ℕ) (log : List Crossing) → b ≤ a
    → texts_by comes f (drop a (take b log)) ≡ []
texts_past comes f zero zero log less = refl
texts_past comes f zero (suc b) log less = absurd (omega (arith, less))
texts_past comes f (suc a) zero log less = refl
texts_past comes f (suc a) (suc b) [] less = refl
texts_past comes f (suc a) (suc b) (c ∷ log) less = texts_past comes f a b log (omega (arith, less))
