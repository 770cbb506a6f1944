-- What is written of a book is its log.
use Rattle.book_log.proofs.Common.{All-cons, All-head, All-more, All-nil, All-tail, Appends, Fate, Life, text_of, text_more, ended_line, octets_text, worded_life}
use Rattle.std.proofs.Common.{◌≡◌, ℕ, zero, suc, ◌+◌, ◌*◌, ◌/◌, ◌%◌, ◌<◌, ◌≤◌, Bool, false, List, [], ◌∷◌, ◌++◌, Option, Some, None, codes, drop, get_or, length, map, slice_index, take, refl, sym, ap, ap₂, ◌∙◌, arith, subst, append_assoc, append-nil, slice_index_or}
use Rattle.std.proofs.lemmas.Slice.Zip.{firsts-zip, seconds-zip, get_or-zip, length-zip}
use Rattle.std.specs.List.{All, zip, slice_get}
use Rattle.hex.specs.Hex.{encode_upper, upper_digits, encode_with}
use Rattle.promise.specs.Fates.{AreFated, is_over}
use Rattle.book_log.specs.Log.{Book, IsLife, IsLived, fate_name, handed_line, life_line, logged_fate, logged_line, text_of_lines, log_text}
use Rattle.std.proofs.lemmas.List.{drop-drop, drop_all, get_or-drop, length-drop, take_all}
use Rattle.std.proofs.lemmas.Option.{get_or_from_slice_get, slice_get_within}
use Rattle.std.proofs.KnownBytes.{Appends-trans}
use Rattle.bit_messages.specs.Octets.{octet, octets_of}
use Rattle.promise.specs.declared.life.Fate.TheVariants as fate
use Rattle.book_log.specs.Steps.{octet_at}
use Rattle.book_log.proofs.Books.{text_of_lines-append}

-- ---- octets of bits

abbrev at : List Bool → ℕ → Bool
at bits k = slice_index_or bits k false

-- the first octet, and those of the bits after it
first_octet : (bits : List Bool) → 0 < length bits → octets_of bits ≡ octet_at 0 bits ∷ octets_of (drop 8 bits)
unfolding octets_of
first_octet [] some = absurd (omega (arith, some))
first_octet (a ∷ []) some = refl
first_octet (a ∷ b ∷ []) some = refl
first_octet (a ∷ b ∷ c ∷ []) some = refl
first_octet (a ∷ b ∷ c ∷ d ∷ []) some = refl
first_octet (a ∷ b ∷ c ∷ d ∷ e ∷ []) some = refl
first_octet (a ∷ b ∷ c ∷ d ∷ e ∷ f ∷ []) some = refl
first_octet (a ∷ b ∷ c ∷ d ∷ e ∷ f ∷ g ∷ []) some = refl
first_octet (a ∷ b ∷ c ∷ d ∷ e ∷ f ∷ g ∷ h ∷ rest) some = refl

-- the octet of the bits after a place
moved : (n : ℕ) (bits : List Bool) → octet_at 0 (drop n bits) ≡ octet_at n bits
moved n bits =
    let e : (k : ℕ) → at (drop n bits) k ≡ at bits (n + k) = λ k. get_or-drop n bits k false in
    λ i. octet (e 0 i) (e 1 i) (e 2 i) (e 3 i) (e 4 i) (e 5 i) (e 6 i) (e 7 i)

-- the octets up to this one are written: with those that are left it is the whole
pub record Written (bits : List Bool) (i : ℕ) (a b : Option (List ℕ)) : Type 0 where
  pub front : List ℕ
  pub whole : front ++ encode_upper (octets_of (drop (8 * i) bits)) ≡ encode_upper (octets_of bits)
  pub written : Appends a b front

two_digits : (o : ℕ) (octets : List ℕ) → encode_upper (o ∷ octets) ≡ (slice_index upper_digits (o / 16) ∷ slice_index upper_digits (o % 16) ∷ []) ++ encode_upper octets
unfolding encode_with
two_digits o octets = refl

pub one_written : (bits : List Bool) (i o : ℕ) (a b c : Option (List ℕ)) → 8 * i < length bits → o ≡ octet_at (8 * i) bits → Written bits i a b
    → Appends b c (slice_index upper_digits (o / 16) ∷ slice_index upper_digits (o % 16) ∷ []) → Written bits (i + 1) a c
one_written bits i o a b c lt is h now =
    let pair : List ℕ = slice_index upper_digits (o / 16) ∷ slice_index upper_digits (o % 16) ∷ [] in
    let left : 0 < length (drop (8 * i) bits) = omega (arith, length-drop (8 * i) bits) in
    let further : drop 8 (drop (8 * i) bits) ≡ drop (8 * (i + 1)) bits = drop-drop 8 (8 * i) bits ∙ ap (λ n. drop n bits) (omega arith) in
    let next : octets_of (drop (8 * i) bits) ≡ o ∷ octets_of (drop (8 * (i + 1)) bits) =
    first_octet (drop (8 * i) bits) left ∙ ap₂ (λ (n : ℕ) (xs : List Bool). n ∷ octets_of xs) (moved (8 * i) bits ∙ sym is) further in
    record {
      front = h.front ++ pair;
      whole = append_assoc h.front pair (encode_upper (octets_of (drop (8 * (i + 1)) bits)))
          ∙ ap (λ xs. h.front ++ xs) (sym (ap encode_upper next ∙ two_digits o (octets_of (drop (8 * (i + 1)) bits)))) ∙ h.whole;
      written = Appends-trans a b c h.front pair h.written now;
    }

none_left : (bits : List Bool) (i : ℕ) → length bits ≤ 8 * i → encode_upper (octets_of (drop (8 * i) bits)) ≡ []
unfolding encode_with octets_of
none_left bits i le = ap (λ xs. encode_upper (octets_of xs)) (drop_all (8 * i) bits le)

pub all_written : (bits : List Bool) (i : ℕ) (a b : Option (List ℕ)) → length bits ≤ 8 * i → Written bits i a b → Appends a b (encode_upper (octets_of bits))
all_written bits i a b le h =
    subst (Appends a b) (sym (append-nil h.front) ∙ ap (λ xs. h.front ++ xs) (sym (none_left bits i le)) ∙ h.whole) h.written

-- ---- lines

-- three writes make a line: what is before the octets, the octets, and the end
pub line_written : (front octets : List ℕ) (a b c d : Option (List ℕ)) → Appends a b (front ++ codes " ") → Appends b c octets → Appends c d (codes "\n") → Appends a d (ended_line (front ++ (codes " " ++ octets)))
line_written front octets a b c d h k l =
    subst (Appends a d) (ap (λ xs. xs ++ codes "\n") (append_assoc front (codes " ") octets))
    (Appends-trans a c d ((front ++ codes " ") ++ octets) (codes "\n") (Appends-trans a b c (front ++ codes " ") octets h k) l)

-- ---- lives with their fates

pair_is : (lives : List Life) (fates : List Fate) (place : ℕ) (x : Life) (f : Fate) → place < length lives → x ≡ get_or lives place x → slice_get fates place ≡ Some f
    → (x, f) ≡ get_or (zip lives fates) place (x, f)
pair_is lives fates place x f lt is at =
    let how : f ≡ get_or fates place f = sym (get_or_from_slice_get fates place f f at) in
    let both : (x, f) ≡ (get_or lives place x, get_or fates place f) = λ i. (is i, how i) in
    both ∙ sym (get_or-zip lives fates place (x, f) lt (slice_get_within fates place f at))

pub pair_written : (lives : List Life) (fates : List Fate) (place : ℕ) (x : Life) (f : Fate) (a b c : Option (List ℕ)) → place < length lives → x ≡ get_or lives place x → slice_get fates place ≡ Some f
    → Appends a b (text_of life_line (take place (zip lives fates))) → Appends b c (ended_line (life_line (x, f))) → Appends a c (text_of life_line (take (place + 1) (zip lives fates)))
pair_written lives fates place x f a b c lt is at before now =
    let within : place < length (zip lives fates) = omega (arith, lt, slice_get_within fates place f at, length-zip lives fates) in
    text_more life_line (zip lives fates) place (x, f) a b c within before
    (subst (λ (p : Life × Fate). Appends b c (ended_line (life_line p))) (pair_is lives fates place x f lt is at) now)

pub pair_valid : (lives : List Life) (fates : List Fate) (place : ℕ) (x : Life) (f : Fate) → place < length lives → x ≡ get_or lives place x → slice_get fates place ≡ Some f
    → All (λ (p : Life × Fate). IsLife p.0) (take place (zip lives fates)) → IsLife x → All (λ (p : Life × Fate). IsLife p.0) (take (place + 1) (zip lives fates))
pair_valid lives fates place x f lt is at before valid =
    let P : Life × Fate → Type 0 = λ p. IsLife p.0 in
    let within : place < length (zip lives fates) = omega (arith, lt, slice_get_within fates place f at, length-zip lives fates) in
    All-more P (zip lives fates) place (x, f) within before (subst P (pair_is lives fates place x f lt is at) valid)

-- no life is left, or no fate
pub pairs_end : (lives : List Life) (fates : List Fate) (place : ℕ) → length lives ≤ place → take place (zip lives fates) ≡ zip lives fates
pairs_end lives fates place le = take_all place (zip lives fates) (omega (arith, le, length-zip lives fates))

past_end : {X : Type 0} (xs : List X) (i : ℕ) → slice_get xs i ≡ None → length xs ≤ i
past_end [] i e = omega arith
past_end (x ∷ xs) zero e = absurd (cc)
past_end (x ∷ xs) (suc i) e = omega (arith, past_end xs i e)

pub fates_end : (lives : List Life) (fates : List Fate) (place : ℕ) → slice_get fates place ≡ None → take place (zip lives fates) ≡ zip lives fates
fates_end lives fates place none = take_all place (zip lives fates) (omega (arith, past_end fates place none, length-zip lives fates))

pub whole_written : (lives : List Life) (fates : List Fate) (place : ℕ) (a b : Option (List ℕ)) → take place (zip lives fates) ≡ zip lives fates
    → Appends a b (text_of life_line (take place (zip lives fates))) → Appends a b (text_of life_line (zip lives fates))
whole_written lives fates place a b all written = subst (λ (xs : List (Life × Fate)). Appends a b (text_of life_line xs)) all written

pub whole_valid : (lives : List Life) (fates : List Fate) (place : ℕ) → take place (zip lives fates) ≡ zip lives fates
    → All (λ (p : Life × Fate). IsLife p.0) (take place (zip lives fates)) → All (λ (p : Life × Fate). IsLife p.0) (zip lives fates)
whole_valid lives fates place all valid = subst (All (λ (p : Life × Fate). IsLife p.0)) all valid

-- the word that was written is the name of a fate
pub named_front : (x : Life) (f : Fate) (name : List ℕ) (a b : Option (List ℕ)) → name ≡ fate_name f → Appends a b (worded_life x name ++ codes " ") → Appends a b (worded_life x (fate_name f) ++ codes " ")
named_front x f name a b e h = subst (λ (n : List ℕ). Appends a b (worded_life x n ++ codes " ")) e h

-- what is logged of a fate has its name, and says as much
logged_name : (f : Fate) → fate_name (logged_fate f) ≡ fate_name f
logged_name fate.Open = refl
logged_name fate.Closing = refl
logged_name fate.Closed = refl
logged_name fate.Ended = refl
logged_name fate.Reset = refl
logged_name fate.Stopped = refl

logged_twice : (f : Fate) → logged_fate (logged_fate f) ≡ logged_fate f
logged_twice fate.Open = refl
logged_twice fate.Closing = refl
logged_twice fate.Closed = refl
logged_twice fate.Ended = refl
logged_twice fate.Reset = refl
logged_twice fate.Stopped = refl

pub logged_over : (f : Fate) → is_over (logged_fate f) ≡ is_over f
logged_over fate.Open = refl
logged_over fate.Closing = refl
logged_over fate.Closed = refl
logged_over fate.Ended = refl
logged_over fate.Reset = refl
logged_over fate.Stopped = refl

pub logged_lives : (lives : List Life) (fates : List Fate) → text_of life_line (zip lives fates) ≡ text_of life_line (zip lives (map logged_fate fates))
logged_lives [] fates = refl
logged_lives (x ∷ lives) [] = refl
logged_lives (x ∷ lives) (f ∷ fates) =
    ap₂ (λ (u v : List ℕ). u ++ v) (ap (λ (n : List ℕ). ended_line (worded_life x n ++ (codes " " ++ octets_text x.bits))) (sym (logged_name f))) (logged_lives lives fates)

pub lives_valid : (lives : List Life) (fates : List Fate) → AreFated lives fates → All (λ (p : Life × Fate). IsLife p.0) (zip lives fates) → All IsLived (zip lives (map logged_fate fates))
lives_valid [] fates are all = All-nil IsLived
lives_valid (x ∷ lives) [] are all = absurd are
lives_valid (x ∷ lives) (f ∷ fates) are all =
    let P : Life × Fate → Type 0 = λ p. IsLife p.0 in
    All-cons IsLived (x, logged_fate f) (zip lives (map logged_fate fates))
    (record { life = All-head P (x, f) (zip lives fates) all; logged = logged_twice f; over = are.0 ∙ sym (logged_over f) })
    (lives_valid lives fates are.1 (All-tail P (x, f) (zip lives fates) all))

-- the lives and fates of what is logged
fated_counts : (lives : List Life) (fates : List Fate) → AreFated lives fates → length (map logged_fate fates) ≡ length lives
fated_counts [] fates are = ap (λ (fs : List Fate). length (map logged_fate fs)) are
fated_counts (x ∷ lives) [] are = absurd are
fated_counts (x ∷ lives) (f ∷ fates) are = ap suc (fated_counts lives fates are.1)

pub lives_back : (lives : List Life) (fates : List Fate) → AreFated lives fates → map (λ (x : Life × Fate). x.0) (zip lives (map logged_fate fates)) ≡ lives
lives_back lives fates are = firsts-zip lives (map logged_fate fates) (fated_counts lives fates are)

pub fates_back : (lives : List Life) (fates : List Fate) → AreFated lives fates → map (λ (x : Life × Fate). x.1) (zip lives (map logged_fate fates)) ≡ map logged_fate fates
fates_back lives fates are = seconds-zip lives (map logged_fate fates) (fated_counts lives fates are)

-- ---- the whole

lines_text : {X : Type 0} (text : X → List ℕ) (xs : List X) → text_of_lines (map text xs) ≡ text_of text xs
lines_text text [] = refl
lines_text text (x ∷ xs) = ap (λ ys. ended_line (text x) ++ ys) (lines_text text xs)

log_is : (b : Book) → log_text b ≡ text_of logged_line b.crossings ++ (text_of life_line b.lives ++ (text_of handed_line b.handed ++ codes "end\n"))
log_is b =
    text_of_lines-append (map logged_line b.crossings) (map life_line b.lives ++ (map handed_line b.handed ++ codes "end" ∷ []))
    ∙ ap₂ (λ (u v : List ℕ). u ++ v) (lines_text logged_line b.crossings)
    (text_of_lines-append (map life_line b.lives) (map handed_line b.handed ++ codes "end" ∷ [])
    ∙ ap₂ (λ (u v : List ℕ). u ++ v) (lines_text life_line b.lives)
    (text_of_lines-append (map handed_line b.handed) (codes "end" ∷ []) ∙ ap (λ u. u ++ codes "end\n") (lines_text handed_line b.handed)))

pub log_written : (b : Book) (first second third fourth last : Option (List ℕ)) → Appends first second (text_of logged_line b.crossings) → Appends second third (text_of life_line b.lives)
    → Appends third fourth (text_of handed_line b.handed) → Appends fourth last (codes "end\n") → Appends first last (log_text b)
log_written b first second third fourth last crossings lives handed end =
    subst (Appends first last) (sym (log_is b))
    (Appends-trans first second last (text_of logged_line b.crossings) (text_of life_line b.lives ++ (text_of handed_line b.handed ++ codes "end\n")) crossings
    (Appends-trans second third last (text_of life_line b.lives) (text_of handed_line b.handed ++ codes "end\n") lives
    (Appends-trans third fourth last (text_of handed_line b.handed) (codes "end\n") handed end)))
