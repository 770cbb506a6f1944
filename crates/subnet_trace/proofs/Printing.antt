-- Parts of a subnet are printed item by item.
use Rattle.subnet_trace.proofs.Common.{Appends, decimal, range_with_len, Appends-trans, most_imps, Carriage, Content, Table, next_of, member, object, quoted, further}
use Rattle.std.proofs.Common.{◌≡◌, ℕ, suc, Bool, true, false, ◌<◌, ◌≤◌, ◌+◌, ◌-◌, List, [], ◌∷◌, ◌++◌, codes, drop, length, nat_lt, Option, None, sym, ap, ap₂, subst, ◌∙◌, arith, ◌/◌, ◌%◌}
use Rattle.routing.specs.Vector.{infinite}
use Rattle.subnet_trace.specs.Printing.{next_behind, place_after, distance_behind, number_behind}
use Rattle.subnet_trace.specs.Texts.{bit_text, bits_text, content_members, distances_text, finite_from, next_from, next_members, next_text, packet_text}
use Rattle.trace.specs.Joined.{mark, place_behind}
use Rattle.trace.proofs.lemmas.{Remains, three, end_printed, left, maybe_printed}
use Rattle.std.proofs.lemmas.Fmt.{decimal_digit, decimal_step}
use Rattle.std.proofs.lemmas.List.{append_assoc, at_drop_all, at_drop_more, drop_all, drop_more}
use Rattle.std.specs.Prelude.{slice_index_or}
use Rattle.imp_channel.specs.declared.frame.Content.TheVariants as contents

-- ---- distances

-- numbers below 100 have one digit or two
pub one_digit : (n ones : ℕ) → n < 10 → ones ≡ 48 + n % 10 → ones ∷ [] ≡ decimal n
one_digit n ones small is =
    let same : ones ≡ 48 + n = omega (arith, is, small) in
    ap (λ (x : ℕ). x ∷ []) same ∙ sym (decimal_digit n small)

pub two_digits : (n tens ones : ℕ) → 10 ≤ n → n < 100 → tens ≡ 48 + n / 10 → ones ≡ 48 + n % 10 → tens ∷ ones ∷ [] ≡ decimal n
two_digits n tens ones large small is same =
    ap₂ (λ (x y : ℕ). x ∷ y ∷ []) is same ∙ ap (λ (zs : List ℕ). zs ++ (48 + n % 10) ∷ []) (sym (decimal_digit (n / 10) (omega (arith, small)))) ∙ sym (decimal_step n large (omega (arith, small)))

-- a number under another, from their digits
pub digits_printed : (place imp number first : ℕ) (x y : List ℕ) → x ≡ decimal imp → y ≡ decimal number → first ∷ [] ≡ mark (codes "{") (codes ",") place
    → first ∷ 34 ∷ ((x ++ 34 ∷ []) ++ 58 ∷ y) ≡ number_behind place imp number true
digits_printed place imp number first x y below own is =
    let front : List ℕ = mark (codes "{") (codes ",") place in
    ap (λ (zs : List ℕ). zs ++ member x y) is ∙ ap (λ (zs : List ℕ). front ++ member zs y) below ∙ ap (λ (zs : List ℕ). front ++ member (decimal imp) zs) own

-- those that are left from this IMP on, after this many distances
abbrev pub distances_left : ℕ → ℕ → List ℕ → List ℕ
distances_left place i ds = left (codes "{") (codes "}") place (finite_from (i + 1) (drop i ds))

pub distance_printed : (ds : List ℕ) (i place : ℕ) (whole : List ℕ) (a b c : Option (List ℕ)) → i < length ds → Remains a b (distances_left place i ds) whole → Appends b c (distance_behind place (i + 1) (slice_index_or ds i 0))
    → Remains a c (distances_left (place_behind place (nat_lt (slice_index_or ds i 0) infinite)) (i + 1) ds) whole
distance_printed ds i place whole a b c lt remains printed =
    let d = slice_index_or ds i 0 in
    let here : Remains a b (left (codes "{") (codes "}") place (finite_from (i + 1) (d ∷ drop (i + 1) ds))) whole =
    subst (λ zs. Remains a b (left (codes "{") (codes "}") place (finite_from (i + 1) zs)) whole) (drop_more ds i 0 lt) remains in
    maybe_printed (codes "{") (codes "}") (nat_lt d infinite) (member (decimal (i + 1)) (decimal d)) (finite_from (i + 1 + 1) (drop (i + 1) ds)) place whole a b c here printed

pub distances_printed : (ds : List ℕ) (i place : ℕ) (a b c : Option (List ℕ)) → length ds ≤ i → Remains a b (distances_left place i ds) (distances_left 0 0 ds) → Appends b c (mark (codes "{}") (codes "}") place) → Appends a c (distances_text ds)
distances_printed ds i place a b c past remains last =
    let none : finite_from (i + 1) (drop i ds) ≡ [] = ap (finite_from (i + 1)) (drop_all i ds past) in
    let here : Remains a b (left (codes "{") (codes "}") place []) (distances_left 0 0 ds) = subst (λ zs. Remains a b (left (codes "{") (codes "}") place zs) (distances_left 0 0 ds)) none remains in
    (end_printed (codes "{") (codes "}") place _ a b c here last)

-- ---- ports to IMPs

-- those that are left from this IMP on, after this many ports
abbrev pub ports_left : Table → ℕ → ℕ → List ℕ
ports_left t place i = left (codes "{") (codes "}") place (next_from t (range_with_len (i + 1) (most_imps - i)))

pub next_printed : (t : Table) (i place : ℕ) (whole : List ℕ) (a b c : Option (List ℕ)) → i < most_imps → Remains a b (ports_left t place i) whole → Appends b c (next_behind place (i + 1) (next_of t (i + 1)))
    → Remains a c (ports_left t (place_after place (next_of t (i + 1))) (i + 1)) whole
next_printed t i place whole a b c lt remains printed =
    let count : most_imps - i ≡ suc (most_imps - (i + 1)) = omega (arith, lt) in
    let rest : List (List ℕ) = next_from t (range_with_len (i + 1 + 1) (most_imps - (i + 1))) in
    by rest (next_of t (i + 1)) (subst (λ (m : ℕ). Remains a b (left (codes "{") (codes "}") place (next_from t (range_with_len (i + 1) m))) whole) count remains) printed where
      by : (rest : List (List ℕ)) (o : Option ℕ) → Remains a b (left (codes "{") (codes "}") place (next_members (i + 1) o ++ rest)) whole → Appends b c (next_behind place (i + 1) o) → Remains a c (left (codes "{") (codes "}") (place_after place o) rest) whole
      by rest None here none = maybe_printed (codes "{") (codes "}") false [] rest place whole a b c here none
      by rest _ here one = maybe_printed (codes "{") (codes "}") true _ rest place whole a b c here one

pub ports_printed : (t : Table) (i place : ℕ) (a b c : Option (List ℕ)) → most_imps ≤ i → Remains a b (ports_left t place i) (next_text t) → Appends b c (mark (codes "{}") (codes "}") place) → Appends a c (next_text t)
ports_printed t i place a b c past remains last =
    let none : most_imps - i ≡ 0 = omega (arith, past) in
    let here : Remains a b (left (codes "{") (codes "}") place []) (next_text t) = subst (λ (m : ℕ). Remains a b (left (codes "{") (codes "}") place (next_from t (range_with_len (i + 1) m))) (next_text t)) none remains in
    end_printed (codes "{") (codes "}") place _ a b c here last

-- ---- frames

-- what a frame has after its acknowledgement bits
abbrev behind_acks : Content → List ℕ
behind_acks content = codes "\"" ++ further (codes "}") (content_members content)

pub carried_printed : (content : Content) (carried : Carriage) (a b c d : Option (List ℕ)) → content ≡ contents.Packet carried
    → Appends a b (codes "\",\"channel\":" ++ (decimal carried.channel ++ (codes ",\"bit\":" ++ (bit_text carried.bit ++ codes ",\"packet\":")))) → Appends b c (packet_text carried.packet) → Appends c d (codes "}")
    → Appends a d (behind_acks content)
carried_printed content carried a b c d is front packet end =
    let head : List ℕ = codes "\",\"channel\":" ++ (decimal carried.channel ++ (codes ",\"bit\":" ++ (bit_text carried.bit ++ codes ",\"packet\":"))) in
    let whole : head ++ (packet_text carried.packet ++ codes "}") ≡ behind_acks (contents.Packet carried) = members (decimal carried.channel) (bit_text carried.bit) (packet_text carried.packet) in
    subst (Appends a d) (whole ∙ ap behind_acks (sym is)) (three head (packet_text carried.packet) (codes "}") a b c d front packet end) where
      members : (channel bit packet : List ℕ) → (codes "\",\"channel\":" ++ (channel ++ (codes ",\"bit\":" ++ (bit ++ codes ",\"packet\":")))) ++ (packet ++ codes "}")
          ≡ codes "\"" ++ further (codes "}") (member (codes "channel") channel ∷ member (codes "bit") bit ∷ member (codes "packet") packet ∷ [])
      members channel bit packet = simp append_assoc

pub routes_printed : (content : Content) (ds : List ℕ) (a b c d : Option (List ℕ)) → content ≡ contents.Routes ds → Appends a b (codes "\",\"routes\":") → Appends b c (distances_text ds) → Appends c d (codes "}") → Appends a d (behind_acks content)
routes_printed content ds a b c d is front routes end =
    subst (Appends a d) (ap behind_acks (sym is)) (Appends-trans a b d (codes "\",\"routes\":") (distances_text ds ++ codes "}") front (Appends-trans b c d (distances_text ds) (codes "}") routes end))

-- ---- bits

-- the digit of the bit at a place, and those of the bits after it
pub digit_before : (bits : List Bool) (i x : ℕ) (xs : List ℕ) → i < length bits → x ∷ [] ≡ bit_text (slice_index_or bits i false) → xs ≡ bits_text (drop (i + 1) bits) → x ∷ xs ≡ bits_text (drop i bits)
digit_before bits i x xs lt is rest =
    ap (λ zs. x ∷ zs) rest ∙ ap (λ zs. zs ++ bits_text (drop (i + 1) bits)) is ∙ sym (at_drop_more bits_text bits i false lt)

pub no_digits : (bits : List Bool) (i : ℕ) → length bits ≤ i → [] ≡ bits_text (drop i bits)
no_digits bits i past = sym (at_drop_all bits_text bits i past)
