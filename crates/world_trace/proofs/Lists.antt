-- Lists are shown item by item.
use Rattle.world_trace.proofs.Common.{flat_map, all_in, Service, mark_after, marked, service_object}
use Rattle.std.proofs.Common.{◌≡◌, ℕ, ◌+◌, ◌%◌, ◌<◌, ◌≤◌, drop, List, [], ◌∷◌, ◌++◌, codes, length, map, take, get_or, refl, ap, sym, ◌∙◌, ◌/◌, slice_index}
use Rattle.std.proofs.lemmas.List.{append_assoc, append-nil, drop_all, map-append, take_more}
use Rattle.hex.specs.Hex.{encode_upper, encode_with, upper_digits}
use Rattle.trace.specs.Texts.{array, further, listed}
use Rattle.std.proofs.lemmas.Grind.{flat_map-append}
use Rattle.hex.proofs.Pairs.{encode_with-drop}

abbrev after_comma : List ℕ → List ℕ
after_comma y = codes "," ++ y

flat-append : (xs : List (List ℕ)) (y : List ℕ) → flat_map after_comma (xs ++ y ∷ []) ≡ flat_map after_comma xs ++ (codes "," ++ y)
flat-append [] y = append-nil (codes "," ++ y)
flat-append (x ∷ xs) y = ap (λ zs. (codes "," ++ x) ++ zs) (flat-append xs y) ∙ sym (append_assoc (codes "," ++ x) (flat_map after_comma xs) (codes "," ++ y))

-- one item more
pub marked_more : (mark : List ℕ) (xs : List (List ℕ)) (y : List ℕ) → marked mark (xs ++ y ∷ []) ≡ marked mark xs ++ (mark_after mark xs ++ y)
marked_more mark [] y = ap (λ zs. mark ++ zs) (append-nil y)
marked_more mark (x ∷ xs) y =
    ap (λ zs. mark ++ (x ++ zs)) (flat-append xs y) ∙ ap (λ zs. mark ++ zs) (sym (append_assoc x (flat_map after_comma xs) (codes "," ++ y))) ∙ sym (append_assoc mark (x ++ flat_map after_comma xs) (codes "," ++ y))

pub mark_more : (mark : List ℕ) (xs : List (List ℕ)) (y : List ℕ) → mark_after mark (xs ++ y ∷ []) ≡ codes ","
mark_more mark [] y = refl
mark_more mark (x ∷ xs) y = refl

-- the items so far, and one more
pub map_take : {A : Type 0} (f : A → List ℕ) (xs : List A) (i : ℕ) (d : A) → i < length xs → map f (take (i + 1) xs) ≡ map f (take i xs) ++ f (get_or xs i d) ∷ []
map_take f xs i d lt = ap (map f) (take_more xs i d lt) ∙ map-append f (take i xs) (get_or xs i d ∷ [])

further_is : (end : List ℕ) (xs : List (List ℕ)) → flat_map after_comma xs ++ end ≡ further end xs
further_is end [] = refl
further_is end (x ∷ xs) = append_assoc (codes "," ++ x) (flat_map after_comma xs) end ∙ append_assoc (codes ",") x (flat_map after_comma xs ++ end) ∙ ap (λ zs. codes "," ++ (x ++ zs)) (further_is end xs)

-- all items, and the end
pub marked_is : (end : List ℕ) (xs : List (List ℕ)) → marked [] xs ++ end ≡ listed end xs
marked_is end [] = refl
marked_is end (x ∷ xs) = append_assoc x (flat_map after_comma xs) end ∙ ap (λ zs. x ++ zs) (further_is end xs)

-- two digits more
pub hex_more : (octets : List ℕ) (i : ℕ) (front : List ℕ) → i < length octets → front ++ encode_upper (drop i octets) ≡ encode_upper octets
    → (front ++ (slice_index upper_digits (slice_index octets i / 16) ∷ [] ++ slice_index upper_digits (slice_index octets i % 16) ∷ [])) ++ encode_upper (drop (i + 1) octets) ≡ encode_upper octets
hex_more octets i front lt whole =
    let two : List ℕ = slice_index upper_digits (slice_index octets i / 16) ∷ slice_index upper_digits (slice_index octets i % 16) ∷ [] in
    append_assoc front two (encode_upper (drop (i + 1) octets)) ∙ ap (λ xs. front ++ xs) (sym (encode_with-drop upper_digits octets i lt)) ∙ whole

pub hex_all : (octets : List ℕ) (i : ℕ) (front : List ℕ) → length octets ≤ i → front ++ encode_upper (drop i octets) ≡ encode_upper octets → front ≡ encode_upper octets
unfolding encode_with
hex_all octets i front le whole = sym (append-nil front) ∙ ap (λ xs. front ++ encode_upper xs) (sym (drop_all i octets le)) ∙ whole

-- ---- two lists

marked_comma : (ys : List (List ℕ)) → marked (codes ",") ys ≡ flat_map after_comma ys
marked_comma [] = refl
marked_comma (y ∷ ys) = refl

pub marked_append : (mark : List ℕ) (xs ys : List (List ℕ)) → marked mark (xs ++ ys) ≡ marked mark xs ++ marked (mark_after mark xs) ys
marked_append mark [] ys = refl
marked_append mark (x ∷ xs) ys =
    ap (λ zs. mark ++ (x ++ zs)) (flat_map-append after_comma xs ys) ∙ ap (λ zs. mark ++ zs) (sym (append_assoc x (flat_map after_comma xs) (flat_map after_comma ys)))
    ∙ sym (append_assoc mark (x ++ flat_map after_comma xs) (flat_map after_comma ys)) ∙ ap (λ zs. (mark ++ (x ++ flat_map after_comma xs)) ++ zs) (sym (marked_comma ys))

pub mark_after_append : (mark : List ℕ) (xs ys : List (List ℕ)) → mark_after mark (xs ++ ys) ≡ mark_after (mark_after mark xs) ys
mark_after_append mark [] ys = refl
mark_after_append mark (x ∷ xs) [] = refl
mark_after_append mark (x ∷ xs) (y ∷ ys) = refl

all_in_more : (bs : List (List Service)) (b : List Service) → all_in (bs ++ b ∷ []) ≡ all_in bs ++ b
all_in_more [] b = append-nil b
all_in_more (c ∷ bs) b = ap (λ zs. c ++ zs) (all_in_more bs b) ∙ sym (append_assoc c (all_in bs) b)

-- the services of the blocks so far, and of one more
pub blocks_more : (bs : List (List Service)) (i : ℕ) (b : List Service) → i < length bs → b ≡ get_or bs i b
    → map service_object (all_in (take (i + 1) bs)) ≡ map service_object (all_in (take i bs)) ++ map service_object b
blocks_more bs i b lt is =
    let cut : take (i + 1) bs ≡ take i bs ++ b ∷ [] = take_more bs i b lt ∙ ap (λ (x : List Service). take i bs ++ x ∷ []) (sym is) in
    ap (λ xs. map service_object (all_in xs)) cut ∙ ap (map service_object) (all_in_more (take i bs) b) ∙ map-append service_object (all_in (take i bs)) b

-- all of them, with those after the blocks
pub running_is : (bs : List (List Service)) (last running : List Service) → all_in bs ++ last ≡ running
    → codes "[" ++ (marked [] (map service_object (all_in bs)) ++ (marked (mark_after [] (map service_object (all_in bs))) (map service_object last) ++ codes "]")) ≡ array (map service_object running)
running_is bs last running is =
    let a : List (List ℕ) = map service_object (all_in bs) in
    let b : List (List ℕ) = map service_object last in
    ap (λ zs. codes "[" ++ zs) (sym (append_assoc (marked [] a) (marked (mark_after [] a) b) (codes "]")) ∙ ap (λ zs. zs ++ codes "]") (sym (marked_append [] a b)) ∙ marked_is (codes "]") (a ++ b))
    ∙ ap array (sym (map-append service_object (all_in bs) last) ∙ ap (map service_object) is)
