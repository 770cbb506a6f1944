-- Members are added to the text of an object, which has no end yet.
use Rattle.trace.proofs.Common.{◌≡◌, ℕ, ◌<◌, ◌+◌, List, [], ◌∷◌, ◌++◌, codes, length, arith, refl, ap, ◌∙◌, extended, mark, further, object}
use Rattle.std.proofs.lemmas.List.{append_assoc, length-append}

-- first these, and then those
pub extended_twice : (text : List ℕ) (xs ys : List (List ℕ)) → extended (extended text xs) ys ≡ extended text (xs ++ ys)
extended_twice text [] ys = refl
extended_twice text (x ∷ xs) ys = extended_twice (text ++ (mark (codes "{") (codes ",") (length text) ++ x)) xs ys

-- after the first member
ended_later : (text : List ℕ) (xs : List (List ℕ)) → 0 < length text
    → extended text xs ++ mark (codes "{}") (codes "}") (length (extended text xs)) ≡ text ++ further (codes "}") xs
ended_later [] xs some = absurd (omega (arith, some))
ended_later (c ∷ text) [] some = refl
ended_later (c ∷ text) (x ∷ xs) some =
    let item : List ℕ = codes "," ++ x in
    let long : length ((c ∷ text) ++ item) ≡ length (c ∷ text) + length item = length-append (c ∷ text) item in
    ended_later ((c ∷ text) ++ item) xs (omega (arith, long, some))
    ∙ append_assoc (c ∷ text) item (further (codes "}") xs)
    ∙ ap (λ (zs : List ℕ). (c ∷ text) ++ zs) (append_assoc (codes ",") x (further (codes "}") xs))

whole : (xs : List (List ℕ)) → extended [] xs ++ mark (codes "{}") (codes "}") (length (extended [] xs)) ≡ object xs
whole [] = refl
whole (x ∷ xs) = ended_later (codes "{" ++ x) xs
    (let long : length (codes "{" ++ x) ≡ 1 + length x = length-append (codes "{") x in omega (arith, long))

-- an object with its end
pub ended_object : (text : List ℕ) (xs : List (List ℕ)) → text ≡ extended [] xs
    → text ++ mark (codes "{}") (codes "}") (length text) ≡ object xs
ended_object text xs is = ap (λ (t : List ℕ). t ++ mark (codes "{}") (codes "}") (length t)) is ∙ whole xs
