-- What is read further is read of the same octets.
use Rattle.std.proofs.Common.{◌≡◌, ◌≢◌, ◌≤◌, IfSome, ◌+◌, ℕ, List, [], ◌++◌, Option, Some, None, length, refl, take, sym, ap, ◌∙◌, arith}
use Rattle.std.proofs.lemmas.List.{append_assoc, length-append, length-take-le}
use Rattle.std.specs.Io.KnownBytes.{Consumes}
use Rattle.command_line.specs.Reading.{ReadsFirst}

-- where nothing is read
consumes_none : (a : Option (List ℕ)) → Consumes a a []
consumes_none None = tt
consumes_none (Some xs) = refl

pub reads_none : (a : Option (List ℕ)) → ReadsFirst a a
reads_none a = ([], consumes_none a, omega arith)

consumes_more : (a b c : Option (List ℕ)) (xs ys : List ℕ) → Consumes a b xs → Consumes b c ys → Consumes a c (xs ++ ys)
consumes_more None b c xs ys h k = tt
consumes_more (Some old) None c xs ys h k = absurd h
consumes_more (Some old) (Some bs) None xs ys h k = absurd k
consumes_more (Some old) (Some bs) (Some cs) xs ys h k = h ∙ ap (λ zs. xs ++ zs) k ∙ sym (append_assoc xs ys cs)

pub reads_more : (a b c : Option (List ℕ)) (xs buf : List ℕ) (count : ℕ) → Consumes a b xs → Consumes b c (take count buf) → count ≤ length buf → length xs + length buf ≤ 268435457 → ReadsFirst a c
reads_more a b c xs buf count h k few room =
    let long : length (xs ++ take count buf) ≡ length xs + length (take count buf) = length-append xs (take count buf) in
    let taken : length (take count buf) ≡ count = length-take-le count buf few in
    (xs ++ take count buf, consumes_more a b c xs (take count buf) h k, omega (arith, long, taken, few, room))

-- where some octets were read, there were some
pub reads_some : (a b : Option (List ℕ)) (xs : List ℕ) → Consumes a b xs → 1 ≤ length xs → IfSome a (λ k. k ≢ [])
reads_some None b xs h long = tt
reads_some (Some k) None xs h long = absurd h
reads_some (Some k) (Some bs) xs h long = λ none. (
    let all : length k ≡ length xs + length bs = ap length h ∙ length-append xs bs in
    let zero : length k ≡ 0 = ap length none in
    absurd (omega (arith, all, zero, long)))

pub reads_one : (a b c : Option (List ℕ)) (xs buf : List ℕ) (count : ℕ) → Consumes a b xs → Consumes b c (take count buf)
    → count ≤ length buf → 1 ≤ count → IfSome a (λ k. k ≢ [])
reads_one a b c xs buf count h k few long =
    let all : length (xs ++ take count buf) ≡ length xs + length (take count buf) = length-append xs (take count buf) in
    let taken : length (take count buf) ≡ count = length-take-le count buf few in
    reads_some a c (xs ++ take count buf) (consumes_more a b c xs (take count buf) h k) (omega (arith, all, taken, long))
