-- Bits of messages, and prefixes of them.
use Rattle.world_keeps_streams.proofs.Common.{◌≡◌, ℕ, ◌+◌, Bool, List, [], ◌∷◌, ◌++◌, length, refl, ap, sym, ◌∙◌, append_assoc, length-append}
use Rattle.stream_law.specs.Within.{message_bits, IsPrefix}
use Rattle.promise.specs.Safe as book
use Rattle.world_keeps_streams.proofs.Carried.Streams.{all_bits}

all_bits_append : (xs ys : List (List Bool)) → all_bits (xs ++ ys) ≡ all_bits xs ++ all_bits ys
all_bits_append [] ys = refl
all_bits_append (x ∷ xs) ys = ap (λ (bs : List Bool). x ++ bs) (all_bits_append xs ys) ∙ sym (append_assoc x (all_bits xs) (all_bits ys))

pub all_bits_length : (xs : List (List Bool)) → length (all_bits xs) ≡ message_bits xs
all_bits_length [] = refl
all_bits_length (x ∷ xs) = length-append x (all_bits xs) ∙ ap (λ (n : ℕ). length x + n) (all_bits_length xs)

pub front_bits : (xs ys : List (List Bool)) → IsPrefix xs ys → book.IsPrefix (all_bits xs) (all_bits ys)
front_bits xs ys f = (all_bits f.0, sym (all_bits_append xs f.0) ∙ ap all_bits f.1)

pub front_none : (xs ys : List Bool) → book.IsPrefix xs ys → ys ≡ [] → xs ≡ []
front_none [] ys f e = refl
front_none (x ∷ xs) ys f e = absurd (let none : x ∷ (xs ++ f.0) ≡ [] = f.1 ∙ e in cc)

pub fronts_none : (xs ys : List (List Bool)) → IsPrefix xs ys → ys ≡ [] → xs ≡ []
fronts_none [] ys f e = refl
fronts_none (x ∷ xs) ys f e = absurd (let none : x ∷ (xs ++ f.0) ≡ [] = f.1 ∙ e in cc)
