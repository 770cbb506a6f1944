-- Socket numbers in 32 bits.
use Rattle.std.proofs.Common.{rules, ◌≡◌, ℕ, ◌<◌, ◌^◌, ◌*◌, ◌≤◌, Bool, false, List, ◌++◌, length, take, replicate, ap, sym, ◌∙◌, arith}
use Rattle.std.proofs.lemmas.List.{length-append, length-take-le}
use Rattle.bit_messages.specs.Octets.{octets_of, spare_bits}
use Rattle.bit_messages.proofs.lemmas.{bits_again, length-bits_of, octets_again}
use Rattle.std.specs.Int.{w32, to_be_bytes}
use Rattle.std.proofs.lemmas.Nat.{from_be_bytes-to_be_bytes_4}
use Rattle.ncp_control.specs.Reading.{number_at}
use Rattle.icp.specs.Sockets.{socket_bits, socket_of}

-- 32 bits are four octets
pub four_octets : (bits : List Bool) → 32 ≤ length bits → 4 ≤ length (octets_of (take 32 bits))
four_octets bits there =
    let whole : length (take 32 bits) ≡ 32 = length-take-le 32 bits there in
    let octets : 8 * length (octets_of (take 32 bits)) ≡ length (take 32 bits ++ replicate (spare_bits (length (take 32 bits))) false) =
    sym (length-bits_of (octets_of (take 32 bits))) ∙ ap length (bits_again (take 32 bits)) in
    omega (arith, octets, length-append (take 32 bits) (replicate (spare_bits (length (take 32 bits))) false))

-- a socket number is read as it was said
pub said_again : (n : ℕ) → n < 2 ^ 32 → socket_of (socket_bits n) ≡ n
said_again n fits = ap (λ (octets : List ℕ). number_at w32 octets 0) (octets_again (to_be_bytes w32 n) (search rules)) ∙ from_be_bytes-to_be_bytes_4 n fits
