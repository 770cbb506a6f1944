-- What is spent and given back was granted.
use Rattle.std.proofs.Common.{ℕ, ◌+◌, ◌-◌, ◌*◌, ◌^◌, ◌<◌, ◌≤◌, min, List, [], ◌∷◌, arith}
use Rattle.std.proofs.Math.Nat.{div-le_of_le-mul, mul-le-mul_left, min-le_right, min-le_left}
use Rattle.ncp_control.specs.Allocation.{Act, Grant, Spend, GiveBack, share, counters, IsRun, IsWithinGranted}

-- a share is at most the whole
pub share-le : (counter fraction : ℕ) → share counter fraction ≤ counter
share-le counter fraction =
    div-le_of_le-mul 128 (let most : counter * min fraction 128 ≤ counter * 128 = mul-le-mul_left counter (min-le_right fraction 128) in omega (arith, most))

pub within_granted : (acts : List Act) → IsRun acts → IsWithinGranted acts
within_granted [] run = record { in_messages = omega arith; in_bits = omega arith }
within_granted (Grant messages bits ∷ earlier) run =
    let before : IsWithinGranted earlier = within_granted earlier run.1 in
    record {
      in_messages = omega (arith, before.in_messages, min-le_left ((counters earlier).messages + messages) (2 ^ 16 - 1));
      in_bits = omega (arith, before.in_bits, min-le_left ((counters earlier).bits + bits) (2 ^ 32 - 1));
    }
within_granted (Spend bits ∷ earlier) run =
    let before : IsWithinGranted earlier = within_granted earlier run.1 in
    let message : 0 < (counters earlier).messages = run.0.0 in
    let room : bits ≤ (counters earlier).bits = run.0.1 in
    record { in_messages = omega (arith, before.in_messages, message); in_bits = omega (arith, before.in_bits, room) }
within_granted (GiveBack message_fraction bit_fraction ∷ earlier) run =
    let before : IsWithinGranted earlier = within_granted earlier run.1 in
    record {
      in_messages = omega (arith, before.in_messages, share-le (counters earlier).messages message_fraction);
      in_bits = omega (arith, before.in_bits, share-le (counters earlier).bits bit_fraction);
    }
