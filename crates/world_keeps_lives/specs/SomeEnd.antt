-- The ends of a program with a peer that may send anything (NIC 8246, RTS, STR and CLS).
use Rattle.std.specs.Prelude.{ℕ}
use Rattle.pairing_law.specs.Ends.{End}
use Rattle.host_pairs.specs.Pair.{PairState}
use Rattle.host_keeps_pairing.specs.Ends.{HasEnd}

-- of two sockets there is at most one end, and what waits to be said of it is what it still has to say: it is some
-- end of the law of pairing
pub record HasSome (origin : ℕ → ℕ) (own foreign : ℕ) (q : PairState) : Type 0 where
  pub x : End
  pub has : HasEnd origin own foreign q x
