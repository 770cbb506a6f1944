-- Packed commands are read again.
use Rattle.std.proofs.Common.{ℕ, suc, List, [], ◌∷◌, refl, sym, arith, subst}
use Rattle.std.proofs.Math.Seq.{drop-append_seam}
use Rattle.std.specs.Prelude.{All}
use Rattle.ncp_control.specs.declared.command.Command.{Command}
use Rattle.ncp_control.specs.Command.{spelling, IsCommand}
use Rattle.ncp_control.specs.Packing.{spellings, AreRead}
use Rattle.ncp_control.proofs.Readings.{again}

pub packed_again : (commands : List Command) → All IsCommand commands → AreRead (spellings commands) commands
packed_again [] all = refl
packed_again (c ∷ cs) all = (
  again c (spellings cs) (all 0 c (omega arith)),
  subst (λ (octets : List ℕ). AreRead octets cs) (sym (drop-append_seam (spelling c) (spellings cs))) (packed_again cs (λ k d there. all (suc k) d (omega (arith, there)))),
)
