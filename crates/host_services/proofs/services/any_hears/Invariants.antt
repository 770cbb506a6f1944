use Rattle.std.proofs.Common.{◌≡◌, drop}
use Rattle.host_pairs.specs.declared.notice.Notice.{Notice}
use Rattle.host_services.specs.Ears.{AreDeaf, all_in, subject_of}
use Rattle.host_services.proofs.services.any_hears.Given as goal

-- it is enough that the blocks from here on don't hear it
abbrev pub invariant-loop-block : goal.invariant-loop-block
invariant-loop-block l = (n : Notice) → l.subject ≡ subject_of n → AreDeaf (all_in (drop l.block-index l.blocks)) n → AreDeaf (all_in l.blocks) n
