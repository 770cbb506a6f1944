use Rattle.std.proofs.Common.{◌≡◌, ℕ, List, ap, ◌++◌, drop, [], ◌∷◌, length}
use Rattle.ncp_control.specs.Command.{detail_of}
use Rattle.ncp_control.specs.declared.command.Command.TheVariants as command
use Rattle.ncp_control.proofs.Details.{filled_detail}
use Rattle.ncp_control.proofs.command.Command.error.Goals as goal

pub returns : goal.returns
returns c =
    let detail : c.copy_from_slice.new.self ++ drop (length c.split_at.result.0.now) (0 ∷ 0 ∷ 0 ∷ 0 ∷ 0 ∷ 0 ∷ 0 ∷ 0 ∷ 0 ∷ 0 ∷ []) ≡ detail_of c.args.octets.now =
    rw (c.copy_from_slice.ensures.after, c.split_at.ensures.front, c.min.ensures) (filled_detail c.args.octets.now) in
    ap (λ (octets : List ℕ). command.Err c.args.code octets) detail
