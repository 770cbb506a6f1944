use Rattle.std.proofs.Common.{rules, ◌∙◌, ap, ◌≡◌, ℕ, Bool, List, drop, take, min, ◌*◌, ◌+◌, length}
use Rattle.packetiser.specs.Faults.{GivesIfMemory}
use Rattle.packetiser.specs.Pieces.{piece}
use Rattle.packetiser.proofs.Calls.{gives_map}
use Rattle.packetiser.proofs.Pieces.{piece_between}
use Rattle.packetiser.proofs.cutting.piece.Goals as goal

pub returns : goal.returns
returns c =
    let to : c.min-to.result ≡ min (1008 * c.args.place + 1008) (length c.args.body.now) = c.min-to.ensures ∙ ap (λ (n : ℕ). min (1008 * c.args.place + 1008) n) c.len.ensures in
    let cut : GivesIfMemory (λ (bits : List Bool). bits ≡ drop (1008 * c.args.place) (take c.min-to.result c.args.body.now)) c.map_err.result = search rules in
    gives_map (λ (bits : List Bool). bits ≡ drop (1008 * c.args.place) (take c.min-to.result c.args.body.now)) (λ (bits : List Bool). bits ≡ piece c.args.body.now c.args.place) c.map_err.result cut
    (λ bits is. is ∙ ap (λ (n : ℕ). drop (1008 * c.args.place) (take n c.args.body.now)) to ∙ piece_between c.args.body.now c.args.place)
