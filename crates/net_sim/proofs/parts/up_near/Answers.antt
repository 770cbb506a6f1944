use Rattle.net_sim.proofs.Common.{rules, ◌≡◌, Some, refl, ap, ◌∙◌, one_found, NcpState, same_host, Seat}
use Rattle.host_pairs.proofs.lemmas.{none_found}
use Rattle.net_sim.specs.Inside.Parts.{NoSeat, NoProgram}
use Rattle.net_sim.proofs.Hosts.SeatLemmas.{sits, some_program, no_program}
use Rattle.net_sim.proofs.parts.up_near.Goals as goal

pub returns-in_default : goal.returns-in_default
returns-in_default c = NoSeat refl (none_found (λ (s : Seat). same_host c.args.host s.host) c.args.seats.now (search rules))

pub returns-then-is_none : goal.returns-then-is_none
returns-then-is_none c =
    NoProgram c.index-seats-at.result refl
    (one_found (λ (s : Seat). same_host c.args.host s.host) c.in-Some.at c.index-seats-at.result c.args.seats.now (search rules) ∙ ap (λ (x : Seat). Some x) (search rules))
    (no_program c.index-seats-at.result.program (search rules))

pub returns : goal.returns
returns c =
    let p : (s : NcpState) × c.index-seats-at.result.program ≡ Some s = some_program c.index-seats-at.result.program (search rules) in
    (p.0, sits c.args.host c.in-Some.at c.index-seats-at.result p.0 c.args.seats.now c.requires.once (search rules) (search rules) (search rules) p.1)
