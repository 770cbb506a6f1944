use Rattle.world_trace.proofs.Common.{reverse, subst, ◌∙◌, ap, All, shown, IsSaid}
use Rattle.world_trace.specs.Told.{IsSeatTold, IsServed}
use Rattle.net_sim.specs.Book.{Kept}
use Rattle.world_trace.proofs.States.{in_order}
use Rattle.world_trace.proofs.Whole.{reached_told}
use Rattle.world_trace.proofs.lasting.says_all.Goals as goal

pub returns-clause-messages : goal.returns-clause-messages
returns-clause-messages g c =
    in_order c.args.world.now.kept.book.crossings
    (subst (All IsSaid) (c.crossings.ensures ∙ ap (λ (k : Kept). reverse k.book.crossings) c.book.ensures.value) c.all_numbers-3.ensures)

pub returns-clause-reached : goal.returns-clause-reached
returns-clause-reached g c = λ opening script lines replays.
    reached_told (shown g.C.Carrier.calls) opening script c.args.world.now lines replays
    (record { programs = subst (All IsSeatTold) c.seats.ensures.value c.all_numbers.ensures; services = subst (All IsServed) c.services.ensures c.all_numbers-2.ensures })
