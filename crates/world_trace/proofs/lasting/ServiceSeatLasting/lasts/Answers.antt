use Rattle.world_trace.proofs.Common.{◌++◌, List, sym, All-append, All-same, all_in, Service, ServiceLasts}
use Rattle.world_trace.proofs.Blocks.{both_parts, each_block, in_blocks}
use Rattle.world_trace.proofs.lasting.ServiceSeatLasting.lasts.Goals as goal

pub returns-then-all_last-clause-lasting : goal.returns-then-all_last-clause-lasting
returns-then-all_last-clause-lasting c = λ last.
    let blocks : List (List Service) = c.running.result.0.now in
    let others : List Service = c.running.result.1.now in
    All-same ServiceLasts c.args.self.now.services.running (all_in blocks ++ others) (sym c.running.ensures)
    (All-append ServiceLasts (all_in blocks) others (in_blocks ServiceLasts blocks (c.all_last.ensures.lasting c.if-all_last.true)) (c.all_last-then-all_last.ensures.lasting last))

pub returns-then-all_last-clause-exact : goal.returns-then-all_last-clause-exact
returns-then-all_last-clause-exact c = λ h.
    let blocks : List (List Service) = c.running.result.0.now in
    let others : List Service = c.running.result.1.now in
    c.all_last-then-all_last.ensures.exact (both_parts ServiceLasts (all_in blocks) others (All-same ServiceLasts (all_in blocks ++ others) c.args.self.now.services.running c.running.ensures h)).1

pub returns-else-all_last-clause-exact : goal.returns-else-all_last-clause-exact
returns-else-all_last-clause-exact c = λ h.
    let blocks : List (List Service) = c.running.result.0.now in
    let others : List Service = c.running.result.1.now in
    c.all_last.ensures.exact (each_block ServiceLasts blocks (both_parts ServiceLasts (all_in blocks) others (All-same ServiceLasts (all_in blocks ++ others) c.args.self.now.services.running c.running.ensures h)).0)
