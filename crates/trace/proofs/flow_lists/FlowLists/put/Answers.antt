use Rattle.trace.proofs.Common.{◌∙◌, ap, List, slice_set, map-set, FlowPart}
use Rattle.trace.proofs.flow_lists.FlowLists.put.Goals as goal

pub returns-clause-lists : goal.returns-clause-lists
returns-clause-lists c =
    map-set (λ l. l.items) c.self.inside.lists.items c.args.place c.args.now
    ∙ ap (λ (ls : List (List FlowPart)). slice_set ls c.args.place c.args.now.items) c.self.view_is
