use Rattle.world_trace.proofs.Common.{rules, decimal, has_written_append, has_written_of_eq, bits_members, bool_text, object, quoted, kind_text}
use Rattle.world_trace.specs.Texts.{allocation_object, closings_object, number_text, requests_object}
use Rattle.world_trace.proofs.Ends.{end_is}
use Rattle.world_trace.proofs.pairs.EntryJson.show.Goals as goal

pub returns : goal.returns
returns g c = λ plain ok.
    let e = c.args.self.now in
    let sockets = c.show_sockets.ensures plain (search rules) in
    let state = c.show_state.ensures sockets.plain (search rules) in
    let last = c.show_data.ensures state.plain ok in
    has_written_of_eq _ _ _ _ _
    (end_is (decimal e.own) (decimal e.foreign) (quoted (kind_text e.own)) (bool_text e.mine) (requests_object e) (closings_object e) (number_text e.link) (number_text e.size) (allocation_object e.allocation) (object (bits_members e.bits)))
    (has_written_append _ _ _ _ _ _ sockets (has_written_append _ _ _ _ _ _ state last))
