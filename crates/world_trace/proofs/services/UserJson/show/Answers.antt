use Rattle.world_trace.proofs.Common.{rules, has_written_append, has_written_of_eq, bits_members, bool_text, object}
use Rattle.world_trace.specs.Texts.{asked_object, ends_object, number_text, sockets_object}
use Rattle.world_trace.proofs.Ends.{user_is}
use Rattle.world_trace.proofs.services.UserJson.show.Goals as goal

pub returns : goal.returns
returns g c = λ plain ok.
    let u = c.args.self.now in
    let sockets = c.show_user_sockets.ensures plain (search rules) in
    let rest = c.show_user_rest.ensures sockets.plain ok in
    has_written_of_eq _ _ _ _ _ (user_is (asked_object u) (sockets_object u.receive u.send) (ends_object u) (number_text u.base) (object (bits_members u.bits)) (bool_text u.over))
    (has_written_append _ _ _ _ _ _ sockets rest)
