use Rattle.std.proofs.Common.{◌∙◌, sym}
use Rattle.leader1822.proofs.Giving.{nothing_taken, message_taken}
use Rattle.leader1822.proofs.contents.Contents.take.Goals as goal

pub returns-in_default-take_message-clause-ok : goal.returns-in_default-take_message-clause-ok
returns-in_default-take_message-clause-ok c =
    nothing_taken c.args.self.now c.take_answer.new.self c.take_message.new.self c.args.host.now (c.take_answer.ensures.unchanged c.in_default.is) (c.take_message.ensures.unchanged c.in_default-take_message.is)
    (sym c.take_answer.ensures.found ∙ c.in_default.is) (sym c.take_message.ensures.found ∙ c.in_default-take_message.is)

pub returns-clause-ok : goal.returns-clause-ok
returns-clause-ok c =
    message_taken c.args.self.now c.take_answer.new.self c.take_message.new.self c.tell.new.self c.cross_in.new.self c.args.host.now c.in-Some-take_message.message
    (c.take_answer.ensures.unchanged c.in_default.is) c.take_message.ensures.left c.in_ok-tell.ensures.ok c.in_ok-arrived.ensures.ok
    (sym c.take_answer.ensures.found ∙ c.in_default.is) (sym c.take_message.ensures.found ∙ c.in-Some-take_message.is)
