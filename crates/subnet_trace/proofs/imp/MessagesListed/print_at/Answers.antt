use Rattle.subnet_trace.proofs.Common.{Appends, on_ok}
use Rattle.std.proofs.Common.{◌≡◌, Some, ap, slice_get, subst, sym, ◌∙◌, option_copied}
use Rattle.subnet_trace.specs.Texts.{whole_text}
use Rattle.subnet_trace.proofs.imp.MessagesListed.print_at.Goals as goal
use Rattle.trace.proofs.lemmas.{text_at}

pub returns-clause-written : goal.returns-clause-written
returns-clause-written g c =
    let queue = c.args.self.now.0.now.queue in
    let item : slice_get queue c.args.place ≡ Some c.in-Some.message.now = sym c.message_at.ensures ∙ ap option_copied c.in-Some.is in
    on_ok c.print.result
    (λ end. subst (Appends (g.W.Output.contents c.args.writer.now) (g.W.Output.contents c.print.new.writer)) (text_at whole_text queue c.args.place c.in-Some.message.now item) end)
    c.print.ensures.written
