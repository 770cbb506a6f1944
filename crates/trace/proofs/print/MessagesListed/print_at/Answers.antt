use Rattle.trace.proofs.Common.{Appends, for_host, on_ok}
use Rattle.std.proofs.Common.{◌≡◌, Some, ap, option_copied, slice_get, subst, sym, ◌∙◌}
use Rattle.trace.specs.Texts.{message_object}
use Rattle.trace.proofs.Left.{text_at}
use Rattle.trace.proofs.print.MessagesListed.print_at.Goals as goal

pub returns-clause-written : goal.returns-clause-written
returns-clause-written g c =
    let waiting = for_host c.args.self.now.boxes.now.messages c.args.self.now.host.now in
    let item : slice_get waiting c.args.place ≡ Some c.in-Some.message.now = sym c.message_at.ensures ∙ ap option_copied c.in-Some.is in
    on_ok c.print.result
    (λ end. subst (Appends (g.W.Output.contents c.args.writer.now) (g.W.Output.contents c.print.new.writer)) (text_at message_object waiting c.args.place c.in-Some.message.now item) end)
    c.print.ensures.written
