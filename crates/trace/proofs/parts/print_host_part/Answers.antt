use Rattle.trace.proofs.Common.{for_host, on_ok, queues_text}
use Rattle.trace.proofs.PartByPart.{host_member}
use Rattle.trace.proofs.parts.print_host_part.Goals as goal

pub returns-clause-written : goal.returns-clause-written
returns-clause-written g c =
    let h = c.args.host.now in
    on_ok c.print_waiting.result
    (λ waits. host_member h (queues_text (for_host c.args.boxes.now.messages h) (for_host c.args.boxes.now.answers h)) (g.W.Output.contents c.args.writer.now) (g.W.Output.contents c.write.new.self) (g.W.Output.contents c.print_waiting.new.writer) c.in_ok-write.ensures.written waits)
    c.print_waiting.ensures.written
