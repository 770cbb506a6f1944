use Rattle.trace.proofs.Common.{on_ok}
use Rattle.trace.proofs.PartByPart.{whole_more, whole_printed}
use Rattle.trace.proofs.parts.print_whole.Goals as goal

pub loop-host-init : goal.loop-host-init
loop-host-init g c = (c.in_ok-open_parts.ensures.failed, c.in_ok-open_parts.ensures.written)

pub loop-host-preserved : goal.loop-host-preserved
loop-host-preserved g c = (
  c.in_ok-print_host_part.ensures.failed,
  whole_more c.args.boxes.now c.hosts-host-items.result.now c.loop-host.host-index c.host-item.result (g.W.Output.contents c.args.writer.now) (g.W.Output.contents c.loop-host.writer) (g.W.Output.contents c.write_all.new.self) (g.W.Output.contents c.print_host_part.new.writer)
      c.loop-host-test.true c.host-item.is c.loop-host.invariant.1 c.in_ok-write_all.ensures.written c.in_ok-print_host_part.ensures.written,
)

pub returns-clause-written : goal.returns-clause-written
returns-clause-written g c =
    on_ok c.write_all-2.result
    (λ end. whole_printed c.args.boxes.now c.hosts-host-items.result.now c.loop-host.host-index (g.W.Output.contents c.args.writer.now) (g.W.Output.contents c.loop-host.writer) (g.W.Output.contents c.write_all-2.new.self) c.loop-host-test.false c.hosts-host-items.ensures.value c.loop-host.invariant.1 end)
    c.write_all-2.ensures.written
