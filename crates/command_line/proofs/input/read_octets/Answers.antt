use Rattle.std.proofs.Common.{rules}
use Rattle.command_line.proofs.Reading.{reads_more}
use Rattle.command_line.proofs.input.read_octets.Goals as goal

pub returns-in_err-extend_from_slice-clause-reads : goal.returns-in_err-extend_from_slice-clause-reads
returns-in_err-extend_from_slice-clause-reads g c =
    reads_more (g.R.Source.remaining c.args.reader.now) (g.R.Source.remaining c.loop-buffer.reader) (g.R.Source.remaining c.read.new.self) c.loop-buffer.octets.items c.read.new.buf c.in_ok-count.count
    c.loop-buffer.invariant.0 c.in_ok-count.ensures.octets.0 (search rules) (search rules)
