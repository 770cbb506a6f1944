use Rattle.std.proofs.Common.{◌≡◌, arith, false, rules}
use Rattle.command_line.proofs.Reading.{reads_one, reads_some}
use Rattle.command_line.proofs.auditing.read_octets.Goals as goal

pub returns-in_err-extend_from_slice-clause-memory : goal.returns-in_err-extend_from_slice-clause-memory
returns-in_err-extend_from_slice-clause-memory g c = λ e.
    reads_one (g.R.Source.remaining c.args.reader.now) (g.R.Source.remaining c.loop-buffer.reader)
    (g.R.Source.remaining c.read.new.self) c.loop-buffer.octets.items c.read.new.buf c.in_ok-count.count
    c.loop-buffer.invariant.0 c.in_ok-count.ensures.octets.0 (search rules) (search rules)

pub returns-clause-memory : goal.returns-clause-memory
returns-clause-memory g c = λ e.
    reads_some (g.R.Source.remaining c.args.reader.now) (g.R.Source.remaining c.loop-buffer.reader)
    c.loop-buffer.octets.items c.loop-buffer.invariant.0 (search rules)
