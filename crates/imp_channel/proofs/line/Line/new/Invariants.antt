use Rattle.std.proofs.Common.{◌≡◌, replicate}
use Rattle.imp_channel.specs.Line.{opening_channel}
use Rattle.imp_channel.proofs.line.Line.new.Given as goal

abbrev pub invariant-loop : goal.invariant-loop
invariant-loop l = l.channels.items ≡ replicate l.counter opening_channel
