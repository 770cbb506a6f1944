use Rattle.std.proofs.Common.{◌≡◌, ◌++◌, drop, map}
use Rattle.imp_channel.specs.Line.{resent, frames_from}
use Rattle.imp_node.specs.Lines.{on_port}
use Rattle.imp_node.proofs.lines.push_resent.Given as goal

-- the frames so far, and those of the channels that are left, are all
abbrev pub invariant-loop-channel : goal.invariant-loop-channel
invariant-loop-channel l =
    l.frames.items ++ map (on_port l.at) (frames_from l.port.line l.channel (drop l.channel l.port.line.sending)) ≡ l.initial.frames.items ++ map (on_port l.at) (resent l.port.line)
