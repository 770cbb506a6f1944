use Rattle.subnet.proofs.Common.{on_port, put_all}
use Rattle.std.proofs.Common.{◌≡◌, drop, length, map}
use Rattle.imp_channel.specs.Line.{resent, frames_from}
use Rattle.subnet.proofs.resending.resend_port.Given as goal

-- the frames of the channels that are left, after those so far
abbrev pub invariant-loop-channel : goal.invariant-loop-channel
invariant-loop-channel l = record {
  state : put_all l.lines l.number (map (on_port l.at) (frames_from l.port.line l.channel (drop l.channel l.port.line.sending))) ≡ put_all l.fn.lines l.number (map (on_port l.at) (resent l.port.line));
  count : length l.lines ≡ length l.fn.lines;
}
