use Rattle.std.proofs.Common.{◌≡◌, ◌++◌, drop}
use Rattle.imp_channel.specs.Line.{resent, frames_from}
use Rattle.imp_channel.proofs.line.Line.resend.Given as goal

-- the frames so far, and those of the channels that are left, are all
abbrev pub invariant-loop-c : goal.invariant-loop-c
invariant-loop-c l = l.frames.items ++ frames_from l.self l.c (drop l.c l.self.sending) ≡ resent l.self
