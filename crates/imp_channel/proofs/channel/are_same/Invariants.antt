use Rattle.std.proofs.Common.{◌≡◌, true, drop}
use Rattle.imp_channel.proofs.channel.are_same.Given as goal

-- where all bits so far were the same, the whole is the same if the rest is
abbrev pub invariant-loop-c : goal.invariant-loop-c
invariant-loop-c l = l.same ≡ true → drop l.c l.acks ≡ drop l.c l.bits → l.acks ≡ l.bits
