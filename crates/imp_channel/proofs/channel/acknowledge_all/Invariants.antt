use Rattle.std.proofs.Common.{◌≡◌, ◌++◌, ◌+◌, take, drop, map, count_by, is_some}
use Rattle.imp_channel.specs.Line.{all_acknowledged}
use Rattle.imp_channel.proofs.channel.acknowledge_all.Given as goal

-- the channels so far, and what the rest will be, are the whole
abbrev pub invariant-loop-c : goal.invariant-loop-c
invariant-loop-c l = record {
  channels : take l.c l.channels ++ all_acknowledged (drop l.c l.acks) (drop l.c l.channels) ≡ all_acknowledged l.acks l.fn.channels;
  bits : l.bits ≡ map (λ channel. channel.bit) l.channels;
  freed : count_by (λ channel. is_some channel.packet) l.channels + l.freed ≡ count_by (λ channel. is_some channel.packet) l.fn.channels;
}
