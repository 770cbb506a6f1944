use Rattle.std.proofs.Common.{◌≡◌, ◌++◌, ◌+◌, ◌≤◌, take, drop, map, length, vec_len, vec_capacity}
use Rattle.imp_channel.specs.Holding.{packets_in}
use Rattle.imp_channel.specs.Line.{opening_channel}
use Rattle.imp_channel.proofs.channel.reset_all.Given as goal

abbrev pub invariant-loop-channel : goal.invariant-loop-channel
invariant-loop-channel l = record {
  room : vec_len l.packets + length (packets_in (drop l.channel-index l.channels)) ≤ vec_capacity l.packets;
  packets : l.packets.items ++ packets_in (drop l.channel-index l.channels) ≡ l.fn.packets.items ++ packets_in l.fn.channels;
  channels : take l.channel-index l.channels ++ map (λ _. opening_channel) (drop l.channel-index l.channels) ≡ map (λ _. opening_channel) l.fn.channels;
}
