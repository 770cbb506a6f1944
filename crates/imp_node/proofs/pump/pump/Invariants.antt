use Rattle.std.proofs.Common.{◌≡◌, ◌-◌, ◌≤◌, ◌++◌, length, take, drop}
use Rattle.imp_node.specs.Pump.{pumped}
use Rattle.imp_node.proofs.pump.pump.Given as goal

-- the result of the rest, after what was done, is the result of all
abbrev pub invariant-packets : goal.invariant-packets
invariant-packets l = record {
  within : l.at ≤ length l.store.items;
  ports : (pumped l.routes l.ports (drop l.at l.store.items)).ports ≡ (pumped l.fn.routes l.fn.ports l.fn.store.items).ports;
  waits : take l.at l.store.items ++ (pumped l.routes l.ports (drop l.at l.store.items)).waits ≡ (pumped l.fn.routes l.fn.ports l.fn.store.items).waits;
  frames : l.frames.items ++ (pumped l.routes l.ports (drop l.at l.store.items)).frames ≡ l.fn.frames.items ++ (pumped l.fn.routes l.fn.ports l.fn.store.items).frames;
  more : length l.fn.frames.items ≤ length l.frames.items;
}

abbrev pub decreases-packets : goal.decreases-packets
decreases-packets l = length l.store.items - l.at
