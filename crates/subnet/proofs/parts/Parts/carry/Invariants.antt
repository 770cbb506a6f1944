use Rattle.subnet.proofs.Common.{◌≡◌, ◌-◌, true, round_grows, AreLive, SameLog}
use Rattle.subnet.specs.Events.{carried}
use Rattle.subnet.proofs.parts.Parts.carry.Given as goal

-- the frames that are left, after those so far
abbrev pub invariant-loop : goal.invariant-loop
invariant-loop l = record {
  live : AreLive l.self.imps;
  state : carried (l.count - l.counter) l.line l.direction l.self ≡ carried l.count l.line l.direction l.fn.self;
  earlier : round_grows l.self ≡ true → round_grows l.fn.self ≡ true;
  keeps : SameLog l.fn.self l.self;
}
