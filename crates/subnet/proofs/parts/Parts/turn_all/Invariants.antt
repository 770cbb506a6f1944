use Rattle.subnet.proofs.Common.{◌≡◌, ◌-◌, true, range_with_len, round_grows, AreLive, SameLog}
use Rattle.subnet.specs.Events.{all_turns}
use Rattle.subnet.proofs.parts.Parts.turn_all.Given as goal

-- the lines that are left, after those so far
abbrev pub invariant-loop-line : goal.invariant-loop-line
invariant-loop-line l = record {
  live : AreLive l.self.imps;
  state : all_turns (range_with_len l.line (l.lines - l.line)) l.self ≡ all_turns (range_with_len 0 l.lines) l.fn.self;
  earlier : round_grows l.self ≡ true → round_grows l.fn.self ≡ true;
  keeps : SameLog l.fn.self l.self;
}
