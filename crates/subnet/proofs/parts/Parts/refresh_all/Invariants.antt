use Rattle.subnet.proofs.Common.{◌≡◌, ◌-◌, true, range_with_len, round_grows, AreLive, SameLog}
use Rattle.subnet.specs.Events.{all_refreshed}
use Rattle.subnet.proofs.parts.Parts.refresh_all.Given as goal

-- the IMPs that are left, after those so far
abbrev pub invariant-loop-imp : goal.invariant-loop-imp
invariant-loop-imp l = record {
  live : AreLive l.self.imps;
  state : all_refreshed (range_with_len l.imp (l.places - l.imp)) l.self ≡ all_refreshed (range_with_len 0 l.places) l.fn.self;
  earlier : round_grows l.self ≡ true → round_grows l.fn.self ≡ true;
  keeps : SameLog l.fn.self l.self;
}
