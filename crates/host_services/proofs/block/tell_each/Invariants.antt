use Rattle.std.proofs.Common.{◌≡◌, map, take, drop}
use Rattle.std.specs.Bool.{OnFalse}
use Rattle.host_services.specs.Ears.{ear_of}
use Rattle.host_services.specs.Turns.{notice_heard}
use Rattle.host_services.proofs.TurnLemmas.{behind}
use Rattle.host_services.proofs.block.tell_each.Given as goal

-- those before this place have had their turns, each ear is that of its service, and the ears are as they were unless one has changed
abbrev pub invariant-loop-at : goal.invariant-loop-at
invariant-loop-at l = record {
  heard : notice_heard l.notice l.fn.services l.fn.desk ≡ behind (take l.at l.services) (notice_heard l.notice (drop l.at l.services) l.desk);
  ears : l.ears ≡ map ear_of l.services;
  same : OnFalse l.changed (l.ears ≡ l.fn.ears);
}
