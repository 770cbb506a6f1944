use Rattle.subnet_trace.proofs.Common.{◌≡◌, ◌-◌, ap, arith, running, opening_subnet}
use Rattle.subnet_trace.specs.Elements.{round_of}
use Rattle.trace.specs.Elements.{rounds_from}
use Rattle.subnet_trace.proofs.Calms.{all_one_call, elementary, placed_after, placed_later}
use Rattle.subnet_trace.proofs.Rest.{opening}
use Rattle.subnet_trace.proofs.law.elementary.Goals as goal

pub returns : goal.returns
returns c = record {
  course = elementary;
  one_call = all_one_call;
  placed = placed_after;
  reached = λ hosts sites ends events k shown replays. placed_later events (running (opening_subnet hosts sites ends)) k shown (opening hosts sites ends) replays;
  beginning = λ n rounds. let same : rounds - 0 ≡ rounds = omega arith in ap (λ k. (rounds_from round_of 1 k n).elements) same;
}
