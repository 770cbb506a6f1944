use Rattle.std.proofs.Common.{refl}
use Rattle.imp_channel.specs.Line.{submitted}
use Rattle.link_table.specs.Numbers.{is_new, oldest, modulus, window}
use Rattle.routing.specs.RouteTable.{next_of, distance_to, vector_of}
use Rattle.subnet.proofs.Calls.Awaiting.{nothing_begun, none_kept}
use Rattle.subnet.proofs.law.worked_refusals.Goals as goal

pub returns : goal.returns
unfolding next_of submitted distance_to vector_of is_new oldest modulus window
returns c = record {
  forget_down = (refl, rw (nothing_begun 2) refl);
  start_up = (refl, rw (none_kept 1, nothing_begun 1) refl);
  forget_itself = (refl, refl);
  imp_down = (refl, refl, refl, refl, refl);
  hosts_down = (refl, refl, refl, refl, refl);
  no_slot = refl;
  not_there = (refl, refl, refl, refl, refl, refl);
  other_line = (refl, refl);
  gives = refl;
  gives_nothing = (refl, refl, refl);
}
