use Rattle.command_line.proofs.Replayed.AmongPrinted.{never_out, no_notice, not_printed, nothing_in, of_stranger, untold}
use Rattle.command_line.proofs.law.worked_among.Goals as goal

pub returns : goal.returns
returns c = record {
  never_out = never_out;
  nothing_in = nothing_in;
  untold = untold;
  no_notice = no_notice;
  of_stranger = of_stranger;
  not_printed = not_printed;
}
