use Rattle.command_line.proofs.WorkedLines.{never_out, no_life, no_notice, no_programs, no_services, not_in_part, not_printed, nothing_in}
use Rattle.command_line.proofs.law.worked_lines.Goals as goal

pub returns : goal.returns
returns c = record {
  never_out = never_out;
  nothing_in = nothing_in;
  no_life = no_life;
  no_notice = no_notice;
  no_programs = no_programs;
  no_services = no_services;
  not_printed = not_printed;
  not_in_part = not_in_part;
}
