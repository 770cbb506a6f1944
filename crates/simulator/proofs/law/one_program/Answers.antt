use Rattle.std.proofs.Common.{refl}
use Rattle.simulator.proofs.OneProgram.{audited_kept, invented, no_input, replay_part, same_replay, trace_part}
use Rattle.simulator.proofs.Traces.AmongTrace.{one_trace}
use Rattle.simulator.proofs.law.one_program.Goals as goal

pub returns : goal.returns
returns c = record {
  replays = λ options input before after other left rest unread unheard ends again. same_replay c.one_output.ensures
      options.check options input before after other left rest unread unheard ends.replayed again.replayed;
  logs = λ input before after other left rest unread unheard ends again. c.one_log.ensures input before after other
      ends.logged again.logged;
  traces = λ input before after other left rest unread unheard ends again. one_trace input before after other
      ends.traced again.traced;
  part = λ options input before part whole left rest unread unheard ends done. replay_part c.first_part.ensures
      options.check options input before part whole left rest unread unheard refl ends done.replayed;
  trace_part = trace_part;
  audits = audited_kept;
  no_input = no_input;
  invented = invented;
}
