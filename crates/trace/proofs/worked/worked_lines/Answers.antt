use Rattle.trace.proofs.Common.{[], ◌∷◌, refl, empty, WaitingAnswer}
use Rattle.std.specs.Fmt.{digits}
use Rattle.hex.specs.Hex.{encode_with}
use Rattle.bit_messages.specs.Octets.{octets_of}
use Rattle.interface.specs.declared.crossing.Answer.TheVariants as answer
use Rattle.interface.specs.declared.message.HostMessage.{HostMessage}
use Rattle.trace.specs.Worked.{first, flow, second, short, third}
use Rattle.trace.proofs.Queues.{for_here, for_other, none_for}
use Rattle.trace.proofs.worked.worked_lines.Goals as goal

pub returns : goal.returns
unfolding digits encode_with octets_of
returns c = record {
  opening = refl;
  all_parts = rw (none_for {A = WaitingAnswer} third, none_for {A = HostMessage} third) refl;
  numbers = refl;
  numbered = refl;
  delivered = refl;
  start = rw (none_for {A = WaitingAnswer} first, none_for {A = HostMessage} first, none_for {A = WaitingAnswer} second, none_for {A = HostMessage} second, none_for {A = WaitingAnswer} third, none_for {A = HostMessage} third) refl;
  refused = rw (none_for {A = WaitingAnswer} first, none_for {A = HostMessage} first, none_for {A = WaitingAnswer} second, none_for {A = HostMessage} second, none_for {A = WaitingAnswer} third, none_for {A = HostMessage} third) refl;
  taken =
      rw (for_here {A = HostMessage} empty third (short ∷ []), for_other {A = HostMessage} empty third (short ∷ []) first refl, for_here {A = WaitingAnswer} empty first ((answer.Rfnm, flow) ∷ []), for_other {A = WaitingAnswer} empty first ((answer.Rfnm, flow) ∷ []) third refl)
      (rw (none_for {A = WaitingAnswer} first, none_for {A = HostMessage} first, none_for {A = WaitingAnswer} third, none_for {A = HostMessage} third) refl);
}
