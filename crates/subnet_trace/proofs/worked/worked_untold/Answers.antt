use Rattle.subnet_trace.proofs.Common.{◌≡◌, zero, suc, false, List, Option, refl, arith, nat_tests, State}
use Rattle.subnet_trace.specs.Parts.{Imp, Line, is_part, Part}
use Rattle.std.specs.Fmt.{digits}
use Rattle.hex.specs.Hex.{encode_with}
use Rattle.bit_messages.specs.Octets.{octets_of}
use Rattle.subnet_trace.specs.Worked.{nowhere}
use Rattle.subnet_trace.proofs.worked.worked_untold.Goals as goal

no_part : (imps : List (Option State)) (p : Part) → is_part (nowhere imps) p ≡ false
no_part imps (Imp zero) = refl
no_part imps (Imp (suc i)) = refl
no_part imps (Line l) = grind (arith, nat_tests)

pub returns : goal.returns
unfolding digits encode_with octets_of
returns c = record {
  number = refl;
  place = refl;
  link = refl;
  imp_number = refl;
  host_number = refl;
  channel = refl;
  message = refl;
  answer = refl;
  begun = refl;
  noted = refl;
  too_far = refl;
  too_few = refl;
  no_pieces = refl;
  slot_number = refl;
  slot_flow = refl;
  spent = refl;
  nowhere = no_part;
}
