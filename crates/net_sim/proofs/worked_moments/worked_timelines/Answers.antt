use Rattle.net_sim.proofs.Common.{◌≡◌, [], ◌∷◌, true, false, Some, None, refl, arith, IsAddress, first, second, IsTimeline}
use Rattle.bit_messages.specs.Octets.{octets_of}
use Rattle.ncp_control.specs.Packing.{packed_count}
use Rattle.ncp_control.specs.Reading.{read_of, command_of}
use Rattle.host_pairs.specs.Control.{orders_of}
use Rattle.sockets.specs.Accepting.{accepted}
use Rattle.sockets.specs.Requests.{refusal, served, served_notices}
use Rattle.sockets.specs.Sending.{next_out, offered}
use Rattle.net_sim.specs.WorkedMoments.{connected, contacted}
use Rattle.net_sim.proofs.worked_moments.worked_timelines.Goals as goal

address : IsAddress second
address = record { imp_from = omega arith; imp_to = omega arith; host_to = omega arith }

contact : IsTimeline (first ∷ second ∷ []) contacted
unfolding octets_of orders_of read_of command_of packed_count accepted refusal served served_notices next_out offered
contact = (tt, (tt, (refl, (tt, (tt, (refl, ((refl, address, refl, tt), tt)))))))

connection : IsTimeline (first ∷ second ∷ []) connected
unfolding octets_of orders_of read_of command_of packed_count accepted refusal served served_notices next_out offered
connection = (tt, (tt, (tt, (refl, (tt, (refl, ((refl, address, refl, (omega arith, omega arith)), ((refl, tt, refl, omega arith), contact))))))))

pub returns-clause-may : goal.returns-clause-may
unfolding octets_of orders_of read_of command_of packed_count accepted refusal served served_notices next_out offered
returns-clause-may c = (tt, (refl, (tt, (tt, (refl, ((refl, tt, refl, tt), ((refl, tt, refl, (omega arith, omega arith)), connection)))))))

pub returns-clause-refused : goal.returns-clause-refused
unfolding refusal
returns-clause-refused c t = absurd (let no : Some _ ≡ None = t.0.2 in cc)

pub returns-clause-unranged : goal.returns-clause-unranged
returns-clause-unranged c t = absurd (omega (arith, t.0.3))

pub returns-clause-nobody : goal.returns-clause-nobody
returns-clause-nobody c t = absurd (let no : false ≡ true = t.0.0 in cc)
