use Rattle.net_sim.proofs.Common.{◌≡◌, true, false, [], ◌∷◌, refl, ap, first}
use Rattle.bit_messages.specs.Octets.{octets_of}
use Rattle.ncp_control.specs.Packing.{packed_count}
use Rattle.ncp_control.specs.Reading.{read_of, command_of}
use Rattle.host_pairs.specs.Control.{orders_of}
use Rattle.ncp_control.specs.Phases.{is_closed}
use Rattle.sockets.specs.Accepting.{accepted}
use Rattle.sockets.specs.Requests.{refusal, served, served_notices}
use Rattle.sockets.specs.Sending.{next_out, offered}
use Rattle.net_sim.proofs.worked_moments.worked_takings.Goals as goal

pub returns-clause-told : goal.returns-clause-told
unfolding octets_of orders_of read_of command_of packed_count accepted refusal served served_notices next_out offered
returns-clause-told c u = absurd (let no : _ ∷ _ ≡ [] = u.told in cc)

pub returns-clause-opened : goal.returns-clause-opened
unfolding octets_of orders_of read_of command_of packed_count accepted refusal served served_notices next_out offered
returns-clause-opened c u = absurd (let no : _ ∷ _ ≡ [] = u.told in cc)

pub returns-clause-early : goal.returns-clause-early
unfolding octets_of orders_of read_of command_of packed_count accepted refusal served served_notices next_out offered
returns-clause-early c = (record { told = refl; pairs = λ h. refl; listening = refl }, record { told = refl; pairs = λ h. refl; listening = refl })

pub returns-clause-notice : goal.returns-clause-notice
returns-clause-notice c n u = absurd (let no : n ∷ [] ≡ [] = u.told in cc)

pub returns-clause-pair : goal.returns-clause-pair
unfolding octets_of orders_of read_of command_of packed_count accepted refusal served served_notices next_out offered
returns-clause-pair c u = absurd (let no : false ≡ true = ap (λ q. is_closed q.phase) (u.pairs first) in cc)

pub returns-clause-listening : goal.returns-clause-listening
unfolding octets_of orders_of read_of command_of packed_count accepted refusal served served_notices next_out offered
returns-clause-listening c u = absurd (let no : _ ∷ _ ≡ [] = u.listening in cc)
