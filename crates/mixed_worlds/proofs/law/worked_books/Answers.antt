use Rattle.std.proofs.Common.{refl, arith}
use Rattle.bit_messages.specs.Octets.{octets_of}
use Rattle.ncp_control.specs.Packing.{packed_count}
use Rattle.ncp_control.specs.Reading.{command_of, read_of}
use Rattle.host_pairs.specs.Control.{orders_of}
use Rattle.sockets.specs.Accepting.{accepted}
use Rattle.sockets.specs.Requests.{refusal, served, served_notices}
use Rattle.sockets.specs.Sending.{next_out, offered}
use Rattle.mixed_worlds.proofs.law.worked_books.Goals as goal

pub returns-clause-mixed : goal.returns-clause-mixed
unfolding octets_of orders_of read_of command_of packed_count accepted refusal served served_notices next_out offered
returns-clause-mixed c = (
  (λ off. refl),
  (
    (λ off. tt),
    (
      (λ off. absurd (cc)),
      (
        (λ off. (refl, tt, refl, omega arith)),
        ((λ off. tt), ((λ off. tt), ((λ off. refl), ((λ off. tt), ((λ off. tt), ((λ off. absurd (cc)), tt)))))),
      ),
    ),
  ),
)

pub returns-clause-opened : goal.returns-clause-opened
unfolding octets_of orders_of read_of command_of packed_count accepted refusal served served_notices next_out offered
returns-clause-opened c = refl

pub returns-clause-toward : goal.returns-clause-toward
unfolding octets_of orders_of read_of command_of packed_count accepted refusal served served_notices next_out offered
returns-clause-toward c = refl

pub returns-clause-untold : goal.returns-clause-untold
unfolding octets_of orders_of read_of command_of packed_count accepted refusal served served_notices next_out offered
returns-clause-untold c = refl

pub returns-clause-told : goal.returns-clause-told
unfolding octets_of orders_of read_of command_of packed_count accepted refusal served served_notices next_out offered
returns-clause-told c = refl
