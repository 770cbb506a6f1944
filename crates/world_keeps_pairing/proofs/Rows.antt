-- Steps, computed.
use Rattle.world_keeps_pairing.proofs.Common.{◌≡◌, [], ◌∷◌, refl, HostMessage, control_flow, Receiver, Says, Sender, heard_words, Ask, Close, tagged, In, Other, Out, origin_in, steps}
use Rattle.bit_messages.specs.Octets.{octets_of}
use Rattle.host_keeps_pairing.specs.Spoken.{asking, reset_of_two}
use Rattle.host_pairs.specs.Control.{orders_of}
use Rattle.interface.specs.declared.crossing.Crossing.TheVariants as crossing
use Rattle.ncp_control.specs.Reading.{command_of, read_of}
use Rattle.pairing_law.specs.Example.{first_sockets}
use Rattle.reset_law.specs.Example.{one, two}

pub row_said : steps one two (Out one two 0 (Other (tagged 5 asking)) ∷ reset_of_two) ≡ Says Receiver (record { sockets = first_sockets; link = 0; mark = Close }) ∷ Says Receiver (record { sockets = first_sockets; link = 2; mark = Ask 5 }) ∷ steps one two reset_of_two
unfolding octets_of orders_of read_of command_of
row_said = refl

pub row_heard : heard_words Sender (steps one two (In one two 0 (Other (tagged 5 asking)) ∷ reset_of_two)) ≡ record { sockets = first_sockets; link = 0; mark = Close } ∷ record { sockets = first_sockets; link = 2; mark = Ask 5 } ∷ []
unfolding octets_of orders_of read_of command_of
row_heard = refl

pub row_origin : (out : HostMessage) → out.flow ≡ control_flow two one → origin_in (crossing.Out out ∷ crossing.In out ∷ crossing.Out out ∷ crossing.Down two ∷ []) one two 2 ≡ 1
row_origin out is = rw is refl
