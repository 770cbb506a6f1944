-- Words of two sockets, computed.
use Rattle.host_keeps_pairing.proofs.Common.{◌≡◌, [], ◌∷◌, refl, Ask, Close}
use Rattle.bit_messages.specs.Octets.{octets_of}
use Rattle.ncp_control.specs.Reading.{command_of, read_of}
use Rattle.reset_law.specs.Events.{In, Out, Other}
use Rattle.reset_law.specs.Example.{one, two}
use Rattle.host_pairs.specs.Control.{orders_of}
use Rattle.host_keeps_pairing.specs.Spoken.{asking, listened, reset_of_two, spoken}

pub row_said : spoken one two 16 33 (Out one two 0 (Other asking) ∷ reset_of_two) ≡ Close ∷ Ask 5 ∷ []
unfolding octets_of orders_of read_of command_of
row_said = refl

pub row_unheard : listened one two 16 33 (Out one two 0 (Other asking) ∷ reset_of_two) ≡ []
unfolding octets_of orders_of read_of command_of
row_unheard = refl

pub row_heard : listened one two 16 33 (In one two 0 (Other asking) ∷ Out one two 0 (Other asking) ∷ reset_of_two) ≡ Close ∷ Ask 5 ∷ []
unfolding octets_of orders_of read_of command_of
row_heard = refl

pub row_turned : spoken one two 33 16 (Out one two 0 (Other asking) ∷ reset_of_two) ≡ []
unfolding octets_of orders_of read_of command_of
row_turned = refl

pub row_peer : spoken two one 16 33 (Out one two 0 (Other asking) ∷ reset_of_two) ≡ []
unfolding octets_of orders_of read_of command_of
row_peer = refl

pub row_alone : spoken one two 16 33 (Out one two 0 (Other asking) ∷ []) ≡ []
unfolding octets_of orders_of read_of command_of
row_alone = refl
