use Rattle.subnet.proofs.Moves.Deliveries.{deliver_sound}
use Rattle.subnet.proofs.Moves.Offers.{offer_sound}
use Rattle.subnet.proofs.Moves.Takes.{take_sound}
use Rattle.subnet.proofs.law.sound_messages.Goals as goal

pub returns-clause-offer_out : goal.returns-clause-offer_out
returns-clause-offer_out c = offer_sound

pub returns-clause-take_in : goal.returns-clause-take_in
returns-clause-take_in c = take_sound

pub returns-clause-deliver : goal.returns-clause-deliver
returns-clause-deliver c = deliver_sound
