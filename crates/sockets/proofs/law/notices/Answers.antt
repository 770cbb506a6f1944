use Rattle.sockets.proofs.NoticeLemmas.{message_about, answer_about, offer_about, contact_about}
use Rattle.sockets.proofs.law.notices.Goals as goal

pub returns-clause-message : goal.returns-clause-message
returns-clause-message c s m stamp = message_about s m stamp

pub returns-clause-answer : goal.returns-clause-answer
returns-clause-answer c s kind f stamp = answer_about s kind f stamp

pub returns-clause-offer : goal.returns-clause-offer
returns-clause-offer c s stamp p parcel e = offer_about s stamp p parcel e

pub returns-clause-contact : goal.returns-clause-contact
returns-clause-contact c s peer = contact_about s peer
