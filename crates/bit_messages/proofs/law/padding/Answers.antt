use Rattle.bit_messages.specs.Body.{body}
use Rattle.bit_messages.proofs.BodyLemmas.{stripped_body, body_from, body_is, text_of-body}
use Rattle.bit_messages.proofs.law.padding.Goals as goal

pub returns-clause-given_back : goal.returns-clause-given_back
returns-clause-given_back c = λ text short. stripped_body text (body text) (body_is text short)

pub returns-clause-stripped : goal.returns-clause-stripped
returns-clause-stripped c = stripped_body

pub returns-clause-only_bodies : goal.returns-clause-only_bodies
returns-clause-only_bodies c = body_from

pub returns-clause-unbounded : goal.returns-clause-unbounded
returns-clause-unbounded c = text_of-body
