use Rattle.net_sim.proofs.Books.Unformed as unformed
use Rattle.net_sim.proofs.worked_formed.unformed_requests.Goals as goal

pub returns-clause-own_link : goal.returns-clause-own_link
returns-clause-own_link c = unformed.own_link

pub returns-clause-partner_link : goal.returns-clause-partner_link
returns-clause-partner_link c = unformed.partner_link

pub returns-clause-own_to : goal.returns-clause-own_to
returns-clause-own_to c = unformed.own_to

pub returns-clause-own_from : goal.returns-clause-own_from
returns-clause-own_from c = unformed.own_from

pub returns-clause-partner_to : goal.returns-clause-partner_to
returns-clause-partner_to c = unformed.partner_to

pub returns-clause-partner_from : goal.returns-clause-partner_from
returns-clause-partner_from c = unformed.partner_from

pub returns-clause-own_holds : goal.returns-clause-own_holds
returns-clause-own_holds c = unformed.own_holds

pub returns-clause-partner_holds : goal.returns-clause-partner_holds
returns-clause-partner_holds c = unformed.partner_holds

pub returns-clause-own_socket : goal.returns-clause-own_socket
returns-clause-own_socket c = unformed.own_socket

pub returns-clause-foreign_socket : goal.returns-clause-foreign_socket
returns-clause-foreign_socket c = unformed.foreign_socket
