use Rattle.host_services.proofs.Asking.{server_asked_all, server_named_all, told_asked, user_asked_all, user_named_all}
use Rattle.host_services.proofs.law.asked.Goals as goal

pub returns-clause-told : goal.returns-clause-told
returns-clause-told c = λ notices s d named. (told_asked notices s d named).0

pub returns-clause-told_named : goal.returns-clause-told_named
returns-clause-told_named c = λ notices s d named. (told_asked notices s d named).1

pub returns-clause-server : goal.returns-clause-server
returns-clause-server c = λ listen base s d. server_asked_all listen base s d

pub returns-clause-server_named : goal.returns-clause-server_named
returns-clause-server_named c = λ listen base s d named. server_named_all listen base s d named

pub returns-clause-user : goal.returns-clause-user
returns-clause-user c = λ peer listen own s d is word. user_asked_all peer listen own s d is word

pub returns-clause-user_named : goal.returns-clause-user_named
returns-clause-user_named c = λ peer listen own s d is word named. user_named_all peer listen own s d is word named
