use Rattle.uss_law_http.proofs.WorkedHosts.{port, own_port, capitals, user, address, brackets}
use Rattle.uss_law_http.proofs.read_again.worked_hosts.Goals as goal

pub returns-clause-port : goal.returns-clause-port
returns-clause-port c = port

pub returns-clause-own_port : goal.returns-clause-own_port
returns-clause-own_port c = own_port

pub returns-clause-capitals : goal.returns-clause-capitals
returns-clause-capitals c = capitals

pub returns-clause-user : goal.returns-clause-user
returns-clause-user c = user

pub returns-clause-address : goal.returns-clause-address
returns-clause-address c = address

pub returns-clause-brackets : goal.returns-clause-brackets
returns-clause-brackets c = brackets
