use Rattle.uss_law_http.proofs.Hosts.{host_of_is_a_value, each, named, one}
use Rattle.uss_law_http.proofs.read_again.hosts_of_bases_are_named.Goals as goal

pub returns-clause-values : goal.returns-clause-values
returns-clause-values c = host_of_is_a_value

pub returns-clause-hosts : goal.returns-clause-hosts
returns-clause-hosts c = λ base url request is within. record { value = host_of_is_a_value base url is; within = within }

pub returns-clause-each : goal.returns-clause-each
returns-clause-each c = each

pub returns-clause-named : goal.returns-clause-named
returns-clause-named c = named

pub returns-clause-one : goal.returns-clause-one
returns-clause-one c = one
