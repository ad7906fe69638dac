use Rattle.uss_intent.specs.declared.calls.DssAsk.TheVariants.{Query, Put, TicketPut}
use Rattle.uss_wire_dss.specs.Calls.{query_at, put_reference_at, put_subscription_at}
use Rattle.uss_wire_dss.specs.CallWriting.{query_json, put_reference_json, put_subscription_json}
use Rattle.uss_wire_dss.proofs.CallsAgain.{query_again, put_reference_again, put_subscription_again}
use Rattle.uss_law_wire.proofs.Given.{given_again, IsGivenCall, query_given, put_given, ticket_put_given}
use Rattle.uss_law_wire.proofs.laws.calls_that_were_read_are_read_again.Goals as goal

pub returns-clause-query : goal.returns-clause-query
returns-clause-query c = λ area a b was is. given_again IsGivenCall query_at query_given (Query area) (query_json area) (query_again area) a b was is

pub returns-clause-put_reference : goal.returns-clause-put_reference
returns-clause-put_reference c = λ f o e k s u t a b was is.
    given_again IsGivenCall (put_reference_at f o) (put_given f o) (Put f o e k s u t) (put_reference_json e k s u t) (put_reference_again f o e k s u t) a b was is

pub returns-clause-put_subscription : goal.returns-clause-put_subscription
returns-clause-put_subscription c = λ t area u a b was is.
    given_again IsGivenCall (put_subscription_at t) (ticket_put_given t) (TicketPut t area u) (put_subscription_json area u) (λ h. put_subscription_again t area u h.0 h.1) a b was is
