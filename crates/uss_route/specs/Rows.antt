-- The table of methods and paths: ASTM F3548-21, annex A4, for the discovery service and for the details of intents; this
-- project's own for the operators. A path is a text that is written out and after it a number of parameters, each after a
-- slash: an identifier, an OVN or a version.
use Rattle.std.specs.Prelude.{ℕ, Bool, true, false, List, [], ◌∷◌, codes}
use Rattle.uss_route.specs.declared.rows.RouteRow.{RouteRow}
use Rattle.uss_route.specs.declared.rows.RouteRow.TheVariants as row

abbrev pub method_of : RouteRow → List ℕ
method_of row.DssQuery = codes "POST"
method_of row.DssGet = codes "GET"
method_of row.DssCreate = codes "PUT"
method_of row.DssChange = codes "PUT"
method_of row.DssRemove = codes "DELETE"
method_of row.TicketPut = codes "PUT"
method_of row.TicketGet = codes "GET"
method_of row.TicketRemove = codes "DELETE"
method_of row.TicketQuery = codes "POST"
method_of row.TicketChange = codes "PUT"
method_of row.Details = codes "GET"
method_of row.Notified = codes "POST"
method_of row.Asks = codes "POST"
method_of row.Cancels = codes "POST"
method_of row.Positions = codes "POST"
method_of row.Sweeps = codes "POST"

-- the path up to its parameters
abbrev pub text_of : RouteRow → List ℕ
text_of row.DssQuery = codes "/dss/v1/operational_intent_references/query"
text_of row.DssGet = codes "/dss/v1/operational_intent_references"
text_of row.DssCreate = codes "/dss/v1/operational_intent_references"
text_of row.DssChange = codes "/dss/v1/operational_intent_references"
text_of row.DssRemove = codes "/dss/v1/operational_intent_references"
text_of row.TicketPut = codes "/dss/v1/subscriptions"
text_of row.TicketGet = codes "/dss/v1/subscriptions"
text_of row.TicketRemove = codes "/dss/v1/subscriptions"
text_of row.TicketQuery = codes "/dss/v1/subscriptions/query"
text_of row.TicketChange = codes "/dss/v1/subscriptions"
text_of row.Details = codes "/uss/v1/operational_intents"
text_of row.Notified = codes "/uss/v1/operational_intents"
text_of row.Asks = codes "/operator/v1/asks"
text_of row.Cancels = codes "/operator/v1/cancels"
text_of row.Positions = codes "/operator/v1/positions"
text_of row.Sweeps = codes "/operator/v1/sweeps"

-- how many parameters come after the text
abbrev pub count_of : RouteRow → ℕ
count_of row.DssQuery = 0
count_of row.DssGet = 1
count_of row.DssCreate = 1
count_of row.DssChange = 2
count_of row.DssRemove = 2
count_of row.TicketPut = 1
count_of row.TicketGet = 1
count_of row.TicketRemove = 2
count_of row.TicketQuery = 0
count_of row.TicketChange = 2
count_of row.Details = 1
count_of row.Notified = 0
count_of row.Asks = 0
count_of row.Cancels = 0
count_of row.Positions = 0
count_of row.Sweeps = 0

-- the events of a supplier, whose paths are served after `/a/` and a tag too
abbrev pub is_of_a_supplier : RouteRow → Bool
is_of_a_supplier row.DssQuery = false
is_of_a_supplier row.DssGet = false
is_of_a_supplier row.DssCreate = false
is_of_a_supplier row.DssChange = false
is_of_a_supplier row.DssRemove = false
is_of_a_supplier row.TicketPut = false
is_of_a_supplier row.TicketGet = false
is_of_a_supplier row.TicketRemove = false
is_of_a_supplier row.TicketQuery = false
is_of_a_supplier row.TicketChange = false
is_of_a_supplier row.Details = true
is_of_a_supplier row.Notified = true
is_of_a_supplier row.Asks = true
is_of_a_supplier row.Cancels = true
is_of_a_supplier row.Positions = true
is_of_a_supplier row.Sweeps = true

-- all rows, in the order of the table
abbrev pub all_rows : List RouteRow
all_rows =
    row.DssQuery
    ∷ row.DssGet
    ∷ row.DssCreate
    ∷ row.DssChange
    ∷ row.DssRemove
    ∷ row.TicketPut
    ∷ row.TicketGet
    ∷ row.TicketRemove
    ∷ row.TicketQuery
    ∷ row.TicketChange
    ∷ row.Details
    ∷ row.Notified
    ∷ row.Asks
    ∷ row.Cancels
    ∷ row.Positions
    ∷ row.Sweeps
    ∷ []
