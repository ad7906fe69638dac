-- The calls of the discovery service as requests. After the OpenAPI annex of ASTM F3548-21.
use Rattle.std.specs.Prelude.{◌≡◌, ℕ, List, [], ◌∷◌, ◌++◌, Some, None, decimal}
use Rattle.std.specs.List.{flat_map}
use Rattle.uss_intent.specs.Identifiers.{identifier_text}
use Rattle.uss_intent.specs.declared.calls.DssAsk.{DssAsk}
use Rattle.uss_intent.specs.declared.calls.DssAsk.TheVariants.{Query, Get, Put, Remove, TicketPut, TicketGet, TicketRemove}
use Rattle.uss_http_request.specs.declared.request.Request.{Request}
use Rattle.uss_route.specs.declared.rows.RouteRow.{RouteRow}
use Rattle.uss_route.specs.declared.rows.RouteRow.TheVariants as row
use Rattle.uss_route.specs.Rows.{method_of, text_of}
use Rattle.uss_route.specs.Ovns.{segment_of}
use Rattle.uss_wire_base.specs.Writing.{IsTextOf}
use Rattle.uss_wire_dss.specs.CallWriting.{ask_json}

abbrev pub row_of : DssAsk → RouteRow
row_of (Query area) = row.DssQuery
row_of (Get flight) = row.DssGet
row_of (Put flight None extents key state base ticket) = row.DssCreate
row_of (Put flight (Some ovn) extents key state base ticket) = row.DssChange
row_of (Remove flight ovn) = row.DssRemove
row_of (TicketPut ticket area base) = row.TicketPut
row_of (TicketGet ticket) = row.TicketGet
row_of (TicketRemove ticket version) = row.TicketRemove

-- what stands in the path after the text of the row
abbrev pub parameters_of : DssAsk → List (List ℕ)
parameters_of (Query area) = []
parameters_of (Get flight) = identifier_text flight ∷ []
parameters_of (Put flight None extents key state base ticket) = identifier_text flight ∷ []
parameters_of (Put flight (Some ovn) extents key state base ticket) = identifier_text flight ∷ segment_of ovn ∷ []
parameters_of (Remove flight ovn) = identifier_text flight ∷ segment_of ovn ∷ []
parameters_of (TicketPut ticket area base) = identifier_text ticket ∷ []
parameters_of (TicketGet ticket) = identifier_text ticket ∷ []
parameters_of (TicketRemove ticket version) = identifier_text ticket ∷ decimal version ∷ []

-- the text of a row, and each parameter after a slash
abbrev pub after_slash : List ℕ → List ℕ
after_slash parameter = 47 ∷ parameter

abbrev pub path_of : RouteRow → List (List ℕ) → List ℕ
path_of row parameters = text_of row ++ flat_map after_slash parameters

-- the message of a call, and none where it has none
abbrev pub IsBodyOf : DssAsk → List ℕ → Type 0
IsBodyOf (Query area) body = IsTextOf (ask_json (Query area)) body
IsBodyOf (Get flight) body = body ≡ []
IsBodyOf (Put flight ovn extents key state base ticket) body = IsTextOf (ask_json (Put flight ovn extents key state base ticket)) body
IsBodyOf (Remove flight ovn) body = body ≡ []
IsBodyOf (TicketPut ticket area base) body = IsTextOf (ask_json (TicketPut ticket area base)) body
IsBodyOf (TicketGet ticket) body = body ≡ []
IsBodyOf (TicketRemove ticket version) body = body ≡ []

-- the request is this client's call, to a service whose paths begin so
pub record IsRequestOf (prefix client : List ℕ) (ask : DssAsk) (request : Request) : Type 0 where
  pub method : request.method ≡ method_of (row_of ask)
  pub path : request.path ≡ prefix ++ path_of (row_of ask) (parameters_of ask)
  pub client_is : request.client ≡ client
  pub body : IsBodyOf ask request.body
