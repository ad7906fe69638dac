-- The refusals of the discovery service as statuses with error bodies, and what a client makes of such a pair. The statuses are this
-- project's own.
use Rattle.std.specs.Prelude.{◌≡◌, ℕ, ◌==◌, List, [], ◌∷◌, find, codes, Option, Some, None, Result, Ok, Err, if◌then◌else◌}
use Rattle.uss_intent.specs.Refusals.{refusal_number}
use Rattle.uss_intent.specs.declared.calls.DssRefusal.{DssRefusal}
use Rattle.uss_intent.specs.declared.calls.DssRefusal.TheVariants.{BadCall, NotYours, Exists, Retired, Absent, StaleOvn, NoTicket, NotCovered, MissingKey, TicketInUse, Full}
use Rattle.uss_intent.specs.declared.records.Reference.{Reference}
use Rattle.uss_http_response.specs.declared.response.Response.{Response}
use Rattle.uss_wire_base.specs.declared.refusal.WireRefusal.{WireRefusal}
use Rattle.uss_wire_base.specs.Reading.{message_of}
use Rattle.uss_wire_base.specs.Writing.{IsTextOf}
use Rattle.uss_wire_dss.specs.declared.errors.ErrorBody.{ErrorBody}
use Rattle.uss_wire_dss.specs.ChangesAndErrors.{error_at}
use Rattle.uss_wire_dss.specs.ReplyWriting.{error_json}

abbrev pub status_of : DssRefusal → ℕ
status_of BadCall = 400
status_of NotYours = 403
status_of Exists = 409
status_of Retired = 404
status_of Absent = 404
status_of StaleOvn = 409
status_of NoTicket = 400
status_of NotCovered = 400
status_of (MissingKey references) = 409
status_of TicketInUse = 400
status_of (Full limit) = 503

-- the name, which is the text of the error
abbrev pub name_of : DssRefusal → List ℕ
name_of BadCall = codes "BadCall"
name_of NotYours = codes "NotYours"
name_of Exists = codes "Exists"
name_of Retired = codes "Retired"
name_of Absent = codes "Absent"
name_of StaleOvn = codes "StaleOvn"
name_of NoTicket = codes "NoTicket"
name_of NotCovered = codes "NotCovered"
name_of (MissingKey references) = codes "MissingKey"
name_of TicketInUse = codes "TicketInUse"
name_of (Full limit) = codes "Full"

-- the references whose OVNs the key lacks
abbrev pub missing_of : DssRefusal → List Reference
missing_of (MissingKey references) = references
missing_of _ = []

-- the body of the refusal's response
abbrev pub error_of : DssRefusal → ErrorBody
error_of r = record { message = name_of r; refusal = refusal_number r; missing = missing_of r }

-- a response is that of a refusal
pub record IsResponseOf (r : DssRefusal) (response : Response) : Type 0 where
  pub status : response.status ≡ status_of r
  pub body : IsTextOf (error_json (error_of r)) response.body

-- the refusals: 209 with these references, and 211 without its limit, which no error body has
abbrev pub refusals_with : List Reference → List DssRefusal
refusals_with missing =
    BadCall ∷ NotYours ∷ Exists ∷ Retired ∷ Absent ∷ StaleOvn ∷ NoTicket ∷ NotCovered ∷ MissingKey missing ∷ TicketInUse ∷ Full 0 ∷ []

abbrev pub refusal_numbered : ℕ → List Reference → Option DssRefusal
refusal_numbered number missing = find (λ r. refusal_number r == number) (refusals_with missing)

-- the refusal, if it has this status
abbrev pub with_status : ℕ → Option DssRefusal → Option DssRefusal
with_status status None = None
with_status status (Some r) = if status_of r == status then Some r else None

-- the refusal that a status and an error body stand for: the one of that number, if it has that status
abbrev pub refusal_from : ℕ → ErrorBody → Option DssRefusal
refusal_from status e = with_status status (refusal_numbered e.refusal e.missing)

-- none where the body is no error
abbrev pub refusal_read : ℕ → Result ErrorBody WireRefusal → Option DssRefusal
refusal_read status (Ok e) = refusal_from status e
refusal_read status (Err refused) = None

-- the refusal that a response of the discovery service to this client stands for
abbrev pub refusal_in : List ℕ → ℕ → List ℕ → Option DssRefusal
refusal_in client status body = refusal_read status (message_of (error_at client) body)

-- the refusal as its client knows it: the limit of 211 isn't sent
abbrev pub as_sent : DssRefusal → DssRefusal
as_sent (Full limit) = Full 0
as_sent r = r
