-- The error bodies of both servers: for refusals of HTTP and of messages. The statuses are this project's own.
use Rattle.std.specs.Prelude.{◌≡◌, ℕ, List, [], codes, Option, Some, None, unwrap_or}
use Rattle.uss_http.specs.declared.refusal.HttpRefusal.{HttpRefusal}
use Rattle.uss_http.specs.declared.refusal.HttpRefusal.TheVariants as http
use Rattle.uss_http.specs.Refusals.{number_of}
use Rattle.uss_http_response.specs.declared.response.Response.{Response}
use Rattle.uss_wire_base.specs.declared.refusal.WireRefusal.{WireRefusal}
use Rattle.uss_wire_base.specs.declared.refusal.WireRefusal.TheVariants as wire
use Rattle.uss_wire_base.specs.Refusals as messages
use Rattle.uss_wire_base.specs.Writing.{IsTextOf}
use Rattle.uss_wire_dss.specs.declared.errors.ErrorBody.{ErrorBody}
use Rattle.uss_wire_dss.specs.ReplyWriting.{error_json}

-- the error with this text and number
abbrev pub error_with : List ℕ → ℕ → ErrorBody
error_with name number = record { message = name; refusal = number; missing = [] }

-- a response is an error with this status, text and number
pub record IsError (status : ℕ) (name : List ℕ) (number : ℕ) (response : Response) : Type 0 where
  pub status_is : response.status ≡ status
  pub body : IsTextOf (error_json (error_with name number)) response.body

-- the status of a request that is refused, and none where nothing is answered: the client was cut off, or a stream failed
abbrev pub http_status : HttpRefusal → Option ℕ
http_status http.HeadTooLarge = Some 431
http_status http.BadHead = Some 400
http_status http.BodyTooLarge = Some 413
http_status http.BadChunk = Some 400
http_status http.Truncated = None
http_status http.NoRoute = Some 404
http_status (http.WrongMethod allowed) = Some 405
http_status http.NoClient = Some 400
http_status http.ReadFault = None
http_status http.DialFault = None
http_status http.Memory = Some 507

abbrev pub http_name : HttpRefusal → List ℕ
http_name http.HeadTooLarge = codes "HeadTooLarge"
http_name http.BadHead = codes "BadHead"
http_name http.BodyTooLarge = codes "BodyTooLarge"
http_name http.BadChunk = codes "BadChunk"
http_name http.Truncated = codes "Truncated"
http_name http.NoRoute = codes "NoRoute"
http_name (http.WrongMethod allowed) = codes "WrongMethod"
http_name http.NoClient = codes "NoClient"
http_name http.ReadFault = codes "ReadFault"
http_name http.DialFault = codes "DialFault"
http_name http.Memory = codes "Memory"

-- its number, and 0 where it has none
abbrev pub http_number : HttpRefusal → ℕ
http_number r = unwrap_or (number_of r) 0

-- the response to a request that is refused so
abbrev pub IsHttpAnswerAt : Option ℕ → HttpRefusal → Option Response → Type 0
IsHttpAnswerAt None r response = response ≡ None
IsHttpAnswerAt (Some status) r None = ⊥
IsHttpAnswerAt (Some status) r (Some response) = IsError status (http_name r) (http_number r) response

abbrev pub IsHttpAnswer : HttpRefusal → Option Response → Type 0
IsHttpAnswer r response = IsHttpAnswerAt (http_status r) r response

-- the status of a message that is refused
abbrev pub message_status : WireRefusal → ℕ
message_status wire.Memory = 507
message_status _ = 400

abbrev pub message_name : WireRefusal → List ℕ
message_name wire.BadJson = codes "BadJson"
message_name (wire.Missing m) = codes "Missing"
message_name (wire.WrongKind m) = codes "WrongKind"
message_name (wire.NotThisProfile m) = codes "NotThisProfile"
message_name (wire.BadTime m) = codes "BadTime"
message_name (wire.TooMany m) = codes "TooMany"
message_name wire.TooFewVertices = codes "TooFewVertices"
message_name wire.TooManyVertices = codes "TooManyVertices"
message_name (wire.OutOfRange index) = codes "OutOfRange"
message_name wire.LowAboveHigh = codes "LowAboveHigh"
message_name wire.StartAfterEnd = codes "StartAfterEnd"
message_name wire.AltitudeRange = codes "AltitudeRange"
message_name wire.TimeRange = codes "TimeRange"
message_name wire.TooManyVolumes = codes "TooManyVolumes"
message_name wire.TooManyVerticesTogether = codes "TooManyVerticesTogether"
message_name wire.OffNominalNotAllowed = codes "OffNominalNotAllowed"
message_name wire.NoVolume = codes "NoVolume"
message_name wire.PriorityRange = codes "PriorityRange"
message_name wire.BadName = codes "BadName"
message_name wire.BadBase = codes "BadBase"
message_name wire.BadOvn = codes "BadOvn"
message_name wire.Memory = codes "Memory"

abbrev pub message_number : WireRefusal → ℕ
message_number r = unwrap_or (messages.number_of r) 0

-- the number under which a notification is refused that isn't of its manager
abbrev pub not_manager : ℕ
not_manager = 439
