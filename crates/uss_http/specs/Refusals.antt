-- Refusals of messages, with their numbers. This project's own.
use Rattle.std.specs.Prelude.{ℕ, List, Option, Some, None, Result, Ok, Err}
use Rattle.uss_http_request.specs.declared.refusal.ReadRefusal.{ReadRefusal}
use Rattle.uss_http_request.specs.declared.refusal.ReadRefusal.TheVariants as read
use Rattle.uss_http_request.specs.declared.request.Request.{Request}
use Rattle.uss_http_request.specs.Requests.{IsRequest, IsRefused}
use Rattle.uss_http.specs.declared.refusal.HttpRefusal.{HttpRefusal}
use Rattle.uss_http.specs.declared.refusal.HttpRefusal.TheVariants as refusal

-- a refusal of reading from a source, as one of messages
abbrev pub refusal_of : ReadRefusal → HttpRefusal
refusal_of read.HeadTooLarge = refusal.HeadTooLarge
refusal_of read.BadHead = refusal.BadHead
refusal_of read.BodyTooLarge = refusal.BodyTooLarge
refusal_of read.BadChunk = refusal.BadChunk
refusal_of read.Truncated = refusal.Truncated
refusal_of read.NoClient = refusal.NoClient
refusal_of read.Fault = refusal.ReadFault
refusal_of read.Memory = refusal.Memory

-- the same of reading over a dial
abbrev pub refusal_over : ReadRefusal → HttpRefusal
refusal_over read.HeadTooLarge = refusal.HeadTooLarge
refusal_over read.BadHead = refusal.BadHead
refusal_over read.BodyTooLarge = refusal.BodyTooLarge
refusal_over read.BadChunk = refusal.BadChunk
refusal_over read.Truncated = refusal.Truncated
refusal_over read.NoClient = refusal.NoClient
refusal_over read.Fault = refusal.DialFault
refusal_over read.Memory = refusal.Memory

-- the number of a refusal, none for a fault and for out of memory
abbrev pub number_of : HttpRefusal → Option ℕ
number_of refusal.HeadTooLarge = Some 431
number_of refusal.BadHead = Some 432
number_of refusal.BodyTooLarge = Some 433
number_of refusal.BadChunk = Some 434
number_of refusal.Truncated = Some 435
number_of refusal.NoRoute = Some 436
number_of (refusal.WrongMethod allowed) = Some 437
number_of refusal.NoClient = Some 438
number_of refusal.ReadFault = None
number_of refusal.DialFault = None
number_of refusal.Memory = None

-- the answer of reading, for bytes that are all that a source had left: the request at their start, or why there is
-- none; of a fault and of out of memory the bytes say nothing
abbrev pub IsReadFrom : List ℕ → Result Request HttpRefusal → Type 0
IsReadFrom bytes (Ok request) = IsRequest bytes request
IsReadFrom bytes (Err refusal.HeadTooLarge) = IsRefused bytes read.HeadTooLarge
IsReadFrom bytes (Err refusal.BadHead) = IsRefused bytes read.BadHead
IsReadFrom bytes (Err refusal.BodyTooLarge) = IsRefused bytes read.BodyTooLarge
IsReadFrom bytes (Err refusal.BadChunk) = IsRefused bytes read.BadChunk
IsReadFrom bytes (Err refusal.Truncated) = IsRefused bytes read.Truncated
IsReadFrom bytes (Err refusal.NoClient) = IsRefused bytes read.NoClient
IsReadFrom bytes (Err refusal.ReadFault) = Unit {0}
IsReadFrom bytes (Err refusal.Memory) = Unit {0}
IsReadFrom bytes (Err refusal.NoRoute) = ⊥
IsReadFrom bytes (Err (refusal.WrongMethod allowed)) = ⊥
IsReadFrom bytes (Err refusal.DialFault) = ⊥

-- the fact, unless a fault or out of memory came
abbrev pub UnlessFault : HttpRefusal → Type 0 → Type 0
UnlessFault refusal.ReadFault P = Unit {0}
UnlessFault refusal.DialFault P = Unit {0}
UnlessFault refusal.Memory P = Unit {0}
UnlessFault refusal.HeadTooLarge P = P
UnlessFault refusal.BadHead P = P
UnlessFault refusal.BodyTooLarge P = P
UnlessFault refusal.BadChunk P = P
UnlessFault refusal.Truncated P = P
UnlessFault refusal.NoClient P = P
UnlessFault refusal.NoRoute P = P
UnlessFault (refusal.WrongMethod allowed) P = P

-- the same of an answer
abbrev pub ButForFaults : {A : Type 0} → Result A HttpRefusal → Type 0 → Type 0
ButForFaults (Ok x) P = P
ButForFaults (Err e) P = UnlessFault e P
