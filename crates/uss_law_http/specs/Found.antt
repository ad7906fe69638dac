-- Which answers the bytes decide. This project's own.
use Rattle.std.specs.Prelude.{Result, Ok, Err}
use Rattle.uss_http_request.specs.declared.request.Request.{Request}
use Rattle.uss_http_response.specs.declared.response.Response.{Response}
use Rattle.uss_http_request.specs.declared.refusal.ReadRefusal.{ReadRefusal}
use Rattle.uss_http_request.specs.declared.refusal.ReadRefusal.TheVariants as refusal

-- the bytes alone decide it: it is neither a fault nor out of memory
abbrev pub IsByTheBytes : Result Request ReadRefusal → Type 0
IsByTheBytes (Ok request) = Unit {0}
IsByTheBytes (Err refusal.HeadTooLarge) = Unit {0}
IsByTheBytes (Err refusal.BadHead) = Unit {0}
IsByTheBytes (Err refusal.BodyTooLarge) = Unit {0}
IsByTheBytes (Err refusal.BadChunk) = Unit {0}
IsByTheBytes (Err refusal.Truncated) = Unit {0}
IsByTheBytes (Err refusal.NoClient) = Unit {0}
IsByTheBytes (Err refusal.Fault) = ⊥
IsByTheBytes (Err refusal.Memory) = ⊥

-- the same of the answer of reading a response
abbrev pub IsResponseByTheBytes : Result Response ReadRefusal → Type 0
IsResponseByTheBytes (Ok response) = Unit {0}
IsResponseByTheBytes (Err refusal.HeadTooLarge) = Unit {0}
IsResponseByTheBytes (Err refusal.BadHead) = Unit {0}
IsResponseByTheBytes (Err refusal.BodyTooLarge) = Unit {0}
IsResponseByTheBytes (Err refusal.BadChunk) = Unit {0}
IsResponseByTheBytes (Err refusal.Truncated) = Unit {0}
IsResponseByTheBytes (Err refusal.NoClient) = Unit {0}
IsResponseByTheBytes (Err refusal.Fault) = ⊥
IsResponseByTheBytes (Err refusal.Memory) = ⊥
