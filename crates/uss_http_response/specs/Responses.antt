-- Responses as bytes: a head, and the body whose end its status and its fields announce. RFC 9112, in the profile of this
-- project.
use Rattle.std.specs.Prelude.{◌≡◌, ℕ, ◌<◌, ◌≤◌, ◌⊎◌, List, length, Result, Ok, Err}
use Rattle.uss_http_request.specs.declared.refusal.ReadRefusal.{ReadRefusal}
use Rattle.uss_http_request.specs.declared.refusal.ReadRefusal.TheVariants as refusal
use Rattle.uss_http_request.specs.Fields.{body_limit}
use Rattle.uss_http_request.specs.Bodies.{IsBody, IsRefusedBody}
use Rattle.uss_http_response.specs.declared.heads.BodyEnd.{BodyEnd}
use Rattle.uss_http_response.specs.declared.heads.BodyEnd.TheVariants.{Framed, AtTheEnd}
use Rattle.uss_http_response.specs.declared.heads.StatusHead.{StatusHead}
use Rattle.uss_http_response.specs.declared.response.Response.{Response}
use Rattle.uss_http_response.specs.Heads.{HasHead, IsRefusedHead}

-- The body of these bytes, which are all that follows the head up to the end of the stream. A body that ends with the
-- stream is all of them.
abbrev pub IsBodyAt : BodyEnd → (bytes body : List ℕ) → Type 0
IsBodyAt (Framed framing) bytes body = IsBody framing bytes body
IsBodyAt AtTheEnd bytes body = (length bytes ≤ body_limit) × (body ≡ bytes)

-- why these bytes have no such body
abbrev pub IsRefusedBodyAt : BodyEnd → List ℕ → ReadRefusal → Type 0
IsRefusedBodyAt (Framed framing) bytes e = IsRefusedBody framing bytes e
IsRefusedBodyAt AtTheEnd bytes refusal.BodyTooLarge = body_limit < length bytes
IsRefusedBodyAt AtTheEnd bytes refusal.BadChunk = ⊥
IsRefusedBodyAt AtTheEnd bytes refusal.Truncated = ⊥
IsRefusedBodyAt AtTheEnd bytes refusal.HeadTooLarge = ⊥
IsRefusedBodyAt AtTheEnd bytes refusal.BadHead = ⊥
IsRefusedBodyAt AtTheEnd bytes refusal.NoClient = ⊥
IsRefusedBodyAt AtTheEnd bytes refusal.Fault = ⊥
IsRefusedBodyAt AtTheEnd bytes refusal.Memory = ⊥

-- the bytes begin with this response
pub record IsResponse (bytes : List ℕ) (response : Response) : Type 0 where
  pub head : StatusHead
  pub rest : List ℕ
  pub has_head : HasHead bytes head rest
  pub status_is : response.status ≡ head.status
  pub has_body : IsBodyAt head.body rest response.body

-- the bytes begin with a head that is accepted, and what follows it is refused
pub record HasRefusedBody (bytes : List ℕ) (e : ReadRefusal) : Type 0 where
  pub head : StatusHead
  pub rest : List ℕ
  pub has_head : HasHead bytes head rest
  pub refused : IsRefusedBodyAt head.body rest e

-- bytes after the head that leave the body open: those cut short, and within the limit any, where the body ends with the stream
abbrev pub IsOpenBodyAt : BodyEnd → List ℕ → Type 0
IsOpenBodyAt (Framed framing) bytes = IsRefusedBody framing bytes refusal.Truncated
IsOpenBodyAt AtTheEnd bytes = length bytes ≤ body_limit

-- the bytes begin with a head that is accepted, and what follows it leaves the body open
pub record HasOpenBody (bytes : List ℕ) : Type 0 where
  pub head : StatusHead
  pub rest : List ℕ
  pub has_head : HasHead bytes head rest
  pub open_body : IsOpenBodyAt head.body rest

-- bytes that leave the answer open, as long as the stream goes on
abbrev pub IsOpen : List ℕ → Type 0
IsOpen bytes = IsRefusedHead bytes refusal.Truncated ⊎ HasOpenBody bytes

-- why the bytes begin with no response; the head is judged first, and then the body
abbrev pub IsRefused : List ℕ → ReadRefusal → Type 0
IsRefused bytes e = IsRefusedHead bytes e ⊎ HasRefusedBody bytes e

-- the answer for bytes that are all that came up to the end of the stream: the response at their start, or why there is
-- none. Of a fault and of out of memory the bytes say nothing.
abbrev pub IsAnswerOf : List ℕ → Result Response ReadRefusal → Type 0
IsAnswerOf bytes (Ok response) = IsResponse bytes response
IsAnswerOf bytes (Err refusal.Fault) = Unit {0}
IsAnswerOf bytes (Err refusal.Memory) = Unit {0}
IsAnswerOf bytes (Err refusal.NoClient) = ⊥
IsAnswerOf bytes (Err refusal.HeadTooLarge) = IsRefused bytes refusal.HeadTooLarge
IsAnswerOf bytes (Err refusal.BadHead) = IsRefused bytes refusal.BadHead
IsAnswerOf bytes (Err refusal.BodyTooLarge) = IsRefused bytes refusal.BodyTooLarge
IsAnswerOf bytes (Err refusal.BadChunk) = IsRefused bytes refusal.BadChunk
IsAnswerOf bytes (Err refusal.Truncated) = IsRefused bytes refusal.Truncated
