-- What reading a response from a stream answers, step by step. This project's own.
use Rattle.std.specs.Prelude.{◌≡◌, ℕ, ◌<◌, ◌≤◌, List, [], ◌++◌, length, None, Result, Ok, Err}
use Rattle.uss_http_request.specs.declared.refusal.ReadRefusal.{ReadRefusal}
use Rattle.uss_http_request.specs.declared.refusal.ReadRefusal.TheVariants as refusal
use Rattle.uss_http_request.specs.Fields.{body_limit, framing_of}
use Rattle.uss_http_request.specs.Streams.{Passes}
use Rattle.uss_http_request.specs.Bodies.{TakesBody, MissesBody}
use Rattle.uss_http_response.specs.declared.heads.BodyEnd.{BodyEnd}
use Rattle.uss_http_response.specs.declared.heads.BodyEnd.TheVariants.{Framed, AtTheEnd}
use Rattle.uss_http_response.specs.declared.heads.StatusHead.{StatusHead}
use Rattle.uss_http_response.specs.declared.response.Response.{Response}
use Rattle.uss_http_response.specs.Heads.{IsHeadWith, HasHead, IsRefusedHead}
use Rattle.uss_http_response.specs.Responses.{IsAnswerOf}

-- the head with this status and these fields, or that they are refused
abbrev pub IsHeadAt : ℕ → List (List ℕ × List ℕ) → Result StatusHead ReadRefusal → Type 0
IsHeadAt status fields (Ok head) = IsHeadWith status fields head
IsHeadAt status fields (Err e) = (e ≡ refusal.BadHead) × (framing_of fields ≡ None)

-- a head was taken from the stream
pub record TakesHead {S : Type 0} (gave : S → S → List ℕ → Type 0) (before : S) (kept : List ℕ) (after : S) (left : List ℕ) (head : StatusHead) : Type 0 where
  pub all : List ℕ
  pub passes : Passes gave before kept after all
  pub has : HasHead all head left

-- what came over the stream is refused for this; a head that is cut short, at the end of the stream
pub record ShowsNoHead {S : Type 0} (gave : S → S → List ℕ → Type 0) (ended : S → Type 0) (before : S) (kept : List ℕ) (after : S) (e : ReadRefusal) : Type 0 where
  pub all : List ℕ
  pub passes : Passes gave before kept after all
  pub refused : IsRefusedHead all e
  pub end : e ≡ refusal.Truncated → ended after

-- the same, unless a fault or out of memory came
abbrev pub MissesHead : {S : Type 0} (gave : S → S → List ℕ → Type 0) (ended : S → Type 0) (before : S) (kept : List ℕ) (after : S) → ReadRefusal → Type 0
MissesHead gave ended before kept after refusal.Fault = Unit {0}
MissesHead gave ended before kept after refusal.Memory = Unit {0}
MissesHead gave ended before kept after refusal.HeadTooLarge = ShowsNoHead gave ended before kept after refusal.HeadTooLarge
MissesHead gave ended before kept after refusal.BadHead = ShowsNoHead gave ended before kept after refusal.BadHead
MissesHead gave ended before kept after refusal.Truncated = ShowsNoHead gave ended before kept after refusal.Truncated
MissesHead gave ended before kept after refusal.NoClient = ⊥
MissesHead gave ended before kept after refusal.BodyTooLarge = ⊥
MissesHead gave ended before kept after refusal.BadChunk = ⊥

-- all the bytes up to the end of the stream were taken
pub record TakesRest {S : Type 0} (gave : S → S → List ℕ → Type 0) (ended : S → Type 0) (before : S) (kept : List ℕ) (after : S) (body : List ℕ) : Type 0 where
  pub passes : Passes gave before kept after body
  pub within : length body ≤ body_limit
  pub end : ended after

-- more bytes came than a body may have
pub record ShowsTooMuch {S : Type 0} (gave : S → S → List ℕ → Type 0) (before : S) (kept : List ℕ) (after : S) : Type 0 where
  pub all : List ℕ
  pub passes : Passes gave before kept after all
  pub over : body_limit < length all

-- why not all the bytes up to the end were taken
abbrev pub MissesRest : {S : Type 0} (gave : S → S → List ℕ → Type 0) (before : S) (kept : List ℕ) (after : S) → ReadRefusal → Type 0
MissesRest gave before kept after refusal.BodyTooLarge = ShowsTooMuch gave before kept after
MissesRest gave before kept after refusal.Fault = Unit {0}
MissesRest gave before kept after refusal.Memory = Unit {0}
MissesRest gave before kept after refusal.HeadTooLarge = ⊥
MissesRest gave before kept after refusal.BadHead = ⊥
MissesRest gave before kept after refusal.BadChunk = ⊥
MissesRest gave before kept after refusal.Truncated = ⊥
MissesRest gave before kept after refusal.NoClient = ⊥

-- a body that ends so was taken
abbrev pub TakesBodyAt : {S : Type 0} (gave : S → S → List ℕ → Type 0) (ended : S → Type 0) (before : S) (kept : List ℕ) (after : S) → BodyEnd → (body : List ℕ) → Type 0
TakesBodyAt gave ended before kept after (Framed framing) body = TakesBody gave before kept after framing body
TakesBodyAt gave ended before kept after AtTheEnd body = TakesRest gave ended before kept after body

-- why it was not
abbrev pub MissesBodyAt : {S : Type 0} (gave : S → S → List ℕ → Type 0) (ended : S → Type 0) (before : S) (kept : List ℕ) (after : S) → BodyEnd → ReadRefusal → Type 0
MissesBodyAt gave ended before kept after (Framed framing) e = MissesBody gave ended before kept after framing e
MissesBodyAt gave ended before kept after AtTheEnd e = MissesRest gave before kept after e

-- What came over a stream that nothing was read of before. Whatever would have come after it, and nothing where the stream
-- has ended, this is the answer for all the bytes up to the end.
pub record ShowsAnswer {S : Type 0} (gave : S → S → List ℕ → Type 0) (ended : S → Type 0) (before after : S) (answer : Result Response ReadRefusal) : Type 0 where
  pub all : List ℕ
  pub given : gave before after all
  pub is_answer : (more : List ℕ) → (ended after → more ≡ []) → IsAnswerOf (all ++ more) answer
