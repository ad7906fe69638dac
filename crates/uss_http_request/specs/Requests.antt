-- Requests as bytes: a head, and the body that its fields announce. RFC 9112, in the profile of this project.
use Rattle.std.specs.Prelude.{◌≡◌, ℕ, ◌⊎◌, List, [], ◌++◌, Option, Some, Result, Ok, Err}
use Rattle.uss_http_request.specs.declared.heads.Head.{Head}
use Rattle.uss_http_request.specs.declared.request.Request.{Request}
use Rattle.uss_http_request.specs.declared.refusal.ReadRefusal.{ReadRefusal}
use Rattle.uss_http_request.specs.declared.refusal.ReadRefusal.TheVariants as refusal
use Rattle.uss_http_request.specs.HeadAnswers.{HasHead, IsRefusedHead}
use Rattle.uss_http_request.specs.Bodies.{IsBody, IsRefusedBody}
use Rattle.uss_http_request.specs.Prompt.{AreFew}

-- the bytes begin with this request
pub record IsRequest (bytes : List ℕ) (request : Request) : Type 0 where
  pub head : Head
  pub rest : List ℕ
  pub has_head : HasHead bytes head rest
  pub method_is : request.method ≡ head.method
  pub path_is : request.path ≡ head.path
  pub client_is : request.client ≡ head.client
  pub has_body : IsBody head.framing rest request.body

-- the bytes begin with a head that is accepted, and what follows it is refused
pub record HasRefusedBody (bytes : List ℕ) (e : ReadRefusal) : Type 0 where
  pub head : Head
  pub rest : List ℕ
  pub has_head : HasHead bytes head rest
  pub refused : IsRefusedBody head.framing rest e

-- Why the bytes begin with no request. The head is judged first: that it is one, what its fields say of the body,
-- the name of the client; and then the body.
abbrev pub IsRefused : List ℕ → ReadRefusal → Type 0
IsRefused bytes e = IsRefusedHead bytes e ⊎ HasRefusedBody bytes e

-- the answer for bytes that are all that came: the request at their start, or why there is none. Of a fault and of
-- out of memory the bytes say nothing.
abbrev pub IsAnswerOf : List ℕ → Result Request ReadRefusal → Type 0
IsAnswerOf bytes (Ok request) = IsRequest bytes request
IsAnswerOf bytes (Err refusal.Fault) = Unit {0}
IsAnswerOf bytes (Err refusal.Memory) = Unit {0}
IsAnswerOf bytes (Err refusal.HeadTooLarge) = IsRefused bytes refusal.HeadTooLarge
IsAnswerOf bytes (Err refusal.BadHead) = IsRefused bytes refusal.BadHead
IsAnswerOf bytes (Err refusal.NoClient) = IsRefused bytes refusal.NoClient
IsAnswerOf bytes (Err refusal.BodyTooLarge) = IsRefused bytes refusal.BodyTooLarge
IsAnswerOf bytes (Err refusal.BadChunk) = IsRefused bytes refusal.BadChunk
IsAnswerOf bytes (Err refusal.Truncated) = IsRefused bytes refusal.Truncated

-- what came over a stream that nothing was read of before has this answer; a message cut short, at the stream's end
pub record ShowsAnswer {S : Type 0} (gave : S → S → List ℕ → Type 0) (ended : S → Type 0) (before after : S) (answer : Result Request ReadRefusal) : Type 0 where
  pub all : List ℕ
  pub given : gave before after all
  pub is_answer : IsAnswerOf all answer
  pub end : answer ≡ Err refusal.Truncated → ended after

-- the same, unless a fault or out of memory came
abbrev pub AnswersStream : {S : Type 0} (gave : S → S → List ℕ → Type 0) (ended : S → Type 0) (before after : S) → Result Request ReadRefusal → Type 0
AnswersStream gave ended before after (Ok request) = ShowsAnswer gave ended before after (Ok request)
AnswersStream gave ended before after (Err refusal.Fault) = Unit {0}
AnswersStream gave ended before after (Err refusal.Memory) = Unit {0}
AnswersStream gave ended before after (Err refusal.HeadTooLarge) = ShowsAnswer gave ended before after (Err refusal.HeadTooLarge)
AnswersStream gave ended before after (Err refusal.BadHead) = ShowsAnswer gave ended before after (Err refusal.BadHead)
AnswersStream gave ended before after (Err refusal.NoClient) = ShowsAnswer gave ended before after (Err refusal.NoClient)
AnswersStream gave ended before after (Err refusal.BodyTooLarge) = ShowsAnswer gave ended before after (Err refusal.BodyTooLarge)
AnswersStream gave ended before after (Err refusal.BadChunk) = ShowsAnswer gave ended before after (Err refusal.BadChunk)
AnswersStream gave ended before after (Err refusal.Truncated) = ShowsAnswer gave ended before after (Err refusal.Truncated)

-- Of the bytes that were left, those that were taken are some that are no whole message and may become one, or none at all, and
-- few after them. The others are left.
pub record ReadsPromptly (left : List ℕ) (after : Option (List ℕ)) : Type 0 where
  pub seen : List ℕ
  pub late : List ℕ
  pub rest : List ℕ
  pub parts : left ≡ (seen ++ late) ++ rest
  pub is_left : after ≡ Some rest
  pub was_open : (seen ≡ []) ⊎ IsRefused seen refusal.Truncated
  pub few : AreFew seen late
