-- The answers of reading messages are those of the bytes.
use Rattle.std.proofs.Common.{◌≡◌, ℕ, List, Ok, Err, refl, sym, ap, ◌∙◌}
use Rattle.std.specs.Prelude.{Result}
use Rattle.uss_http_request.specs.declared.refusal.ReadRefusal.{ReadRefusal}
use Rattle.uss_http_request.specs.declared.refusal.ReadRefusal.TheVariants as read
use Rattle.uss_http_request.specs.declared.request.Request.{Request}
use Rattle.uss_http_request.specs.Requests.{IsAnswerOf}
use Rattle.uss_http_response.specs.declared.response.Response.{Response}
use Rattle.uss_http_response.specs.Responses as response
use Rattle.uss_http.specs.declared.refusal.HttpRefusal.{HttpRefusal}
use Rattle.uss_http.specs.declared.refusal.HttpRefusal.TheVariants as refusal
use Rattle.uss_http.specs.Refusals.{IsReadFrom, refusal_of}
use Rattle.uss_http.specs.Responses.{IsReadOf}
use Rattle.uss_law_http.specs.Found.{IsByTheBytes, IsResponseByTheBytes}
use Rattle.uss_law_http.proofs.Same.{one_answer}
use Rattle.uss_law_http.proofs.Responses.{one_response}
use Rattle.uss_law_http.specs.Again.{IsDecided}

-- an answer of reading bytes, with the refusals of messages
abbrev raised : {T : Type 0} → Result T ReadRefusal → Result T HttpRefusal
raised (Ok message) = Ok message
raised (Err e) = Err (refusal_of e)

-- ---- requests

record Found (bytes : List ℕ) (a : Result Request HttpRefusal) : Type 0 where
  answer : Result Request ReadRefusal
  decided : IsByTheBytes answer
  is : IsAnswerOf bytes answer
  same : a ≡ raised answer

found : (bytes : List ℕ) (a : Result Request HttpRefusal) → IsDecided a → IsReadFrom bytes a → Found bytes a
found bytes (Ok request) d x = record { answer = Ok request; decided = tt; is = x; same = refl }
found bytes (Err refusal.HeadTooLarge) d x = record { answer = Err read.HeadTooLarge; decided = tt; is = x; same = refl }
found bytes (Err refusal.BadHead) d x = record { answer = Err read.BadHead; decided = tt; is = x; same = refl }
found bytes (Err refusal.BodyTooLarge) d x = record { answer = Err read.BodyTooLarge; decided = tt; is = x; same = refl }
found bytes (Err refusal.BadChunk) d x = record { answer = Err read.BadChunk; decided = tt; is = x; same = refl }
found bytes (Err refusal.Truncated) d x = record { answer = Err read.Truncated; decided = tt; is = x; same = refl }
found bytes (Err refusal.NoClient) d x = record { answer = Err read.NoClient; decided = tt; is = x; same = refl }
found bytes (Err refusal.NoRoute) d x = absurd x
found bytes (Err (refusal.WrongMethod allowed)) d x = absurd x
found bytes (Err refusal.ReadFault) d x = absurd d
found bytes (Err refusal.DialFault) d x = absurd d
found bytes (Err refusal.Memory) d x = absurd d

pub one_request : (bytes : List ℕ) (a b : Result Request HttpRefusal) → IsDecided a → IsDecided b → IsReadFrom bytes a → IsReadFrom bytes b → a ≡ b
one_request bytes a b d e x y =
    let f = found bytes a d x in
    let g = found bytes b e y in
    f.same ∙ ap raised (one_answer bytes f.answer g.answer f.decided g.decided f.is g.is) ∙ sym g.same

-- ---- responses

record FoundOver (bytes : List ℕ) (a : Result Response HttpRefusal) : Type 0 where
  answer : Result Response ReadRefusal
  decided : IsResponseByTheBytes answer
  is : response.IsAnswerOf bytes answer
  same : a ≡ raised answer

found_over : (bytes : List ℕ) (a : Result Response HttpRefusal) → IsDecided a → IsReadOf bytes a → FoundOver bytes a
found_over bytes (Ok message) d x = record { answer = Ok message; decided = tt; is = x; same = refl }
found_over bytes (Err refusal.HeadTooLarge) d x = record { answer = Err read.HeadTooLarge; decided = tt; is = x; same = refl }
found_over bytes (Err refusal.BadHead) d x = record { answer = Err read.BadHead; decided = tt; is = x; same = refl }
found_over bytes (Err refusal.BodyTooLarge) d x = record { answer = Err read.BodyTooLarge; decided = tt; is = x; same = refl }
found_over bytes (Err refusal.BadChunk) d x = record { answer = Err read.BadChunk; decided = tt; is = x; same = refl }
found_over bytes (Err refusal.Truncated) d x = record { answer = Err read.Truncated; decided = tt; is = x; same = refl }
found_over bytes (Err refusal.NoClient) d x = absurd x
found_over bytes (Err refusal.NoRoute) d x = absurd x
found_over bytes (Err (refusal.WrongMethod allowed)) d x = absurd x
found_over bytes (Err refusal.ReadFault) d x = absurd x
found_over bytes (Err refusal.DialFault) d x = absurd d
found_over bytes (Err refusal.Memory) d x = absurd d

pub one_response_read : (bytes : List ℕ) (a b : Result Response HttpRefusal) → IsDecided a → IsDecided b → IsReadOf bytes a → IsReadOf bytes b → a ≡ b
one_response_read bytes a b d e x y =
    let f = found_over bytes a d x in
    let g = found_over bytes b e y in
    f.same ∙ ap raised (one_response bytes f.answer g.answer f.decided g.decided f.is g.is) ∙ sym g.same
