-- What reading a response over a dial answers. This project's own.
use Rattle.std.specs.Prelude.{◌≡◌, ℕ, Bool, List, [], ◌++◌, Option, Some, Result, Ok, Err, IsTrue}
use Rattle.uss_link.specs.Talks.{Talk}
use Rattle.uss_http_request.specs.declared.refusal.ReadRefusal.TheVariants as read
use Rattle.uss_http_request.specs.Dials.{heard, is_over}
use Rattle.uss_http_response.specs.declared.response.Response.{Response}
use Rattle.uss_http_response.specs.Responses.{IsResponse, IsRefused}
use Rattle.uss_http.specs.declared.refusal.HttpRefusal.{HttpRefusal}
use Rattle.uss_http.specs.declared.refusal.HttpRefusal.TheVariants as refusal

-- the answer of reading, for bytes that are all that comes up to the end of the stream: the response at their start, or why
-- there is none; of a fault and of out of memory the bytes say nothing
abbrev pub IsReadOf : List ℕ → Result Response HttpRefusal → Type 0
IsReadOf bytes (Ok response) = IsResponse bytes response
IsReadOf bytes (Err refusal.HeadTooLarge) = IsRefused bytes read.HeadTooLarge
IsReadOf bytes (Err refusal.BadHead) = IsRefused bytes read.BadHead
IsReadOf bytes (Err refusal.BodyTooLarge) = IsRefused bytes read.BodyTooLarge
IsReadOf bytes (Err refusal.BadChunk) = IsRefused bytes read.BadChunk
IsReadOf bytes (Err refusal.Truncated) = IsRefused bytes read.Truncated
IsReadOf bytes (Err refusal.DialFault) = Unit {0}
IsReadOf bytes (Err refusal.Memory) = Unit {0}
IsReadOf bytes (Err refusal.NoClient) = ⊥
IsReadOf bytes (Err refusal.ReadFault) = ⊥
IsReadOf bytes (Err refusal.NoRoute) = ⊥
IsReadOf bytes (Err (refusal.WrongMethod allowed)) = ⊥

-- These bytes were received over the stream opened last, and nothing else of what the dial tells changed. Whatever would have
-- come after them, and nothing where the end of the stream was given, this is the answer for all the bytes up to the end.
pub record IsReadOver (talks : List Talk) (after : Option (List Talk)) (answer : Result Response HttpRefusal) : Type 0 where
  pub bytes : List ℕ
  pub is_end : Bool
  pub told : after ≡ Some (heard bytes is_end talks)
  pub is_answer : (more : List ℕ) → (IsTrue (is_over (heard bytes is_end talks)) → more ≡ []) → IsReadOf (bytes ++ more) answer
