-- What reading a response from a dial answers. This project's own.
use Rattle.std.specs.Prelude.{◌≡◌, ℕ, Bool, List, [], ◌++◌, ◌⊎◌, Option, Some, Result, IsTrue}
use Rattle.uss_http_request.specs.declared.refusal.ReadRefusal.{ReadRefusal}
use Rattle.uss_http_request.specs.Dials.{heard, is_over}
use Rattle.uss_http_request.specs.Prompt.{AreFew}
use Rattle.uss_link.specs.Talks.{Talk}
use Rattle.uss_http_response.specs.declared.response.Response.{Response}
use Rattle.uss_http_response.specs.Responses.{IsAnswerOf, IsOpen}

-- These bytes were received. Whatever would have come after them, and nothing where the end of the stream was given, this
-- is the answer for all the bytes up to the end.
pub record IsReceived (talks : List Talk) (after : Option (List Talk)) (answer : Result Response ReadRefusal) : Type 0 where
  pub bytes : List ℕ
  pub is_end : Bool
  pub told : after ≡ Some (heard bytes is_end talks)
  pub is_answer : (more : List ℕ) → (IsTrue (is_over (heard bytes is_end talks)) → more ≡ []) → IsAnswerOf (bytes ++ more) answer

-- The bytes that were received over the stream opened last are some that left the answer open, or none at all, and few after
-- them.
pub record ReceivesPromptly (talks : List Talk) (after : Option (List Talk)) : Type 0 where
  pub seen : List ℕ
  pub late : List ℕ
  pub is_end : Bool
  pub told : after ≡ Some (heard (seen ++ late) is_end talks)
  pub was_open : (seen ≡ []) ⊎ IsOpen seen
  pub few : AreFew seen late
