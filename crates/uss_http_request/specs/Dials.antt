-- What was received over the stream that was opened last over a dial. This project's own.
use Rattle.std.specs.Prelude.{◌≡◌, ℕ, ◌<◌, Bool, false, List, [], ◌∷◌, length, Option, Some, IsTrue}
use Rattle.uss_link.specs.Talks.{Talk, with_received, Stays}

-- the streams, with these bytes received over the last of them, and its end where it was given
abbrev pub heard : (bytes : List ℕ) (is_end : Bool) → List Talk → List Talk
heard bytes is_end [] = []
heard bytes is_end (talk ∷ []) = with_received bytes is_end talk ∷ []
heard bytes is_end (talk ∷ next ∷ talks) = talk ∷ heard bytes is_end (next ∷ talks)

-- the end of the last stream was given
abbrev pub is_over : List Talk → Bool
is_over [] = false
is_over (talk ∷ []) = talk.ended
is_over (talk ∷ next ∷ talks) = is_over (next ∷ talks)

-- from what a dial told before, these bytes were received, and nothing else changed
pub record Heard (talks : List Talk) (after : Option (List Talk)) (bytes : List ℕ) : Type 0 where
  pub is_end : Bool
  pub told : after ≡ Some (heard bytes is_end talks)

-- where a dial tells; a stream is open where one was, and bytes came only where one was
pub record HeardFrom (before after : Option (List Talk)) (first is : Option Bool) (bytes : List ℕ) : Type 0 where
  pub told : (talks : List Talk) → before ≡ Some talks → Heard talks after bytes
  pub stays : Stays first is
  pub over : (was : Bool) → first ≡ Some was → 0 < length bytes → IsTrue was

-- where a dial tells, the end of its last stream was given
pub record IsOver (now : Option (List Talk)) : Type 0 where
  pub told : (talks : List Talk) → now ≡ Some talks → IsTrue (is_over talks)
