-- A dial of which nothing is received. This project's own.
use Rattle.std.specs.Prelude.{◌≡◌, Bool, true, false, ◌||◌, List, [], ◌∷◌, Option, Some}
use Rattle.std.proofs.Common.{refl, sym, ap, ◌∙◌, arith, append-nil}
use Rattle.uss_link.specs.Talks.{Talk, with_received}
use Rattle.uss_http_request.specs.Dials.{heard, HeardFrom}

same_end : (b : Bool) → (b || false) ≡ b
same_end true = refl
same_end false = refl

same_last : (talk : Talk) → with_received [] false talk ≡ talk
same_last talk i = record talk { received = append-nil talk.received i; ended = same_end talk.ended i }

heard_none : (talks : List Talk) → heard [] false talks ≡ talks
heard_none [] = refl
heard_none (talk ∷ []) = ap (λ (t : Talk). t ∷ []) (same_last talk)
heard_none (talk ∷ next ∷ talks) = ap (λ (ts : List Talk). talk ∷ ts) (heard_none (next ∷ talks))

-- between a moment and itself nothing was received
pub heard_nothing : (now : Option (List Talk)) (is : Option Bool) → HeardFrom now now is is []
heard_nothing now is = record { told = λ talks same. record { is_end = false; told = same ∙ ap Some (sym (heard_none talks)) }; stays = record { told = λ was same. same }; over = λ was same some. absurd (omega arith) }
