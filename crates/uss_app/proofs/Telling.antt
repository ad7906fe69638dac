-- What is said of an input that is too large.
use Rattle.std.proofs.Common.{◌≡◌, ◌<◌, ℕ, List, length, Result, Ok, Err, IfOk, ◌++◌, codes, string_bytes}
use Rattle.uss_text.specs.Lines.{most_bytes}
use Rattle.uss_text.specs.Refusals.{refusal_text}
use Rattle.uss_text.specs.declared.refusal.ScriptRefusal.{ScriptRefusal}
use Rattle.uss_text.specs.declared.refusal.ScriptRefusal.TheVariants.{TextTooLarge}
use Rattle.uss_app.specs.declared.answer.Answer.{Answer}
use Rattle.uss_app.specs.declared.commands.Command.{Command}
use Rattle.uss_app.specs.declared.commands.Command.TheVariants.{Conflict, Discover}
use Rattle.uss_text.specs.Conflict.{conflict_script}
use Rattle.uss_text.specs.Discover.{discover_script}
use Rattle.uss_app.specs.Conflict.{Compared}
use Rattle.uss_app.specs.Discover.{replies_of}
use Rattle.uss_app.specs.Says.{Judged, Says}
use Rattle.uss_text.proofs.Script.{too_large}
use Rattle.uss_text.proofs.Each.{too_large as discover_too_large}

-- what is said where the script is refused so
refused_says : {A : Type 0} (script : Result A ScriptRefusal) (Answers : A → List ℕ → Type 0) (status : ℕ) (text : List ℕ) (refusal : ScriptRefusal) → script ≡ Err refusal → status ≡ 1 → text ≡ refusal_text refusal ++ codes "\n" → Judged script Answers status text
refused_says script Answers status text refusal is one line = rw is (one, line)

says_too_large : (command : Command) (input : List ℕ) (status : ℕ) (text : List ℕ) → most_bytes < length input → status ≡ 1 → text ≡ refusal_text TextTooLarge ++ codes "\n" → Says command input status text
says_too_large Conflict input status text large one line = refused_says (conflict_script input) Compared status text TextTooLarge (too_large input large) one line
says_too_large Discover input status text large one line = refused_says (discover_script input) (λ lines said. said ≡ replies_of lines) status text TextTooLarge (discover_too_large input large) one line

pub too_large_says : {E : Type 0} (command : Command) (input : List ℕ) (r : Result Answer E) → most_bytes < length input → IfOk r (λ a. a.status ≡ 1) → IfOk r (λ a. string_bytes a.text ≡ refusal_text TextTooLarge ++ codes "\n") → IfOk r (λ a. Says command input a.status (string_bytes a.text))
too_large_says command input (Ok a) large one line = says_too_large command input a.status (string_bytes a.text) large one line
too_large_says command input (Err e) large one line = tt
