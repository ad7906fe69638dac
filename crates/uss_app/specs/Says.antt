-- What a command says of the text of its input. This project's own.
use Rattle.std.specs.Prelude.{◌≡◌, ℕ, ◌⊎◌, List, ◌++◌, Option, Some, Result, MatchResult, codes}
use Rattle.uss_link.specs.Bytes.{TookFront}
use Rattle.uss_text.specs.Conflict.{conflict_script}
use Rattle.uss_text.specs.Discover.{discover_script}
use Rattle.uss_text.specs.Refusals.{refusal_text}
use Rattle.uss_text.specs.declared.refusal.ScriptRefusal.{ScriptRefusal}
use Rattle.uss_app.specs.declared.commands.Command.{Command}
use Rattle.uss_app.specs.declared.commands.Command.TheVariants.{Conflict, Discover}
use Rattle.uss_app.specs.Conflict.{Compared}
use Rattle.uss_app.specs.Discover.{replies_of}

-- a script's answer with status 0, or its refusal with status 1
abbrev pub Judged : {A : Type 0} → Result A ScriptRefusal → (A → List ℕ → Type 0) → ℕ → List ℕ → Type 0
Judged script Answers status text = MatchResult script
    (λ read. (status ≡ 0) × Answers read text)
    (λ refusal. (status ≡ 1) × (text ≡ refusal_text refusal ++ codes "\n"))

-- what is written of the input, with the status
abbrev pub Says : Command → (input : List ℕ) (status : ℕ) (text : List ℕ) → Type 0
Says Conflict input status text = Judged (conflict_script input) Compared status text
Says Discover input status text = Judged (discover_script input) (λ lines text. text ≡ replies_of lines) status text

-- from what the sink had taken before, it took the whole text that the input gives with this status
pub record Wrote (command : Command) (input taken : List ℕ) (after : Option (List ℕ)) (status : ℕ) : Type 0 where
  pub text : List ℕ
  pub says : Says command input status text
  pub is_taken : after ≡ Some (taken ++ text)

-- the sink took a prefix of a text that the input gives
pub record WroteFront (command : Command) (input taken : List ℕ) (after : Option (List ℕ)) : Type 0 where
  pub status : ℕ
  pub text : List ℕ
  pub says : Says command input status text
  pub front : TookFront taken after text

-- nothing was written, or a prefix of what the input gives
abbrev pub Began : Command → (input taken : List ℕ) (after : Option (List ℕ)) → Type 0
Began command input taken after = (after ≡ Some taken) ⊎ WroteFront command input taken after
