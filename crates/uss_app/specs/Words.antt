-- The words after the program's name. This project's own.
use Rattle.std.specs.Prelude.{ℕ, List, [], ◌∷◌, Option, Some, None, bytes_eq, codes, if◌then◌else◌}
use Rattle.uss_app.specs.declared.commands.Command.{Command}
use Rattle.uss_app.specs.declared.commands.Command.TheVariants.{Conflict, Discover}

-- the command that a word names
abbrev pub named : List ℕ → Option Command
named word = if bytes_eq word (codes "conflict") then Some Conflict
    else (if bytes_eq word (codes "discover") then Some Discover else None)

-- one word names a command
abbrev pub command_of : List (List ℕ) → Option Command
command_of [] = None
command_of (word ∷ []) = named word
command_of (word ∷ other ∷ others) = None
