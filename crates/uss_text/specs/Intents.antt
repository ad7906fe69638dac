-- The words of a script that name clients, flights and tickets, and that give states, base URLs and OVNs. What none
-- of them is, is refused at its own word. This project's own.
use Rattle.std.specs.Prelude.{ℕ, List, Bool, Option, Some, None, Result, Ok, Err, bytes_eq, codes, if◌then◌else◌}
use Rattle.uss_intent.specs.declared.records.State.{State}
use Rattle.uss_intent.specs.declared.records.State.TheVariants.{Accepted, Activated, Nonconforming, Contingent}
use Rattle.uss_intent.specs.States.{state_text}
use Rattle.uss_intent.specs.Texts.{is_name, is_base, is_ovn}
use Rattle.uss_intent.specs.Identifiers.{identifier_of}
use Rattle.uss_text.specs.declared.refusal.WordRefusal.{WordRefusal}
use Rattle.uss_text.specs.declared.refusal.WordRefusal.TheVariants.{BadLine, BadName, BadBase, BadOvn}
use Rattle.uss_text.specs.Reading.{Reader, by_word}

-- the word itself, where the test takes it
abbrev pub checked : Bool → WordRefusal → List ℕ → Result (List ℕ) WordRefusal
checked test refusal word = if test then Ok word else Err refusal

unfoldable pub name_of : List ℕ → Result (List ℕ) WordRefusal
name_of word = checked (is_name word) BadName word

unfoldable pub base_of : List ℕ → Result (List ℕ) WordRefusal
base_of word = checked (is_base word) BadBase word

unfoldable pub ovn_of : List ℕ → Result (List ℕ) WordRefusal
ovn_of word = checked (is_ovn word) BadOvn word

-- an OVN, or `-` where there is none
unfoldable pub ovn_or_none_of : List ℕ → Result (Option (List ℕ)) WordRefusal
ovn_or_none_of word = if bytes_eq word (codes "-") then Ok None else (if is_ovn word then Ok (Some word) else Err BadOvn)

-- the number of the identifier of a flight or of a ticket
abbrev pub number_or_bad_line : Option ℕ → Result ℕ WordRefusal
number_or_bad_line None = Err BadLine
number_or_bad_line (Some number) = Ok number

unfoldable pub identifier_or_bad_line : List ℕ → Result ℕ WordRefusal
identifier_or_bad_line word = number_or_bad_line (identifier_of word)

-- the state that is written so
unfoldable pub state_of : List ℕ → Result State WordRefusal
state_of word = if bytes_eq word (state_text Accepted) then Ok Accepted
    else (if bytes_eq word (state_text Activated) then Ok Activated
    else (if bytes_eq word (state_text Nonconforming) then Ok Nonconforming
    else (if bytes_eq word (state_text Contingent) then Ok Contingent else Err BadLine)))

unfoldable pub name_at : Reader (List ℕ)
name_at ws = by_word name_of ws

unfoldable pub base_at : Reader (List ℕ)
base_at ws = by_word base_of ws

unfoldable pub ovn_at : Reader (List ℕ)
ovn_at ws = by_word ovn_of ws

unfoldable pub ovn_or_none_at : Reader (Option (List ℕ))
ovn_or_none_at ws = by_word ovn_or_none_of ws

unfoldable pub identifier_at : Reader ℕ
identifier_at ws = by_word identifier_or_bad_line ws

unfoldable pub state_at : Reader State
state_at ws = by_word state_of ws
