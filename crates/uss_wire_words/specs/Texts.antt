-- How the texts of an intent are read: names, base URLs, OVNs, states and identifiers. What none of them is, is refused at its own
-- member. This project's own.
use Rattle.std.specs.Prelude.{ℕ, List, Bool, Option, Some, None, Result, Ok, Err, bytes_eq, if◌then◌else◌}
use Rattle.uss_intent.specs.declared.records.State.{State}
use Rattle.uss_intent.specs.declared.records.State.TheVariants.{Accepted, Activated, Nonconforming, Contingent}
use Rattle.uss_intent.specs.States.{state_text}
use Rattle.uss_intent.specs.Texts.{is_name, is_base, is_ovn}
use Rattle.uss_intent.specs.Identifiers.{identifier_of}
use Rattle.uss_intent.specs.declared.refusals.IntentRefusal.{IntentRefusal}
use Rattle.uss_intent.specs.declared.refusals.IntentRefusal.TheVariants as Intent
use Rattle.uss_wire_base.specs.declared.refusal.WireRefusal.{WireRefusal}
use Rattle.uss_wire_base.specs.declared.refusal.WireRefusal.TheVariants.{BadName, BadBase, BadOvn, WrongKind, Memory}
use Rattle.uss_wire_base.specs.Reading.{◌>>=◌, Reader, some_or, text_at}

-- the refusal of a text, as that of a message
abbrev pub intent_refusal : IntentRefusal → WireRefusal
intent_refusal Intent.BadName = BadName
intent_refusal Intent.BadBase = BadBase
intent_refusal Intent.BadOvn = BadOvn
intent_refusal Intent.Memory = Memory

-- the text itself, where the test takes it
abbrev pub checked : Bool → WireRefusal → List ℕ → Result (List ℕ) WireRefusal
checked test refusal text = if test then Ok text else Err refusal

unfoldable pub name_of : List ℕ → Result (List ℕ) WireRefusal
name_of text = checked (is_name text) BadName text

unfoldable pub base_of : List ℕ → Result (List ℕ) WireRefusal
base_of text = checked (is_base text) BadBase text

unfoldable pub ovn_of : List ℕ → Result (List ℕ) WireRefusal
ovn_of text = checked (is_ovn text) BadOvn text

-- the state that is written so
unfoldable pub state_of : List ℕ → Option State
state_of text = if bytes_eq text (state_text Accepted) then Some Accepted
    else (if bytes_eq text (state_text Activated) then Some Activated
    else (if bytes_eq text (state_text Nonconforming) then Some Nonconforming
    else (if bytes_eq text (state_text Contingent) then Some Contingent else None)))

abbrev pub name_at : Reader (List ℕ)
name_at m d = text_at m d >>= name_of

abbrev pub base_at : Reader (List ℕ)
base_at m d = text_at m d >>= base_of

abbrev pub ovn_at : Reader (List ℕ)
ovn_at m d = text_at m d >>= ovn_of

abbrev pub state_at : Reader State
state_at m d = text_at m d >>= λ text. some_or (WrongKind m) (state_of text)

-- the number of the identifier of a flight or of a ticket, in the hyphenated lower-case form alone
abbrev pub identifier_at : Reader ℕ
identifier_at m d = text_at m d >>= λ text. some_or (WrongKind m) (identifier_of text)
