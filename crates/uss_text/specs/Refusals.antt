-- The refusals of a script: their numbers, and their line, counted from 1. This project's own.
use Rattle.std.specs.Prelude.{ℕ, List, ◌++◌, Result, Ok, Err, codes}
use Rattle.std.specs.Fmt.{decimal}
use Rattle.uss_intent.specs.declared.refusals.IntentRefusal.{IntentRefusal}
use Rattle.uss_intent.specs.declared.refusals.IntentRefusal.TheVariants as Intent
use Rattle.uss_text.specs.declared.refusal.WordRefusal.{WordRefusal}
use Rattle.uss_text.specs.declared.refusal.WordRefusal.TheVariants as Word
use Rattle.uss_text.specs.declared.refusal.ScriptRefusal.{ScriptRefusal}
use Rattle.uss_text.specs.declared.refusal.ScriptRefusal.TheVariants as Script

-- the refusal of a value of an intent, as that of its word
abbrev pub intent_refusal : IntentRefusal → WordRefusal
intent_refusal Intent.BadName = Word.BadName
intent_refusal Intent.BadBase = Word.BadBase
intent_refusal Intent.BadOvn = Word.BadOvn
intent_refusal Intent.Memory = Word.Memory

-- the refusal of a word as that of its line
abbrev pub refusal_at : ℕ → WordRefusal → ScriptRefusal
refusal_at line Word.BadLine = Script.BadLine line
refusal_at line Word.BadNumber = Script.BadNumber line
refusal_at line Word.TooFewVertices = Script.TooFewVertices line
refusal_at line Word.TooManyVertices = Script.TooManyVertices line
refusal_at line Word.OutOfRange = Script.OutOfRange line
refusal_at line Word.LowAboveHigh = Script.LowAboveHigh line
refusal_at line Word.StartAfterEnd = Script.StartAfterEnd line
refusal_at line Word.AltitudeRange = Script.AltitudeRange line
refusal_at line Word.TimeRange = Script.TimeRange line
refusal_at line Word.BadName = Script.BadName line
refusal_at line Word.BadBase = Script.BadBase line
refusal_at line Word.BadOvn = Script.BadOvn line
refusal_at line Word.Memory = Script.Memory

abbrev pub at_line : {A : Type 0} → ℕ → Result A WordRefusal → Result A ScriptRefusal
at_line line (Ok x) = Ok x
at_line line (Err why) = Err (refusal_at line why)

abbrev pub number_of : ScriptRefusal → ℕ
number_of Script.TextTooLarge = 443
number_of (Script.BadLine line) = 441
number_of (Script.BadNumber line) = 442
number_of (Script.TooFewVertices line) = 101
number_of (Script.TooManyVertices line) = 102
number_of (Script.OutOfRange line) = 103
number_of (Script.LowAboveHigh line) = 111
number_of (Script.StartAfterEnd line) = 112
number_of (Script.AltitudeRange line) = 113
number_of (Script.TimeRange line) = 114
number_of (Script.BadName line) = 128
number_of (Script.BadBase line) = 129
number_of (Script.BadOvn line) = 130
number_of Script.Memory = 0

-- the line of the refusal; a refusal of the whole text has the line 0
abbrev pub line_of : ScriptRefusal → ℕ
line_of Script.TextTooLarge = 0
line_of (Script.BadLine line) = line
line_of (Script.BadNumber line) = line
line_of (Script.TooFewVertices line) = line
line_of (Script.TooManyVertices line) = line
line_of (Script.OutOfRange line) = line
line_of (Script.LowAboveHigh line) = line
line_of (Script.StartAfterEnd line) = line
line_of (Script.AltitudeRange line) = line
line_of (Script.TimeRange line) = line
line_of (Script.BadName line) = line
line_of (Script.BadBase line) = line
line_of (Script.BadOvn line) = line
line_of Script.Memory = 0

-- what is printed of a refusal, without the LF
abbrev pub refusal_text : ScriptRefusal → List ℕ
refusal_text refusal = codes "refused " ++ decimal (number_of refusal) ++ codes " line " ++ decimal (line_of refusal)
