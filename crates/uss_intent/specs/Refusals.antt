-- The numbers under which refusals are printed. This project's own.
use Rattle.std.specs.Prelude.{ℕ, Option, Some, None}
use Rattle.uss_intent.specs.declared.refusals.IntentRefusal.{IntentRefusal}
use Rattle.uss_intent.specs.declared.refusals.IntentRefusal.TheVariants.{BadName, BadBase, BadOvn, Memory}
use Rattle.uss_intent.specs.declared.calls.DssRefusal.{DssRefusal}
use Rattle.uss_intent.specs.declared.calls.DssRefusal.TheVariants.{BadCall, NotYours, Exists, Retired, Absent, StaleOvn, NoTicket, NotCovered, MissingKey, TicketInUse, Full}

abbrev pub refusal_number : DssRefusal → ℕ
refusal_number BadCall = 201
refusal_number NotYours = 202
refusal_number Exists = 203
refusal_number Retired = 204
refusal_number Absent = 205
refusal_number StaleOvn = 206
refusal_number NoTicket = 207
refusal_number NotCovered = 208
refusal_number (MissingKey references) = 209
refusal_number TicketInUse = 210
refusal_number (Full limit) = 211

abbrev pub number_of : IntentRefusal → Option ℕ
number_of BadName = Some 128
number_of BadBase = Some 129
number_of BadOvn = Some 130
number_of Memory = None
