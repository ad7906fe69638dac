-- Which replies the table of a job has a row for. This project's own.
use Rattle.std.specs.Prelude.{Bool, true, false, Option, Some, None}
use Rattle.uss_law_supplier.specs.declared.duties.Awaited.{Awaited}
use Rattle.uss_law_supplier.specs.declared.duties.Awaited.TheVariants as Waits
use Rattle.uss_law_supplier.specs.declared.duties.Heard.{Heard}
use Rattle.uss_law_supplier.specs.declared.duties.Heard.TheVariants as Hears

-- the call is answered so, or the discovery service refused it; another supplier answers, or gives a status
abbrev pub is_answer : Awaited → Heard → Bool
is_answer Waits.TicketPut Hears.Made = true
is_answer Waits.Query (Hears.Found others unheard) = true
is_answer Waits.Details (Hears.Answered unheard) = true
is_answer Waits.Details (Hears.Status status) = true
is_answer Waits.Put Hears.Landed = true
is_answer Waits.Get (Hears.Got own) = true
is_answer Waits.TicketRemove Hears.Removed = true
is_answer Waits.Remove Hears.Removed = true
is_answer kind (Hears.Refused number) = true
is_answer kind _ = false

-- the reply answers the call that is waited for
abbrev pub has_row : Option Awaited → Heard → Bool
has_row None heard = false
has_row (Some kind) heard = is_answer kind heard
