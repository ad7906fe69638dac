-- The answers that a book keeps. This project's own.
use Rattle.std.specs.Prelude.{ℕ, Bool, true, false, ◌&&◌, ◌==◌, List, find, Option, Some, None, is_none, if◌then◌else◌}
use Rattle.uss_intent.specs.Identifiers.{flight_number}
use Rattle.uss_event.specs.declared.entries.Owner.{Owner}
use Rattle.uss_event.specs.declared.entries.Entry.{Entry}
use Rattle.uss_event.specs.declared.entries.Ending.{Ending}
use Rattle.uss_event.specs.declared.entries.Ending.TheVariants as Ends
use Rattle.uss_event.specs.declared.events.Answer.{Answer}
use Rattle.uss_event.specs.declared.events.Answer.TheVariants.{Planned, Changed, Ended, Conflict, Stale, Cancelled, Steady, Crowded, DssRefused, PeerRefused, Unsettled}
use Rattle.uss_event.specs.declared.events.Event.{Event}
use Rattle.uss_event.specs.declared.events.Event.TheVariants as Comes
use Rattle.uss_event.specs.declared.calls.PeerCall.{PeerCall}
use Rattle.uss_event.specs.declared.calls.PeerCall.TheVariants as Calls
use Rattle.uss_event.specs.declared.entries.Opening.{Opening}
use Rattle.uss_event.specs.declared.entries.Trial.{Trial}
use Rattle.uss_event.specs.declared.entries.Holding.{Holding}
use Rattle.uss_event.specs.declared.entries.Closing.{Closing}
use Rattle.uss_law_book.specs.Lists.{openings}
use Rattle.uss_law_book.specs.Contents.{opening_of, trial_of, holding_of, ending_of}

-- these answers say how a request ended, and are kept
abbrev pub is_final : Answer → Bool
is_final (Planned flight tag alternative ovn version) = true
is_final (Changed flight tag alternative ovn version) = true
is_final (Ended flight) = true
is_final (Conflict flight manager rule) = true
is_final (Stale missing) = true
is_final Cancelled = true
is_final (Steady verdict) = false
is_final (Crowded count) = false
is_final (DssRefused number) = false
is_final (PeerRefused peer status) = false
is_final (Unsettled tag) = false

-- the identifier of a job's flight
abbrev pub flight_of : Owner → Opening → ℕ
flight_of owner opening = flight_number owner.number opening.ask.flight

-- an attempt that created a reference answers Planned, and one that changed one Changed
abbrev pub by_trial : ℕ → Holding → Option Trial → Option Answer
by_trial flight h None = None
by_trial flight h (Some t) =
    if is_none t.previous then Some (Planned flight h.tag t.alternative h.ovn h.version) else Some (Changed flight h.tag t.alternative h.ovn h.version)

abbrev pub by_end : ℕ → Ending → Answer
by_end flight (Ends.Conflict other manager rule) = Conflict other manager rule
by_end flight (Ends.Stale missing) = Stale missing
by_end flight Ends.Cancelled = Cancelled
by_end flight (Ends.Ended owed) = Ended flight

abbrev pub by_close : List Entry → ℕ → Option Holding → Option Closing → Option Answer
by_close book flight (Some h) closing = by_trial flight h (trial_of h.tag book)
by_close book flight None (Some d) = Some (by_end flight d.end)
by_close book flight None None = None

-- the answer that a book keeps of a job, which is none while the job is open
unfoldable pub kept_answer : Owner → Opening → List Entry → Option Answer
kept_answer owner opening book = by_close book (flight_of owner opening) (holding_of opening.job book) (ending_of opening.job book)

-- the job of a request: of a flight, by its number
unfoldable pub job_of_request : ℕ → ℕ → List Entry → Option Opening
job_of_request flight number book = find (λ o. (o.ask.flight == flight) && (o.ask.number == number)) (openings book)

abbrev pub job_of_call : PeerCall → ℕ
job_of_call (Calls.Details job flight manager base) = job
job_of_call (Calls.Notify job index base note) = job

-- the job that an event's request or call names
abbrev pub job_named : Event → List Entry → Option Opening
job_named (Comes.Ask ask) book = job_of_request ask.flight ask.number book
job_named (Comes.Cancel flight number) book = job_of_request flight number book
job_named (Comes.Position ask) book = job_of_request ask.flight ask.number book
job_named (Comes.Sweep skip) book = None
job_named (Comes.Dss call reply) book = opening_of call.job book
job_named (Comes.Peer call reply) book = opening_of (job_of_call call) book
job_named (Comes.Failed job) book = opening_of job book
job_named (Comes.Details client flight) book = None
job_named (Comes.Notified client note) book = None
