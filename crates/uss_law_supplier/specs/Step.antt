-- The step of a supplier, exactly: from its book, what it keeps beside the book, the moment and an event to at most one entry, calls, a
-- saying, and what it keeps beside the book then. A step may also want memory, or a working disk for its entry: it is no step then, and
-- nothing changes. Such steps serve the strategic coordination and the conformance monitoring of ASTM F3548-21; their rules are this
-- project's own.
use Rattle.std.specs.Prelude.{ℕ, ℤ, Bool, true, false, not, List, map, Option, Some, None}
use Rattle.uss_intent.specs.Same.{same_text}
use Rattle.uss_law_duty.specs.Duties.{clamped}
use Rattle.uss_event.specs.Pairs.{OperationalIntent}
use Rattle.uss_event.specs.declared.entries.Owner.{Owner}
use Rattle.uss_event.specs.declared.entries.Entry.{Entry}
use Rattle.uss_event.specs.declared.calls.Note.{Note}
use Rattle.uss_event.specs.declared.events.Said.TheVariants as Says
use Rattle.uss_event.specs.declared.events.Event.{Event}
use Rattle.uss_event.specs.declared.events.Event.TheVariants as Comes
use Rattle.uss_event.specs.declared.entries.Trial.{Trial}
use Rattle.uss_law_book.specs.Contents.{trials_of}
use Rattle.uss_event.specs.Heard.{by_pair}
use Rattle.uss_law_supplier.specs.Values.{Values, unawaited, hearing}
use Rattle.uss_law_supplier.specs.Turns.{Standing, Turn, saying}
use Rattle.uss_law_supplier.specs.Airspace.{held_as}
use Rattle.uss_law_supplier.specs.Asks.{asked}
use Rattle.uss_law_supplier.specs.Cancels.{cancelled}
use Rattle.uss_law_supplier.specs.Positions.{positioned}
use Rattle.uss_law_supplier.specs.Chores.{swept}
use Rattle.uss_law_supplier.specs.Replies.{replied, replied_by_peer}

-- a call of a job got no reply: the job waits for it no longer and stays open. Whoever asked is left with the tags of the job's attempts,
-- since each of them may have been recorded; a job that was never opened has none
abbrev pub failed : Standing → ℕ → Turn
failed s job = saying (unawaited job s.values) (Says.Left (map (λ (t : Trial). t.tag) (trials_of job s.book)))

-- another supplier asks for the details of a flight: it is given what is held of it, if it is the owner's and something is
abbrev pub detailed : Standing → ℕ → Turn
detailed s flight = saying s.values (Says.Pair (held_as s.owner flight s.book))

-- another supplier tells of a change. A pair that somebody else manages isn't heard; any other is, and a note without a pair makes its
-- flight forgotten
abbrev pub is_of_another : List ℕ → Option OperationalIntent → Bool
is_of_another client None = false
is_of_another client (Some pair) = not (same_text pair.reference.manager client)

abbrev pub notified_by : Standing → Note → Bool → Turn
notified_by s note true = saying s.values Says.NotManager
notified_by s note false = saying (hearing (by_pair note.flight note.pair) s.values) Says.Noted

abbrev pub notified : Standing → List ℕ → Note → Turn
notified s client note = notified_by s note (is_of_another client note.pair)

-- what each event comes to, at a moment within the range of instants
abbrev pub stepped : Standing → ℤ → Event → Turn
stepped s moment (Comes.Ask ask) = asked s moment ask
stepped s moment (Comes.Cancel flight number) = cancelled s flight number
stepped s moment (Comes.Position p) = positioned s moment p
stepped s moment (Comes.Sweep skip) = swept s skip
stepped s moment (Comes.Dss call reply) = replied s call reply
stepped s moment (Comes.Peer call reply) = replied_by_peer s call reply
stepped s moment (Comes.Failed job) = failed s job
stepped s moment (Comes.Details client flight) = detailed s flight
stepped s moment (Comes.Notified client note) = notified s client note

-- the step: a moment outside that range is taken as the nearest bound
abbrev pub supplier_step : Owner → List Entry → Values → ℤ → Event → Turn
supplier_step owner book values moment event = stepped (record { owner = owner; book = book; values = values }) (clamped moment) event
