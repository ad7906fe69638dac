-- What closed jobs have still to do: to tell whom they owe a notification, and to take their tickets out. That subscribers are notified of
-- changes is after ASTM F3548-21; the order and the rest are this project's own.
use Rattle.std.specs.Prelude.{ℕ, Bool, List, ◌++◌, take, drop, map, filter, filter_map, flat_map, slice_get, Option, Some, option_and_then}
use Rattle.std.specs.Option.{option_map}
use Rattle.uss_intent.specs.declared.records.Subscriber.{Subscriber}
use Rattle.uss_intent.specs.Numbers.{is_one_of}
use Rattle.uss_event.specs.declared.entries.Owner.{Owner}
use Rattle.uss_event.specs.declared.entries.Entry.{Entry}
use Rattle.uss_event.specs.declared.calls.Note.{Note}
use Rattle.uss_event.specs.declared.calls.PeerCall.TheVariants as Calls
use Rattle.uss_event.specs.declared.calls.Outgoing.{Outgoing}
use Rattle.uss_event.specs.declared.calls.Outgoing.TheVariants as Goes
use Rattle.uss_event.specs.declared.entries.Opening.{Opening}
use Rattle.uss_law_book.specs.Lists.{openings}
use Rattle.uss_law_book.specs.Contents.{opening_of, owed_of, unsent, is_ticket_due}
use Rattle.uss_law_book.specs.Attempts.{held}
use Rattle.uss_law_duty.specs.Answers.{flight_of}
use Rattle.uss_law_duty.specs.Sends.{ticket_remove}
use Rattle.uss_law_supplier.specs.declared.duties.Chore.{Chore}
use Rattle.uss_law_supplier.specs.declared.duties.Chore.TheVariants.{Notify, Retire}
use Rattle.uss_law_supplier.specs.Turns.{Standing, Turn, sending, dss_call}

-- the notifications that a closed job owes and that weren't answered, by their indices
abbrev pub notifications_of : List Entry → Opening → List Chore
notifications_of book o = map (λ index. Notify o.job index) (unsent o.job book)

-- the job is closed, and its ticket is there and not needed
abbrev pub is_due : List Entry → Opening → Bool
is_due book o = is_ticket_due o.job book

-- the chores: first the notifications that are owed, by job and index, and then the tickets to be taken out, by job
unfoldable pub chores : List Entry → List Chore
chores book = flat_map (notifications_of book) (openings book) ++ map (λ (o : Opening). Retire o.job) (filter (is_due book) (openings book))

-- the notification with this index is still to be made
abbrev pub is_unsent : ℕ → ℕ → List Entry → Bool
is_unsent job index book = is_one_of index (unsent job book)

-- what a subscriber is notified of: what is held of the flight at the moment, which is nothing where the flight has ended
abbrev pub note_of : Owner → List Entry → Opening → Subscriber → Note
note_of owner book o subscriber =
    record { flight = flight_of owner o; pair = held o.ask.flight book; ticket = subscriber.ticket; index = subscriber.index }

abbrev pub notify : Owner → List Entry → ℕ → Opening → Subscriber → Outgoing
notify owner book index o subscriber = Goes.Peer (Calls.Notify o.job index subscriber.base (note_of owner book o subscriber))

abbrev pub notify_of : Owner → List Entry → ℕ → Opening → Option Outgoing
notify_of owner book index o = option_map (notify owner book index o) (slice_get (owed_of o.job book) index)

-- the call of a chore
abbrev pub chore_call : Owner → List Entry → Chore → Option Outgoing
chore_call owner book (Notify job index) = option_and_then (notify_of owner book index) (opening_of job book)
chore_call owner book (Retire job) = Some (dss_call job (ticket_remove owner job))

-- the most chores of one sweep: few, so that it is soon over; the next goes on after them
abbrev pub most_chores : ℕ
most_chores = 64

-- a sweep makes the calls of chores, after the first so many; none of them is waited for
abbrev pub swept : Standing → ℕ → Turn
swept s skip = sending s.values (filter_map (chore_call s.owner s.book) (take most_chores (drop skip (chores s.book))))
