-- What a further entry changes of the room that a book keeps free. This project's own.
use Rattle.std.specs.Prelude.{ℕ, ◌+◌, ◌*◌, Bool, true, false, not, ◌&&◌, ◌==◌, List, length, filter, sum_by, is_some}
use Rattle.uss_event.specs.declared.entries.Entry.{Entry}
use Rattle.uss_event.specs.declared.entries.Entry.TheVariants.{Opened, TicketOpen, Pending, Held, Deciding, Done, TicketGone, Sent}
use Rattle.uss_event.specs.declared.entries.Entry.TheVariants as Enters
use Rattle.uss_law_book.specs.Contents.{is_ticket_open, decision_of, owed_at_end}
use Rattle.uss_law_book.specs.Coding.{record_length}
use Rattle.uss_law_book.specs.Reserve.{job_room}

-- the entry is one of the job's after its opening
abbrev pub is_later_of : ℕ → Entry → Bool
is_later_of job (Enters.Owner owner) = false
is_later_of job (Opened o) = false
is_later_of job (TicketOpen j) = j == job
is_later_of job (Pending t) = t.job == job
is_later_of job (Held h) = h.job == job
is_later_of job (Deciding d) = d.job == job
is_later_of job (Done d) = d.job == job
is_later_of job (TicketGone j) = j == job
is_later_of job (Sent n) = n.job == job

-- the bytes of the records of the job's entries after its opening
unfoldable pub bytes_of : ℕ → List Entry → ℕ
bytes_of job es = sum_by record_length (filter (is_later_of job) es)

-- 64 bytes where the job keeps its ticket
abbrev pub for_ticket : Bool → ℕ
for_ticket true = 64
for_ticket false = 0

-- the bytes that the entry adds to those kept free
abbrev pub taken : List Entry → Entry → ℕ
taken es (Opened o) = job_room
taken es (Held h) = 64 * length h.owed + for_ticket (is_ticket_open h.job es)
taken es (Done d) = 64 * length (owed_at_end d.end) + for_ticket (is_ticket_open d.job es && not (is_some (decision_of d.job es)))
taken es _ = 0

-- the bytes that it takes away from them
abbrev pub released : Entry → ℕ
released (Held h) = job_room
released (Done d) = job_room
released (TicketGone job) = 64
released (Sent n) = 64
released _ = 0

-- the bytes that it adds to those of the settled entries
abbrev pub settled_by : List Entry → Entry → ℕ
settled_by es (Enters.Owner owner) = record_length (Enters.Owner owner)
settled_by es (Opened o) = record_length (Opened o)
settled_by es (Held h) = bytes_of h.job es + record_length (Held h)
settled_by es (Done d) = bytes_of d.job es + record_length (Done d)
settled_by es (TicketGone job) = record_length (TicketGone job)
settled_by es (Sent n) = record_length (Sent n)
settled_by es _ = 0
