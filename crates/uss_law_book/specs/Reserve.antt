-- The room that a book keeps free in its journal, so that what is open can always be brought to an end. This project's own.
use Rattle.std.specs.Prelude.{ℕ, ◌+◌, ◌*◌, ◌≤◌, Bool, false, not, List, length, filter, sum_by}
use Rattle.uss_event.specs.declared.entries.Entry.{Entry}
use Rattle.uss_event.specs.declared.entries.Entry.TheVariants.{Opened, TicketOpen, Pending, Held, Deciding, Done, TicketGone, Sent}
use Rattle.uss_event.specs.declared.entries.Entry.TheVariants as Enters
use Rattle.uss_law_book.specs.Lists.{openings}
use Rattle.uss_law_book.specs.Contents.{is_closed, is_open, unsent, keeps_ticket}
use Rattle.uss_law_book.specs.Coding.{journal_length}

-- the most bytes that a journal has
abbrev pub journal_limit : ℕ
journal_limit = 536870912

-- the bytes that are kept free for an open job, 8 MiB: all that it may enter to its end has fewer, whatever it hears
abbrev pub job_room : ℕ
job_room = 8388608

-- how many jobs are open
abbrev pub open_jobs : List Entry → ℕ
open_jobs book = length (filter (λ o. not (is_closed o.job book)) (openings book))

-- how many notifications are owed and weren't answered
abbrev pub unsent_count : List Entry → ℕ
unsent_count book = sum_by (λ o. length (unsent o.job book)) (openings book)

-- how many closed jobs have a ticket that is open and not gone
abbrev pub kept_tickets : List Entry → ℕ
kept_tickets book = length (filter (λ o. keeps_ticket o.job book) (openings book))

-- the bytes to be kept free: 8 MiB for each open job, 64 for each notification, 64 for each ticket
unfoldable pub need : List Entry → ℕ
need book = job_room * open_jobs book + 64 * unsent_count book + 64 * kept_tickets book

-- the entry is one that an open job made after its opening: its bytes are among those kept free for the job
abbrev pub is_reserved : List Entry → Entry → Bool
is_reserved book (Enters.Owner owner) = false
is_reserved book (Opened o) = false
is_reserved book (TicketOpen job) = is_open job book
is_reserved book (Pending t) = is_open t.job book
is_reserved book (Held h) = is_open h.job book
is_reserved book (Deciding d) = is_open d.job book
is_reserved book (Done d) = is_open d.job book
is_reserved book (TicketGone job) = is_open job book
is_reserved book (Sent n) = is_open n.job book

-- the other entries
abbrev pub settled : List Entry → List Entry
settled book = filter (λ e. not (is_reserved book e)) book

-- the bytes of these and the bytes to be kept free don't exceed the journal's limit together
unfoldable pub reserved : List Entry → ℕ
reserved book = journal_length (settled book) + need book

abbrev pub ReserveCovers : List Entry → Type 0
ReserveCovers book = reserved book ≤ journal_limit
