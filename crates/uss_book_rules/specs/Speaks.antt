-- Which entries speak of a job, a tag or a notification: the tests by which a book is searched. This project's own.
use Rattle.std.specs.Prelude.{ℕ, Bool, false, ◌&&◌, ◌==◌, Option, Some, None}
use Rattle.uss_event.specs.declared.entries.Opening.{Opening}
use Rattle.uss_event.specs.declared.entries.Trial.{Trial}
use Rattle.uss_event.specs.declared.entries.Holding.{Holding}
use Rattle.uss_event.specs.declared.entries.Closing.{Closing}
use Rattle.uss_event.specs.declared.entries.Entry.{Entry}
use Rattle.uss_event.specs.declared.entries.Entry.TheVariants.{Opened, TicketOpen, Pending, Held, Deciding, Done, TicketGone, Sent}
use Rattle.uss_event.specs.declared.entries.Entry.TheVariants as Enters

-- the job, and 0 for the owner's entry
abbrev pub job_of : Entry → ℕ
job_of (Enters.Owner owner) = 0
job_of (Opened o) = o.job
job_of (TicketOpen job) = job
job_of (Pending t) = t.job
job_of (Held h) = h.job
job_of (Deciding d) = d.job
job_of (Done d) = d.job
job_of (TicketGone job) = job
job_of (Sent n) = n.job

-- the job is opened
abbrev pub opens : ℕ → Entry → Bool
opens job (Opened o) = o.job == job
opens job _ = false

-- the job's ticket was heard to be there
abbrev pub has_ticket : ℕ → Entry → Bool
has_ticket job (TicketOpen j) = j == job
has_ticket job _ = false

-- an attempt with the tag
abbrev pub tries : ℕ → Entry → Bool
tries tag (Pending t) = t.tag == tag
tries tag _ = false

-- what the job recorded
abbrev pub records : ℕ → Entry → Bool
records job (Held h) = h.job == job
records job _ = false

-- the job makes no further attempt
abbrev pub decides : ℕ → Entry → Bool
decides job (Deciding d) = d.job == job
decides job _ = false

-- the job ended without recording anything
abbrev pub ends : ℕ → Entry → Bool
ends job (Done d) = d.job == job
ends job _ = false

-- the closed job's ticket was heard as gone
abbrev pub retires : ℕ → Entry → Bool
retires job (TicketGone j) = j == job
retires job _ = false

-- the answer to a notification of the job, by its index
abbrev pub sends : ℕ → ℕ → Entry → Bool
sends job index (Sent n) = (n.job == job) && (n.index == index)
sends job index _ = false

-- what an entry says
abbrev pub opening_in : Entry → Option Opening
opening_in (Opened o) = Some o
opening_in _ = None

abbrev pub trial_in : Entry → Option Trial
trial_in (Pending t) = Some t
trial_in _ = None

abbrev pub holding_in : Entry → Option Holding
holding_in (Held h) = Some h
holding_in _ = None

abbrev pub decision_in : Entry → Option Closing
decision_in (Deciding d) = Some d
decision_in _ = None

abbrev pub ending_in : Entry → Option Closing
ending_in (Done d) = Some d
ending_in _ = None
