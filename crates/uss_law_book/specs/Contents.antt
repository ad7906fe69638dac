-- What a book tells: of jobs, of flights, of tickets and of notifications. Each is a filter or a look-up in the list of its entries.
-- A ticket is a subscription (ASTM F3548-21) that belongs to one job. This project's own.
use Rattle.std.specs.Prelude.{ℕ, Bool, true, false, not, ◌&&◌, ◌||◌, ◌==◌, nat_lt, List, [], ◌∷◌, length, filter, find, Option, Some, None, is_some, if◌then◌else◌}
use Rattle.std.specs.List.{list_any, last_or, range_with_len}
use Rattle.std.specs.Option.{option_map}
use Rattle.uss_intent.specs.Numbers.{is_one_of}
use Rattle.uss_intent.specs.declared.records.Subscriber.{Subscriber}
use Rattle.uss_event.specs.declared.asks.Wish.{Wish}
use Rattle.uss_event.specs.declared.asks.Wish.TheVariants.{Put, End}
use Rattle.uss_event.specs.declared.entries.Entry.{Entry}
use Rattle.uss_event.specs.declared.entries.Ending.{Ending}
use Rattle.uss_event.specs.declared.entries.Ending.TheVariants.{Conflict, Stale, Cancelled, Ended}
use Rattle.uss_event.specs.declared.entries.Opening.{Opening}
use Rattle.uss_event.specs.declared.entries.Trial.{Trial}
use Rattle.uss_event.specs.declared.entries.Holding.{Holding}
use Rattle.uss_event.specs.declared.entries.Closing.{Closing}
use Rattle.uss_law_book.specs.Lists.{openings, tickets_opened, trials, holdings, decisions, endings, tickets_gone, sendings}

-- a job's opening
unfoldable pub opening_of : ℕ → List Entry → Option Opening
opening_of job book = find (λ o. o.job == job) (openings book)

-- what a job recorded, and how it ended, if it is closed
unfoldable pub is_held : ℕ → List Entry → Bool
is_held job book = list_any (λ h. h.job == job) (holdings book)

unfoldable pub is_done : ℕ → List Entry → Bool
is_done job book = list_any (λ d. d.job == job) (endings book)

-- a job is open from its opening to its Held or Done
abbrev pub is_closed : ℕ → List Entry → Bool
is_closed job book = is_held job book || is_done job book

abbrev pub is_open : ℕ → List Entry → Bool
is_open job book = is_some (opening_of job book) && not (is_closed job book)

-- a job's attempts
unfoldable pub trials_of : ℕ → List Entry → List Trial
trials_of job book = filter (λ t. t.job == job) (trials book)

-- the attempt with a tag
unfoldable pub trial_of : ℕ → List Entry → Option Trial
trial_of tag book = find (λ t. t.tag == tag) (trials book)

-- the tag is that of an attempt of the job
unfoldable pub owns : ℕ → ℕ → List Entry → Bool
owns job tag book = list_any (λ t. (t.job == job) && (t.tag == tag)) (trials book)

-- how a job that makes no further attempt is to end
unfoldable pub decision_of : ℕ → List Entry → Option Closing
decision_of job book = find (λ d. d.job == job) (decisions book)

-- what a job recorded
unfoldable pub holding_of : ℕ → List Entry → Option Holding
holding_of job book = find (λ h. h.job == job) (holdings book)

-- how a job ended that recorded nothing
unfoldable pub ending_of : ℕ → List Entry → Option Closing
ending_of job book = find (λ d. d.job == job) (endings book)

-- the jobs of a flight
unfoldable pub jobs_of : ℕ → List Entry → List Opening
jobs_of flight book = filter (λ o. o.ask.flight == flight) (openings book)

-- the flight's open job
unfoldable pub open_job_of : ℕ → List Entry → Option Opening
open_job_of flight book = find (λ o. not (is_closed o.job book)) (jobs_of flight book)

-- the one with the greater number
abbrev pub greater : Opening → Option Opening → Option Opening
greater o None = Some o
greater o (Some p) = if nat_lt o.ask.number p.ask.number then Some p else Some o

abbrev pub greatest : List Opening → Option Opening
greatest [] = None
greatest (o ∷ os) = greater o (greatest os)

-- the flight's request with the greatest number
unfoldable pub last_of : ℕ → List Entry → Option Opening
last_of flight book = greatest (jobs_of flight book)

abbrev pub is_for : ℕ → Option Opening → Bool
is_for flight None = false
is_for flight (Some o) = o.ask.flight == flight

-- the job is one of the flight
unfoldable pub is_job_of : ℕ → ℕ → List Entry → Bool
is_job_of flight job book = is_for flight (opening_of job book)

abbrev pub is_ended : Ending → Bool
is_ended (Conflict flight manager rule) = false
is_ended (Stale missing) = false
is_ended Cancelled = false
is_ended (Ended owed) = true

-- the flight has ended
unfoldable pub has_ended : ℕ → List Entry → Bool
has_ended flight book = list_any (λ d. is_ended d.end && is_job_of flight d.job book) (endings book)

-- what was recorded of a flight, oldest first
unfoldable pub holdings_of : ℕ → List Entry → List Holding
holdings_of flight book = filter (λ h. is_job_of flight h.job book) (holdings book)

-- the last that was recorded of a flight
abbrev pub last_holding : ℕ → List Entry → Option Holding
last_holding flight book = last_or None (holdings_of flight book)

-- what is recorded of a flight: the last, and nothing where the flight has ended
unfoldable pub holding : ℕ → List Entry → Option Holding
holding flight book = if has_ended flight book then None else last_holding flight book

-- the current OVN of a flight: the one that is recorded of it
abbrev pub current_ovn_of : ℕ → List Entry → Option (List ℕ)
current_ovn_of flight book = option_map (λ h. h.ovn) (holding flight book)

abbrev pub is_put : Wish → Bool
is_put (Put to priority rounds proposals) = true
is_put End = false

-- how many attempts a job may make
abbrev pub rounds_of : Wish → ℕ
rounds_of (Put to priority rounds proposals) = rounds
rounds_of End = 0

abbrev pub puts : Option Opening → Bool
puts None = false
puts (Some o) = is_put o.ask.wish

-- the job is to record something
abbrev pub is_put_job : ℕ → List Entry → Bool
is_put_job job book = puts (opening_of job book)

-- the job's ticket was heard to be there
unfoldable pub is_ticket_open : ℕ → List Entry → Bool
is_ticket_open job book = is_one_of job (tickets_opened book)

-- the job's ticket was heard as gone: as such, or by the end of a job that made no further attempt
unfoldable pub is_ticket_gone : ℕ → List Entry → Bool
is_ticket_gone job book = is_one_of job (tickets_gone book) || (is_done job book && is_some (decision_of job book))

abbrev pub is_by : ℕ → Option Holding → Bool
is_by job None = false
is_by job (Some h) = h.job == job

abbrev pub needed_for : ℕ → List Entry → Option Opening → Bool
needed_for job book None = false
needed_for job book (Some o) = not (has_ended o.ask.flight book) && is_by job (last_holding o.ask.flight book)

-- a closed job's ticket is needed while what the job recorded is the last that was recorded of the flight, which hasn't ended: the
-- flight's reference at the discovery service cites it
unfoldable pub is_ticket_needed : ℕ → List Entry → Bool
is_ticket_needed job book = needed_for job book (opening_of job book)

abbrev pub owed_at_end : Ending → List Subscriber
owed_at_end (Conflict flight manager rule) = []
owed_at_end (Stale missing) = []
owed_at_end Cancelled = []
owed_at_end (Ended owed) = owed

abbrev pub owed_by : Option Holding → Option Closing → List Subscriber
owed_by (Some h) d = h.owed
owed_by None (Some d) = owed_at_end d.end
owed_by None None = []

-- whom a closed job is to notify
unfoldable pub owed_of : ℕ → List Entry → List Subscriber
owed_of job book = owed_by (holding_of job book) (ending_of job book)

-- the notification was answered
unfoldable pub is_sent : ℕ → ℕ → List Entry → Bool
is_sent job index book = list_any (λ t. (t.job == job) && (t.index == index)) (sendings book)

-- the places of the notifications that a job owes and that weren't answered, ascending
unfoldable pub unsent : ℕ → List Entry → List ℕ
unsent job book = filter (λ index. not (is_sent job index book)) (range_with_len 0 (length (owed_of job book)))

-- a closed job's ticket is there, as far as was heard
abbrev pub keeps_ticket : ℕ → List Entry → Bool
keeps_ticket job book = is_closed job book && (is_ticket_open job book && not (is_ticket_gone job book))

-- a closed job's ticket is to be taken out
abbrev pub is_ticket_due : ℕ → List Entry → Bool
is_ticket_due job book = keeps_ticket job book && not (is_ticket_needed job book)
