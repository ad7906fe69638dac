-- The chores after the changes that were heard. Each is a filter or a look-up in their list. This project's own.
use Rattle.std.specs.Prelude.{ℕ, Bool, false, not, ◌&&◌, ◌==◌, nat_lt, List, [], ◌∷◌, ◌++◌, map, filter, flat_map, Option, Some, None, is_some, if◌then◌else◌}
use Rattle.std.specs.List.{list_any, range_with_len}
use Rattle.std.specs.Option.{option_or}
use Rattle.uss_law_supplier.specs.declared.duties.Chore.{Chore}
use Rattle.uss_law_supplier.specs.declared.duties.Chore.TheVariants.{Notify, Retire}
use Rattle.uss_notify.specs.declared.changes.NoticeChange.{NoticeChange}
use Rattle.uss_notify.specs.declared.changes.NoticeChange.TheVariants.{TicketOpened, Closed, Gone, Sent}

-- the flight of the job, where the change closes it
abbrev pub flight_in : ℕ → NoticeChange → Option ℕ
flight_in job (Closed j flight landed ended gone owed) = if j == job then Some flight else None
flight_in job _ = None

-- the flight of a closed job
abbrev pub flight_of : ℕ → List NoticeChange → Option ℕ
flight_of job [] = None
flight_of job (c ∷ cs) = option_or (flight_in job c) (flight_of job cs)

-- the job is closed
abbrev pub is_closed : ℕ → List NoticeChange → Bool
is_closed job cs = is_some (flight_of job cs)

-- how many notifications the job owes, where the change closes it
abbrev pub owed_in : ℕ → NoticeChange → Option ℕ
owed_in job (Closed j flight landed ended gone owed) = if j == job then Some owed else None
owed_in job _ = None

-- how many notifications the job owes, if it is closed
abbrev pub owes : ℕ → List NoticeChange → Option ℕ
owes job [] = None
owes job (c ∷ cs) = option_or (owed_in job c) (owes job cs)

abbrev pub or_zero : Option ℕ → ℕ
or_zero None = 0
or_zero (Some owed) = owed

-- how many notifications the job owes: none while it is open
abbrev pub owed_of : ℕ → List NoticeChange → ℕ
owed_of job cs = or_zero (owes job cs)

abbrev pub says_sent : ℕ → ℕ → NoticeChange → Bool
says_sent job index (Sent j p) = (j == job) && (p == index)
says_sent job index _ = false

-- the notification was answered
abbrev pub is_sent : ℕ → ℕ → List NoticeChange → Bool
is_sent job index cs = list_any (says_sent job index) cs

-- the notifications that the job owes and that weren't answered, ascending
abbrev pub unsent : ℕ → List NoticeChange → List ℕ
unsent job cs = filter (λ index. not (is_sent job index cs)) (range_with_len 0 (owed_of job cs))

abbrev pub opens_ticket : ℕ → NoticeChange → Bool
opens_ticket job (TicketOpened j) = j == job
opens_ticket job _ = false

-- the job's ticket was heard to be there
abbrev pub has_ticket : ℕ → List NoticeChange → Bool
has_ticket job cs = list_any (opens_ticket job) cs

abbrev pub takes_ticket : ℕ → NoticeChange → Bool
takes_ticket job (Closed j flight landed ended gone owed) = (j == job) && gone
takes_ticket job (Gone j) = j == job
takes_ticket job _ = false

-- the job's ticket was heard as gone
abbrev pub is_gone : ℕ → List NoticeChange → Bool
is_gone job cs = list_any (takes_ticket job) cs

abbrev pub ends : ℕ → NoticeChange → Bool
ends flight (Closed j f landed ended gone owed) = ended && (f == flight)
ends flight _ = false

-- the flight has ended
abbrev pub has_ended : ℕ → List NoticeChange → Bool
has_ended flight cs = list_any (ends flight) cs

-- the job that recorded something of the flight with this change
abbrev pub landed_in : ℕ → NoticeChange → Option ℕ
landed_in flight (Closed j f landed ended gone owed) = if landed && (f == flight) then Some j else None
landed_in flight _ = None

-- the job that was the last to record something of the flight
abbrev pub last_landed : ℕ → List NoticeChange → Option ℕ
last_landed flight [] = None
last_landed flight (c ∷ cs) = option_or (last_landed flight cs) (landed_in flight c)

abbrev pub is_it : ℕ → Option ℕ → Bool
is_it job None = false
is_it job (Some j) = j == job

abbrev pub is_needed_for : ℕ → List NoticeChange → Option ℕ → Bool
is_needed_for job cs None = false
is_needed_for job cs (Some flight) = not (has_ended flight cs) && is_it job (last_landed flight cs)

-- the ticket of a closed job is needed while the job is the last that recorded something of its flight, which hasn't ended
abbrev pub is_needed : ℕ → List NoticeChange → Bool
is_needed job cs = is_needed_for job cs (flight_of job cs)

-- the job is closed, and its ticket is there as far as was heard
abbrev pub keeps_ticket : ℕ → List NoticeChange → Bool
keeps_ticket job cs = is_closed job cs && (has_ticket job cs && not (is_gone job cs))

-- its ticket is to be taken out
abbrev pub is_due : List NoticeChange → ℕ → Bool
is_due cs job = keeps_ticket job cs && not (is_needed job cs)

abbrev pub greater : ℕ → ℕ → ℕ
greater a b = if nat_lt a b then b else a

-- the greatest number of a closed job
abbrev pub last_job : List NoticeChange → ℕ
last_job [] = 0
last_job (Closed j flight landed ended gone owed ∷ cs) = greater j (last_job cs)
last_job (_ ∷ cs) = last_job cs

-- the numbers of jobs up to the last that is closed
abbrev pub jobs : List NoticeChange → List ℕ
jobs cs = range_with_len 1 (last_job cs)

abbrev pub notifications_of : List NoticeChange → ℕ → List Chore
notifications_of cs job = map (Notify job) (unsent job cs)

-- the chores: first the notifications that are owed and weren't answered, by job and index, and then the tickets to be taken out, by job
unfoldable pub chores_after : List NoticeChange → List Chore
chores_after cs = flat_map (notifications_of cs) (jobs cs) ++ map Retire (filter (is_due cs) (jobs cs))
