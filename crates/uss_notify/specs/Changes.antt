-- What the entries of a book say of the chores of closed jobs, entry by entry. This project's own.
use Rattle.std.specs.Prelude.{true, false, List, [], ◌∷◌, ◌++◌, length, Option, Some, None, is_some}
use Rattle.std.specs.Option.{option_map, option_to_list}
use Rattle.uss_event.specs.declared.entries.Closing.{Closing}
use Rattle.uss_event.specs.declared.entries.Entry.{Entry}
use Rattle.uss_event.specs.declared.entries.Entry.TheVariants as Enters
use Rattle.uss_event.specs.declared.entries.Holding.{Holding}
use Rattle.uss_event.specs.declared.entries.Opening.{Opening}
use Rattle.uss_law_book.specs.Contents.{opening_of, decision_of, is_ended, owed_at_end}
use Rattle.uss_notify.specs.declared.changes.NoticeChange.{NoticeChange}
use Rattle.uss_notify.specs.declared.changes.NoticeChange.TheVariants.{TicketOpened, Closed, Gone, Sent}

-- the job recorded something: its ticket stays for now
abbrev pub landing : Holding → Opening → NoticeChange
landing h o = Closed h.job o.ask.flight true false false (length h.owed)

-- the job ended otherwise, and with it the flight or not; after a decision its ticket is gone
abbrev pub closing : List Entry → Closing → Opening → NoticeChange
closing before d o = Closed d.job o.ask.flight false (is_ended d.end) (is_some (decision_of d.job before)) (length (owed_at_end d.end))

-- what the entry says, after these entries; most say nothing
abbrev pub change_of : List Entry → Entry → Option NoticeChange
change_of before (Enters.TicketOpen job) = Some (TicketOpened job)
change_of before (Enters.Held h) = option_map (landing h) (opening_of h.job before)
change_of before (Enters.Done d) = option_map (closing before d) (opening_of d.job before)
change_of before (Enters.TicketGone job) = Some (Gone job)
change_of before (Enters.Sent n) = Some (Sent n.job n.index)
change_of before _ = None

-- what these entries say, after those
abbrev pub changes_from : List Entry → List Entry → List NoticeChange
changes_from before [] = []
changes_from before (e ∷ es) = option_to_list (change_of before e) ++ changes_from (before ++ e ∷ []) es

-- what the entries of a book say, the oldest first
abbrev pub changes_of : List Entry → List NoticeChange
changes_of book = changes_from [] book
