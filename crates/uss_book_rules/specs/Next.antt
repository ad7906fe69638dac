-- Whether an entry is due after others, whatever its kind, as a test. That it has a coding and that there is room for it is more than
-- this. This project's own.
use Rattle.std.specs.Prelude.{Bool, true, not, ◌&&◌, List, if◌then◌else◌}
use Rattle.uss_event.specs.declared.entries.Entry.{Entry}
use Rattle.uss_event.specs.declared.entries.Entry.TheVariants.{Opened, TicketOpen, Pending, Held, Deciding, Done, TicketGone, Sent}
use Rattle.uss_event.specs.declared.entries.Entry.TheVariants as Enters
use Rattle.uss_law_book.specs.Legal.{is_owner, is_new}
use Rattle.uss_book_rules.specs.Due.{may_open, may_open_ticket, may_try, may_hold, may_decide, may_retire, may_send}
use Rattle.uss_book_rules.specs.Ends.{may_end}

-- the first entry says whose book it is, and no other does
abbrev pub is_placed : List Entry → Entry → Bool
is_placed es e = if is_owner e then is_new es else not (is_new es)

-- by its kind
abbrev pub is_allowed : List Entry → Entry → Bool
is_allowed es (Enters.Owner owner) = true
is_allowed es (Opened o) = may_open es o.job o.ask
is_allowed es (TicketOpen job) = may_open_ticket es job
is_allowed es (Pending t) = may_try es t.job t.tag t.alternative t.previous t.key
is_allowed es (Held h) = may_hold es h.job h.tag
is_allowed es (Deciding d) = may_decide es d.job d.end
is_allowed es (Done d) = may_end es d.job d.end
is_allowed es (TicketGone job) = may_retire es job
is_allowed es (Sent n) = may_send es n.job n.index

unfoldable pub is_due : List Entry → Entry → Bool
is_due es e = is_placed es e && is_allowed es e
