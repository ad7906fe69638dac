-- By what an entry is looked up. This project's own.
use Rattle.std.specs.Prelude.{Bool}
use Rattle.uss_event.specs.declared.entries.Entry.{Entry}
use Rattle.uss_event.specs.declared.entries.Entry.TheVariants as Enters
use Rattle.uss_book_index.specs.declared.marks.Mark.{Mark}
use Rattle.uss_book_index.specs.declared.marks.Mark.TheVariants as Marks
use Rattle.uss_law_book.specs.Legal.{is_owner}
use Rattle.uss_book_rules.specs.Speaks.{opens, has_ticket, tries, records, decides, ends, retires, sends}

abbrev pub mark_of : Entry → Mark
mark_of (Enters.Owner owner) = Marks.Owner
mark_of (Enters.Opened o) = Marks.Opened o.job
mark_of (Enters.TicketOpen job) = Marks.TicketOpen job
mark_of (Enters.Pending t) = Marks.Pending t.tag
mark_of (Enters.Held h) = Marks.Held h.job
mark_of (Enters.Deciding d) = Marks.Deciding d.job
mark_of (Enters.Done d) = Marks.Done d.job
mark_of (Enters.TicketGone job) = Marks.TicketGone job
mark_of (Enters.Sent n) = Marks.Sent n.job n.index

-- the entry has the mark
abbrev pub has_mark : Mark → Entry → Bool
has_mark Marks.Owner = is_owner
has_mark (Marks.Opened job) = opens job
has_mark (Marks.TicketOpen job) = has_ticket job
has_mark (Marks.Pending tag) = tries tag
has_mark (Marks.Held job) = records job
has_mark (Marks.Deciding job) = decides job
has_mark (Marks.Done job) = ends job
has_mark (Marks.TicketGone job) = retires job
has_mark (Marks.Sent job index) = sends job index
