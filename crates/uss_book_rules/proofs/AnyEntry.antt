-- The whole test of an entry says the same as the law of the book.
use Rattle.std.proofs.Common.{Bool, true, false, cond, not, List, ◌≡◌, refl}
use Rattle.std.proofs.lemmas.Bool.{and_parts, and_from}
use Rattle.uss_event.specs.declared.entries.Entry.{Entry}
use Rattle.uss_event.specs.declared.entries.Entry.TheVariants.{Opened, TicketOpen, Pending, Held, Deciding, Done, TicketGone, Sent}
use Rattle.uss_event.specs.declared.entries.Entry.TheVariants as Enters
use Rattle.uss_law_book.specs.Legal.{IsDue, is_owner, is_new}
use Rattle.uss_book_rules.specs.Next.{is_placed, is_allowed, is_due}
use Rattle.uss_book_rules.proofs.Tested.{open_from, open_true, open_ticket_from, open_ticket_true, try_from, try_true, hold_from, hold_true, decide_from, decide_true, retire_from, retire_true, send_from, send_true}
use Rattle.uss_book_rules.proofs.Ended.{end_from, end_true}

same_from : (a b : Bool) → cond a b (not b) ≡ true → a ≡ b
same_from true true h = refl
same_from true false h = cc
same_from false true h = cc
same_from false false h = refl

same_true : (a b : Bool) → a ≡ b → cond a b (not b) ≡ true
same_true true true e = refl
same_true true false e = cc
same_true false true e = cc
same_true false false e = refl

allowed_from : (es : List Entry) (e : Entry) → is_allowed es e ≡ true → IsDue es e
allowed_from es (Enters.Owner owner) h = tt
allowed_from es (Opened o) h = open_from es o.job o.ask h
allowed_from es (TicketOpen job) h = open_ticket_from es job h
allowed_from es (Pending t) h = try_from es t.job t.tag t.alternative t.previous t.key h
allowed_from es (Held holding) h = hold_from es holding.job holding.tag h
allowed_from es (Deciding d) h = decide_from es d.job d.end h
allowed_from es (Done d) h = end_from es d.job d.end h
allowed_from es (TicketGone job) h = retire_from es job h
allowed_from es (Sent n) h = send_from es n.job n.index h

allowed_true : (es : List Entry) (e : Entry) → IsDue es e → is_allowed es e ≡ true
allowed_true es (Enters.Owner owner) h = refl
allowed_true es (Opened o) h = open_true es o.job o.ask h
allowed_true es (TicketOpen job) h = open_ticket_true es job h
allowed_true es (Pending t) h = try_true es t.job t.tag t.alternative t.previous t.key h
allowed_true es (Held holding) h = hold_true es holding.job holding.tag h
allowed_true es (Deciding d) h = decide_true es d.job d.end h
allowed_true es (Done d) h = end_true es d.job d.end h
allowed_true es (TicketGone job) h = retire_true es job h
allowed_true es (Sent n) h = send_true es n.job n.index h

pub due_from : (es : List Entry) (e : Entry) → is_due es e ≡ true → (is_owner e ≡ is_new es) × IsDue es e
unfolding is_due
due_from es e h = let p = and_parts (is_placed es e) (is_allowed es e) h in (same_from (is_owner e) (is_new es) p.0, allowed_from es e p.1)

pub due_true : (es : List Entry) (e : Entry) → (is_owner e ≡ is_new es) × IsDue es e → is_due es e ≡ true
unfolding is_due
due_true es e h = and_from (is_placed es e) (is_allowed es e) (same_true (is_owner e) (is_new es) h.0) (allowed_true es e h.1)
