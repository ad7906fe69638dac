use Rattle.std.proofs.Common.{◌≡◌, ◌∙◌, ◌&&◌, not, ap, refl, is_some}
use Rattle.std.specs.List.{list_any}
use Rattle.uss_book_index.specs.Marks.{has_mark}
use Rattle.uss_book_index.specs.declared.marks.Mark.TheVariants as Marks
use Rattle.uss_law_book.specs.Contents.{is_ticket_open, decision_of}
use Rattle.uss_book_rules.proofs.Direct.{ticket_by_any}
use Rattle.uss_law_book.specs.Changes.{for_ticket}
use Rattle.uss_book_index.proofs.Sent.{decided_by_any}
use Rattle.uss_book_index.proofs.reserve.taken.Goals as goal

pub returns-in-Held-clause-value : goal.returns-in-Held-clause-value
returns-in-Held-clause-value c =
    let es = c.args.entries.now in
    let job = c.in-Held.holding.job in
    let h : c.has-there.result ≡ list_any (has_mark (Marks.TicketOpen job)) es = c.has-there.ensures c.requires.index in
    let t : c.has-there.result ≡ is_ticket_open job es = h ∙ ticket_by_any job es in
    let f : c.for_ticket.result ≡ for_ticket (is_ticket_open job es) = c.for_ticket.ensures.value ∙ ap for_ticket t in
    rw (c.in-Held.is, c.len.ensures, f) refl

pub returns-in-Done-clause-value : goal.returns-in-Done-clause-value
returns-in-Done-clause-value c =
    let es = c.args.entries.now in
    let job = c.in-Done.ending.job in
    let h : c.has-there-in-Done.result ≡ list_any (has_mark (Marks.TicketOpen job)) es = c.has-there-in-Done.ensures c.requires.index in
    let t : c.has-there-in-Done.result ≡ is_ticket_open job es = h ∙ ticket_by_any job es in
    let k : c.has-decided.result ≡ list_any (has_mark (Marks.Deciding job)) es = c.has-decided.ensures c.requires.index in
    let d : c.has-decided.result ≡ is_some (decision_of job es) = k ∙ decided_by_any job es in
    let f : c.for_kept_ticket.result ≡ for_ticket (is_ticket_open job es && not (is_some (decision_of job es))) =
    c.for_kept_ticket.ensures.value ∙ ap (λ b. for_ticket (b && not c.has-decided.result)) t ∙ ap (λ b. for_ticket (is_ticket_open job es && not b)) d in
    rw (c.in-Done.is, c.owed_at_end.ensures, f) refl
