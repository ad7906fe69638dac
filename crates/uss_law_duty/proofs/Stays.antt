-- An allowed step leaves a legal book.
use Rattle.std.proofs.Common.{ℤ, [], List, Option, Some, None, IfSome}
use Rattle.uss_event.specs.declared.entries.Entry.{Entry}
use Rattle.uss_event.specs.declared.calls.Outgoing.{Outgoing}
use Rattle.uss_event.specs.declared.events.Said.{Said}
use Rattle.uss_event.specs.declared.events.Event.{Event}
use Rattle.uss_law_book.specs.Legal.{MayFollow, IsLegal}
use Rattle.uss_law_book.proofs.EachOrderly.{legal_longer}
use Rattle.uss_event.specs.Heard.{News}
use Rattle.uss_law_duty.specs.Duties.{book_after, MayStep}

legal_after : (book : List Entry) (entry : Option Entry) → IsLegal book → IfSome entry (MayFollow book) → IsLegal (book_after book entry)
legal_after book None l m = l
legal_after book (Some e) l m = legal_longer [] book e l m

pub step_is_legal : (book : List Entry) (heard : List News) (moment : ℤ) (event : Event) (entry : Option Entry) (sends : List Outgoing) (said : Said) (after : List News)
    → IsLegal book → MayStep book heard moment event entry sends said after → IsLegal (book_after book entry)
step_is_legal book heard moment event entry sends said after l s = legal_after book entry l s.acts.legal
