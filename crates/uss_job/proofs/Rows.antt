-- A reply without a row in the table makes a job resume.
use Rattle.std.proofs.Common.{◌≡◌, false, refl, Option, Some, None}
use Rattle.uss_law_supplier.specs.declared.duties.Awaited.{Awaited}
use Rattle.uss_law_supplier.specs.declared.duties.Awaited.TheVariants as Waits
use Rattle.uss_law_supplier.specs.declared.duties.Heard.{Heard}
use Rattle.uss_law_supplier.specs.declared.duties.Heard.TheVariants as Hears
use Rattle.uss_law_supplier.specs.declared.duties.JobView.{JobView}
use Rattle.uss_law_supplier.specs.declared.duties.Duty.TheVariants.{Call}
use Rattle.uss_law_supplier.specs.Table.{again_or, by_book, on_heard, on_reply, resume, when_awaited}
use Rattle.uss_job.specs.Rows.{has_row, is_answer}

no_answer : (v : JobView) (kind : Awaited) (heard : Heard) → is_answer kind heard ≡ false → on_heard v kind heard ≡ Call kind
no_answer v Waits.TicketPut Hears.Made h = cc
no_answer v Waits.TicketPut (Hears.Found others unheard) h = refl
no_answer v Waits.TicketPut (Hears.Answered unheard) h = refl
no_answer v Waits.TicketPut (Hears.Status status) h = refl
no_answer v Waits.TicketPut Hears.Landed h = refl
no_answer v Waits.TicketPut (Hears.Got own) h = refl
no_answer v Waits.TicketPut Hears.Removed h = refl
no_answer v Waits.TicketPut (Hears.Refused number) h = cc
no_answer v Waits.Query Hears.Made h = refl
no_answer v Waits.Query (Hears.Found others unheard) h = cc
no_answer v Waits.Query (Hears.Answered unheard) h = refl
no_answer v Waits.Query (Hears.Status status) h = refl
no_answer v Waits.Query Hears.Landed h = refl
no_answer v Waits.Query (Hears.Got own) h = refl
no_answer v Waits.Query Hears.Removed h = refl
no_answer v Waits.Query (Hears.Refused number) h = cc
no_answer v Waits.Details Hears.Made h = refl
no_answer v Waits.Details (Hears.Found others unheard) h = refl
no_answer v Waits.Details (Hears.Answered unheard) h = cc
no_answer v Waits.Details (Hears.Status status) h = cc
no_answer v Waits.Details Hears.Landed h = refl
no_answer v Waits.Details (Hears.Got own) h = refl
no_answer v Waits.Details Hears.Removed h = refl
no_answer v Waits.Details (Hears.Refused number) h = cc
no_answer v Waits.Put Hears.Made h = refl
no_answer v Waits.Put (Hears.Found others unheard) h = refl
no_answer v Waits.Put (Hears.Answered unheard) h = refl
no_answer v Waits.Put (Hears.Status status) h = refl
no_answer v Waits.Put Hears.Landed h = cc
no_answer v Waits.Put (Hears.Got own) h = refl
no_answer v Waits.Put Hears.Removed h = refl
no_answer v Waits.Put (Hears.Refused number) h = cc
no_answer v Waits.Get Hears.Made h = refl
no_answer v Waits.Get (Hears.Found others unheard) h = refl
no_answer v Waits.Get (Hears.Answered unheard) h = refl
no_answer v Waits.Get (Hears.Status status) h = refl
no_answer v Waits.Get Hears.Landed h = refl
no_answer v Waits.Get (Hears.Got own) h = cc
no_answer v Waits.Get Hears.Removed h = refl
no_answer v Waits.Get (Hears.Refused number) h = cc
no_answer v Waits.TicketRemove Hears.Made h = refl
no_answer v Waits.TicketRemove (Hears.Found others unheard) h = refl
no_answer v Waits.TicketRemove (Hears.Answered unheard) h = refl
no_answer v Waits.TicketRemove (Hears.Status status) h = refl
no_answer v Waits.TicketRemove Hears.Landed h = refl
no_answer v Waits.TicketRemove (Hears.Got own) h = refl
no_answer v Waits.TicketRemove Hears.Removed h = cc
no_answer v Waits.TicketRemove (Hears.Refused number) h = cc
no_answer v Waits.Remove Hears.Made h = refl
no_answer v Waits.Remove (Hears.Found others unheard) h = refl
no_answer v Waits.Remove (Hears.Answered unheard) h = refl
no_answer v Waits.Remove (Hears.Status status) h = refl
no_answer v Waits.Remove Hears.Landed h = refl
no_answer v Waits.Remove (Hears.Got own) h = refl
no_answer v Waits.Remove Hears.Removed h = cc
no_answer v Waits.Remove (Hears.Refused number) h = cc

pub no_row_resumes : (v : JobView) (heard : Heard) → has_row v.awaited heard ≡ false → on_reply v heard ≡ resume v
no_row_resumes v heard h = go v.awaited h
  where
    go : (waits : Option Awaited) → has_row waits heard ≡ false → when_awaited v heard waits ≡ again_or waits (by_book v)
    go None h = refl
    go (Some kind) h = no_answer v kind heard h
