-- What holds of the steps of a supplier.
use Rattle.std.specs.Prelude.{◌≡◌, ℤ, List, Some}
use Rattle.uss_event.specs.declared.entries.Owner.{Owner}
use Rattle.uss_event.specs.declared.entries.Entry.{Entry}
use Rattle.uss_event.specs.declared.events.Event.{Event}
use Rattle.uss_law_book.specs.Lists.{owner_of}
use Rattle.uss_law_book.specs.Legal.{IsLegal}
use Rattle.uss_law_duty.specs.Duties.{book_after, MayStep, clamped}
use Rattle.uss_law_supplier.specs.Values.{Values}
use Rattle.uss_law_supplier.specs.Turns.{Turn}
use Rattle.uss_law_supplier.specs.Fitting.{IsFit}
use Rattle.uss_law_supplier.specs.Typed.{IsEvent, IsHeard}
use Rattle.uss_law_supplier.specs.Step.{supplier_step}

-- the supplier's book is legal and its own, what it keeps beside the book fits, and what it heard is of its types
pub record IsSound (owner : Owner) (book : List Entry) (values : Values) : Type 0 where
  pub owned : owner_of book ≡ Some owner
  pub legal : IsLegal book
  pub fit : IsFit owner book values
  pub heard : IsHeard values.heard

-- the step is one that the duties allow
abbrev pub IsAllowed : List Entry → Values → ℤ → Event → Turn → Type 0
IsAllowed book values moment event t = MayStep book values.heard (clamped moment) event t.entry t.sends t.said t.values.heard

-- each step keeps the duties, and what is kept beside the book fits again
abbrev pub StepsKeepDuties : Type 0
StepsKeepDuties =
    (owner : Owner) (book : List Entry) (values : Values) (moment : ℤ) (event : Event) → IsSound owner book values → IsEvent event
    → IsAllowed book values moment event (supplier_step owner book values moment event)

abbrev pub StepsStaySound : Type 0
StepsStaySound =
    (owner : Owner) (book : List Entry) (values : Values) (moment : ℤ) (event : Event) → IsSound owner book values → IsEvent event
    → IsSound owner (book_after book (supplier_step owner book values moment event).entry) (supplier_step owner book values moment event).values
