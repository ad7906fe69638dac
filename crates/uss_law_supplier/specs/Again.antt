-- What comes of a request that was answered already. This project's own.
use Rattle.std.specs.Prelude.{ℕ, ◌≡◌, ℤ, true, List, Some, None}
use Rattle.uss_event.specs.Same.{differing}
use Rattle.uss_event.specs.declared.asks.FlightAsk.{FlightAsk}
use Rattle.uss_event.specs.declared.entries.Owner.{Owner}
use Rattle.uss_event.specs.declared.entries.Entry.{Entry}
use Rattle.uss_event.specs.declared.events.Event.TheVariants as Comes
use Rattle.uss_event.specs.declared.entries.Opening.{Opening}
use Rattle.uss_law_book.specs.Contents.{is_closed, last_of}
use Rattle.uss_law_duty.specs.Answers.{kept_answer}
use Rattle.uss_law_supplier.specs.Values.{Values}
use Rattle.uss_law_supplier.specs.Turns.{saying, said_of}
use Rattle.uss_law_supplier.specs.Asks.{plan_refusal}
use Rattle.uss_law_supplier.specs.Step.{supplier_step}

-- the request has the number and the wish of the flight's last one, whose job is closed
pub record IsAnswered (book : List Entry) (ask : FlightAsk) (o : Opening) : Type 0 where
  pub last : last_of ask.flight book ≡ Some o
  pub number : ask.number ≡ o.ask.number
  pub wish : differing o.ask.wish ask.wish ≡ None
  pub closed : is_closed o.job book ≡ true

-- repeated, it gets the answer that the book keeps, and that is all that comes of it; so does its cancel
abbrev pub RepeatsAreAnswered : Type 0
RepeatsAreAnswered =
    (owner : Owner) (book : List Entry) (values : Values) (moment : ℤ) (ask : FlightAsk) (o : Opening) → plan_refusal ask.wish ≡ None
    → IsAnswered book ask o → supplier_step owner book values moment (Comes.Ask ask) ≡ saying values (said_of (kept_answer owner o book))

abbrev pub LateCancelsAreAnswered : Type 0
LateCancelsAreAnswered =
    (owner : Owner) (book : List Entry) (values : Values) (moment : ℤ) (flight : ℕ) (o : Opening) → last_of flight book ≡ Some o
    → is_closed o.job book ≡ true
    → supplier_step owner book values moment (Comes.Cancel flight o.ask.number) ≡ saying values (said_of (kept_answer owner o book))
