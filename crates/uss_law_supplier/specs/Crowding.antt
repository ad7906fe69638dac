-- Which plans are crowded out. This project's own.
use Rattle.std.specs.Prelude.{ℕ, ◌<◌, ◌≡◌, ◌↔◌, ℤ, true, false, List, length, Some}
use Rattle.uss_intent.specs.declared.records.Reference.{Reference}
use Rattle.uss_intent.specs.declared.calls.DssReply.TheVariants as Replies
use Rattle.uss_event.specs.declared.entries.Owner.{Owner}
use Rattle.uss_event.specs.declared.entries.Entry.{Entry}
use Rattle.uss_event.specs.declared.calls.DssCall.{DssCall}
use Rattle.uss_event.specs.declared.calls.Outgoing.TheVariants as Goes
use Rattle.uss_event.specs.declared.events.Answer.TheVariants as Answers
use Rattle.uss_event.specs.declared.events.Said.TheVariants as Says
use Rattle.uss_event.specs.declared.events.Event.TheVariants as Comes
use Rattle.uss_law_dss.specs.Fits.{fits}
use Rattle.uss_event.specs.declared.entries.Opening.{Opening}
use Rattle.uss_law_book.specs.Contents.{opening_of, is_closed}
use Rattle.uss_law_duty.specs.Answers.{flight_of}
use Rattle.uss_law_duty.specs.Sayings.{most_looked_at, others}
use Rattle.uss_law_supplier.specs.Values.{Values, awaited_of}
use Rattle.uss_law_supplier.specs.Jobs.{keeps_key}
use Rattle.uss_law_supplier.specs.Step.{supplier_step}
use Rattle.uss_law_supplier.specs.Laws.{IsSound}

-- an open job that is held against others waits for this call, to which this is a fitting reply: what it asked is found
pub record Finds (book : List Entry) (values : Values) (call : DssCall) (references : List Reference) (o : Opening) : Type 0 where
  pub opened : opening_of call.job book ≡ Some o
  pub unclosed : is_closed o.job book ≡ false
  pub keyed : keeps_key o.ask.wish ≡ true
  pub waits : awaited_of o.job values ≡ Some (Goes.Dss call)
  pub fitting : fits call.ask (Replies.Found references) ≡ true

-- it says that it is crowded out, by so many, exactly where so many are of other flights and those are more than a plan looks at
abbrev pub CrowdedExactly : Type 0
CrowdedExactly =
    (owner : Owner) (book : List Entry) (values : Values) (moment : ℤ) (call : DssCall) (references : List Reference) (o : Opening)
    (count : ℕ) → IsSound owner book values → Finds book values call references o
    → ((supplier_step owner book values moment (Comes.Dss call (Replies.Found references))).said ≡ Says.Answer (Answers.Crowded count)
    ↔ (count ≡ length (others (flight_of owner o) references)) × (most_looked_at < count))
