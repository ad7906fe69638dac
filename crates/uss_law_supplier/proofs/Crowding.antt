-- A plan is crowded out exactly where its query found too much.
use Rattle.std.proofs.Common.{ℕ, ◌<◌, Bool, true, cond, ◌&&◌, List, length, ◌≡◌, refl, ap, sym, subst, ◌∙◌, Option, Some}
use Rattle.std.specs.Option.{option_and_then}
use Rattle.uss_intent.specs.SameLaws.{ask_is_same}
use Rattle.uss_intent.specs.declared.records.Reference.{Reference}
use Rattle.uss_intent.specs.declared.calls.DssAsk.{DssAsk}
use Rattle.uss_intent.specs.declared.calls.DssAsk.TheVariants as Asks
use Rattle.uss_intent.specs.declared.calls.DssReply.TheVariants as Replies
use Rattle.uss_event.specs.Same.{same_call}
use Rattle.uss_event.specs.declared.entries.Owner.{Owner}
use Rattle.uss_event.specs.declared.calls.DssCall.{DssCall}
use Rattle.uss_event.specs.declared.calls.Outgoing.TheVariants as Goes
use Rattle.uss_event.specs.declared.events.Answer.TheVariants as Answers
use Rattle.uss_event.specs.declared.events.Said.TheVariants as Says
use Rattle.uss_event.specs.declared.events.Event.TheVariants as Comes
use Rattle.uss_law_dss.specs.Fits.{fits}
use Rattle.uss_law_dss.proofs.Tests.{equal_number, some_same, less_test}
use Rattle.uss_event.specs.declared.entries.Opening.{Opening}
use Rattle.uss_law_duty.specs.Answers.{flight_of}
use Rattle.uss_law_duty.specs.Duties.{clamped}
use Rattle.uss_law_duty.specs.Sayings.{most_looked_at, others, SayingHasCause}
use Rattle.uss_law_supplier.specs.declared.duties.Awaited.{Awaited}
use Rattle.uss_law_supplier.specs.declared.duties.Awaited.TheVariants as Waits
use Rattle.uss_law_supplier.specs.declared.duties.Duty.TheVariants as Duties
use Rattle.uss_law_supplier.specs.Values.{awaited_of, round_of, round_with, in_round}
use Rattle.uss_law_supplier.specs.Turns.{Standing, Turn}
use Rattle.uss_law_supplier.specs.Airspace.{is_left}
use Rattle.uss_law_supplier.specs.Table.{on_found, next_or_choice, when_awaited}
use Rattle.uss_law_supplier.specs.Calls.{kind_of, kind_of_ask, is_it}
use Rattle.uss_law_supplier.specs.Jobs.{view_of, heard_of_dss, with_values, carry_out, open_by_dss}
use Rattle.uss_law_supplier.specs.Replies.{of_job_by_dss, replied_to, replied}
use Rattle.uss_law_supplier.specs.Step.{supplier_step}
use Rattle.uss_law_supplier.specs.Crowding.{Finds, CrowdedExactly}
use Rattle.uss_law_supplier.proofs.Waits.{round_awaited}
use Rattle.uss_law_supplier.proofs.Law.{steps_keep_duties}

-- a call is itself
same_as_itself : (call : DssCall) → same_call (Goes.Dss call) (Goes.Dss call) ≡ true
same_as_itself call = rw (equal_number call.job call.job refl, (ask_is_same call.ask call.ask).1 refl) refl

-- a call to which what was found is a fitting reply is a query
is_query : (ask : DssAsk) (references : List Reference) → fits ask (Replies.Found references) ≡ true → kind_of_ask ask ≡ Some Waits.Query
is_query (Asks.Query area) references h = refl
is_query _ references h = cc

abbrev count_of : Standing → Opening → List Reference → ℕ
count_of s o references = length (others (flight_of s.owner o) references)

both_true : (a b : Bool) → a ≡ true → b ≡ true → (a && b) ≡ true
both_true a b h k = rw (h, k) refl

-- the step goes by the table
finds_so : (s : Standing) (call : DssCall) (references : List Reference) (o : Opening) → Finds s.book s.values call references o
    → replied s call (Replies.Found references)
    ≡ (let t = with_values s (in_round o.job (round_with (others (flight_of s.owner o) references)) s.values) in
    carry_out t o (Replies.Found references) (on_found true (count_of s o references) (is_left s.owner t.values.heard (round_of o.job t.values))))
unfolding view_of
finds_so s call references o f =
    let reply = Replies.Found references in
    let round = round_with (others (flight_of s.owner o) references) in
    let t = with_values s (in_round o.job round s.values) in
    let it : is_it (Goes.Dss call) (awaited_of o.job s.values) ≡ true = ap (is_it (Goes.Dss call)) f.waits ∙ same_as_itself call in
    let k : option_and_then kind_of (awaited_of o.job t.values) ≡ Some Waits.Query = (
    ap (option_and_then kind_of) (round_awaited o.job round s.values ∙ f.waits) ∙ is_query call.ask references f.fitting) in
    ap (λ (x : Option Opening). replied_to s call reply x) f.opened
    ∙ ap (λ (x : Bool). of_job_by_dss s o call reply x) f.unclosed
    ∙ ap (λ (x : Bool). open_by_dss s o reply x) (both_true (fits call.ask reply) (is_it (Goes.Dss call) (awaited_of o.job s.values)) f.fitting it)
    ∙ ap (λ (x : Option Awaited). carry_out t o reply (when_awaited (view_of t o) (heard_of_dss t o reply) x)) k
    ∙ ap (λ (x : Bool). carry_out t o reply (on_found x (count_of s o references) (is_left s.owner t.values.heard (round_of o.job t.values)))) f.keyed

crowded : (s : Standing) (call : DssCall) (references : List Reference) (o : Opening) → Finds s.book s.values call references o → most_looked_at < count_of s o references
    → (replied s call (Replies.Found references)).said ≡ Says.Answer (Answers.Crowded (count_of s o references))
crowded s call references o f many =
    let t = with_values s (in_round o.job (round_with (others (flight_of s.owner o) references)) s.values) in
    let next = next_or_choice (is_left s.owner t.values.heard (round_of o.job t.values)) in
    ap (λ (x : Turn). x.said) (finds_so s call references o f)
    ∙ ap (λ (b : Bool). (carry_out t o (Replies.Found references) (cond b Duties.Crowded next)).said) (less_test most_looked_at (count_of s o references) many)

same_found : (a b : List Reference) → Replies.Found a ≡ Replies.Found b → a ≡ b
same_found a b e = cc

pub crowded_exactly : CrowdedExactly
crowded_exactly owner book values moment call references o count sound f = (forth, back)
  where
    s : Standing
    s = record { owner = owner; book = book; values = values }

    forth : (supplier_step owner book values moment (Comes.Dss call (Replies.Found references))).said ≡ Says.Answer (Answers.Crowded count) → (count ≡ length (others (flight_of owner o) references)) × (most_looked_at < count)
    forth h =
        let d = (steps_keep_duties owner book values moment (Comes.Dss call (Replies.Found references)) sound tt).acts in
        let c = subst (SayingHasCause d.owner book (clamped moment) (Comes.Dss call (Replies.Found references))) h d.cause in
        let own : d.owner ≡ owner = some_same d.owner owner (sym d.owns_book ∙ sound.owned) in
        let same : c.opening ≡ o = some_same c.opening o (sym c.opened ∙ f.opened) in
        let listed : c.references ≡ references = same_found c.references references (sym c.found) in (
          c.so_many ∙ ap (λ (x : Owner). length (others (flight_of x c.opening) c.references)) own ∙ ap (λ (x : Opening). length (others (flight_of owner x) c.references)) same
              ∙ ap (λ l. length (others (flight_of owner o) l)) listed,
          c.too_many,
        )

    back : (count ≡ length (others (flight_of owner o) references)) × (most_looked_at < count) → (supplier_step owner book values moment (Comes.Dss call (Replies.Found references))).said ≡ Says.Answer (Answers.Crowded count)
    back h = crowded s call references o f (subst (λ n. most_looked_at < n) h.0 h.1) ∙ ap (λ n. Says.Answer (Answers.Crowded n)) (sym h.0)
