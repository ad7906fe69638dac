-- That a request that isn't held against others comes to Planned or Changed, where nobody disturbs it.
use Rattle.std.proofs.Common.{ℕ, ℤ, ◌≡◌, Bool, true, false, List, [], ◌∷◌, length, refl, ap, sym, subst, ◌∙◌, arith}
use Rattle.uss_intent.specs.declared.records.State.{State}
use Rattle.uss_intent.specs.States.{is_strategic}
use Rattle.uss_law_duty.specs.Duties.{clamped}
use Rattle.uss_event.specs.Pairs.{OperationalIntent}
use Rattle.uss_event.specs.declared.details.Proposal.{Proposal}
use Rattle.uss_event.specs.declared.asks.Wish.{Wish}
use Rattle.uss_event.specs.declared.asks.Wish.TheVariants.{Put, End}
use Rattle.uss_event.specs.declared.asks.FlightAsk.{FlightAsk}
use Rattle.uss_event.specs.declared.events.Event.TheVariants as Comes
use Rattle.uss_law_dss.specs.Fits.{fits}
use Rattle.uss_law_dss.specs.Service.{Service}
use Rattle.uss_law_dss.proofs.EachFits.{step_fits}
use Rattle.uss_law_book.specs.Legal.{ArePlans}
use Rattle.uss_law_duty.specs.Answers.{flight_of}
use Rattle.uss_law_duty.specs.Sayings.{others}
use Rattle.uss_law_supplier.specs.declared.duties.Awaited.TheVariants as Waits
use Rattle.uss_law_supplier.specs.Values.{round_of}
use Rattle.uss_law_supplier.specs.Table.{on_found}
use Rattle.uss_law_supplier.specs.Airspace.{is_left, choice_of}
use Rattle.uss_law_supplier.specs.Turns.{Standing, dss_call}
use Rattle.uss_law_supplier.specs.Jobs.{is_end, keeps_key, view_of, round_by_dss, with_values, attempting, carry_out, found_by}
use Rattle.uss_law_supplier.specs.Asks.{plan_refusal, opening_for}
use Rattle.uss_law_supplier.specs.Laws.{IsSound}
use Rattle.uss_law_supplier.proofs.Waits.{awaiting_own}
use Rattle.uss_law_supplier.proofs.Asking.{are_plans}
use Rattle.uss_law_asking.specs.Exchange.{turn_of}
use Rattle.uss_law_asking.specs.Complete.{IsUndisturbed, is_new, its_flight, IsRecordedBy, IsPutOutcome, IsOutcome, around, intents_around}
use Rattle.uss_law_asking.proofs.Calm.{plan_of}
use Rattle.uss_law_asking.proofs.Walk.{ComesOutAs, Settles, acts_so}
use Rattle.uss_law_asking.proofs.Tries.{tries}
use Rattle.uss_law_asking.proofs.Opens.{its_query, asked_values, looks_from, ticketed, found_there, ticketed_orderly, looking_unfinished, looks_so, first_at, is_acceptable, base_new}
use Rattle.uss_law_asking.proofs.Ends.{ends_come_out}

-- whatever is found, it makes its attempt
attempts_so : (s : Standing) (moment : ℤ) (ask : FlightAsk) (service : Service) (served : List OperationalIntent) → keeps_key ask.wish ≡ false → IsSound s.owner s.book s.values → IsUndisturbed s moment ask service served
    → turn_of (looks_from s moment ask) moment (Comes.Dss (record { job = (opening_for s (clamped moment) ask).job; ask = its_query ask }) (found_there s ask service))
    ≡ attempting (with_values (looks_from s moment ask) (round_by_dss (looks_from s moment ask) (opening_for s (clamped moment) ask) (found_there s ask service))) (opening_for s (clamped moment) ask) 0 []
unfolding view_of
attempts_so s moment ask service served k sound calm =
    let o = opening_for s (clamped moment) ask in
    let s2 = looks_from s moment ask in
    let reply = found_there s ask service in
    let t = with_values s2 (round_by_dss s2 o reply) in
    let fit : fits (its_query ask) reply ≡ true = step_fits (ticketed s moment ask service) s.owner.name (its_query ask) (ticketed_orderly s moment ask service served calm) in
    acts_so s2 moment o (its_query ask) reply Waits.Query (looking_unfinished s moment ask sound) (awaiting_own o.job (dss_call o.job (its_query ask)) (asked_values s moment ask)) refl fit
    ∙ ap (λ (x : Bool). carry_out t o reply (on_found x (length (others (flight_of s.owner o) (found_by reply))) (is_left s.owner t.values.heard (round_of o.job t.values)))) k

unkeyed : (s : Standing) (moment : ℤ) (ask : FlightAsk) (service : Service) (served : List OperationalIntent) (to : State) (priority rounds : ℕ) (proposals : List Proposal) → ask.wish ≡ Put to priority rounds proposals → is_strategic to ≡ false
    → IsSound s.owner s.book s.values → IsUndisturbed s moment ask service served → ComesOutAs (IsRecordedBy (is_new s ask) (its_flight s ask) 0) s.owner.name served s moment (Comes.Ask ask) service
unkeyed s moment ask service served to priority rounds [] w k sound calm =
    let plans : ArePlans to priority rounds [] = are_plans to priority rounds [] (ap plan_refusal (sym w) ∙ (plan_of s moment ask service served calm)) in
    let one = plans.some_proposals in
    absurd (omega (arith, one))
unkeyed s moment ask service served to priority rounds (p ∷ ps) w k sound calm =
    let o = opening_for s (clamped moment) ask in
    let s2 = looks_from s moment ask in
    let reply = found_there s ask service in
    looks_so (IsRecordedBy (is_new s ask) (its_flight s ask) 0) s moment ask service served (ap is_end w) sound calm
    (subst (λ b. ComesOutAs (IsRecordedBy b (its_flight s ask) 0) s.owner.name served s2 moment (Comes.Dss (record { job = o.job; ask = its_query ask }) reply) (ticketed s moment ask service)) (base_new s moment ask sound) (tries s2 (round_by_dss s2 o reply) moment (Comes.Dss (record { job = o.job; ask = its_query ask }) reply) served (ticketed s moment ask service) o 0 [] to priority rounds (p ∷ ps) p
    (attempts_so s moment ask service served (ap keeps_key w ∙ k) sound calm) (first_at s moment ask 0 to priority rounds (p ∷ ps) p sound w refl) (ticketed_orderly s moment ask service served calm)
    (is_acceptable s moment ask service served 0 [] to priority rounds (p ∷ ps) p sound calm w refl (omega arith) (rw k refl))))

pub requests_without_key_come_out : (ask : FlightAsk) → keeps_key ask.wish ≡ false → Settles ask
requests_without_key_come_out ask k = go ask.wish refl k
  where
    go : (x : Wish) → ask.wish ≡ x → keeps_key x ≡ false → Settles ask
    go End w k = ends_come_out ask w
    go (Put to priority rounds proposals) w k = λ s moment service served sound calm.
        subst (λ (x : Wish). ComesOutAs (IsOutcome s moment ask service served x) s.owner.name served s moment (Comes.Ask ask) service) (sym w)
        (subst (λ (b : Bool). ComesOutAs (IsPutOutcome (is_new s ask) (its_flight s ask) b (length (around s ask service)) (intents_around s ask service served) (choice_of s (opening_for s (clamped moment) ask) (intents_around s ask service served))) s.owner.name served s moment (Comes.Ask ask) service) (sym k)
        (unkeyed s moment ask service served to priority rounds proposals w k sound calm))
