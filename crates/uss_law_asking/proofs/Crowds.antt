-- What a plan finds around it, where nobody disturbs it; and that it comes to Crowded where that is too much.
use Rattle.std.proofs.Common.{◌<◌, ℕ, ℤ, ◌≡◌, ◌==◌, Bool, true, false, cond, not, nat_lt, List, [], ◌∷◌, filter, length, refl, ap, sym, subst, ◌∙◌, None}
use Rattle.uss_intent.specs.Same.{same_text}
use Rattle.uss_intent.specs.declared.records.Recorded.{Recorded}
use Rattle.uss_intent.specs.declared.records.Reference.{Reference}
use Rattle.uss_law_duty.specs.Duties.{clamped}
use Rattle.uss_event.specs.Pairs.{OperationalIntent}
use Rattle.uss_event.specs.declared.asks.Wish.{Wish}
use Rattle.uss_event.specs.declared.asks.Wish.TheVariants.{Put, End}
use Rattle.uss_event.specs.declared.asks.FlightAsk.{FlightAsk}
use Rattle.uss_event.specs.declared.events.Answer.TheVariants as Answers
use Rattle.uss_event.specs.declared.events.Said.{Said}
use Rattle.uss_event.specs.declared.events.Said.TheVariants as Says
use Rattle.uss_event.specs.declared.events.Event.TheVariants as Comes
use Rattle.uss_law_dss.specs.Fits.{fits}
use Rattle.uss_law_dss.specs.Service.{Service, shown_to}
use Rattle.uss_law_dss.specs.Refusals.{shown_all}
use Rattle.uss_law_dss.specs.Step.{found_in}
use Rattle.uss_law_dss.proofs.EachFits.{step_fits}
use Rattle.uss_law_dss.proofs.Lists.{length-map}
use Rattle.uss_law_dss.proofs.Tests.{less_test}
use Rattle.uss_law_duty.specs.Answers.{flight_of}
use Rattle.uss_law_duty.specs.Sayings.{others}
use Rattle.uss_law_supplier.specs.declared.duties.Awaited.TheVariants as Waits
use Rattle.uss_law_supplier.specs.declared.duties.Duty.TheVariants as Duties
use Rattle.uss_law_supplier.specs.Values.{round_of}
use Rattle.uss_law_supplier.specs.Table.{on_found, next_or_choice}
use Rattle.uss_law_supplier.specs.Calls.{area_of}
use Rattle.uss_law_supplier.specs.Airspace.{is_left, choice_of}
use Rattle.uss_law_supplier.specs.Turns.{Standing, Turn, dss_call}
use Rattle.uss_law_supplier.specs.Jobs.{is_end, keeps_key, view_of, round_by_dss, with_values, carry_out, found_by}
use Rattle.uss_law_supplier.specs.Asks.{opening_for}
use Rattle.uss_law_supplier.specs.Laws.{IsSound}
use Rattle.uss_law_supplier.proofs.Waits.{awaiting_own}
use Rattle.uss_law_asking.specs.Exchange.{turn_of}
use Rattle.uss_law_asking.specs.Complete.{IsUndisturbed, is_new, its_flight, IsKeyedOutcome, IsPutOutcome, IsOutcome, around, intents_around}
use Rattle.uss_law_asking.proofs.Walk.{ComesOutAs, acts_so, stops_by}
use Rattle.uss_law_asking.proofs.Opens.{its_query, asked_values, looks_from, ticketed, found_there, ticketed_orderly, looking_unfinished, looks_so}

-- what is shown of the references of other flights

pub shown_flight : (client : List ℕ) (r : Reference) → (shown_to client r).flight ≡ r.flight
shown_flight client r = go (same_text r.manager client)
  where
    go : (b : Bool) → (cond b r (record r { ovn = None })).flight ≡ r.flight
    go true = refl
    go false = refl

pub others_shown : (flight : ℕ) (client : List ℕ) (rs : List Recorded) → others flight (shown_all client rs) ≡ shown_all client (filter (λ (r : Recorded). not (r.reference.flight == flight)) rs)
others_shown flight client [] = refl
others_shown flight client (r ∷ rs) =
    ap (λ (f : ℕ). cond (not (f == flight)) (shown_to client r.reference ∷ others flight (shown_all client rs)) (others flight (shown_all client rs))) (shown_flight client r.reference)
    ∙ go (not (r.reference.flight == flight)) (others_shown flight client rs)
  where
    rest : List Recorded
    rest = filter (λ (x : Recorded). not (x.reference.flight == flight)) rs

    go : (b : Bool) → others flight (shown_all client rs) ≡ shown_all client rest
        → cond b (shown_to client r.reference ∷ others flight (shown_all client rs)) (others flight (shown_all client rs)) ≡ shown_all client (cond b (r ∷ rest) rest)
    go true e = ap (λ (l : List Reference). shown_to client r.reference ∷ l) e
    go false e = e

pub found_around : (s : Standing) (moment : ℤ) (ask : FlightAsk) (service : Service)
    → others (flight_of s.owner (opening_for s (clamped moment) ask)) (found_by (found_there s ask service)) ≡ shown_all s.owner.name (around s ask service)
found_around s moment ask service = others_shown (flight_of s.owner (opening_for s (clamped moment) ask)) s.owner.name (found_in (area_of ask.wish) service.references)

pub count_around : (s : Standing) (moment : ℤ) (ask : FlightAsk) (service : Service)
    → length (others (flight_of s.owner (opening_for s (clamped moment) ask)) (found_by (found_there s ask service))) ≡ length (around s ask service)
count_around s moment ask service = ap length (found_around s moment ask service) ∙ length-map (λ (r : Recorded). shown_to s.owner.name r.reference) (around s ask service)

-- what a plan does with it
pub finds_so : (s : Standing) (moment : ℤ) (ask : FlightAsk) (service : Service) (served : List OperationalIntent) (b : Bool) → keeps_key ask.wish ≡ true → nat_lt 1024 (length (around s ask service)) ≡ b → IsSound s.owner s.book s.values
    → IsUndisturbed s moment ask service served
    → turn_of (looks_from s moment ask) moment (Comes.Dss (record { job = (opening_for s (clamped moment) ask).job; ask = its_query ask }) (found_there s ask service))
    ≡ carry_out (with_values (looks_from s moment ask) (round_by_dss (looks_from s moment ask) (opening_for s (clamped moment) ask) (found_there s ask service))) (opening_for s (clamped moment) ask) (found_there s ask service)
    (cond b Duties.Crowded
    (next_or_choice
    (is_left s.owner (round_by_dss (looks_from s moment ask) (opening_for s (clamped moment) ask) (found_there s ask service)).heard
    (round_of (opening_for s (clamped moment) ask).job (round_by_dss (looks_from s moment ask) (opening_for s (clamped moment) ask) (found_there s ask service))))))
unfolding view_of
finds_so s moment ask service served b k many sound calm =
    let o = opening_for s (clamped moment) ask in
    let s2 = looks_from s moment ask in
    let reply = found_there s ask service in
    let t = with_values s2 (round_by_dss s2 o reply) in
    let fit : fits (its_query ask) reply ≡ true = step_fits (ticketed s moment ask service) s.owner.name (its_query ask) (ticketed_orderly s moment ask service served calm) in
    acts_so s2 moment o (its_query ask) reply Waits.Query (looking_unfinished s moment ask sound) (awaiting_own o.job (dss_call o.job (its_query ask)) (asked_values s moment ask)) refl fit
    ∙ ap (λ (x : Bool). carry_out t o reply (on_found x (length (others (flight_of s.owner o) (found_by reply))) (is_left s.owner t.values.heard (round_of o.job t.values)))) k
    ∙ ap (λ (n : ℕ). carry_out t o reply (cond (nat_lt 1024 n) Duties.Crowded (next_or_choice (is_left s.owner t.values.heard (round_of o.job t.values))))) (count_around s moment ask service)
    ∙ ap (λ (x : Bool). carry_out t o reply (cond x Duties.Crowded (next_or_choice (is_left s.owner t.values.heard (round_of o.job t.values))))) many

abbrev IsCrowded : Standing → ℤ → FlightAsk → Service → Said → Type 0
IsCrowded s moment ask service said = said ≡ Says.Answer (Answers.Crowded (length (around s ask service)))

pub key_is_no_end : (wish : Wish) → keeps_key wish ≡ true → is_end wish ≡ false
key_is_no_end (Put to priority rounds proposals) k = refl
key_is_no_end End k = cc

crowds : (s : Standing) (moment : ℤ) (ask : FlightAsk) (service : Service) (served : List OperationalIntent) → keeps_key ask.wish ≡ true → nat_lt 1024 (length (around s ask service)) ≡ true → IsSound s.owner s.book s.values
    → IsUndisturbed s moment ask service served → ComesOutAs (IsCrowded s moment ask service) s.owner.name served s moment (Comes.Ask ask) service
crowds s moment ask service served k many sound calm =
    let o = opening_for s (clamped moment) ask in
    let s2 = looks_from s moment ask in
    let reply = found_there s ask service in
    let turn = finds_so s moment ask service served true k many sound calm in
    let said = ap (λ (x : Turn). x.said) turn ∙ ap (λ (n : ℕ). Says.Answer (Answers.Crowded n)) (count_around s moment ask service) in
    looks_so (IsCrowded s moment ask service) s moment ask service served (key_is_no_end ask.wish k) sound calm
    (stops_by (IsCrowded s moment ask service) s.owner.name served s2 moment (Comes.Dss (record { job = o.job; ask = its_query ask }) reply) (ticketed s moment ask service) (Says.Answer (Answers.Crowded (length (around s ask service)))) said refl refl)

pub crowded_plans_come_out : (ask : FlightAsk) (s : Standing) (moment : ℤ) (service : Service) (served : List OperationalIntent) → keeps_key ask.wish ≡ true → 1024 < length (around s ask service)
    → IsSound s.owner s.book s.values → IsUndisturbed s moment ask service served → ComesOutAs (IsOutcome s moment ask service served ask.wish) s.owner.name served s moment (Comes.Ask ask) service
crowded_plans_come_out ask s moment service served k many sound calm = go ask.wish refl k
  where
    test : nat_lt 1024 (length (around s ask service)) ≡ true
    test = less_test 1024 (length (around s ask service)) many

    go : (x : Wish) → ask.wish ≡ x → keeps_key x ≡ true → ComesOutAs (IsOutcome s moment ask service served ask.wish) s.owner.name served s moment (Comes.Ask ask) service
    go End w h = cc
    go (Put to priority rounds proposals) w h =
        subst (λ (x : Wish). ComesOutAs (IsOutcome s moment ask service served x) s.owner.name served s moment (Comes.Ask ask) service) (sym w)
        (subst (λ (b : Bool). ComesOutAs (IsPutOutcome (is_new s ask) (its_flight s ask) b (length (around s ask service)) (intents_around s ask service served) (choice_of s (opening_for s (clamped moment) ask) (intents_around s ask service served))) s.owner.name served s moment (Comes.Ask ask) service) (sym h)
        (subst (λ (b : Bool). ComesOutAs (IsKeyedOutcome (is_new s ask) (its_flight s ask) b (length (around s ask service)) (intents_around s ask service served) (choice_of s (opening_for s (clamped moment) ask) (intents_around s ask service served))) s.owner.name served s moment (Comes.Ask ask) service) (sym test)
        (crowds s moment ask service served k test sound calm)))
