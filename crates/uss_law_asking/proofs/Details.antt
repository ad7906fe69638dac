-- How a plan hears of what is around it, where nobody disturbs it: it asks for each flight that it hasn't heard of, once, and is served.
use Rattle.std.proofs.Common.{ℕ, ℤ, ◌+◌, ◌≤◌, ◌==◌, ◌≡◌, ◌≢◌, inl, inr, Bool, true, false, cond, not, ◌&&◌, List, [], ◌∷◌, ◌++◌, length, refl, ap, sym, subst, ◌∙◌, Option, Some, None}
use Rattle.std.specs.List.{filter_map, cons_option}
use Rattle.uss_intent.specs.Same.{same_text}
use Rattle.uss_intent.specs.declared.records.Recorded.{Recorded}
use Rattle.uss_intent.specs.declared.records.Reference.{Reference}
use Rattle.uss_intent.specs.Numbers.{is_one_of}
use Rattle.uss_law_duty.specs.Duties.{clamped}
use Rattle.uss_event.specs.Pairs.{OperationalIntent}
use Rattle.uss_event.specs.declared.entries.Entry.{Entry}
use Rattle.uss_event.specs.declared.asks.FlightAsk.{FlightAsk}
use Rattle.uss_law_dss.specs.Lists.{Has}
use Rattle.uss_law_dss.specs.Orderly as Dss
use Rattle.uss_law_dss.specs.Service.{Service, shown_to}
use Rattle.uss_law_dss.specs.Refusals.{shown_all}
use Rattle.uss_law_dss.specs.Step.{found_in}
use Rattle.uss_law_dss.proofs.Lists.{has_filter, has_append, has_right, mapped, find_has, find_none}
use Rattle.uss_law_dss.proofs.Tests.{same_number, equal_number, both, second_false, not_false}
use Rattle.uss_law_book.proofs.Finds.{find_found}
use Rattle.uss_event.specs.Heard.{kept_pairs, kept_pair, is_of}
use Rattle.uss_law_supplier.specs.Values.{Values, Round, round_of}
use Rattle.uss_law_supplier.specs.Calls.{area_of}
use Rattle.uss_law_supplier.specs.Turns.{Standing}
use Rattle.uss_law_supplier.specs.Airspace.{is_own, is_of_version, is_unheard, next_unheard, held_as, pair_of, pairs_in}
use Rattle.uss_law_supplier.specs.Jobs.{with_values}
use Rattle.uss_law_supplier.specs.Asks.{opening_for}
use Rattle.uss_law_supplier.specs.Laws.{IsSound}
use Rattle.uss_law_asking.specs.Complete.{IsUndisturbed, served_of, intent_of, around, intents_around}
use Rattle.uss_law_asking.proofs.Budget.{left}
use Rattle.uss_law_asking.proofs.Recorded.{one_has}
use Rattle.uss_law_asking.proofs.Opens.{looking_book, looks_from}
use Rattle.uss_law_asking.proofs.Crowds.{shown_flight}
use Rattle.uss_law_asking.proofs.Chooses.{held_as_stays}

-- what is shown of a reference

pub shown_manager : (client : List ℕ) (r : Reference) → (shown_to client r).manager ≡ r.manager
shown_manager client r = go (same_text r.manager client)
  where
    go : (b : Bool) → (cond b r (record r { ovn = None })).manager ≡ r.manager
    go true = refl
    go false = refl

shown_version : (client : List ℕ) (r : Reference) → (shown_to client r).version ≡ r.version
shown_version client r = go (same_text r.manager client)
  where
    go : (b : Bool) → (cond b r (record r { ovn = None })).version ≡ r.version
    go true = refl
    go false = refl

-- what is served is of the flight and of its manager
pub served_is : (flight : ℕ) (manager : List ℕ) (served : List OperationalIntent) (p : OperationalIntent) → served_of flight manager served ≡ Some p → (p.reference.flight ≡ flight) × (same_text p.reference.manager manager ≡ true)
served_is flight manager served p e =
    let h = find_has (λ (p : OperationalIntent). is_of flight p && same_text p.reference.manager manager) served p e in
    let b = both (p.reference.flight == flight) (same_text p.reference.manager manager) h.1 in
    (same_number p.reference.flight flight b.0, b.1)

-- what is around is recorded, and each flight once
pub recorded_around : (s : Standing) (moment : ℤ) (ask : FlightAsk) (service : Service) (r : Recorded) → Has (around s ask service) r → Has service.references r
recorded_around s moment ask service r h = has_filter _ service.references r (has_filter _ (found_in (area_of ask.wish) service.references) r h)

one_around : (s : Standing) (moment : ℤ) (ask : FlightAsk) (service : Service) (served : List OperationalIntent) (x y : Recorded) → IsUndisturbed s moment ask service served → Has (around s ask service) x → Has (around s ask service) y
    → x.reference.flight ≡ y.reference.flight → x ≡ y
one_around s moment ask service served x y calm h k e =
    one_has Dss.flight_recorded service.references x y calm.orderly.references_ascend (recorded_around s moment ask service x h) (recorded_around s moment ask service y k) e

-- how far it is

abbrev its_job : Standing → ℤ → FlightAsk → ℕ
its_job s moment ask = (opening_for s (clamped moment) ask).job

pub record IsHearing (s : Standing) (moment : ℤ) (ask : FlightAsk) (service : Service) (served : List OperationalIntent) (v : Values) : Type 0 where
  pub found : (round_of (opening_for s (clamped moment) ask).job v).found ≡ shown_all s.owner.name (around s ask service)
  pub gone : (round_of (opening_for s (clamped moment) ask).job v).gone ≡ []
  -- the pairs that were kept before, of which some are left, and those that were heard since
  pub front : List OperationalIntent
  pub recent : List OperationalIntent
  pub kept : kept_pairs v.heard ≡ front ++ recent
  pub asked : (r : Recorded) → Has (around s ask service) r → is_one_of r.reference.flight (round_of (opening_for s (clamped moment) ask).job v).asked ≡ true → (p : OperationalIntent) × Has recent p × (p.reference.flight ≡ r.reference.flight)
  pub recents : (p : OperationalIntent) → Has recent p
      → (r : Recorded) × Has (around s ask service) r × (served_of r.reference.flight r.reference.manager served ≡ Some p) × (is_one_of r.reference.flight (round_of (opening_for s (clamped moment) ask).job v).asked ≡ true)
  pub apart : (q p : OperationalIntent) → Has front q → Has recent p → q.reference.flight ≢ p.reference.flight
  pub old : (r : Recorded) → Has (around s ask service) r → is_own s.owner r.reference ≡ false → (q : OperationalIntent) → Has front q → q.reference.flight ≡ r.reference.flight
      → (q.reference.version ≤ r.reference.version) × (q.reference.version ≡ r.reference.version → served_of r.reference.flight r.reference.manager served ≡ Some q)
  pub few : length recent + left (round_of (opening_for s (clamped moment) ask).job v) ≤ 1024

-- what is kept of a flight around that was heard of is what is served

recent_is : (s : Standing) (moment : ℤ) (ask : FlightAsk) (service : Service) (served : List OperationalIntent) (v : Values) (r : Recorded) (q : OperationalIntent) → IsUndisturbed s moment ask service served → (l : IsHearing s moment ask service served v)
    → Has (around s ask service) r → Has l.recent q → q.reference.flight ≡ r.reference.flight → served_of r.reference.flight r.reference.manager served ≡ Some q
recent_is s moment ask service served v r q calm l h k e =
    let x = l.recents q k in
    let f = served_is x.0.reference.flight x.0.reference.manager served q x.2 in
    let same : x.0 ≡ r = one_around s moment ask service served x.0 r calm x.1 h (sym f.0 ∙ e) in
    subst (λ (y : Recorded). served_of y.reference.flight y.reference.manager served ≡ Some q) same x.2

kept_so : (s : Standing) (moment : ℤ) (ask : FlightAsk) (service : Service) (served : List OperationalIntent) (v : Values) (r : Recorded) → IsUndisturbed s moment ask service served → IsHearing s moment ask service served v
    → Has (around s ask service) r → is_own s.owner r.reference ≡ false → next_unheard s.owner v.heard (round_of (opening_for s (clamped moment) ask).job v) ≡ None
    → kept_pair r.reference.flight v.heard ≡ served_of r.reference.flight r.reference.manager served
unfolding is_unheard
kept_so s moment ask service served v r calm l h own none =
    let x = shown_to s.owner.name r.reference in
    let has : Has round.found x = subst (λ (y : List Reference). Has y x) (sym l.found) (mapped (λ (r : Recorded). shown_to s.owner.name r.reference) (around s ask service) r h) in
    let unheard = find_none (is_unheard s.owner v.heard round) round.found x none has in
    let other : is_own s.owner x ≡ false = ap (λ m. same_text m s.owner.name) (shown_manager s.owner.name r.reference) ∙ own in
    let rest = second_false (not (is_own s.owner x)) _ unheard (ap not other) in
    at_asked (is_one_of x.flight round.asked) refl rest
  where
    round : Round
    round = round_of (opening_for s (clamped moment) ask).job v

    x : Reference
    x = shown_to s.owner.name r.reference

    same : x.flight ≡ r.reference.flight
    same = shown_flight s.owner.name r.reference

    by_one : (q : OperationalIntent) → kept_pair r.reference.flight v.heard ≡ Some q → (Has l.front q → served_of r.reference.flight r.reference.manager served ≡ Some q) → kept_pair r.reference.flight v.heard ≡ served_of r.reference.flight r.reference.manager served
    by_one q e front =
        let k = find_has (is_of r.reference.flight) (kept_pairs v.heard) q e in
        let w = same_number q.reference.flight r.reference.flight k.1 in
        let i : Has (l.front ++ l.recent) q = subst (λ (y : List OperationalIntent). Has y q) l.kept k.0 in
        elim (has_append l.front l.recent q i) [ inl a ↦ e ∙ sym (front a) | inr b ↦ e ∙ sym (recent_is s moment ask service served v r q calm l h b w) ]

    by_asked : is_one_of r.reference.flight round.asked ≡ true → kept_pair r.reference.flight v.heard ≡ served_of r.reference.flight r.reference.manager served
    by_asked a =
        let p = l.asked r h a in
        let there : Has (kept_pairs v.heard) p.0 = subst (λ (y : List OperationalIntent). Has y p.0) (sym l.kept) (has_right l.front l.recent p.0 p.1) in
        let f = find_found (is_of r.reference.flight) (kept_pairs v.heard) p.0 there (equal_number p.0.reference.flight r.reference.flight p.2) in
        let k = find_has (is_of r.reference.flight) (kept_pairs v.heard) f.0 f.1 in
        let w = same_number f.0.reference.flight r.reference.flight k.1 in
        by_one f.0 f.1 (λ b. absurd (l.apart f.0 p.0 b p.1 (w ∙ sym p.2)))

    by_version : (o : Option OperationalIntent) → kept_pair r.reference.flight v.heard ≡ o → is_of_version r.reference.version o ≡ true → kept_pair r.reference.flight v.heard ≡ served_of r.reference.flight r.reference.manager served
    by_version None e t = cc
    by_version (Some q) e t =
        let k = find_has (is_of r.reference.flight) (kept_pairs v.heard) q e in
        let w = same_number q.reference.flight r.reference.flight k.1 in
        by_one q e (λ a. (l.old r h own q a w).1 (same_number q.reference.version r.reference.version t))

    at_asked : (b : Bool) → is_one_of x.flight round.asked ≡ b → (not b && not (is_of_version x.version (kept_pair x.flight v.heard))) ≡ false → kept_pair r.reference.flight v.heard ≡ served_of r.reference.flight r.reference.manager served
    at_asked true e t = by_asked (ap (λ f. is_one_of f round.asked) (sym same) ∙ e)
    at_asked false e t =
        let n = not_false (is_of_version x.version (kept_pair x.flight v.heard)) t in
        by_version (kept_pair r.reference.flight v.heard) refl
        (ap (λ f. is_of_version r.reference.version (kept_pair f v.heard)) (sym same) ∙ ap (λ k. is_of_version k (kept_pair x.flight v.heard)) (sym (shown_version s.owner.name r.reference)) ∙ n)

-- the pairs of the choice are then the intents around

filter_map_shown : (f : Reference → Option OperationalIntent) (g : Recorded → Option OperationalIntent) (client : List ℕ) (rs : List Recorded) → ((r : Recorded) → Has rs r → f (shown_to client r.reference) ≡ g r)
    → filter_map f (shown_all client rs) ≡ filter_map g rs
filter_map_shown f g client [] h = refl
filter_map_shown f g client (r ∷ rs) h = rw (h r (inl refl)) (ap (cons_option (g r)) (filter_map_shown f g client rs (λ x k. h x (inr k))))

-- the pair of a reference, by its flight and its manager
abbrev pair_by : Standing → List Entry → Round → Values → ℕ → List ℕ → Option OperationalIntent
pair_by s book round v flight manager = cond (same_text manager s.owner.name) (held_as s.owner flight book) (cond (is_one_of flight round.gone) None (kept_pair flight v.heard))

pub pairs_so : (s : Standing) (moment : ℤ) (ask : FlightAsk) (service : Service) (served : List OperationalIntent) (v : Values) → IsSound s.owner s.book s.values → IsUndisturbed s moment ask service served → IsHearing s moment ask service served v
    → next_unheard s.owner v.heard (round_of (opening_for s (clamped moment) ask).job v) ≡ None
    → pairs_in (with_values (looks_from s moment ask) v) (round_of (opening_for s (clamped moment) ask).job v) ≡ intents_around s ask service served
unfolding pairs_in pair_of
pairs_so s moment ask service served v sound calm l none =
    ap (filter_map (pair_of (with_values (looks_from s moment ask) v) (round_of (opening_for s (clamped moment) ask).job v))) l.found
    ∙ filter_map_shown (pair_of (with_values (looks_from s moment ask) v) (round_of (opening_for s (clamped moment) ask).job v)) (intent_of s served) s.owner.name (around s ask service) each
  where
    round : Round
    round = round_of (opening_for s (clamped moment) ask).job v

    here : (r : Recorded) → Has (around s ask service) r → (b : Bool) → is_own s.owner r.reference ≡ b → pair_by s (looking_book s moment ask) round v r.reference.flight r.reference.manager ≡ intent_of s served r
    here r h true e =
        let k = calm.held_own r (recorded_around s moment ask service r h) e in
        rw (e, held_as_stays s moment ask r.reference.flight k.0 sound k.1, k.1) refl
    here r h false e = rw (e, l.gone) (kept_so s moment ask service served v r calm l h e none)

    each : (r : Recorded) → Has (around s ask service) r → pair_of (with_values (looks_from s moment ask) v) (round_of (opening_for s (clamped moment) ask).job v) (shown_to s.owner.name r.reference) ≡ intent_of s served r
    each r h =
        ap (λ f. pair_by s (looking_book s moment ask) round v f (shown_to s.owner.name r.reference).manager) (shown_flight s.owner.name r.reference) ∙ ap (λ m. pair_by s (looking_book s moment ask) round v r.reference.flight m) (shown_manager s.owner.name r.reference) ∙ here r h (is_own s.owner r.reference) refl
