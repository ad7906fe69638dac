-- What is recorded of a flight stays as it is while the flight has an open job.
use Rattle.std.proofs.Common.{ℕ, ◌==◌, Bool, true, false, ◌||◌, ◌&&◌, List, [], ◌∷◌, ◌++◌, ◌≡◌, filter, refl, ap, sym, subst, ◌∙◌, Option, Some, None, is_some}
use Rattle.std.specs.List.{list_any}
use Rattle.std.specs.Option.{option_map}
use Rattle.std.proofs.lemmas.List.{append-nil}
use Rattle.std.proofs.lemmas.List.Folds.{list_any-append}
use Rattle.std.proofs.lemmas.List.Elements.{filter-append}
use Rattle.uss_event.specs.declared.entries.Entry.{Entry}
use Rattle.uss_law_dss.specs.Lists.{Has}
use Rattle.uss_law_dss.proofs.Lists.{find_has, any_true, none_passes}
use Rattle.uss_law_dss.proofs.Tests.{same_number, equal_number, neither, both, not_true}
use Rattle.uss_event.specs.declared.entries.Opening.{Opening}
use Rattle.uss_event.specs.declared.entries.Holding.{Holding}
use Rattle.uss_event.specs.declared.entries.Closing.{Closing}
use Rattle.uss_law_book.specs.Lists.{openings, holdings, endings}
use Rattle.uss_law_book.specs.Contents.{opening_of, is_held, is_done, is_closed, is_open, is_job_of, is_ended, has_ended, holdings_of, holding, current_ovn_of}
use Rattle.uss_law_book.specs.Legal.{IsDue}
use Rattle.uss_law_book.specs.Orderly.{IsOrderly}
use Rattle.uss_law_book.proofs.Finds.{any_agrees, filter_agrees, none_filtered, first_false}
use Rattle.uss_law_book.proofs.Entries.{holdings_append, endings_append, opening_found, opening_kept, unclosed_by, unclosed_before, new_holding, new_ending}

-- the opening that is found is there, and is the job's
pub opening_has : (book : List Entry) (job : ℕ) (o : Opening) → opening_of job book ≡ Some o → Has (openings book) o × (o.job ≡ job)
unfolding opening_of
opening_has book job o h =
    let f = find_has (λ (p : Opening). p.job == job) (openings book) o h in
    (f.0, same_number o.job job f.1)

-- whose job it is stays
pub flight_stays : (xs ys : List Entry) (flight job : ℕ) (o : Opening) → Has (openings xs) o → o.job ≡ job → is_job_of flight job (xs ++ ys) ≡ is_job_of flight job xs
unfolding is_job_of
flight_stays xs ys flight job o h e =
    let f = opening_found xs o job h e in
    rw (opening_kept xs ys job f.0 f.1, f.1) refl

-- a job that was opened is open unless it is closed
pub open_parts : (book : List Entry) (job : ℕ) → is_open job book ≡ true → (o : Opening) × (opening_of job book ≡ Some o) × (is_closed job book ≡ false)
open_parts book job h =
    let b = both _ _ h in
    let s = go (opening_of job book) refl b.0 in
    (s.0, s.1, not_true (is_closed job book) b.1)
  where
    go : (x : Option Opening) → opening_of job book ≡ x → is_some x ≡ true → (o : Opening) × (opening_of job book ≡ Some o)
    go None e k = cc
    go (Some o) e k = (o, e)

-- a held job is closed by what holds it, a done one by what ends it
pub held_closes : (es : List Entry) (x : Holding) → Has (holdings es) x → is_closed x.job es ≡ false → ⊥
unfolding is_held
held_closes es x h e =
    let t : is_held x.job es ≡ true = any_true (λ (y : Holding). y.job == x.job) (holdings es) x h (equal_number x.job x.job refl) in
    let f = (neither (is_held x.job es) (is_done x.job es) e).0 in
    cc

pub done_closes : (es : List Entry) (x : Closing) → Has (endings es) x → is_closed x.job es ≡ false → ⊥
unfolding is_done
done_closes es x h e =
    let t : is_done x.job es ≡ true = any_true (λ (y : Closing). y.job == x.job) (endings es) x h (equal_number x.job x.job refl) in
    let f = (neither (is_held x.job es) (is_done x.job es) e).1 in
    cc

-- a job that the new entry closes isn't the flight's, where the flight has another open job
other_flight : (book : List Entry) (e : Entry) (o p : Opening) (job : ℕ) → IsOrderly book → Has (openings book) o → is_closed o.job (book ++ e ∷ []) ≡ false
    → opening_of job book ≡ Some p → is_closed job book ≡ false → (is_closed job (e ∷ []) ≡ false → ⊥) → is_job_of o.ask.flight job (book ++ e ∷ []) ≡ false
unfolding is_job_of
other_flight book e o p job s h u f v n = rw (opening_kept book (e ∷ []) job p f) (go (p.ask.flight == o.ask.flight) refl)
  where
    go : (b : Bool) → (p.ask.flight == o.ask.flight) ≡ b → b ≡ false
    go false q = refl
    go true q =
        let i = opening_has book job p f in
        let w : is_closed p.job book ≡ false = subst (λ j. is_closed j book ≡ false) (sym i.1) v in
        let k : p ≡ o = s.unclosed p o i.0 h w (unclosed_before o.job book (e ∷ []) u) (same_number p.ask.flight o.ask.flight q) in
        let j : o.job ≡ job = sym (ap (λ (x : Opening). x.job) k) ∙ i.1 in
        absurd (n (subst (λ (x : ℕ). is_closed x (e ∷ []) ≡ false) j (unclosed_by o.job book (e ∷ []) u)))

no_new_holding : (book : List Entry) (e : Entry) (o : Opening) → IsOrderly book → IsDue book e → Has (openings book) o → is_closed o.job (book ++ e ∷ []) ≡ false
    → (x : Holding) → Has (holdings (e ∷ [])) x → is_job_of o.ask.flight x.job (book ++ e ∷ []) ≡ false
no_new_holding book e o s d h u x k =
    let n = new_holding book e x d k in
    let q = open_parts book x.job n.unfinished in
    other_flight book e o q.0 x.job s h u q.1 q.2 (held_closes (e ∷ []) x k)

no_new_ending : (book : List Entry) (e : Entry) (o : Opening) → IsOrderly book → IsDue book e → Has (openings book) o → is_closed o.job (book ++ e ∷ []) ≡ false
    → (x : Closing) → Has (endings (e ∷ [])) x → (is_ended x.end && is_job_of o.ask.flight x.job (book ++ e ∷ [])) ≡ false
no_new_ending book e o s d h u x k =
    let n = new_ending book e x d k in
    first_false (is_ended x.end) (is_job_of o.ask.flight x.job (book ++ e ∷ []))
    (other_flight book e o n.opening x.job s h u n.opened n.unclosed (done_closes (e ∷ []) x k))

ended_kept : (book : List Entry) (e : Entry) (o : Opening) → IsOrderly book → IsDue book e → Has (openings book) o → is_closed o.job (book ++ e ∷ []) ≡ false
    → has_ended o.ask.flight (book ++ e ∷ []) ≡ has_ended o.ask.flight book
unfolding has_ended
ended_kept book e o s d h u =
    let after : Closing → Bool = λ x. is_ended x.end && is_job_of o.ask.flight x.job (book ++ e ∷ []) in
    let before : Closing → Bool = λ x. is_ended x.end && is_job_of o.ask.flight x.job book in
    ap (λ (l : List Closing). list_any after l) (endings_append book (e ∷ []))
    ∙ list_any-append after (endings book) (endings (e ∷ []))
    ∙ both_parts (list_any after (endings book)) (list_any before (endings book)) (list_any after (endings (e ∷ [])))
    (any_agrees after before (endings book) (λ x k. let r = s.ended x k in ap (λ b. is_ended x.end && b) (flight_stays book (e ∷ []) o.ask.flight x.job r.0 r.1 r.2)))
    (none_passes after (endings (e ∷ [])) (no_new_ending book e o s d h u))
  where
    both_parts : (a b c : Bool) → a ≡ b → c ≡ false → (a || c) ≡ b
    both_parts true b c p q = p
    both_parts false b c p q = q ∙ p

holdings_kept : (book : List Entry) (e : Entry) (o : Opening) → IsOrderly book → IsDue book e → Has (openings book) o → is_closed o.job (book ++ e ∷ []) ≡ false
    → holdings_of o.ask.flight (book ++ e ∷ []) ≡ holdings_of o.ask.flight book
unfolding holdings_of
holdings_kept book e o s d h u =
    let after : Holding → Bool = λ x. is_job_of o.ask.flight x.job (book ++ e ∷ []) in
    let before : Holding → Bool = λ x. is_job_of o.ask.flight x.job book in
    ap (λ (l : List Holding). filter after l) (holdings_append book (e ∷ []))
    ∙ filter-append after (holdings book) (holdings (e ∷ []))
    ∙ ap (λ (l : List Holding). filter after (holdings book) ++ l) (none_filtered after (holdings (e ∷ [])) (no_new_holding book e o s d h u))
    ∙ append-nil (filter after (holdings book))
    ∙ filter_agrees after before (holdings book) (λ x k. let r = s.recorded x k in flight_stays book (e ∷ []) o.ask.flight x.job r.0 r.1 r.2)

pub holding_kept : (book : List Entry) (e : Entry) (o : Opening) → IsOrderly book → IsDue book e → Has (openings book) o → is_closed o.job (book ++ e ∷ []) ≡ false
    → holding o.ask.flight (book ++ e ∷ []) ≡ holding o.ask.flight book
unfolding holding
holding_kept book e o s d h u =
    rw (ended_kept book e o s d h u, holdings_kept book e o s d h u) refl

pub base_kept : (book : List Entry) (e : Entry) (o : Opening) → IsOrderly book → IsDue book e → Has (openings book) o → is_closed o.job (book ++ e ∷ []) ≡ false
    → current_ovn_of o.ask.flight (book ++ e ∷ []) ≡ current_ovn_of o.ask.flight book
base_kept book e o s d h u = ap (λ (x : Option Holding). option_map (λ (y : Holding). y.ovn) x) (holding_kept book e o s d h u)
