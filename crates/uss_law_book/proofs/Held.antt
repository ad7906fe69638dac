-- What a legal book holds of a flight.
use Rattle.std.proofs.Common.{ℕ, ◌==◌, Bool, true, false, cond, not, List, [], ◌∷◌, ◌≡◌, ◌⊎◌, inl, inr, refl, ap, subst, ◌∙◌, Option, Some, None}
use Rattle.std.specs.List.{last_or}
use Rattle.std.specs.Option.{option_map, option_and_then}
use Rattle.uss_event.specs.declared.entries.Entry.{Entry}
use Rattle.uss_event.specs.Pairs.{OperationalIntent}
use Rattle.uss_law_dss.specs.Lists.{Has}
use Rattle.uss_law_dss.proofs.Lists.{has_filter, has_passed, find_has}
use Rattle.uss_law_dss.proofs.Tests.{same_number, not_true}
use Rattle.uss_event.specs.declared.entries.Opening.{Opening}
use Rattle.uss_event.specs.declared.entries.Trial.{Trial}
use Rattle.uss_event.specs.declared.entries.Holding.{Holding}
use Rattle.uss_law_book.specs.Lists.{openings, trials, holdings}
use Rattle.uss_law_book.specs.Contents.{opening_of, trial_of, is_closed, is_for, is_job_of, has_ended, holdings_of, last_holding, holding, jobs_of, open_job_of, current_ovn_of}
use Rattle.uss_law_book.specs.Attempts.{attempt_of, held_by, held}
use Rattle.uss_law_book.specs.Orderly.{IsOrderly, IsHeldOf}
use Rattle.uss_law_book.proofs.Finds.{find_found}
use Rattle.uss_law_book.proofs.Entries.{opening_found}
use Rattle.uss_law_book.proofs.Kept.{opening_has}
use Rattle.uss_law_book.proofs.Attempts.{trial_found, trial_has}
use Rattle.uss_law_book.proofs.Greatest.{in_jobs}

has_last_or : {X : Type 0} (o : Option X) (xs : List X) (x : X) → last_or o xs ≡ Some x → (o ≡ Some x) ⊎ Has xs x
has_last_or o [] x h = inl h
has_last_or o (y ∷ xs) x h = elim (has_last_or (Some y) xs x h) [ inl e ↦ inr (inl (cc)) | inr k ↦ inr (inr k) ]

-- what is recorded of a flight is there, and is of a job of the flight
pub holding_has : (book : List Entry) (flight : ℕ) (h : Holding) → holding flight book ≡ Some h → Has (holdings book) h × (is_job_of flight h.job book ≡ true)
unfolding holding holdings_of
holding_has book flight h e = go (has_ended flight book) e
  where
    in_list : Has (holdings_of flight book) h → Has (holdings book) h × (is_job_of flight h.job book ≡ true)
    in_list k = (has_filter (λ (x : Holding). is_job_of flight x.job book) (holdings book) h k, has_passed (λ (x : Holding). is_job_of flight x.job book) (holdings book) h k)

    go : (b : Bool) → cond b None (last_holding flight book) ≡ Some h → Has (holdings book) h × (is_job_of flight h.job book ≡ true)
    go true k = cc
    go false k = elim (has_last_or None (holdings_of flight book) h k) [ inl n ↦ cc | inr i ↦ in_list i ]

job_of_flight : (book : List Entry) (flight job : ℕ) → is_job_of flight job book ≡ true → (o : Opening) × (opening_of job book ≡ Some o) × (o.ask.flight ≡ flight)
unfolding is_job_of
job_of_flight book flight job h = go (opening_of job book) refl h
  where
    go : (x : Option Opening) → opening_of job book ≡ x → is_for flight x ≡ true → (o : Opening) × (opening_of job book ≡ Some o) × (o.ask.flight ≡ flight)
    go None e k = cc
    go (Some o) e k = (o, e, same_number o.ask.flight flight k)

-- an attempt, and a job, is found
pub trial_is_found : (book : List Entry) (t : Trial) → IsOrderly book → Has (trials book) t → trial_of t.tag book ≡ Some t
trial_is_found book t s h =
    let f = trial_found book t.tag t h refl in
    let g = trial_has book t.tag f.0 f.1 in
    f.1 ∙ ap Some (s.tags f.0 t g.0 h g.1)

pub opening_is_found : (book : List Entry) (o : Opening) → IsOrderly book → Has (openings book) o → opening_of o.job book ≡ Some o
opening_is_found book o s h =
    let f = opening_found book o o.job h refl in
    let g = opening_has book o.job f.0 f.1 in
    f.1 ∙ ap Some (s.jobs f.0 o g.0 h g.1)

pub open_job_is_found : (book : List Entry) (o : Opening) → IsOrderly book → Has (openings book) o → is_closed o.job book ≡ false → open_job_of o.ask.flight book ≡ Some o
unfolding open_job_of jobs_of
open_job_is_found book o s h u =
    let test : Opening → Bool = λ p. not (is_closed p.job book) in
    let f = find_found test (jobs_of o.ask.flight book) o (in_jobs book o o.ask.flight h refl) (ap not u) in
    let g = find_has test (jobs_of o.ask.flight book) f.0 f.1 in
    let there = has_filter (λ (p : Opening). p.ask.flight == o.ask.flight) (openings book) f.0 g.0 in
    let same_flight = same_number f.0.ask.flight o.ask.flight (has_passed (λ (p : Opening). p.ask.flight == o.ask.flight) (openings book) f.0 g.0) in
    f.1 ∙ ap Some (s.unclosed f.0 o there h (not_true (is_closed f.0.job book) g.1) u same_flight)

-- what is recorded is an attempt of a job of the flight, as it was recorded
pub held_of : (book : List Entry) (flight : ℕ) (h : Holding) → IsOrderly book → holding flight book ≡ Some h → IsHeldOf book flight h
unfolding held
held_of book flight h s e =
    let i = holding_has book flight h e in
    let j = job_of_flight book flight h.job i.1 in
    let t = s.own h i.0 in
    let a = s.attempted t.0 t.1 in
    let found : attempt_of h.tag book ≡ Some a.0 = subst (λ g. attempt_of g book ≡ Some a.0) t.3 a.1 in
    record {
      opening = j.0;
      trial = t.0;
      attempt = a.0;
      entered = i.0;
      opened = j.1;
      flight_is = j.2;
      tried = t.1;
      job = t.2;
      tag = t.3;
      found = found;
      is = rw (e, found) refl;
    }

-- the base of a flight is the OVN of what is held of it
pub base_is : (book : List Entry) (flight : ℕ) → IsOrderly book → current_ovn_of flight book ≡ option_and_then (λ (p : OperationalIntent). p.reference.ovn) (held flight book)
unfolding held
base_is book flight s = go (holding flight book) refl
  where
    go : (x : Option Holding) → holding flight book ≡ x → option_map (λ (h : Holding). h.ovn) (holding flight book) ≡ option_and_then (λ (p : OperationalIntent). p.reference.ovn) (held_by book (holding flight book))
    go None e = rw e refl
    go (Some h) e = let k = held_of book flight h s e in rw (e, k.found) refl
