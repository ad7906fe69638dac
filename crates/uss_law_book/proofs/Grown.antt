-- What a book with one more entry tells of flights.
use Rattle.std.proofs.Common.{ℕ, ◌<◌, ◌==◌, Bool, true, false, ◌||◌, ◌&&◌, List, [], ◌∷◌, ◌++◌, ◌≡◌, inl, inr, filter, append-nil, refl, ap, ◌∙◌, Option, Some, None}
use Rattle.std.specs.List.{list_any, last_or}
use Rattle.std.proofs.lemmas.List.Folds.{list_any-append}
use Rattle.std.proofs.lemmas.List.Elements.{filter-append}
use Rattle.uss_event.specs.declared.entries.Entry.{Entry}
use Rattle.uss_event.specs.declared.entries.Entry.TheVariants.{Opened, Held, Done}
use Rattle.uss_law_dss.specs.Lists.{Has}
use Rattle.uss_law_dss.proofs.Lists.{has_filter, has_passed, none_passes}
use Rattle.uss_law_dss.proofs.Tests.{same_number, equal_number, less_test}
use Rattle.uss_event.specs.declared.entries.Opening.{Opening}
use Rattle.uss_event.specs.declared.entries.Holding.{Holding}
use Rattle.uss_event.specs.declared.entries.Closing.{Closing}
use Rattle.uss_law_book.specs.Lists.{openings, holdings, endings}
use Rattle.uss_law_book.specs.Contents.{opening_of, jobs_of, greater, greatest, last_of, is_ended, is_job_of, has_ended, holdings_of, last_holding}
use Rattle.uss_law_book.specs.Legal.{MayOpen}
use Rattle.uss_law_book.specs.Orderly.{IsOrderly}
use Rattle.uss_law_book.proofs.Finds.{any_agrees, filter_agrees, none_filtered, or_false}
use Rattle.uss_law_book.proofs.Entries.{openings_append, holdings_append, endings_append, opening_kept}
use Rattle.uss_law_book.proofs.Greatest.{number_is_greater}
use Rattle.uss_law_book.proofs.Kept.{flight_stays}

-- ---- requests

pub jobs_split : (g : ℕ) (es : List Entry) (e : Entry) → jobs_of g (es ++ e ∷ []) ≡ jobs_of g es ++ filter (λ o. o.ask.flight == g) (openings (e ∷ []))
unfolding jobs_of
jobs_split g es e =
    ap (λ (l : List Opening). filter (λ o. o.ask.flight == g) l) (openings_append es (e ∷ []))
    ∙ filter-append (λ (o : Opening). o.ask.flight == g) (openings es) (openings (e ∷ []))

greatest_last : (os : List Opening) (o : Opening) → ((p : Opening) → Has os p → p.ask.number < o.ask.number) → greatest (os ++ o ∷ []) ≡ Some o
greatest_last [] o h = refl
greatest_last (p ∷ os) o h =
    ap (λ r. greater p r) (greatest_last os o (λ q k. h q (inr k))) ∙ rw (less_test p.ask.number o.ask.number (h p (inl refl))) refl

pub last_else : (g : ℕ) (es : List Entry) (e : Entry) → ((o : Opening) → Has (openings (e ∷ [])) o → (o.ask.flight == g) ≡ false) → last_of g (es ++ e ∷ []) ≡ last_of g es
unfolding last_of
last_else g es e none =
    ap greatest (jobs_split g es e ∙ ap (λ (l : List Opening). jobs_of g es ++ l) (none_filtered (λ (o : Opening). o.ask.flight == g) (openings (e ∷ [])) none) ∙ append-nil (jobs_of g es))

less_than_new : (es : List Entry) (o p : Opening) → MayOpen es o.job o.ask → Has (jobs_of o.ask.flight es) p → p.ask.number < o.ask.number
unfolding jobs_of
less_than_new es o p d k =
    number_is_greater es o.ask p d.later (has_filter (λ (x : Opening). x.ask.flight == o.ask.flight) (openings es) p k)
    (same_number p.ask.flight o.ask.flight (has_passed (λ (x : Opening). x.ask.flight == o.ask.flight) (openings es) p k))

pub last_new : (es : List Entry) (o : Opening) → MayOpen es o.job o.ask → last_of o.ask.flight (es ++ Opened o ∷ []) ≡ Some o
unfolding last_of
last_new es o d =
    let e : Entry = Opened o in
    let one : filter (λ (p : Opening). p.ask.flight == o.ask.flight) (o ∷ []) ≡ o ∷ [] = rw (equal_number o.ask.flight o.ask.flight refl) refl in
    ap greatest (jobs_split o.ask.flight es e ∙ ap (λ (l : List Opening). jobs_of o.ask.flight es ++ l) one) ∙ greatest_last (jobs_of o.ask.flight es) o (λ p k. less_than_new es o p d k)

-- ---- what was recorded

pub job_of_old : (es : List Entry) (e : Entry) (g job : ℕ) (o : Opening) → opening_of job es ≡ Some o → is_job_of g job (es ++ e ∷ []) ≡ (o.ask.flight == g)
unfolding is_job_of
job_of_old es e g job o f = rw (opening_kept es (e ∷ []) job o f) refl

pub holdings_split : (g : ℕ) (es : List Entry) (e : Entry) → IsOrderly es → holdings_of g (es ++ e ∷ []) ≡ holdings_of g es ++ filter (λ x. is_job_of g x.job (es ++ e ∷ [])) (holdings (e ∷ []))
unfolding holdings_of
holdings_split g es e s =
    let later : Holding → Bool = λ x. is_job_of g x.job (es ++ e ∷ []) in
    let before : Holding → Bool = λ x. is_job_of g x.job es in
    ap (λ (l : List Holding). filter later l) (holdings_append es (e ∷ []))
    ∙ filter-append later (holdings es) (holdings (e ∷ []))
    ∙ ap (λ (l : List Holding). l ++ filter later (holdings (e ∷ [])))
    (filter_agrees later before (holdings es) (λ x k. let r = s.recorded x k in flight_stays es (e ∷ []) g x.job r.0 r.1 r.2))

last_pushed : {X : Type 0} (o : Option X) (xs : List X) (x : X) → last_or o (xs ++ x ∷ []) ≡ Some x
last_pushed o [] x = refl
last_pushed o (y ∷ xs) x = last_pushed (Some y) xs x

pub last_holding_else : (g : ℕ) (es : List Entry) (e : Entry) → IsOrderly es → ((x : Holding) → Has (holdings (e ∷ [])) x → is_job_of g x.job (es ++ e ∷ []) ≡ false) → last_holding g (es ++ e ∷ []) ≡ last_holding g es
last_holding_else g es e s none =
    ap (λ (l : List Holding). last_or None l)
    (holdings_split g es e s ∙ ap (λ (l : List Holding). holdings_of g es ++ l) (none_filtered (λ (x : Holding). is_job_of g x.job (es ++ e ∷ [])) (holdings (e ∷ [])) none) ∙ append-nil (holdings_of g es))

pub last_holding_new : (g : ℕ) (es : List Entry) (x : Holding) → IsOrderly es → is_job_of g x.job (es ++ Held x ∷ []) ≡ true → last_holding g (es ++ Held x ∷ []) ≡ Some x
last_holding_new g es x s is =
    let e : Entry = Held x in
    let one : filter (λ (y : Holding). is_job_of g y.job (es ++ e ∷ [])) (x ∷ []) ≡ x ∷ [] = rw is refl in
    ap (λ (l : List Holding). last_or None l) (holdings_split g es e s ∙ ap (λ (l : List Holding). holdings_of g es ++ l) one) ∙ last_pushed None (holdings_of g es) x

-- ---- whether it has ended

pub ended_split : (g : ℕ) (es : List Entry) (e : Entry) → IsOrderly es → has_ended g (es ++ e ∷ []) ≡ (has_ended g es || list_any (λ x. is_ended x.end && is_job_of g x.job (es ++ e ∷ [])) (endings (e ∷ [])))
unfolding has_ended
ended_split g es e s =
    let later : Closing → Bool = λ x. is_ended x.end && is_job_of g x.job (es ++ e ∷ []) in
    let before : Closing → Bool = λ x. is_ended x.end && is_job_of g x.job es in
    ap (λ (l : List Closing). list_any later l) (endings_append es (e ∷ []))
    ∙ list_any-append later (endings es) (endings (e ∷ []))
    ∙ ap (λ b. b || list_any later (endings (e ∷ [])))
    (any_agrees later before (endings es) (λ x k. let r = s.ended x k in ap (λ b. is_ended x.end && b) (flight_stays es (e ∷ []) g x.job r.0 r.1 r.2)))

pub ended_else : (g : ℕ) (es : List Entry) (e : Entry) → IsOrderly es → ((x : Closing) → Has (endings (e ∷ [])) x → (is_ended x.end && is_job_of g x.job (es ++ e ∷ [])) ≡ false) → has_ended g (es ++ e ∷ []) ≡ has_ended g es
ended_else g es e s none =
    ended_split g es e s ∙ rw (none_passes (λ (x : Closing). is_ended x.end && is_job_of g x.job (es ++ e ∷ [])) (endings (e ∷ [])) none) (or_false (has_ended g es))

and_true_right : (a : Bool) → (a && true) ≡ a
and_true_right true = refl
and_true_right false = refl

pub ended_new : (g : ℕ) (es : List Entry) (x : Closing) → IsOrderly es → is_job_of g x.job (es ++ Done x ∷ []) ≡ true → has_ended g (es ++ Done x ∷ []) ≡ (has_ended g es || is_ended x.end)
ended_new g es x s is =
    ended_split g es (Done x) s ∙ ap (λ b. has_ended g es || b) (ap (λ b. (is_ended x.end && b) || false) is ∙ or_false (is_ended x.end && true) ∙ and_true_right (is_ended x.end))
