-- The newest pair beside the earlier ones.
use Rattle.std.proofs.Common.{◌≡◌, ℕ, ◌+◌, ◌<◌, ◌≤◌, true, false, not, cond, List, [], ◌∷◌, ◌++◌, length, Option, Some, None, is_none, refl, sym, ◌∙◌, arith, find, length-append}
use Rattle.std.specs.List.{list_any}
use Rattle.std.specs.Option.{option_to_list, option_or}
use Rattle.std.proofs.lemmas.Bool.Decides.{nat_tests}
use Rattle.std.proofs.lemmas.List.Folds.{find-append}
use Rattle.std.proofs.lemmas.List.Elements.{filter-append}
use Rattle.uss_event.specs.Pairs.{OperationalIntent}
use Rattle.uss_event.specs.Heard.{is_of, without}
use Rattle.uss_key.specs.Kept.{may_be_kept}
use Rattle.uss_key.proofs.Lists.{any_is_found, without_absent, last_alone, same_flight}
use Rattle.uss_key.proofs.Numbers.{none_from_no_some}
use Rattle.uss_key.proofs.Stores.{few, apart}

is_of_only : (flight : ℕ) (q : OperationalIntent) → list_any (is_of flight) (q ∷ []) ≡ true → is_of flight q ≡ true
is_of_only flight q h = grind (arith, nat_tests)

none_earlier : (flight : ℕ) (ps : List OperationalIntent) (q : OperationalIntent) → may_be_kept (ps ++ q ∷ []) ≡ true → is_of flight q ≡ true → list_any (is_of flight) ps ≡ false
none_earlier flight ps q kept is = rw (same_flight flight q is) at (last_alone ps q (apart (ps ++ q ∷ []) kept)).0

pub newest_found : (flight : ℕ) (ps : List OperationalIntent) (o : Option OperationalIntent) → may_be_kept (ps ++ option_to_list o) ≡ true → list_any (is_of flight) (option_to_list o) ≡ true → o ≡ find (is_of flight) (ps ++ option_to_list o)
newest_found flight ps None kept there = absurd (cc)
newest_found flight ps (Some q) kept there =
    let is : is_of flight q ≡ true = is_of_only flight q there in
    let none : list_any (is_of flight) ps ≡ false = none_earlier flight ps q kept is in
    let absent : find (is_of flight) ps ≡ None = none_from_no_some (find (is_of flight) ps) (sym (any_is_found (is_of flight) ps) ∙ none) in
    sym (find-append (is_of flight) ps (q ∷ []) ∙ rw (absent, is) refl)

pub or_none : {X : Type 0} (o : Option X) → option_or o None ≡ o
or_none None = refl
or_none (Some x) = refl

pub earlier_found : (flight : ℕ) (ps : List OperationalIntent) (o : Option OperationalIntent) → list_any (is_of flight) (option_to_list o) ≡ false → find (is_of flight) ps ≡ find (is_of flight) (ps ++ option_to_list o)
earlier_found flight ps o none =
    let absent : find (is_of flight) (option_to_list o) ≡ None = none_from_no_some (find (is_of flight) (option_to_list o)) (sym (any_is_found (is_of flight) (option_to_list o)) ∙ none) in
    sym (find-append (is_of flight) ps (option_to_list o) ∙ rw absent (or_none (find (is_of flight) ps)))

pub newest_out : (flight : ℕ) (ps : List OperationalIntent) (o : Option OperationalIntent) → may_be_kept (ps ++ option_to_list o) ≡ true → list_any (is_of flight) (option_to_list o) ≡ true → ps ++ [] ≡ without flight (ps ++ option_to_list o)
newest_out flight ps None kept there = absurd (cc)
newest_out flight ps (Some q) kept there =
    let is : is_of flight q ≡ true = is_of_only flight q there in
    let none : list_any (is_of flight) ps ≡ false = none_earlier flight ps q kept is in
    let left : without flight ps ≡ ps = without_absent flight ps none in
    sym (filter-append (λ p. not (is_of flight p)) ps (q ∷ []) ∙ rw (left, is) refl)

pub earlier_out : (flight : ℕ) (ps : List OperationalIntent) (o : Option OperationalIntent) → list_any (is_of flight) (option_to_list o) ≡ false → without flight ps ++ option_to_list o ≡ without flight (ps ++ option_to_list o)
earlier_out flight ps o none =
    let left : without flight (option_to_list o) ≡ option_to_list o = without_absent flight (option_to_list o) none in
    sym (filter-append (λ p. not (is_of flight p)) ps (option_to_list o) ∙ rw left refl)

-- the newest may be earlier
pub may_settle : (ps : List OperationalIntent) (q : OperationalIntent) → may_be_kept (ps ++ q ∷ []) ≡ true → (find (is_of q.reference.flight) ps ≡ None) × (length ps < 4096)
may_settle ps q kept =
    let alone : list_any (is_of q.reference.flight) ps ≡ false = (last_alone ps q (apart (ps ++ q ∷ []) kept)).0 in
    let most : length ps + 1 ≤ 4096 = simp length-append at (few (ps ++ q ∷ []) kept) in
    (none_from_no_some (find (is_of q.reference.flight) ps) (sym (any_is_found (is_of q.reference.flight) ps) ∙ alone), omega arith)

pub spare_is_none : {X : Type 0} (o : Option X) → 1 ≤ cond (is_none o) 1 0 → o ≡ None
spare_is_none None h = refl
spare_is_none (Some x) h = absurd (omega arith)
