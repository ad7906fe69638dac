-- Pairs by their numbers of hearing.
use Rattle.std.proofs.Common.{◌≡◌, ℕ, ◌+◌, ◌≤◌, Bool, true, false, cond, List, [], ◌∷◌, ◌++◌, Option, Some, None, is_some, refl, ap, sym, ◌∙◌, arith, find, eqb}
use Rattle.std.specs.List.{list_any}
use Rattle.std.specs.Ordering.{nat_cmp}
use Rattle.std.specs.declared.cmp.Ordering.TheVariants.{Greater}
use Rattle.std.specs.BTreeMap.{is_at, insert_entry}
use Rattle.std.specs.Map.{values_of, lookup, remove_entry}
use Rattle.std.proofs.lemmas.Bool.Decides.{nat_tests}
use Rattle.uss_event.specs.Pairs.{OperationalIntent}
use Rattle.uss_event.specs.Heard.{is_of, without}
use Rattle.uss_key.specs.Kept.{are_of_different_flights}
use Rattle.uss_key.specs.Store.{number_of, are_numbered}
use Rattle.uss_key.proofs.Lists.{without_absent, first_alone, same_flight}

pub no_some : {X A : Type 0} (x : X) → None ≡ Some x → A
no_some x h = absurd (cc)

pub at_is_same : (n k : ℕ) → is_at (nat_cmp n) k ≡ eqb n k
at_is_same n k = grind (arith, nat_tests)

pub weaker : (low from : ℕ) (es : List (ℕ × OperationalIntent)) (to : ℕ) → low ≤ from → are_numbered from es to ≡ true → are_numbered low es to ≡ true
weaker low from [] to h n = grind (arith, nat_tests)
weaker low from (e ∷ es) to h n = grind (arith, nat_tests)

least_at : (flight from : ℕ) (e : ℕ × OperationalIntent) (es : List (ℕ × OperationalIntent)) (to n : ℕ) (b : Bool) → is_of flight e.1 ≡ b → are_numbered from (e ∷ es) to ≡ true → number_of flight (e ∷ es) ≡ Some n → (are_numbered (e.0 + 1) es to ≡ true → number_of flight es ≡ Some n → e.0 + 1 ≤ n) → from ≤ n
least_at flight from e es to n true is up at rest =
    let here : Some e.0 ≡ Some n = rw is at at in
    let same : e.0 ≡ n = cc in
    grind (arith, nat_tests)
least_at flight from e es to n false is up at rest =
    let later : number_of flight es ≡ Some n = rw is at at in
    let below : from ≤ e.0 = grind (arith, nat_tests) in
    let up' : are_numbered (e.0 + 1) es to ≡ true = grind (arith, nat_tests) in
    let more : e.0 + 1 ≤ n = rest up' later in
    omega arith

numbered_to_at : (from : ℕ) (e : ℕ × OperationalIntent) (es : List (ℕ × OperationalIntent)) (to : ℕ) → are_numbered from (e ∷ es) to ≡ true → (are_numbered (e.0 + 1) es to ≡ true → e.0 + 1 ≤ to) → from ≤ to
numbered_to_at from e es to up rest =
    let up' : are_numbered (e.0 + 1) es to ≡ true = grind (arith, nat_tests) in
    let more : e.0 + 1 ≤ to = rest up' in
    grind (arith, nat_tests)

pub numbered_to : (from : ℕ) (es : List (ℕ × OperationalIntent)) (to : ℕ) → are_numbered from es to ≡ true → from ≤ to
numbered_to from [] to up = grind (arith, nat_tests)
numbered_to from (e ∷ es) to up = numbered_to_at from e es to up (numbered_to (e.0 + 1) es to)

-- no number is less than the first
pub least : (flight from : ℕ) (es : List (ℕ × OperationalIntent)) (to n : ℕ) → are_numbered from es to ≡ true → number_of flight es ≡ Some n → from ≤ n
least flight from [] to n up at = no_some n at
least flight from (e ∷ es) to n up at = least_at flight from e es to n (is_of flight e.1) refl up at (least flight (e.0 + 1) es to n)

-- the pair at a number, where there is one
abbrev pub at_number : Option ℕ → List (ℕ × OperationalIntent) → Option OperationalIntent
at_number None es = None
at_number (Some n) es = lookup (is_at (nat_cmp n)) es

past_first : (o : Option ℕ) (flight from : ℕ) (e : ℕ × OperationalIntent) (es : List (ℕ × OperationalIntent)) (to : ℕ) → number_of flight es ≡ o → are_numbered from (e ∷ es) to ≡ true → at_number o (e ∷ es) ≡ at_number o es
past_first None flight from e es to is up = refl
past_first (Some n) flight from e es to is up =
    let up' : are_numbered (e.0 + 1) es to ≡ true = grind (arith, nat_tests) in
    let above : e.0 + 1 ≤ n = least flight (e.0 + 1) es to n up' is in
    let apart : is_at (nat_cmp n) e.0 ≡ false = grind (arith, nat_tests) in
    rw apart refl

found_at : (flight from : ℕ) (e : ℕ × OperationalIntent) (es : List (ℕ × OperationalIntent)) (to : ℕ) (b : Bool) → is_of flight e.1 ≡ b → are_numbered from (e ∷ es) to ≡ true → at_number (number_of flight es) es ≡ find (is_of flight) (values_of es) → at_number (number_of flight (e ∷ es)) (e ∷ es) ≡ find (is_of flight) (values_of (e ∷ es))
found_at flight from e es to true is up rest =
    let itself : is_at (nat_cmp e.0) e.0 ≡ true = grind (arith, nat_tests) in
    rw is (rw itself refl)
found_at flight from e es to false is up rest = rw is (past_first (number_of flight es) flight from e es to refl up ∙ rest)

-- a flight's pair stands at its number
pub found_by_number : (flight from : ℕ) (es : List (ℕ × OperationalIntent)) (to : ℕ) → are_numbered from es to ≡ true → at_number (number_of flight es) es ≡ find (is_of flight) (values_of es)
found_by_number flight from [] to up = refl
found_by_number flight from (e ∷ es) to up =
    let up' : are_numbered (e.0 + 1) es to ≡ true = grind (arith, nat_tests) in
    found_at flight from e es to (is_of flight e.1) refl up (found_by_number flight (e.0 + 1) es to up')

none_at : (flight : ℕ) (e : ℕ × OperationalIntent) (es : List (ℕ × OperationalIntent)) (b : Bool) → is_of flight e.1 ≡ b → is_some (number_of flight es) ≡ list_any (is_of flight) (values_of es) → is_some (number_of flight (e ∷ es)) ≡ list_any (is_of flight) (values_of (e ∷ es))
none_at flight e es true is rest = rw is refl
none_at flight e es false is rest = rw is rest

-- a flight has a number exactly where it has a pair
pub numbered_is_there : (flight : ℕ) (es : List (ℕ × OperationalIntent)) → is_some (number_of flight es) ≡ list_any (is_of flight) (values_of es)
numbered_is_there flight [] = refl
numbered_is_there flight (e ∷ es) = none_at flight e es (is_of flight e.1) refl (numbered_is_there flight es)

pub none_from_no_some : {X : Type 0} (o : Option X) → is_some o ≡ false → o ≡ None
none_from_no_some None h = refl
none_from_no_some (Some x) h = absurd (cc)

-- the removal of a number

removed_up_at : (from n : ℕ) (e : ℕ × OperationalIntent) (es : List (ℕ × OperationalIntent)) (to : ℕ) (b : Bool) → is_at (nat_cmp n) e.0 ≡ b → are_numbered from (e ∷ es) to ≡ true → (are_numbered (e.0 + 1) es to ≡ true → are_numbered (e.0 + 1) (remove_entry (is_at (nat_cmp n)) es) to ≡ true) → are_numbered from (remove_entry (is_at (nat_cmp n)) (e ∷ es)) to ≡ true
removed_up_at from n e es to true is up rest =
    let below : from ≤ e.0 + 1 = grind (arith, nat_tests) in
    let up' : are_numbered (e.0 + 1) es to ≡ true = grind (arith, nat_tests) in
    rw is (weaker from (e.0 + 1) es to below up')
removed_up_at from n e es to false is up rest =
    let up' : are_numbered (e.0 + 1) es to ≡ true = grind (arith, nat_tests) in
    let left : are_numbered (e.0 + 1) (remove_entry (is_at (nat_cmp n)) es) to ≡ true = rest up' in
    rw is (grind (arith, nat_tests))

pub removed_up : (from n : ℕ) (es : List (ℕ × OperationalIntent)) (to : ℕ) → are_numbered from es to ≡ true → are_numbered from (remove_entry (is_at (nat_cmp n)) es) to ≡ true
removed_up from n [] to up = up
removed_up from n (e ∷ es) to up = removed_up_at from n e es to (is_at (nat_cmp n) e.0) refl up (removed_up (e.0 + 1) n es to)

removed_values_at : (flight from n : ℕ) (e : ℕ × OperationalIntent) (es : List (ℕ × OperationalIntent)) (to : ℕ) (b : Bool) → is_of flight e.1 ≡ b → are_numbered from (e ∷ es) to ≡ true → are_of_different_flights (values_of (e ∷ es)) ≡ true → number_of flight (e ∷ es) ≡ Some n → (are_numbered (e.0 + 1) es to ≡ true → are_of_different_flights (values_of es) ≡ true → number_of flight es ≡ Some n → values_of (remove_entry (is_at (nat_cmp n)) es) ≡ without flight (values_of es)) → values_of (remove_entry (is_at (nat_cmp n)) (e ∷ es)) ≡ without flight (values_of (e ∷ es))
removed_values_at flight from n e es to true is up apart at rest =
    let here : Some e.0 ≡ Some n = rw is at at in
    let same : e.0 ≡ n = cc in
    let itself : is_at (nat_cmp n) e.0 ≡ true = grind (arith, nat_tests) in
    let alone : list_any (is_of e.1.reference.flight) (values_of es) ≡ false = (first_alone e.1 (values_of es) apart).0 in
    let none : list_any (is_of flight) (values_of es) ≡ false = rw (same_flight flight e.1 is) at alone in
    rw (itself, is) (sym (without_absent flight (values_of es) none))
removed_values_at flight from n e es to false is up apart at rest =
    let later : number_of flight es ≡ Some n = rw is at at in
    let up' : are_numbered (e.0 + 1) es to ≡ true = grind (arith, nat_tests) in
    let above : e.0 + 1 ≤ n = least flight (e.0 + 1) es to n up' later in
    let other : is_at (nat_cmp n) e.0 ≡ false = grind (arith, nat_tests) in
    rw (other, is) (ap (λ ps. e.1 ∷ ps) (rest up' (first_alone e.1 (values_of es) apart).1 later))

-- taking a flight's number out takes its pair out
pub removed_values : (flight from n : ℕ) (es : List (ℕ × OperationalIntent)) (to : ℕ) → are_numbered from es to ≡ true → are_of_different_flights (values_of es) ≡ true → number_of flight es ≡ Some n → values_of (remove_entry (is_at (nat_cmp n)) es) ≡ without flight (values_of es)
removed_values flight from n [] to up apart at = refl
removed_values flight from n (e ∷ es) to up apart at = removed_values_at flight from n e es to (is_of flight e.1) refl up apart at (removed_values flight (e.0 + 1) n es to)

-- the numbers of the other flights stay

removed_number_at : (g flight from n : ℕ) (e : ℕ × OperationalIntent) (es : List (ℕ × OperationalIntent)) (to : ℕ) (b d : Bool) → is_of flight e.1 ≡ b → is_of g e.1 ≡ d → are_numbered from (e ∷ es) to ≡ true → are_of_different_flights (values_of (e ∷ es)) ≡ true → number_of flight (e ∷ es) ≡ Some n → (are_numbered (e.0 + 1) es to ≡ true → are_of_different_flights (values_of es) ≡ true → number_of flight es ≡ Some n → cond (is_at (nat_cmp flight) g) None (number_of g es) ≡ number_of g (remove_entry (is_at (nat_cmp n)) es)) → cond (is_at (nat_cmp flight) g) None (number_of g (e ∷ es)) ≡ number_of g (remove_entry (is_at (nat_cmp n)) (e ∷ es))
removed_number_at g flight from n e es to true true is here up apart at rest =
    let first : Some e.0 ≡ Some n = rw is at at in
    let same : e.0 ≡ n = cc in
    let itself : is_at (nat_cmp n) e.0 ≡ true = grind (arith, nat_tests) in
    let mine : is_at (nat_cmp flight) g ≡ true = grind (arith, nat_tests) in
    let alone : list_any (is_of e.1.reference.flight) (values_of es) ≡ false = (first_alone e.1 (values_of es) apart).0 in
    let none : list_any (is_of g) (values_of es) ≡ false = rw (same_flight g e.1 here) at alone in
    let absent : number_of g es ≡ None = none_from_no_some (number_of g es) (numbered_is_there g es ∙ none) in
    rw (itself, mine) (sym absent)
removed_number_at g flight from n e es to true false is other up apart at rest =
    let first : Some e.0 ≡ Some n = rw is at at in
    let same : e.0 ≡ n = cc in
    let itself : is_at (nat_cmp n) e.0 ≡ true = grind (arith, nat_tests) in
    let apart' : is_at (nat_cmp flight) g ≡ false = grind (arith, nat_tests) in
    rw (itself, apart', other) refl
removed_number_at g flight from n e es to false true is here up apart at rest =
    let later : number_of flight es ≡ Some n = rw is at at in
    let up' : are_numbered (e.0 + 1) es to ≡ true = grind (arith, nat_tests) in
    let above : e.0 + 1 ≤ n = least flight (e.0 + 1) es to n up' later in
    let stays : is_at (nat_cmp n) e.0 ≡ false = grind (arith, nat_tests) in
    let apart' : is_at (nat_cmp flight) g ≡ false = grind (arith, nat_tests) in
    rw (stays, apart', here) refl
removed_number_at g flight from n e es to false false is other up apart at rest =
    let later : number_of flight es ≡ Some n = rw is at at in
    let up' : are_numbered (e.0 + 1) es to ≡ true = grind (arith, nat_tests) in
    let above : e.0 + 1 ≤ n = least flight (e.0 + 1) es to n up' later in
    let stays : is_at (nat_cmp n) e.0 ≡ false = grind (arith, nat_tests) in
    rw (stays, other) (rest up' (first_alone e.1 (values_of es) apart).1 later)

pub removed_number : (g flight from n : ℕ) (es : List (ℕ × OperationalIntent)) (to : ℕ) → are_numbered from es to ≡ true → are_of_different_flights (values_of es) ≡ true → number_of flight es ≡ Some n → cond (is_at (nat_cmp flight) g) None (number_of g es) ≡ number_of g (remove_entry (is_at (nat_cmp n)) es)
removed_number g flight from n [] to up apart at = no_some n at
removed_number g flight from n (e ∷ es) to up apart at =
    removed_number_at g flight from n e es to (is_of flight e.1) (is_of g e.1) refl refl up apart at (removed_number g flight (e.0 + 1) n es to)

first_number_at : (g : ℕ) (e : ℕ × OperationalIntent) (es : List (ℕ × OperationalIntent)) (b : Bool) → is_of g e.1 ≡ b → are_of_different_flights (values_of (e ∷ es)) ≡ true → cond (is_at (nat_cmp e.1.reference.flight) g) None (number_of g (e ∷ es)) ≡ number_of g es
first_number_at g e es true here apart =
    let mine : is_at (nat_cmp e.1.reference.flight) g ≡ true = grind (arith, nat_tests) in
    let alone : list_any (is_of e.1.reference.flight) (values_of es) ≡ false = (first_alone e.1 (values_of es) apart).0 in
    let none : list_any (is_of g) (values_of es) ≡ false = rw (same_flight g e.1 here) at alone in
    let absent : number_of g es ≡ None = none_from_no_some (number_of g es) (numbered_is_there g es ∙ none) in
    rw mine (sym absent)
first_number_at g e es false other apart =
    let apart' : is_at (nat_cmp e.1.reference.flight) g ≡ false = grind (arith, nat_tests) in
    rw (apart', other) refl

-- once the first is out, the other flights have their numbers
pub first_number : (g : ℕ) (e : ℕ × OperationalIntent) (es : List (ℕ × OperationalIntent)) → are_of_different_flights (values_of (e ∷ es)) ≡ true → cond (is_at (nat_cmp e.1.reference.flight) g) None (number_of g (e ∷ es)) ≡ number_of g es
first_number g e es apart = first_number_at g e es (is_of g e.1) refl apart

-- the next number goes to the end

pub put_last : (from : ℕ) (es : List (ℕ × OperationalIntent)) (next : ℕ) (p : OperationalIntent) → are_numbered from es next ≡ true → insert_entry nat_cmp es next p ≡ es ++ (next, p) ∷ []
put_last from [] next p up = refl
put_last from (e ∷ es) next p up =
    let up' : are_numbered (e.0 + 1) es next ≡ true = grind (arith, nat_tests) in
    let end : e.0 + 1 ≤ next = numbered_to (e.0 + 1) es next up' in
    let after : nat_cmp next e.0 ≡ Greater = grind (arith, nat_tests) in
    rw after (ap (λ fs. e ∷ fs) (put_last (e.0 + 1) es next p up'))

pub put_up : (from : ℕ) (es : List (ℕ × OperationalIntent)) (next : ℕ) (p : OperationalIntent) → are_numbered from es next ≡ true → are_numbered from (es ++ (next, p) ∷ []) (next + 1) ≡ true
put_up from [] next p up = grind (arith, nat_tests)
put_up from (e ∷ es) next p up =
    let up' : are_numbered (e.0 + 1) es next ≡ true = grind (arith, nat_tests) in
    let left : are_numbered (e.0 + 1) (es ++ (next, p) ∷ []) (next + 1) ≡ true = put_up (e.0 + 1) es next p up' in
    grind (arith, nat_tests)

put_number_at : (g : ℕ) (e : ℕ × OperationalIntent) (es : List (ℕ × OperationalIntent)) (next : ℕ) (p : OperationalIntent) (b : Bool) → is_of g e.1 ≡ b → (list_any (is_of p.reference.flight) (values_of es) ≡ false → cond (is_at (nat_cmp p.reference.flight) g) (Some next) (number_of g es) ≡ number_of g (es ++ (next, p) ∷ [])) → list_any (is_of p.reference.flight) (values_of (e ∷ es)) ≡ false → cond (is_at (nat_cmp p.reference.flight) g) (Some next) (number_of g (e ∷ es)) ≡ number_of g ((e ∷ es) ++ (next, p) ∷ [])
put_number_at g e es next p true here rest none =
    let other : is_at (nat_cmp p.reference.flight) g ≡ false = grind (arith, nat_tests) in
    rw (other, here) refl
put_number_at g e es next p false other rest none =
    let none' : list_any (is_of p.reference.flight) (values_of es) ≡ false = grind (arith, nat_tests) in
    rw other (rest none')

pub put_number : (g : ℕ) (es : List (ℕ × OperationalIntent)) (next : ℕ) (p : OperationalIntent) → list_any (is_of p.reference.flight) (values_of es) ≡ false → cond (is_at (nat_cmp p.reference.flight) g) (Some next) (number_of g es) ≡ number_of g (es ++ (next, p) ∷ [])
put_number g [] next p none = grind (arith, nat_tests)
put_number g (e ∷ es) next p none = put_number_at g e es next p (is_of g e.1) refl (put_number g es next p) none
