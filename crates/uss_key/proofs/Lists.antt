-- Lists of pairs of different flights.
use Rattle.std.proofs.Common.{◌≡◌, ℕ, ◌+◌, ◌≤◌, Bool, true, false, ◌||◌, List, [], ◌∷◌, ◌++◌, length, is_some, refl, ap, arith, find}
use Rattle.std.specs.List.{list_any}
use Rattle.std.proofs.lemmas.Bool.Decides.{nat_tests}
use Rattle.std.proofs.lemmas.List.Folds.{list_any-append}
use Rattle.uss_event.specs.Pairs.{OperationalIntent}
use Rattle.uss_event.specs.Heard.{is_of, without}
use Rattle.uss_key.specs.Kept.{are_of_different_flights}

any_at : {X : Type 0} (p : X → Bool) (x : X) (xs : List X) (b : Bool) → p x ≡ b → list_any p xs ≡ is_some (find p xs) → list_any p (x ∷ xs) ≡ is_some (find p (x ∷ xs))
any_at p x xs true is rest = rw is refl
any_at p x xs false is rest = rw is rest

-- some item passes exactly where one is found
pub any_is_found : {X : Type 0} (p : X → Bool) (xs : List X) → list_any p xs ≡ is_some (find p xs)
any_is_found p [] = refl
any_is_found p (x ∷ xs) = any_at p x xs (p x) refl (any_is_found p xs)

without_at : (flight : ℕ) (p : OperationalIntent) (ps : List OperationalIntent) (b : Bool) → is_of flight p ≡ b → list_any (is_of flight) (p ∷ ps) ≡ false → (list_any (is_of flight) ps ≡ false → without flight ps ≡ ps) → without flight (p ∷ ps) ≡ p ∷ ps
without_at flight p ps true is none rest = absurd (let no : true ≡ false = rw is at none in cc)
without_at flight p ps false is none rest = rw is (ap (λ qs. p ∷ qs) (rest (rw is at none)))

-- taking out what isn't there leaves the list as it was
pub without_absent : (flight : ℕ) (ps : List OperationalIntent) → list_any (is_of flight) ps ≡ false → without flight ps ≡ ps
without_absent flight [] none = refl
without_absent flight (p ∷ ps) none = without_at flight p ps (is_of flight p) refl none (without_absent flight ps)

-- the first apart from the others
pub first_alone : (p : OperationalIntent) (ps : List OperationalIntent) → are_of_different_flights (p ∷ ps) ≡ true → (list_any (is_of p.reference.flight) ps ≡ false) × (are_of_different_flights ps ≡ true)
first_alone p ps apart = (grind (arith, nat_tests), grind (arith, nat_tests))

pub same_flight : (flight : ℕ) (p : OperationalIntent) → is_of flight p ≡ true → p.reference.flight ≡ flight
same_flight flight p is = grind (arith, nat_tests)

-- one of another flight at the end
pub one_more_flight : (ps : List OperationalIntent) (q : OperationalIntent) → are_of_different_flights ps ≡ true → list_any (is_of q.reference.flight) ps ≡ false → are_of_different_flights (ps ++ q ∷ []) ≡ true
one_more_flight [] q apart none = refl
one_more_flight (p ∷ ps) q apart none =
    let here = first_alone p ps apart in
    let none' : list_any (is_of q.reference.flight) ps ≡ false = grind (arith, nat_tests) in
    let rest : are_of_different_flights (ps ++ q ∷ []) ≡ true = one_more_flight ps q here.1 none' in
    let both : list_any (is_of p.reference.flight) (ps ++ q ∷ []) ≡ (list_any (is_of p.reference.flight) ps || (is_of p.reference.flight q || false)) = list_any-append (is_of p.reference.flight) ps (q ∷ []) in
    grind (arith, nat_tests)

-- the last apart from the others
pub last_alone : (ps : List OperationalIntent) (q : OperationalIntent) → are_of_different_flights (ps ++ q ∷ []) ≡ true → (list_any (is_of q.reference.flight) ps ≡ false) × (are_of_different_flights ps ≡ true)
last_alone [] q apart = (refl, refl)
last_alone (p ∷ ps) q apart =
    let here = first_alone p (ps ++ q ∷ []) apart in
    let rest = last_alone ps q here.1 in
    let both : list_any (is_of p.reference.flight) (ps ++ q ∷ []) ≡ (list_any (is_of p.reference.flight) ps || (is_of p.reference.flight q || false)) = list_any-append (is_of p.reference.flight) ps (q ∷ []) in
    (grind (arith, nat_tests), grind (arith, nat_tests))

-- what is left without a flight

none_left_at : (flight : ℕ) (p : OperationalIntent) (ps : List OperationalIntent) (b : Bool) → is_of flight p ≡ b → list_any (is_of flight) (without flight ps) ≡ false → list_any (is_of flight) (without flight (p ∷ ps)) ≡ false
none_left_at flight p ps true is rest = rw is rest
none_left_at flight p ps false is rest = rw is (rw is rest)

pub none_left : (flight : ℕ) (ps : List OperationalIntent) → list_any (is_of flight) (without flight ps) ≡ false
none_left flight [] = refl
none_left flight (p ∷ ps) = none_left_at flight p ps (is_of flight p) refl (none_left flight ps)

fewer_at : (g flight : ℕ) (p : OperationalIntent) (ps : List OperationalIntent) (b : Bool) → is_of flight p ≡ b → list_any (is_of g) (p ∷ ps) ≡ false → (list_any (is_of g) ps ≡ false → list_any (is_of g) (without flight ps) ≡ false) → list_any (is_of g) (without flight (p ∷ ps)) ≡ false
fewer_at g flight p ps true is none rest =
    let none' : list_any (is_of g) ps ≡ false = grind (arith, nat_tests) in
    rw is (rest none')
fewer_at g flight p ps false is none rest =
    let none' : list_any (is_of g) ps ≡ false = grind (arith, nat_tests) in
    let left : list_any (is_of g) (without flight ps) ≡ false = rest none' in
    rw is (grind (arith, nat_tests))

-- taking out brings nothing in
pub fewer : (g flight : ℕ) (ps : List OperationalIntent) → list_any (is_of g) ps ≡ false → list_any (is_of g) (without flight ps) ≡ false
fewer g flight [] none = refl
fewer g flight (p ∷ ps) none = fewer_at g flight p ps (is_of flight p) refl none (fewer g flight ps)

still_apart_at : (flight : ℕ) (p : OperationalIntent) (ps : List OperationalIntent) (b : Bool) → is_of flight p ≡ b → are_of_different_flights (p ∷ ps) ≡ true → (are_of_different_flights ps ≡ true → are_of_different_flights (without flight ps) ≡ true) → are_of_different_flights (without flight (p ∷ ps)) ≡ true
still_apart_at flight p ps true is apart rest = rw is (rest (first_alone p ps apart).1)
still_apart_at flight p ps false is apart rest =
    let here = first_alone p ps apart in
    let left : are_of_different_flights (without flight ps) ≡ true = rest here.1 in
    let none : list_any (is_of p.reference.flight) (without flight ps) ≡ false = fewer p.reference.flight flight ps here.0 in
    rw is (grind (arith, nat_tests))

pub still_apart : (flight : ℕ) (ps : List OperationalIntent) → are_of_different_flights ps ≡ true → are_of_different_flights (without flight ps) ≡ true
still_apart flight [] apart = refl
still_apart flight (p ∷ ps) apart = still_apart_at flight p ps (is_of flight p) refl apart (still_apart flight ps)

shorter_at : (flight : ℕ) (p : OperationalIntent) (ps : List OperationalIntent) (b : Bool) → is_of flight p ≡ b → length (without flight ps) ≤ length ps → length (without flight (p ∷ ps)) ≤ length (p ∷ ps)
shorter_at flight p ps true is rest = rw is (omega arith)
shorter_at flight p ps false is rest = rw is (omega arith)

pub no_longer : (flight : ℕ) (ps : List OperationalIntent) → length (without flight ps) ≤ length ps
no_longer flight [] = omega arith
no_longer flight (p ∷ ps) = shorter_at flight p ps (is_of flight p) refl (no_longer flight ps)

one_less_at : (flight : ℕ) (p : OperationalIntent) (ps : List OperationalIntent) (b : Bool) → is_of flight p ≡ b → list_any (is_of flight) (p ∷ ps) ≡ true → (list_any (is_of flight) ps ≡ true → length (without flight ps) + 1 ≤ length ps) → length (without flight (p ∷ ps)) + 1 ≤ length (p ∷ ps)
one_less_at flight p ps true is some rest =
    let same : length (without flight ps) ≤ length ps = no_longer flight ps in
    rw is (omega arith)
one_less_at flight p ps false is some rest =
    let left : length (without flight ps) + 1 ≤ length ps = rest (rw is at some) in
    rw is (omega arith)

-- one that is there is taken out
pub one_less : (flight : ℕ) (ps : List OperationalIntent) → list_any (is_of flight) ps ≡ true → length (without flight ps) + 1 ≤ length ps
one_less flight [] some = absurd (cc)
one_less flight (p ∷ ps) some = one_less_at flight p ps (is_of flight p) refl some (one_less flight ps)
