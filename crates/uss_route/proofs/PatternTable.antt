-- The table that the patterns make.
use Rattle.std.proofs.Common.{◌≡◌, ℕ, zero, suc, ◌+◌, ◌<◌, List, [], ◌∷◌, ◌++◌, length, get_or, take, Some, None, Ok, Err, refl, sym, arith, add-one, subst, ◌≤◌}
use Rattle.std.proofs.lemmas.List.{take_all}
use Rattle.std.specs.Borrow.{Bor}
use Rattle.std.specs.Prelude.{codes, map, Result, OnOk}
use Rattle.matchit.specs.Rows.{Rows, prepend, ends}
use Rattle.matchit.specs.Route.{Scan, parse_route}
use Rattle.matchit.specs.Router.{InsertsRead, rename}
use Rattle.matchit.specs.declared.error.InsertError.{InsertError}
use Rattle.matchit.proofs.OnLiterals.{matchit_on_literals}
use Rattle.uss_route.specs.declared.patterns.RoutePath.{RoutePath}
use Rattle.uss_route.specs.declared.patterns.RoutePath.TheVariants as path
use Rattle.uss_route.specs.declared.patterns.TheConstants.{PATTERNS}
use Rattle.uss_route.specs.Patterns.{Table, on_read, with_pattern, IsFree, FindsRows}
use Rattle.uss_route.proofs.Walking.{at_parameter}

-- ---- what an insert leaves

on_insert : (scan : Result Scan InsertError) (value : RoutePath) (old new : Table) (r : Result (Unit {0}) InsertError) → InsertsRead scan value old new r → OnOk r (new ≡ on_read old value scan)
on_insert (Ok s) value old new (Ok u) h = h.1
on_insert (Ok s) value old new (Err e) h = tt
on_insert (Err e) value old new (Ok u) h = h.0
on_insert (Err e) value old new (Err d) h = tt

pub inserted : (text : List ℕ) (value : RoutePath) (old new : Table) (r : Result (Unit {0}) InsertError) → InsertsRead (parse_route text) value old new r → OnOk r (new ≡ with_pattern old (text, value))
unfolding with_pattern
inserted text value old new r h = on_insert (parse_route text) value old new r h

-- ---- one pattern after another

abbrev pub Entry : Type 0
Entry = List ℕ × RoutePath

unfoldable pub rows_from : Table → List Entry → Table
rows_from table [] = table
rows_from table (e ∷ es) = rows_from (with_pattern table e) es

-- the patterns of a list that is gone over
abbrev pub listed : List (Bor (List ℕ) × RoutePath) → List Entry
listed [] = []
listed (e ∷ es) = (e.0.now, e.1) ∷ listed es

-- each is free where those before it were added
abbrev pub AllFree : Table → List Entry → Type 0
AllFree table [] = Unit {0}
AllFree table (e ∷ es) = IsFree table e.0 × AllFree (with_pattern table e) es

pub empty_rows : rows_from [] [] ≡ []
unfolding rows_from
empty_rows = refl

more : (table : Table) (xs : List (Bor (List ℕ) × RoutePath)) (i : ℕ) (d : Bor (List ℕ) × RoutePath) → i < length xs
    → rows_from table (listed (take (suc i) xs)) ≡ with_pattern (rows_from table (listed (take i xs))) ((get_or xs i d).0.now, (get_or xs i d).1)
unfolding rows_from
more table [] i d lt = absurd (omega (arith, lt))
more table (x ∷ xs) zero d lt = refl
more table (x ∷ xs) (suc i) d lt = more (with_pattern table (x.0.now, x.1)) xs i d (omega (arith, lt))

pub one_more : (router : Table) (xs : List (Bor (List ℕ) × RoutePath)) (i : ℕ) (d : Bor (List ℕ) × RoutePath) → router ≡ rows_from [] (listed (take i xs)) → i < length xs
    → with_pattern router ((get_or xs i d).0.now, (get_or xs i d).1) ≡ rows_from [] (listed (take (i + 1) xs))
one_more router xs i d is lt = rw (add-one, is) (sym (more [] xs i d lt))

free_from : (table : Table) (xs : List (Bor (List ℕ) × RoutePath)) (i : ℕ) (d : Bor (List ℕ) × RoutePath) → i < length xs → AllFree table (listed xs) → IsFree (rows_from table (listed (take i xs))) (get_or xs i d).0.now
unfolding rows_from
free_from table [] i d lt all = absurd (omega (arith, lt))
free_from table (x ∷ xs) zero d lt all = all.0
free_from table (x ∷ xs) (suc i) d lt all = free_from (with_pattern table (x.0.now, x.1)) xs i d (omega (arith, lt)) all.1

pub free_at : (router : Table) (xs : List (Bor (List ℕ) × RoutePath)) (i : ℕ) (d : Bor (List ℕ) × RoutePath) → router ≡ rows_from [] (listed (take i xs)) → i < length xs → AllFree [] (listed xs) → IsFree router (get_or xs i d).0.now
free_at router xs i d is lt all = rw is (free_from [] xs i d lt all)

pub at_end : (router : Table) (xs : List (Bor (List ℕ) × RoutePath)) (i : ℕ) → router ≡ rows_from [] (listed (take i xs)) → length xs ≤ i → FindsRows (rows_from [] (listed xs)) → FindsRows router
at_end router xs i is end finds = subst FindsRows (sym is) (subst (λ ys. FindsRows (rows_from [] (listed ys))) (sym (take_all i xs end)) finds)

-- the patterns of the table
abbrev pub entries : List Entry
entries = map (λ e. (e.0.now, e.1)) PATTERNS

pub all_free : AllFree [] entries
unfolding matchit_on_literals with_pattern
all_free = (refl, (refl, (refl, (refl, (refl, (refl, (refl, (refl, (refl, (refl, (refl, (refl, (refl, (refl, (refl, (refl, (refl, (refl, tt))))))))))))))))))

-- ---- the table by its parts

-- a path has the number of its first row in the order of all rows
abbrev pub number : RoutePath → ℕ
number path.ReferenceQuery = 0
number path.Reference = 1
number path.ReferenceVersion = 3
number path.Ticket = 5
number path.TicketVersion = 7
number path.TicketQuery = 8
number path.Intent = 10
number path.Intents = 11
number path.Asks = 12
number path.Cancels = 13
number path.Positions = 14
number path.Sweeps = 15

-- a path that is written out
abbrev pub one : List ℕ → ℕ → Rows
one text k = prepend text (ends (Some k))

-- a text, and after it one parameter or two
abbrev pub one_or_two : List ℕ → ℕ → ℕ → Rows
one_or_two text k j = prepend text (at_parameter (at_parameter [] (Some j)) (Some k))

abbrev pub intent_rows : Rows
intent_rows = prepend (codes "uss/v1/operational_intents/") (at_parameter [] (Some 10)) ++ one (codes "uss/v1/operational_intents") 11

abbrev pub sweep_rows : Rows
sweep_rows = one (codes "operator/v1/sweeps") 15 ++ intent_rows

abbrev pub position_rows : Rows
position_rows = one (codes "operator/v1/positions") 14 ++ sweep_rows

abbrev pub cancel_rows : Rows
cancel_rows = one (codes "operator/v1/cancels") 13 ++ position_rows

-- the paths of a supplier after their slash
abbrev pub supplier_rows : Rows
supplier_rows = one (codes "operator/v1/asks") 12 ++ cancel_rows

abbrev pub ticket_rows : Rows
ticket_rows = one (codes "/dss/v1/subscriptions/query") 8 ++ one_or_two (codes "/dss/v1/subscriptions/") 5 7

abbrev pub reference_rows : Rows
reference_rows = one_or_two (codes "/dss/v1/operational_intent_references/") 1 3 ++ ticket_rows

abbrev pub dss_rows : Rows
dss_rows = one (codes "/dss/v1/operational_intent_references/query") 0 ++ reference_rows

abbrev pub tagged_rows : Rows
tagged_rows = prepend (codes "/a/") (at_parameter supplier_rows None)

abbrev pub untagged_rows : Rows
untagged_rows = dss_rows ++ prepend (codes "/") supplier_rows

abbrev pub all_paths : Rows
all_paths = tagged_rows ++ untagged_rows

pub table_rows : rename (λ r. number r.value) (rows_from [] entries) ≡ all_paths
unfolding matchit_on_literals with_pattern rows_from
table_rows = refl
