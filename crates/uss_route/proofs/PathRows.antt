-- The table finds the rows of each path.
use Rattle.std.proofs.Common.{◌≡◌, ℕ, suc, Bool, true, false, List, [], ◌∷◌, ◌++◌, length, drop, Option, Some, None, refl, sym, ap, ◌∙◌, subst, arith, inl, inr, append_assoc, append-nil, is_some}
use Rattle.std.specs.Prelude.{◌⊎◌, ◌&&◌, ◌||◌, ◌==◌, not, bytes_eq, codes}
use Rattle.std.specs.List.{filter, list_all}
use Rattle.std.proofs.lemmas.Bool.{and_from}
use Rattle.std.proofs.lemmas.Bool.Decides.{nat_tests}
use Rattle.std.proofs.lemmas.List.Elements.{All-nil, All-cons, All-head, All-tail, filter_agree}
use Rattle.std.proofs.lemmas.Slice.Eq.{bytes_eq-Decides}
use Rattle.matchit.specs.Rows.{Rows, prepend, ends}
use Rattle.matchit.specs.Router.{RouteOf, map_key}
use Rattle.matchit.specs.Seek.{first}
use Rattle.matchit.proofs.OnLiterals.{matchit_on_literals}
use Rattle.matchit.proofs.SeekLemmas.{seek-empty}
use Rattle.matchit.proofs.RenameLemmas.{first-rename}
use Rattle.uss_route.specs.declared.rows.RouteRow.{RouteRow}
use Rattle.uss_route.specs.declared.rows.RouteRow.TheVariants as row
use Rattle.uss_route.specs.declared.patterns.RoutePath.{RoutePath}
use Rattle.uss_route.specs.declared.patterns.RoutePath.TheVariants as path
use Rattle.uss_route.specs.Rows.{text_of, count_of, is_of_a_supplier, all_rows}
use Rattle.uss_route.specs.Routes.{is_tagged, untagged}
use Rattle.uss_route.specs.Patterns.{rows_of, found_rows, FindsRows}
use Rattle.uss_route.specs.Spelling.{IsParameter, parameters_text, IsPathOf}
use Rattle.uss_route.specs.Served.{IsBehindTag, IsServed, IsWrittenOut, IsMeant}
use Rattle.uss_route.proofs.Looking.{both_left, both_right}
use Rattle.uss_route.proofs.Meaning.{passes_all, meet, meeting, same_number, same_rank, one_of_suppliers}
use Rattle.uss_route.proofs.Routed.{is_tagged_here, path_begins, supplier_by, placed, meant_at, meant_yes, meant_test, rows_here, same_tests, no_items, zero_from}
use Rattle.uss_route.proofs.Walking.{Has, are_bytes, found_in, has_left, has_right, text_found, has_text, ends_found, parameter_found, has_parameter, has_more, at_parameter}
use Rattle.uss_route.proofs.PatternTable.{rows_from, entries, number, one, one_or_two, intent_rows, sweep_rows, position_rows, cancel_rows, supplier_rows, ticket_rows, reference_rows, dss_rows, tagged_rows, untagged_rows, all_paths, table_rows}

-- ---- the rows of one path

-- the number of the row's path
abbrev kind : RouteRow → ℕ
kind row.DssQuery = 0
kind row.DssGet = 1
kind row.DssCreate = 1
kind row.DssChange = 3
kind row.DssRemove = 3
kind row.TicketPut = 5
kind row.TicketGet = 5
kind row.TicketRemove = 7
kind row.TicketQuery = 8
kind row.TicketChange = 7
kind row.Details = 10
kind row.Notified = 11
kind row.Asks = 12
kind row.Cancels = 13
kind row.Positions = 14
kind row.Sweeps = 15

-- rows of one path have one text, one count and one place; rows that one path may have, both with parameters or both without, have one path
abbrev same_path : RouteRow → RouteRow → Bool
same_path r q = bytes_eq (text_of r) (text_of q) && (count_of r == count_of q) && (is_of_a_supplier q || not (is_of_a_supplier r)) && (is_of_a_supplier r || not (is_of_a_supplier q))

abbrev as_many : RouteRow → RouteRow → Bool
as_many r q = (not (count_of r == 0) || (count_of q == 0)) && (not (count_of q == 0) || (count_of r == 0))

abbrev agree : RouteRow → RouteRow → Bool
agree r q = (not (kind r == kind q) || same_path r q) && (not (meet r q && as_many r q) || (kind r == kind q))

agreeing : (r : RouteRow) → list_all (agree r) all_rows ≡ true
agreeing row.DssQuery = refl
agreeing row.DssGet = refl
agreeing row.DssCreate = refl
agreeing row.DssChange = refl
agreeing row.DssRemove = refl
agreeing row.TicketPut = refl
agreeing row.TicketGet = refl
agreeing row.TicketRemove = refl
agreeing row.TicketQuery = refl
agreeing row.TicketChange = refl
agreeing row.Details = refl
agreeing row.Notified = refl
agreeing row.Asks = refl
agreeing row.Cancels = refl
agreeing row.Positions = refl
agreeing row.Sweeps = refl

then_right : (a b : Bool) → a ≡ true → (not a || b) ≡ true → b ≡ true
then_right true b e f = f
then_right false b e f = absurd (cc)

agreed : (r q : RouteRow) → agree r q ≡ true
agreed r q = passes_all (agree r) q (agreeing r)

one_kind : (r q : RouteRow) → meet r q ≡ true → as_many r q ≡ true → kind r ≡ kind q
one_kind r q met many =
    same_rank (kind r) (kind q) (then_right (meet r q && as_many r q) (kind r == kind q) (and_from (meet r q) (as_many r q) met many) (both_right (not (kind r == kind q) || same_path r q) _ (agreed r q)))

kind_path : (r q : RouteRow) → kind r ≡ kind q → same_path r q ≡ true
kind_path r q e =
    then_right (kind r == kind q) (same_path r q) (same_number (kind r) (kind q) e) (both_left (not (kind r == kind q) || same_path r q) _ (agreed r q))

first_of_four : (a b c d : Bool) → (a && b && c && d) ≡ true → a ≡ true
first_of_four a b c d e = both_left a b (both_left (a && b) c (both_left (a && b && c) d e))

second_of_four : (a b c d : Bool) → (a && b && c && d) ≡ true → b ≡ true
second_of_four a b c d e = both_right a b (both_left (a && b) c (both_left (a && b && c) d e))

fourth_of_four : (a b c d : Bool) → (a && b && c && d) ≡ true → d ≡ true
fourth_of_four a b c d e = both_right (a && b && c) d e

kind_text : (r q : RouteRow) → kind r ≡ kind q → text_of r ≡ text_of q
kind_text r q e = (bytes_eq-Decides (text_of r) (text_of q)).0 (first_of_four (bytes_eq (text_of r) (text_of q)) (count_of r == count_of q) (is_of_a_supplier q || not (is_of_a_supplier r)) (is_of_a_supplier r || not (is_of_a_supplier q)) (kind_path r q e))

kind_count : (r q : RouteRow) → kind r ≡ kind q → count_of r ≡ count_of q
kind_count r q e = same_rank (count_of r) (count_of q) (second_of_four (bytes_eq (text_of r) (text_of q)) (count_of r == count_of q) (is_of_a_supplier q || not (is_of_a_supplier r)) (is_of_a_supplier r || not (is_of_a_supplier q)) (kind_path r q e))

kind_supplier : (r q : RouteRow) → kind r ≡ kind q → is_of_a_supplier q ≡ true → is_of_a_supplier r ≡ true
kind_supplier r q e is = supplier_by (is_of_a_supplier r) (is_of_a_supplier q) is (fourth_of_four (bytes_eq (text_of r) (text_of q)) (count_of r == count_of q) (is_of_a_supplier q || not (is_of_a_supplier r)) (is_of_a_supplier r || not (is_of_a_supplier q)) (kind_path r q e))

-- a path of a row is one of each row of that path
moved : (r q : RouteRow) (ps : List (List ℕ)) (path : List ℕ) → kind r ≡ kind q → IsPathOf q ps path → IsPathOf r ps path
moved r q ps path e is =
    record { count = is.count ∙ sym (kind_count r q e); are = is.are; spelled = is.spelled ∙ ap (λ (t : List ℕ). t ++ parameters_text ps) (sym (kind_text r q e)) }

moved_served : (r q : RouteRow) (ps : List (List ℕ)) (path : List ℕ) → kind r ≡ kind q → IsServed q ps path → IsServed r ps path
moved_served r q ps path e (inl is) = inl (moved r q ps path e is)
moved_served r q ps path e (inr b) =
    inr (record { supplier = kind_supplier r q e b.supplier; tag = b.tag; tagged = b.tagged; rest = b.rest; rested = moved r q ps b.rest e b.rested; spelled = b.spelled })

-- ---- what is found is served

-- a row of that number is served at the path
record IsOf (k : ℕ) (path : List ℕ) : Type 0 where
  pub row : RouteRow
  pub number : kind row ≡ k
  pub parameters : List (List ℕ)
  pub served : IsServed row parameters path

-- after a slash the bytes are a path of a supplier's row of that number
record IsSupplied (k : ℕ) (bytes : List ℕ) : Type 0 where
  pub row : RouteRow
  pub number : kind row ≡ k
  pub supplier : is_of_a_supplier row ≡ true
  pub parameters : List (List ℕ)
  pub place : IsPathOf row parameters (47 ∷ bytes)

either : {A B C : Type 0} → A ⊎ B → (A → C) → (B → C) → C
either (inl a) f g = f a
either (inr b) f g = g b

same_value : (k j : ℕ) → Some k ≡ Some j → k ≡ j
same_value k j e = cc

no_value : {P : Type 0} (j : ℕ) → ◌≡◌ {A = Option ℕ} None (Some j) → P
no_value j e = absurd (cc)

found_one : (text : List ℕ) (k j : ℕ) (p : List ℕ) → are_bytes text ≡ true → first (one text k) p ≡ Some j → (p ≡ text) × (k ≡ j)
found_one text k j p e is =
    let f = text_found text (ends (Some k)) p j e is in
    let g = ends_found (Some k) f.0 j f.2 in
    (f.1 ∙ ap (λ (q : List ℕ). text ++ q) g.0 ∙ append-nil text, same_value k j g.1)

without : (r : RouteRow) (path : List ℕ) → count_of r ≡ 0 → path ≡ text_of r → IsPathOf r [] path
without r path none is = record { count = sym none; are = All-nil IsParameter; spelled = is ∙ sym (append-nil (text_of r)) }

with_one : (r : RouteRow) (x path : List ℕ) → count_of r ≡ 1 → IsParameter x → path ≡ text_of r ++ 47 ∷ x → IsPathOf r (x ∷ []) path
with_one r x path count is spelled =
    record { count = sym count; are = All-cons IsParameter x [] is (All-nil IsParameter); spelled = spelled ∙ ap (λ (l : List ℕ). text_of r ++ 47 ∷ l) (sym (append-nil x)) }

with_two : (r : RouteRow) (x y path : List ℕ) → count_of r ≡ 2 → IsParameter x → IsParameter y → path ≡ text_of r ++ 47 ∷ (x ++ 47 ∷ y) → IsPathOf r (x ∷ y ∷ []) path
with_two r x y path count first second spelled =
    record {
      count = sym count;
      are = All-cons IsParameter x (y ∷ []) first (All-cons IsParameter y [] second (All-nil IsParameter));
      spelled = spelled ∙ ap (λ (l : List ℕ). text_of r ++ 47 ∷ (x ++ 47 ∷ l)) (sym (append-nil y));
    }

one_supplied : (r : RouteRow) (text q : List ℕ) (j : ℕ) → is_of_a_supplier r ≡ true → count_of r ≡ 0 → 47 ∷ text ≡ text_of r → are_bytes text ≡ true → first (one text (kind r)) q ≡ Some j → IsSupplied j q
one_supplied r text q j supplier none same e is =
    let f = found_one text (kind r) j q e is in
    record { row = r; number = f.1; supplier = supplier; parameters = []; place = without r (47 ∷ q) none (ap (λ (l : List ℕ). 47 ∷ l) f.0 ∙ same) }

intent_found : (q : List ℕ) (j : ℕ) → first (prepend (codes "uss/v1/operational_intents/") (at_parameter [] (Some 10))) q ≡ Some j → IsSupplied j q
intent_found q j is =
    let text = codes "uss/v1/operational_intents/" in
    let f = text_found text (at_parameter [] (Some 10)) q j refl is in
    either (parameter_found [] (Some 10) f.0 j f.2)
    (λ g. record { row = row.Details; number = same_value 10 j g.1; supplier = refl; parameters = f.0 ∷ []; place = with_one row.Details f.0 (47 ∷ q) refl g.0 (ap (λ (l : List ℕ). 47 ∷ l) f.1) })
    (λ g. no_value j (sym (seek-empty 0 g.1) ∙ g.4))

supplier_found : (q : List ℕ) (j : ℕ) → first supplier_rows q ≡ Some j → IsSupplied j q
supplier_found q j is =
    either (found_in (one (codes "operator/v1/asks") 12) cancel_rows q j refl is) (one_supplied row.Asks (codes "operator/v1/asks") q j refl refl refl refl)
    (λ is. either (found_in (one (codes "operator/v1/cancels") 13) position_rows q j refl is) (one_supplied row.Cancels (codes "operator/v1/cancels") q j refl refl refl refl)
    (λ is. either (found_in (one (codes "operator/v1/positions") 14) sweep_rows q j refl is) (one_supplied row.Positions (codes "operator/v1/positions") q j refl refl refl refl)
    (λ is. either (found_in (one (codes "operator/v1/sweeps") 15) intent_rows q j refl is) (one_supplied row.Sweeps (codes "operator/v1/sweeps") q j refl refl refl refl)
    (λ is. either (found_in (prepend (codes "uss/v1/operational_intents/") (at_parameter [] (Some 10))) (one (codes "uss/v1/operational_intents") 11) q j refl is) (intent_found q j)
    (one_supplied row.Notified (codes "uss/v1/operational_intents") q j refl refl refl refl)))))

one_of : (r : RouteRow) (p : List ℕ) (j : ℕ) → count_of r ≡ 0 → are_bytes (text_of r) ≡ true → first (one (text_of r) (kind r)) p ≡ Some j → IsOf j p
one_of r p j none e is =
    let f = found_one (text_of r) (kind r) j p e is in
    record { row = r; number = f.1; parameters = []; served = inl (without r p none f.0) }

-- one parameter after the text of a row, or two after that of another
one_or_two_of : (r s : RouteRow) (p : List ℕ) (j : ℕ) → count_of r ≡ 1 → count_of s ≡ 2 → text_of r ≡ text_of s → are_bytes (text_of r ++ 47 ∷ []) ≡ true → first (one_or_two (text_of r ++ 47 ∷ []) (kind r) (kind s)) p ≡ Some j → IsOf j p
one_or_two_of r s p j single double same e is =
    let f = text_found (text_of r ++ 47 ∷ []) (at_parameter (at_parameter [] (Some (kind s))) (Some (kind r))) p j e is in
    let path : p ≡ text_of r ++ 47 ∷ f.0 = f.1 ∙ append_assoc (text_of r) (47 ∷ []) f.0 in
    either (parameter_found (at_parameter [] (Some (kind s))) (Some (kind r)) f.0 j f.2)
    (λ g. record { row = r; number = same_value (kind r) j g.1; parameters = f.0 ∷ []; served = inl (with_one r f.0 p single g.0 path) })
    (λ g. either (parameter_found [] (Some (kind s)) g.1 j g.4)
    (λ h. record {
      row = s;
      number = same_value (kind s) j h.1;
      parameters = g.0 ∷ g.1 ∷ [];
      served = inl (with_two s g.0 g.1 p double g.2 h.0 (path ∙ ap (λ (l : List ℕ). text_of r ++ 47 ∷ l) g.3 ∙ ap (λ (t : List ℕ). t ++ 47 ∷ (g.0 ++ 47 ∷ g.1)) same));
    })
    (λ h. no_value j (sym (seek-empty 0 h.1) ∙ h.4)))

dss_found : (p : List ℕ) (j : ℕ) → first dss_rows p ≡ Some j → IsOf j p
dss_found p j is =
    either (found_in (one (codes "/dss/v1/operational_intent_references/query") 0) reference_rows p j refl is) (one_of row.DssQuery p j refl refl)
    (λ is. either (found_in (one_or_two (codes "/dss/v1/operational_intent_references/") 1 3) ticket_rows p j refl is) (one_or_two_of row.DssGet row.DssChange p j refl refl refl refl)
    (λ is. either (found_in (one (codes "/dss/v1/subscriptions/query") 8) (one_or_two (codes "/dss/v1/subscriptions/") 5 7) p j refl is) (one_of row.TicketQuery p j refl refl)
    (one_or_two_of row.TicketPut row.TicketRemove p j refl refl refl refl)))

tagged_found : (p : List ℕ) (j : ℕ) → first tagged_rows p ≡ Some j → IsOf j p
tagged_found p j is =
    let f = text_found (codes "/a/") (at_parameter supplier_rows None) p j refl is in
    either (parameter_found supplier_rows None f.0 j f.2)
    (λ g. no_value j g.1)
    (λ g. let s = supplier_found g.1 j g.4 in record {
      row = s.row;
      number = s.number;
      parameters = s.parameters;
      served = inr (record { supplier = s.supplier; tag = g.0; tagged = g.2; rest = 47 ∷ g.1; rested = s.place; spelled = f.1 ∙ ap (λ (l : List ℕ). codes "/a/" ++ l) g.3 });
    })

plain_found : (p : List ℕ) (j : ℕ) → first (prepend (codes "/") supplier_rows) p ≡ Some j → IsOf j p
plain_found p j is =
    let f = text_found (codes "/") supplier_rows p j refl is in
    let s = supplier_found f.0 j f.2 in
    record { row = s.row; number = s.number; parameters = s.parameters; served = inl (subst (IsPathOf s.row s.parameters) (sym f.1) s.place) }

all_found : (p : List ℕ) (j : ℕ) → first all_paths p ≡ Some j → IsOf j p
all_found p j is =
    either (found_in tagged_rows untagged_rows p j refl is) (tagged_found p j)
    (λ is. either (found_in dss_rows (prepend (codes "/") supplier_rows) p j refl is) (dss_found p j) (plain_found p j))

-- ---- what is served is found

-- the path by its parameters
none_of : (r : RouteRow) (ps : List (List ℕ)) (path : List ℕ) → IsPathOf r ps path → count_of r ≡ 0 → path ≡ text_of r
none_of r ps path is none =
    is.spelled ∙ ap (λ (l : List (List ℕ)). text_of r ++ parameters_text l) (no_items ps (is.count ∙ none)) ∙ append-nil (text_of r)

record HasOne (r : RouteRow) (path : List ℕ) : Type 0 where
  pub first : List ℕ
  pub is : IsParameter first
  pub spelled : path ≡ text_of r ++ 47 ∷ first

one_in : (r : RouteRow) (ps : List (List ℕ)) (path : List ℕ) → IsPathOf r ps path → count_of r ≡ 1 → HasOne r path
one_in r [] path is count = let n = is.count in absurd (omega (arith, n, count))
one_in r (x ∷ []) path is count =
    record { first = x; is = All-head IsParameter x [] is.are; spelled = is.spelled ∙ ap (λ (l : List ℕ). text_of r ++ 47 ∷ l) (append-nil x) }
one_in r (x ∷ y ∷ ps) path is count = let n = is.count in absurd (omega (arith, n, count))

record HasTwo (r : RouteRow) (path : List ℕ) : Type 0 where
  pub first : List ℕ
  pub second : List ℕ
  pub is : IsParameter first
  pub are : IsParameter second
  pub spelled : path ≡ text_of r ++ 47 ∷ (first ++ 47 ∷ second)

two_in : (r : RouteRow) (ps : List (List ℕ)) (path : List ℕ) → IsPathOf r ps path → count_of r ≡ 2 → HasTwo r path
two_in r [] path is count = let n = is.count in absurd (omega (arith, n, count))
two_in r (x ∷ []) path is count = let n = is.count in absurd (omega (arith, n, count))
two_in r (x ∷ y ∷ []) path is count =
    let rest = All-tail IsParameter x (y ∷ []) is.are in
    record { first = x; second = y; is = All-head IsParameter x (y ∷ []) is.are; are = All-head IsParameter y [] rest; spelled = is.spelled ∙ ap (λ (l : List ℕ). text_of r ++ 47 ∷ (x ++ 47 ∷ l)) (append-nil y) }
two_in r (x ∷ y ∷ z ∷ ps) path is count = let n = is.count in absurd (omega (arith, n, count))

tails : (x : ℕ) (q w : List ℕ) → ◌≡◌ {A = List ℕ} (x ∷ q) (x ∷ w) → q ≡ w
tails x q w e = cc

not_of_a_supplier : {P : Type 0} → false ≡ true → P
not_of_a_supplier e = absurd (cc)

has_asks : Has supplier_rows (codes "operator/v1/asks")
unfolding matchit_on_literals
has_asks = refl

has_cancels : Has supplier_rows (codes "operator/v1/cancels")
unfolding matchit_on_literals
has_cancels = refl

has_positions : Has supplier_rows (codes "operator/v1/positions")
unfolding matchit_on_literals
has_positions = refl

has_sweeps : Has supplier_rows (codes "operator/v1/sweeps")
unfolding matchit_on_literals
has_sweeps = refl

has_intents : Has supplier_rows (codes "uss/v1/operational_intents")
unfolding matchit_on_literals
has_intents = refl

has_intent : (x : List ℕ) → IsParameter x → Has supplier_rows (codes "uss/v1/operational_intents/" ++ x)
has_intent x is =
    let text = codes "uss/v1/operational_intents/" in
    let q = text ++ x in
    let rows = prepend text (at_parameter [] (Some 10)) in
    has_right (one (codes "operator/v1/asks") 12) cancel_rows q refl
    (has_right (one (codes "operator/v1/cancels") 13) position_rows q refl
    (has_right (one (codes "operator/v1/positions") 14) sweep_rows q refl
    (has_right (one (codes "operator/v1/sweeps") 15) intent_rows q refl
    (has_left rows (one (codes "uss/v1/operational_intents") 11) q refl (has_text text (at_parameter [] (Some 10)) x refl (has_parameter [] 10 x is))))))

written_supplier : (r : RouteRow) (ps : List (List ℕ)) (q text : List ℕ) → IsPathOf r ps (47 ∷ q) → count_of r ≡ 0 → text_of r ≡ 47 ∷ text → Has supplier_rows text → Has supplier_rows q
written_supplier r ps q text is none same has = subst (Has supplier_rows) (sym (tails 47 q text (none_of r ps (47 ∷ q) is none ∙ same))) has

has_supplier : (r : RouteRow) (ps : List (List ℕ)) (q : List ℕ) → is_of_a_supplier r ≡ true → IsPathOf r ps (47 ∷ q) → Has supplier_rows q
has_supplier row.DssQuery ps q supplier is = not_of_a_supplier supplier
has_supplier row.DssGet ps q supplier is = not_of_a_supplier supplier
has_supplier row.DssCreate ps q supplier is = not_of_a_supplier supplier
has_supplier row.DssChange ps q supplier is = not_of_a_supplier supplier
has_supplier row.DssRemove ps q supplier is = not_of_a_supplier supplier
has_supplier row.TicketPut ps q supplier is = not_of_a_supplier supplier
has_supplier row.TicketGet ps q supplier is = not_of_a_supplier supplier
has_supplier row.TicketRemove ps q supplier is = not_of_a_supplier supplier
has_supplier row.TicketQuery ps q supplier is = not_of_a_supplier supplier
has_supplier row.TicketChange ps q supplier is = not_of_a_supplier supplier
has_supplier row.Details ps q supplier is =
    let h = one_in row.Details ps (47 ∷ q) is refl in
    subst (Has supplier_rows) (sym (tails 47 q (codes "uss/v1/operational_intents/" ++ h.first) h.spelled)) (has_intent h.first h.is)
has_supplier row.Notified ps q supplier is = written_supplier row.Notified ps q (codes "uss/v1/operational_intents") is refl refl has_intents
has_supplier row.Asks ps q supplier is = written_supplier row.Asks ps q (codes "operator/v1/asks") is refl refl has_asks
has_supplier row.Cancels ps q supplier is = written_supplier row.Cancels ps q (codes "operator/v1/cancels") is refl refl has_cancels
has_supplier row.Positions ps q supplier is = written_supplier row.Positions ps q (codes "operator/v1/positions") is refl refl has_positions
has_supplier row.Sweeps ps q supplier is = written_supplier row.Sweeps ps q (codes "operator/v1/sweeps") is refl refl has_sweeps

slash_first : (r : RouteRow) (rest : List ℕ) → text_of r ++ rest ≡ 47 ∷ drop 1 (text_of r ++ rest)
slash_first row.DssQuery rest = refl
slash_first row.DssGet rest = refl
slash_first row.DssCreate rest = refl
slash_first row.DssChange rest = refl
slash_first row.DssRemove rest = refl
slash_first row.TicketPut rest = refl
slash_first row.TicketGet rest = refl
slash_first row.TicketRemove rest = refl
slash_first row.TicketQuery rest = refl
slash_first row.TicketChange rest = refl
slash_first row.Details rest = refl
slash_first row.Notified rest = refl
slash_first row.Asks rest = refl
slash_first row.Cancels rest = refl
slash_first row.Positions rest = refl
slash_first row.Sweeps rest = refl

from_slash : (r : RouteRow) (ps : List (List ℕ)) (path : List ℕ) → IsPathOf r ps path → path ≡ 47 ∷ drop 1 path
from_slash r ps path is = is.spelled ∙ slash_first r (parameters_text ps) ∙ ap (λ (l : List ℕ). 47 ∷ drop 1 l) (sym is.spelled)

-- a path of a supplier, after a tag and without
supplier_path : (r : RouteRow) (ps : List (List ℕ)) (path : List ℕ) → is_of_a_supplier r ≡ true → IsPathOf r ps path → Has supplier_rows (drop 1 path)
supplier_path r ps path supplier is = has_supplier r ps (drop 1 path) supplier (subst (IsPathOf r ps) (from_slash r ps path is) is)

has_plain : (r : RouteRow) (ps : List (List ℕ)) (path : List ℕ) → is_of_a_supplier r ≡ true → IsPathOf r ps path → Has all_paths path
has_plain r ps path supplier is =
    has_right tagged_rows untagged_rows path refl
    (has_right dss_rows (prepend (codes "/") supplier_rows) path refl
    (subst (Has (prepend (codes "/") supplier_rows)) (sym (from_slash r ps path is)) (has_text (codes "/") supplier_rows (drop 1 path) refl (supplier_path r ps path supplier is))))

has_tagged : (r : RouteRow) (ps : List (List ℕ)) (path : List ℕ) → IsBehindTag r ps path → Has all_paths path
has_tagged r ps path b =
    let rest = drop 1 b.rest in
    let spelled : path ≡ codes "/a/" ++ (b.tag ++ 47 ∷ rest) = b.spelled ∙ ap (λ (l : List ℕ). codes "/a/" ++ (b.tag ++ l)) (from_slash r ps b.rest b.rested) in
    has_left tagged_rows untagged_rows path refl
    (subst (Has tagged_rows) (sym spelled) (has_text (codes "/a/") (at_parameter supplier_rows None) (b.tag ++ 47 ∷ rest) refl (has_more supplier_rows None b.tag rest b.tagged (supplier_path r ps b.rest b.supplier b.rested))))

-- a path of the discovery service
in_dss : (path : List ℕ) → Has dss_rows path → Has all_paths path
in_dss path has = has_right tagged_rows untagged_rows path refl (has_left dss_rows (prepend (codes "/") supplier_rows) path refl has)

references : (q : List ℕ) → Has (at_parameter (at_parameter [] (Some 3)) (Some 1)) q → Has all_paths (codes "/dss/v1/operational_intent_references/" ++ q)
references q has =
    let text = codes "/dss/v1/operational_intent_references/" in
    in_dss (text ++ q)
    (has_right (one (codes "/dss/v1/operational_intent_references/query") 0) reference_rows (text ++ q) refl
    (has_left (one_or_two text 1 3) ticket_rows (text ++ q) refl (has_text text (at_parameter (at_parameter [] (Some 3)) (Some 1)) q refl has)))

tickets : (q : List ℕ) → Has (at_parameter (at_parameter [] (Some 7)) (Some 5)) q → Has all_paths (codes "/dss/v1/subscriptions/" ++ q)
tickets q has =
    let text = codes "/dss/v1/subscriptions/" in
    in_dss (text ++ q)
    (has_right (one (codes "/dss/v1/operational_intent_references/query") 0) reference_rows (text ++ q) refl
    (has_right (one_or_two (codes "/dss/v1/operational_intent_references/") 1 3) ticket_rows (text ++ q) refl
    (has_right (one (codes "/dss/v1/subscriptions/query") 8) (one_or_two text 5 7) (text ++ q) refl (has_text text (at_parameter (at_parameter [] (Some 7)) (Some 5)) q refl has))))

single : (k j : ℕ) (x : List ℕ) → IsParameter x → Has (at_parameter (at_parameter [] (Some j)) (Some k)) x
single k j x is = has_parameter (at_parameter [] (Some j)) k x is

double : (k j : ℕ) (x y : List ℕ) → IsParameter x → IsParameter y → Has (at_parameter (at_parameter [] (Some j)) (Some k)) (x ++ 47 ∷ y)
double k j x y first second = has_more (at_parameter [] (Some j)) (Some k) x y first (has_parameter [] j y second)

has_reference : (r : RouteRow) (path : List ℕ) → text_of r ≡ codes "/dss/v1/operational_intent_references" → HasOne r path → Has all_paths path
has_reference r path same h =
    subst (Has all_paths) (sym (h.spelled ∙ ap (λ (t : List ℕ). t ++ 47 ∷ h.first) same)) (references h.first (single 1 3 h.first h.is))

has_version : (r : RouteRow) (path : List ℕ) → text_of r ≡ codes "/dss/v1/operational_intent_references" → HasTwo r path → Has all_paths path
has_version r path same h =
    subst (Has all_paths) (sym (h.spelled ∙ ap (λ (t : List ℕ). t ++ 47 ∷ (h.first ++ 47 ∷ h.second)) same)) (references (h.first ++ 47 ∷ h.second) (double 1 3 h.first h.second h.is h.are))

has_ticket : (r : RouteRow) (path : List ℕ) → text_of r ≡ codes "/dss/v1/subscriptions" → HasOne r path → Has all_paths path
has_ticket r path same h =
    subst (Has all_paths) (sym (h.spelled ∙ ap (λ (t : List ℕ). t ++ 47 ∷ h.first) same)) (tickets h.first (single 5 7 h.first h.is))

has_ticket_version : (r : RouteRow) (path : List ℕ) → text_of r ≡ codes "/dss/v1/subscriptions" → HasTwo r path → Has all_paths path
has_ticket_version r path same h =
    subst (Has all_paths) (sym (h.spelled ∙ ap (λ (t : List ℕ). t ++ 47 ∷ (h.first ++ 47 ∷ h.second)) same)) (tickets (h.first ++ 47 ∷ h.second) (double 5 7 h.first h.second h.is h.are))

has_some : {P : Type 0} {n : ℕ} → suc n ≡ 0 → P
has_some e = absurd (omega (arith, e))

-- a path that is written out is found as that
written_first : (r : RouteRow) → count_of r ≡ 0 → first all_paths (text_of r) ≡ Some (kind r)
unfolding matchit_on_literals
written_first row.DssQuery none = refl
written_first row.DssGet none = has_some none
written_first row.DssCreate none = has_some none
written_first row.DssChange none = has_some none
written_first row.DssRemove none = has_some none
written_first row.TicketPut none = has_some none
written_first row.TicketGet none = has_some none
written_first row.TicketRemove none = has_some none
written_first row.TicketQuery none = refl
written_first row.TicketChange none = has_some none
written_first row.Details none = has_some none
written_first row.Notified none = refl
written_first row.Asks none = refl
written_first row.Cancels none = refl
written_first row.Positions none = refl
written_first row.Sweeps none = refl

has_written : (r : RouteRow) (ps : List (List ℕ)) (path : List ℕ) → IsPathOf r ps path → count_of r ≡ 0 → Has all_paths path
has_written r ps path is none = ap (λ (p : List ℕ). is_some (first all_paths p)) (none_of r ps path is none) ∙ ap is_some (written_first r none)

has_path : (r : RouteRow) (ps : List (List ℕ)) (path : List ℕ) → IsPathOf r ps path → Has all_paths path
has_path row.DssQuery ps path is = has_written row.DssQuery ps path is refl
has_path row.DssGet ps path is = has_reference row.DssGet path refl (one_in row.DssGet ps path is refl)
has_path row.DssCreate ps path is = has_reference row.DssCreate path refl (one_in row.DssCreate ps path is refl)
has_path row.DssChange ps path is = has_version row.DssChange path refl (two_in row.DssChange ps path is refl)
has_path row.DssRemove ps path is = has_version row.DssRemove path refl (two_in row.DssRemove ps path is refl)
has_path row.TicketPut ps path is = has_ticket row.TicketPut path refl (one_in row.TicketPut ps path is refl)
has_path row.TicketGet ps path is = has_ticket row.TicketGet path refl (one_in row.TicketGet ps path is refl)
has_path row.TicketRemove ps path is = has_ticket_version row.TicketRemove path refl (two_in row.TicketRemove ps path is refl)
has_path row.TicketQuery ps path is = has_written row.TicketQuery ps path is refl
has_path row.TicketChange ps path is = has_ticket_version row.TicketChange path refl (two_in row.TicketChange ps path is refl)
has_path row.Details ps path is = has_plain row.Details ps path refl is
has_path row.Notified ps path is = has_plain row.Notified ps path refl is
has_path row.Asks ps path is = has_plain row.Asks ps path refl is
has_path row.Cancels ps path is = has_plain row.Cancels ps path refl is
has_path row.Positions ps path is = has_plain row.Positions ps path refl is
has_path row.Sweeps ps path is = has_plain row.Sweeps ps path refl is

has_served : (r : RouteRow) (ps : List (List ℕ)) (path : List ℕ) → IsServed r ps path → Has all_paths path
has_served r ps path (inl is) = has_path r ps path is
has_served r ps path (inr b) = has_tagged r ps path b

-- ---- what is found is what the path means

-- a path that means a row is found as that of the row
both_tagged : (r q : RouteRow) (ps qs : List (List ℕ)) (path : List ℕ) → IsBehindTag r ps path → IsServed q qs path → kind r ≡ kind q
both_tagged r q ps qs path b other =
    let tagged : is_tagged path ≡ true = ap is_tagged b.spelled ∙ is_tagged_here b.tag b.rest b.tagged (path_begins r ps b.rest b.rested) in
    let here = placed r ps path (inr b) in
    let there = placed q qs path other in
    ap kind (one_of_suppliers r q ps qs (untagged path) here.place there.place b.supplier (supplier_by (is_of_a_supplier q) (is_tagged path) tagged there.may))

many_by : (n m : Bool) → n ≡ false → m ≡ false → ((not n || m) && (not m || n)) ≡ true
many_by n m e f = ap (λ (b : Bool). (not b || m) && (not m || b)) e ∙ ap (λ (b : Bool). (true && (not b || false))) f

not_both : (n : ℕ) → n ≡ 0 → (n == 0) ≡ false → ⊥
not_both n e f = grind (arith, nat_tests)

not_zero_path : (r q : RouteRow) (ps qs : List (List ℕ)) (path : List ℕ) (m : Bool) → IsMeant r ps path → IsServed q qs path → (count_of r == 0) ≡ false → (count_of q == 0) ≡ m → kind r ≡ kind q
not_zero_path r q ps qs path true meant other some none =
    let here = placed r ps path meant.served in
    let there = placed q qs path other in
    let nothing : qs ≡ [] = no_items qs (there.place.count ∙ zero_from (count_of q) none) in
    let empty : ps ≡ [] = meant.first (q, subst (λ (l : List (List ℕ)). IsServed q l path) nothing other) in
    absurd (not_both (count_of r) (sym here.place.count ∙ ap length empty) some)
not_zero_path r q ps qs path false meant other some more =
    let here = placed r ps path meant.served in
    let there = placed q qs path other in
    one_kind r q (meeting r q ps qs (untagged path) here.place there.place) (many_by (count_of r == 0) (count_of q == 0) some more)

found_by : (r q : RouteRow) (ps qs : List (List ℕ)) (path : List ℕ) (n : Bool) → IsMeant r ps path → IsServed q qs path → first all_paths path ≡ Some (kind q) → (count_of r == 0) ≡ n → IsServed r ps path → kind r ≡ kind q
found_by r q ps qs path n meant other found e (inr b) = both_tagged r q ps qs path b other
found_by r q ps qs path true meant other found e (inl is) =
    let none = zero_from (count_of r) e in
    same_value (kind r) (kind q) (sym (written_first r none) ∙ sym (ap (first all_paths) (none_of r ps path is none)) ∙ found)
found_by r q ps qs path false meant other found e (inl is) = not_zero_path r q ps qs path (count_of q == 0) meant other e refl

found_meant : (r q : RouteRow) (ps qs : List (List ℕ)) (path : List ℕ) → IsMeant r ps path → IsServed q qs path → first all_paths path ≡ Some (kind q) → kind r ≡ kind q
found_meant r q ps qs path meant other found = found_by r q ps qs path (count_of r == 0) meant other found refl meant.served

-- a row of the path that is found is meant
first_here : (r q : RouteRow) (qs : List (List ℕ)) (path : List ℕ) → kind r ≡ kind q → IsServed q qs path → first all_paths path ≡ Some (kind q) → IsWrittenOut path → qs ≡ []
first_here r q qs path same other found w =
    let there = placed q qs path other in
    let out = placed w.0 [] path w.1 in
    let kinds = found_meant w.0 q [] qs path (record { served = w.1; first = λ v. refl }) other found in
    no_items qs (there.place.count ∙ sym (kind_count w.0 q kinds) ∙ sym out.place.count)

meant_here : (r q : RouteRow) (qs : List (List ℕ)) (path : List ℕ) → kind r ≡ kind q → IsServed q qs path → first all_paths path ≡ Some (kind q) → IsMeant r qs path
meant_here r q qs path same other found =
    record { served = moved_served r q qs path same other; first = first_here r q qs path same other found }

no_false : {P : Type 0} → true ≡ false → P
no_false e = absurd (cc)

-- whether the row is one of the path that is found
abbrev is_found : Option ℕ → RouteRow → Bool
is_found None r = false
is_found (Some k) r = kind r == k

none_meant : (path : List ℕ) (r : RouteRow) (t : Bool) → meant_at path r ≡ t → first all_paths path ≡ None → meant_at path r ≡ false
none_meant path r false is e = is
none_meant path r true is e =
    let m = meant_yes path r is in
    let has = has_served r m.0 path m.1.served in
    no_false (sym has ∙ ap is_some e)

tests_agree : (path : List ℕ) (r : RouteRow) (o : Option ℕ) → first all_paths path ≡ o → meant_at path r ≡ is_found o r
tests_agree path r None e = none_meant path r (meant_at path r) refl e
tests_agree path r (Some k) e =
    let q = all_found path k e in
    let found : first all_paths path ≡ Some (kind q.row) = e ∙ ap Some (sym q.number) in
    same_tests (meant_at path r) (kind r == k) (kind r ≡ kind q.row)
    (λ t. let m = meant_yes path r t in found_meant r q.row m.0 q.parameters path m.1 q.served found)
    (λ same. meant_test path r q.parameters (meant_here r q.row q.parameters path same q.served found))
    (λ t. same_rank (kind r) k t ∙ sym q.number)
    (λ same. same_number (kind r) k (same ∙ q.number))

-- the rows of the path that is found
rows_numbered : (p : RoutePath) → rows_of p ≡ filter (is_found (Some (number p))) all_rows
rows_numbered path.ReferenceQuery = refl
rows_numbered path.Reference = refl
rows_numbered path.ReferenceVersion = refl
rows_numbered path.TicketQuery = refl
rows_numbered path.Ticket = refl
rows_numbered path.TicketVersion = refl
rows_numbered path.Intents = refl
rows_numbered path.Intent = refl
rows_numbered path.Asks = refl
rows_numbered path.Cancels = refl
rows_numbered path.Positions = refl
rows_numbered path.Sweeps = refl

rows_by_number : (o : Option (RouteOf RoutePath)) → found_rows o ≡ filter (is_found (map_key (λ r. number r.value) o)) all_rows
rows_by_number None = refl
rows_by_number (Some found) = rows_numbered found.value

pub finds_rows : FindsRows (rows_from [] entries)
finds_rows path =
    let table = rows_from [] entries in
    let same : map_key (λ r. number r.value) (first table path) ≡ first all_paths path = sym (first-rename (λ r. number r.value) table path) ∙ ap (λ (rows : Rows). first rows path) table_rows in
    rows_by_number (first table path)
    ∙ ap (λ (o : Option ℕ). filter (is_found o) all_rows) same
    ∙ sym (filter_agree (meant_at path) (is_found (first all_paths path)) (λ r. tests_agree path r (first all_paths path) refl) all_rows)
    ∙ sym (rows_here path)
