-- What is done to the two maps of a store keeps them together.
use Rattle.std.proofs.Common.{◌≡◌, ℕ, ◌+◌, ◌<◌, ◌≤◌, Bool, true, false, cond, List, [], ◌∷◌, ◌++◌, length, Option, Some, None, is_some, refl, ap, sym, ◌∙◌, arith, find, length-append}
use Rattle.std.specs.List.{list_any}
use Rattle.std.specs.Ordering.{nat_cmp}
use Rattle.std.specs.BTreeMap as tree
use Rattle.std.specs.BTreeMap.{BTreeMap, is_at, insert_entry}
use Rattle.std.specs.Map.{values_of, remove_entry}
use Rattle.std.proofs.lemmas.Bool.Decides.{nat_tests}
use Rattle.uss_event.specs.Pairs.{OperationalIntent}
use Rattle.uss_event.specs.Heard.{is_of, without}
use Rattle.uss_key.specs.Kept.{are_of_different_flights, may_be_kept}
use Rattle.uss_key.specs.Store.{number_of, are_numbered, IsStore}
use Rattle.uss_key.proofs.Lists.{without_absent, first_alone, one_more_flight, still_apart, no_longer, any_is_found}
use Rattle.uss_key.proofs.Numbers.{at_number, found_by_number, numbered_is_there, none_from_no_some, removed_up, removed_values, removed_number, first_number, put_last, put_up, put_number, weaker}

pub few : (ps : List OperationalIntent) → may_be_kept ps ≡ true → length ps ≤ 4096
few ps kept = grind (arith, nat_tests)

pub apart : (ps : List OperationalIntent) → may_be_kept ps ≡ true → are_of_different_flights ps ≡ true
apart ps kept = grind (arith, nat_tests)

pub may_keep : (ps : List OperationalIntent) → length ps ≤ 4096 → are_of_different_flights ps ≡ true → may_be_kept ps ≡ true
may_keep ps less different = grind (arith, nat_tests)

pub values_put : (es : List (ℕ × OperationalIntent)) (n : ℕ) (p : OperationalIntent) → values_of (es ++ (n, p) ∷ []) ≡ values_of es ++ p ∷ []
values_put [] n p = refl
values_put (e ∷ es) n p = ap (λ ps. e.1 ∷ ps) (values_put es n p)

pub kept_without : (flight : ℕ) (ps : List OperationalIntent) → may_be_kept ps ≡ true → may_be_kept (without flight ps) ≡ true
kept_without flight ps kept =
    let shorter : length (without flight ps) ≤ length ps = no_longer flight ps in
    let most : length ps ≤ 4096 = few ps kept in
    may_keep (without flight ps) (omega arith) (still_apart flight ps (apart ps kept))

-- a flight's pair is found by the flight's number
pub found_pair : (numbers : BTreeMap ℕ ℕ) (pairs : BTreeMap ℕ OperationalIntent) (next flight : ℕ) (o : Option ℕ) → IsStore numbers pairs next → tree.get nat_cmp numbers flight ≡ o → at_number o pairs.entries ≡ find (is_of flight) (values_of pairs.entries)
found_pair numbers pairs next flight o s at =
    let here : number_of flight pairs.entries ≡ o = sym (s.found flight) ∙ at in
    rw here at (found_by_number flight 0 pairs.entries next s.numbered)

-- taking a flight out

pub taken_values : (numbers : BTreeMap ℕ ℕ) (pairs pairs' : BTreeMap ℕ OperationalIntent) (next flight n : ℕ) → IsStore numbers pairs next → tree.get nat_cmp numbers flight ≡ Some n → pairs'.entries ≡ remove_entry (is_at (nat_cmp n)) pairs.entries → values_of pairs'.entries ≡ without flight (values_of pairs.entries)
taken_values numbers pairs pairs' next flight n s at taken =
    rw taken (removed_values flight 0 n pairs.entries next s.numbered (apart (values_of pairs.entries) s.kept) (sym (s.found flight) ∙ at))

pub taken_store : (numbers numbers' : BTreeMap ℕ ℕ) (pairs pairs' : BTreeMap ℕ OperationalIntent) (next flight n : ℕ) → IsStore numbers pairs next → tree.get nat_cmp numbers flight ≡ Some n → ((q : ℕ) → tree.get nat_cmp numbers' q ≡ cond (is_at (nat_cmp flight) q) None (tree.get nat_cmp numbers q)) → pairs'.entries ≡ remove_entry (is_at (nat_cmp n)) pairs.entries → IsStore numbers' pairs' next
taken_store numbers numbers' pairs pairs' next flight n s at less taken = record {
  found = λ g. less g ∙ rw (s.found g, taken) (removed_number g flight 0 n pairs.entries next s.numbered (apart (values_of pairs.entries) s.kept) (sym (s.found flight) ∙ at));
  numbered = rw taken (removed_up 0 n pairs.entries next s.numbered);
  kept = rw (taken_values numbers pairs pairs' next flight n s at taken) (kept_without flight (values_of pairs.entries) s.kept);
}

-- a flight without a number has no pair
pub nothing_taken : (numbers : BTreeMap ℕ ℕ) (pairs : BTreeMap ℕ OperationalIntent) (next flight : ℕ) → IsStore numbers pairs next → tree.get nat_cmp numbers flight ≡ None → without flight (values_of pairs.entries) ≡ values_of pairs.entries
nothing_taken numbers pairs next flight s at =
    let here : number_of flight pairs.entries ≡ None = sym (s.found flight) ∙ at in
    let none : list_any (is_of flight) (values_of pairs.entries) ≡ false = sym (numbered_is_there flight pairs.entries) ∙ ap is_some here in
    without_absent flight (values_of pairs.entries) none

-- taking the first out

first_out : (es : List (ℕ × OperationalIntent)) (e : ℕ × OperationalIntent) (next : ℕ) → are_numbered 0 (e ∷ es) next ≡ true → are_numbered 0 es next ≡ true
first_out es e next up =
    let up' : are_numbered (e.0 + 1) es next ≡ true = grind (arith, nat_tests) in
    weaker 0 (e.0 + 1) es next (omega arith) up'

kept_rest : (p : OperationalIntent) (ps : List OperationalIntent) → may_be_kept (p ∷ ps) ≡ true → may_be_kept ps ≡ true
kept_rest p ps kept =
    let most : length (p ∷ ps) ≤ 4096 = few (p ∷ ps) kept in
    may_keep ps (omega arith) (first_alone p ps (apart (p ∷ ps) kept)).1

pub first_store : (numbers numbers' : BTreeMap ℕ ℕ) (pairs pairs' : BTreeMap ℕ OperationalIntent) (next : ℕ) (e : ℕ × OperationalIntent) (flight : ℕ) → flight ≡ e.1.reference.flight → IsStore numbers pairs next → pairs.entries ≡ e ∷ pairs'.entries → ((q : ℕ) → tree.get nat_cmp numbers' q ≡ cond (is_at (nat_cmp flight) q) None (tree.get nat_cmp numbers q)) → IsStore numbers' pairs' next
first_store numbers numbers' pairs pairs' next e flight of s cut less =
    let kept : may_be_kept (values_of (e ∷ pairs'.entries)) ≡ true = rw cut at s.kept in
    let up : are_numbered 0 (e ∷ pairs'.entries) next ≡ true = rw cut at s.numbered in
    record {
      found = λ g. less g ∙ rw (of, s.found g, cut) (first_number g e pairs'.entries (apart (values_of (e ∷ pairs'.entries)) kept));
      numbered = first_out pairs'.entries e next up;
      kept = kept_rest e.1 (values_of pairs'.entries) kept;
    }

-- putting a pair at the end

pub put_values : (numbers : BTreeMap ℕ ℕ) (pairs pairs' : BTreeMap ℕ OperationalIntent) (next : ℕ) (p : OperationalIntent) → IsStore numbers pairs next → pairs'.entries ≡ insert_entry nat_cmp pairs.entries next p → values_of pairs'.entries ≡ values_of pairs.entries ++ p ∷ []
put_values numbers pairs pairs' next p s put = rw (put, put_last 0 pairs.entries next p s.numbered) (values_put pairs.entries next p)

pub put_store : (numbers numbers' : BTreeMap ℕ ℕ) (pairs pairs' : BTreeMap ℕ OperationalIntent) (next : ℕ) (p : OperationalIntent) (flight : ℕ) → flight ≡ p.reference.flight → IsStore numbers pairs next → find (is_of p.reference.flight) (values_of pairs.entries) ≡ None → length (values_of pairs.entries) < 4096 → ((q : ℕ) → tree.get nat_cmp numbers' q ≡ cond (is_at (nat_cmp flight) q) (Some next) (tree.get nat_cmp numbers q)) → pairs'.entries ≡ insert_entry nat_cmp pairs.entries next p → IsStore numbers' pairs' (next + 1)
put_store numbers numbers' pairs pairs' next p flight of s new room more put =
    let none : list_any (is_of p.reference.flight) (values_of pairs.entries) ≡ false = any_is_found (is_of p.reference.flight) (values_of pairs.entries) ∙ ap is_some new in
    let last : pairs'.entries ≡ pairs.entries ++ (next, p) ∷ [] = put ∙ put_last 0 pairs.entries next p s.numbered in
    let different : are_of_different_flights (values_of pairs.entries ++ p ∷ []) ≡ true = one_more_flight (values_of pairs.entries) p (apart (values_of pairs.entries) s.kept) none in
    let most : length (values_of pairs.entries ++ p ∷ []) ≤ 4096 = simp length-append (omega arith) in
    record {
      found = λ g. more g ∙ rw (of, s.found g, last) (put_number g pairs.entries next p none);
      numbered = rw last (put_up 0 pairs.entries next p s.numbered);
      kept = rw (put_values numbers pairs pairs' next p s put) (may_keep (values_of pairs.entries ++ p ∷ []) most different);
    }

-- taking a new number back

back_at : (b : Bool) (flight next q : ℕ) (es : List (ℕ × OperationalIntent)) → is_at (nat_cmp flight) q ≡ b → number_of flight es ≡ None → cond b None (cond b (Some next) (number_of q es)) ≡ number_of q es
back_at true flight next q es here none =
    let same : flight ≡ q = grind (arith, nat_tests) in
    rw same at (sym none)
back_at false flight next q es other none = refl

pub back_store : (numbers numbers' numbers'' : BTreeMap ℕ ℕ) (pairs pairs' : BTreeMap ℕ OperationalIntent) (next : ℕ) (p : OperationalIntent) (flight : ℕ) → flight ≡ p.reference.flight → IsStore numbers pairs next → find (is_of p.reference.flight) (values_of pairs.entries) ≡ None → ((q : ℕ) → tree.get nat_cmp numbers' q ≡ cond (is_at (nat_cmp flight) q) (Some next) (tree.get nat_cmp numbers q)) → ((q : ℕ) → tree.get nat_cmp numbers'' q ≡ cond (is_at (nat_cmp flight) q) None (tree.get nat_cmp numbers' q)) → pairs'.entries ≡ pairs.entries → IsStore numbers'' pairs' next
back_store numbers numbers' numbers'' pairs pairs' next p flight of s new more less same =
    let new' : find (is_of flight) (values_of pairs.entries) ≡ None = rw of new in
    let none : list_any (is_of flight) (values_of pairs.entries) ≡ false = any_is_found (is_of flight) (values_of pairs.entries) ∙ ap is_some new' in
    let absent : number_of flight pairs.entries ≡ None = none_from_no_some (number_of flight pairs.entries) (numbered_is_there flight pairs.entries ∙ none) in
    record {
      found = λ g. less g ∙ rw (more g, s.found g, same) (back_at (is_at (nat_cmp flight) g) flight next g pairs.entries refl absent);
      numbered = rw same s.numbered;
      kept = rw same s.kept;
    }

-- whether a flight has a pair
pub has_pair : (numbers : BTreeMap ℕ ℕ) (pairs : BTreeMap ℕ OperationalIntent) (next flight : ℕ) → IsStore numbers pairs next → is_some (tree.get nat_cmp numbers flight) ≡ list_any (is_of flight) (values_of pairs.entries)
has_pair numbers pairs next flight s = ap is_some (s.found flight) ∙ numbered_is_there flight pairs.entries
