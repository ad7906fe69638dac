-- The laws of routes.
use Rattle.std.proofs.Common.{◌≡◌, ℕ, zero, suc, ◌+◌, ◌<◌, Bool, true, false, List, [], ◌∷◌, ◌++◌, length, get_or, take, drop, Some, None, Ok, Err, refl, sym, ap, ◌∙◌, subst, arith, cond, All, inl, inr}
use Rattle.std.specs.Prelude.{◌&&◌, ◌||◌, ◌==◌, not, nat_lt, bytes_eq, codes, Option, Result, AllPairs, if◌then◌else◌}
use Rattle.std.specs.List.{filter, list_any}
use Rattle.std.specs.Str.{is_utf8}
use Rattle.std.proofs.Math.Seq.{drop-append-add}
use Rattle.std.proofs.lemmas.Bool.{and_from}
use Rattle.std.proofs.lemmas.Bool.Decides.{nat_tests}
use Rattle.std.proofs.lemmas.List.{take-append-drop}
use Rattle.std.proofs.lemmas.List.Elements.{All-nil, All-cons, All-head, All-tail, filter_agree, filter_passes}
use Rattle.std.proofs.lemmas.List.Kept.{AllPairs-filter}
use Rattle.std.proofs.lemmas.List.Sums.{take_while-cons}
use Rattle.std.proofs.lemmas.Slice.Eq.{bytes_eq-Decides}
use Rattle.uss_http.specs.declared.refusal.HttpRefusal.{HttpRefusal}
use Rattle.uss_http.specs.declared.refusal.HttpRefusal.TheVariants as refusal
use Rattle.uss_route.specs.declared.rows.RouteRow.{RouteRow}
use Rattle.uss_route.specs.declared.found.Route.{Route}
use Rattle.uss_route.specs.Rows.{method_of, count_of, is_of_a_supplier, all_rows}
use Rattle.uss_route.specs.Routes.{segment, tag_of, is_tagged, untagged, without_query, fits, second_of, is_served, is_written_out, rows_at, with_method, joined, refused, route_at, route_by, route_on, route_of}
use Rattle.uss_route.specs.Spelling.{IsParameter, parameters_text, IsPathOf}
use Rattle.uss_route.specs.Served.{HasNoQuery, IsBehindTag, IsServed, IsWrittenOut, IsMeant, AreRowsOf, route_with}
use Rattle.uss_route.proofs.Looking.{both_left, both_right, found_passes, any_kept}
use Rattle.uss_route.proofs.Spelled.{begins, segment_in_front, behind_front, some_length, some_from, parts, free, fits_spelled, spelled_fits, parameters_are}
use Rattle.uss_route.proofs.Meaning.{rank, row_begins, no_tag, in_table, any_from, any_gives, same_rank, or_left, or_right, one_row, one_of_suppliers}

-- ---- with a tag and without

-- the path after the tag is one of the row, and the row may stand after one
pub record IsPlaced (row : RouteRow) (parameters : List (List ℕ)) (path : List ℕ) : Type 0 where
  pub place : IsPathOf row parameters (untagged path)
  pub may : (is_of_a_supplier row || not (is_tagged path)) ≡ true

tagged_by : (path : List ℕ) (t : Bool) → bytes_eq (take 3 path) (codes "/a/") ≡ t → tag_of path ≡ (if t then segment (drop 3 path) else [])
tagged_by path t e = ap (λ (b : Bool). if b then segment (drop 3 path) else []) e

untagged_by : (path : List ℕ) (t : Bool) → is_tagged path ≡ t → untagged path ≡ (if t then drop (3 + length (tag_of path)) path else path)
untagged_by path t e = ap (λ (b : Bool). if b then drop (3 + length (tag_of path)) path else path) e

plain : (r : RouteRow) (ps : List (List ℕ)) (path : List ℕ) → IsPathOf r ps path → is_tagged path ≡ false
plain r ps path is =
    let other : bytes_eq (take 3 path) (codes "/a/") ≡ false = ap (λ (p : List ℕ). bytes_eq (take 3 p) (codes "/a/")) is.spelled ∙ no_tag r (parameters_text ps) in
    ap (λ (t : List ℕ). nat_lt 0 (length t)) (tagged_by path false other)

-- a tag and what stands after it
tag_is : (tag rest : List ℕ) → IsParameter tag → begins rest → tag_of (codes "/a/" ++ (tag ++ rest)) ≡ tag
tag_is tag rest is begin = segment_in_front tag rest is.free begin

pub is_tagged_here : (tag rest : List ℕ) → IsParameter tag → begins rest → is_tagged (codes "/a/" ++ (tag ++ rest)) ≡ true
is_tagged_here tag rest is begin = ap (λ (t : List ℕ). nat_lt 0 (length t)) (tag_is tag rest is begin) ∙ some_length tag is.some

untagged_here : (tag rest : List ℕ) → IsParameter tag → begins rest → untagged (codes "/a/" ++ (tag ++ rest)) ≡ rest
untagged_here tag rest is begin =
    let path = codes "/a/" ++ (tag ++ rest) in
    untagged_by path true (is_tagged_here tag rest is begin)
    ∙ ap (λ (t : List ℕ). drop (3 + length t) path) (tag_is tag rest is begin)
    ∙ drop-append-add (codes "/a/") (tag ++ rest) (length tag)
    ∙ behind_front tag rest

pub path_begins : (r : RouteRow) (ps : List (List ℕ)) (path : List ℕ) → IsPathOf r ps path → begins path
path_begins r ps path is = subst begins (sym is.spelled) (row_begins r (parameters_text ps))

placed_tagged : (r : RouteRow) (ps : List (List ℕ)) (path : List ℕ) → (b : IsBehindTag r ps path) → IsPlaced r ps path
placed_tagged r ps path b =
    let begin = path_begins r ps b.rest b.rested in
    record {
      place = subst (IsPathOf r ps) (sym (ap untagged b.spelled ∙ untagged_here b.tag b.rest b.tagged begin)) b.rested;
      may = or_left (is_of_a_supplier r) (not (is_tagged path)) b.supplier;
    }

pub placed : (r : RouteRow) (ps : List (List ℕ)) (path : List ℕ) → IsServed r ps path → IsPlaced r ps path
placed r ps path (inl is) =
    record {
      place = subst (IsPathOf r ps) (sym (untagged_by path false (plain r ps path is))) is;
      may = or_right (is_of_a_supplier r) (not (is_tagged path)) (ap not (plain r ps path is));
    }
placed r ps path (inr b) = placed_tagged r ps path b

-- a tagged path by its parts
tagged_front : (path : List ℕ) (t : Bool) → bytes_eq (take 3 path) (codes "/a/") ≡ t → is_tagged path ≡ true → take 3 path ≡ codes "/a/"
tagged_front path true e is = (bytes_eq-Decides (take 3 path) (codes "/a/")).0 e
tagged_front path false e is = absurd (let none : is_tagged path ≡ nat_lt 0 0 = ap (λ (l : List ℕ). nat_lt 0 (length l)) (tagged_by path false e) in grind (arith, nat_tests, none, is))

whole : (path : List ℕ) → take 3 path ≡ codes "/a/" → path ≡ codes "/a/" ++ drop 3 path
whole path front = sym (take-append-drop 3 path) ∙ ap (λ (f : List ℕ). f ++ drop 3 path) front

tag_front : (path : List ℕ) → take 3 path ≡ codes "/a/" → tag_of path ≡ segment (drop 3 path)
tag_front path front = tagged_by path true (ap (λ (f : List ℕ). bytes_eq f (codes "/a/")) front ∙ (bytes_eq-Decides (codes "/a/") (codes "/a/")).1 refl)

untagged_rest : (path : List ℕ) → take 3 path ≡ codes "/a/" → is_tagged path ≡ true → untagged path ≡ drop (length (segment (drop 3 path))) (drop 3 path)
untagged_rest path front is =
    let tag = segment (drop 3 path) in
    untagged_by path true is
    ∙ ap (λ (t : List ℕ). drop (3 + length t) path) (tag_front path front)
    ∙ ap (drop (3 + length tag)) (whole path front)
    ∙ drop-append-add (codes "/a/") (drop 3 path) (length tag)

pub supplier_by : (a t : Bool) → t ≡ true → (a || not t) ≡ true → a ≡ true
supplier_by true t is e = refl
supplier_by false true is e = e
supplier_by false false is e = absurd (cc)

served_by : (r : RouteRow) (ps : List (List ℕ)) (path : List ℕ) (t : Bool) → is_tagged path ≡ t → IsPlaced r ps path → IsServed r ps path
served_by r ps path false e p = inl (subst (IsPathOf r ps) (untagged_by path false e) p.place)
served_by r ps path true e p =
    let front = tagged_front path (bytes_eq (take 3 path) (codes "/a/")) refl e in
    let behind = drop 3 path in
    inr (
    record {
      supplier = supplier_by (is_of_a_supplier r) (is_tagged path) e p.may;
      tag = segment behind;
      tagged = record { some = some_from (segment behind) (ap (λ (l : List ℕ). nat_lt 0 (length l)) (sym (tag_front path front)) ∙ e); free = free behind };
      rest = untagged path;
      rested = p.place;
      spelled = whole path front ∙ ap (λ (l : List ℕ). codes "/a/" ++ l) (parts behind ∙ ap (λ (l : List ℕ). segment behind ++ l) (sym (untagged_rest path front e)));
    }
    )

served : (r : RouteRow) (ps : List (List ℕ)) (path : List ℕ) → IsPlaced r ps path → IsServed r ps path
served r ps path p = served_by r ps path (is_tagged path) refl p

-- ---- the tests

abbrev pub served_at : List ℕ → RouteRow → Bool
served_at path r = is_served (is_tagged path) (untagged path) r

abbrev pub written_at : List ℕ → RouteRow → Bool
written_at path r = is_written_out (is_tagged path) (untagged path) r

abbrev pub written : List ℕ → Bool
written path = list_any (written_at path) all_rows

abbrev pub meant_at : List ℕ → RouteRow → Bool
meant_at path r = served_at path r && ((count_of r == 0) || not (written path))

served_yes : (path : List ℕ) (r : RouteRow) → served_at path r ≡ true → (ps : List (List ℕ)) × IsServed r ps path
served_yes path r e =
    let s = spelled_fits r (untagged path) (both_left (fits r (untagged path)) (is_of_a_supplier r || not (is_tagged path)) e) in
    (s.0, served r s.0 path (record { place = s.1; may = both_right (fits r (untagged path)) (is_of_a_supplier r || not (is_tagged path)) e }))

served_test : (path : List ℕ) (r : RouteRow) (ps : List (List ℕ)) → IsServed r ps path → served_at path r ≡ true
served_test path r ps is =
    let p = placed r ps path is in
    and_from (fits r (untagged path)) (is_of_a_supplier r || not (is_tagged path)) (fits_spelled r (untagged path) ps p.place) p.may

pub no_items : (ps : List (List ℕ)) → length ps ≡ 0 → ps ≡ []
no_items [] e = refl
no_items (p ∷ ps) e = absurd (omega (arith, e))

pub zero_from : (n : ℕ) → (n == 0) ≡ true → n ≡ 0
zero_from n e = grind (arith, nat_tests)

zero_is : (n : ℕ) → n ≡ 0 → (n == 0) ≡ true
zero_is n e = grind (arith, nat_tests)

none_from : (path : List ℕ) (r : RouteRow) (ps : List (List ℕ)) → IsServed r ps path → (count_of r == 0) ≡ true → ps ≡ []
none_from path r ps is e = no_items ps ((placed r ps path is).place.count ∙ zero_from (count_of r) e)

count_none : (path : List ℕ) (r : RouteRow) (ps : List (List ℕ)) → IsServed r ps path → ps ≡ [] → (count_of r == 0) ≡ true
count_none path r ps is e = zero_is (count_of r) (sym (placed r ps path is).place.count ∙ ap length e)

written_yes : (path : List ℕ) (r : RouteRow) → written_at path r ≡ true → IsServed r [] path
written_yes path r e =
    let s = served_yes path r (both_right (count_of r == 0) (served_at path r) e) in
    subst (λ (ps : List (List ℕ)). IsServed r ps path) (none_from path r s.0 s.1 (both_left (count_of r == 0) (served_at path r) e)) s.1

written_test : (path : List ℕ) (r : RouteRow) → IsServed r [] path → written_at path r ≡ true
written_test path r is = and_from (count_of r == 0) (served_at path r) (count_none path r [] is refl) (served_test path r [] is)

any_written : (path : List ℕ) → IsWrittenOut path → written path ≡ true
any_written path w = any_from (written_at path) w.0 (written_test path w.0 w.1)

written_any : (path : List ℕ) → written path ≡ true → IsWrittenOut path
written_any path e = let w = any_gives (written_at path) all_rows e in (w.0, written_yes path w.0 w.1)

or_not : (a t : Bool) → t ≡ true → (a || not t) ≡ true → a ≡ true
or_not a t is e = supplier_by a t is e

pub meant_yes : (path : List ℕ) (r : RouteRow) → meant_at path r ≡ true → (ps : List (List ℕ)) × IsMeant r ps path
meant_yes path r e =
    let s = served_yes path r (both_left (served_at path r) ((count_of r == 0) || not (written path)) e) in
    let o = both_right (served_at path r) ((count_of r == 0) || not (written path)) e in
    (s.0, record { served = s.1; first = λ w. none_from path r s.0 s.1 (or_not (count_of r == 0) (written path) (any_written path w) o) })

first_by : (path : List ℕ) (c t : Bool) → written path ≡ t → (IsWrittenOut path → c ≡ true) → (c || not t) ≡ true
first_by path c true e is = or_left c false (is (written_any path e))
first_by path c false e is = or_right c true refl

pub meant_test : (path : List ℕ) (r : RouteRow) (ps : List (List ℕ)) → IsMeant r ps path → meant_at path r ≡ true
meant_test path r ps is =
    and_from (served_at path r) ((count_of r == 0) || not (written path)) (served_test path r ps is.served) (first_by path (count_of r == 0) (written path) refl (λ w. count_none path r ps is.served (is.first w)))

-- ---- the rows of a path

swap_true : (a b : Bool) → (a && b) ≡ (b && (a || false))
swap_true true true = refl
swap_true true false = refl
swap_true false true = refl
swap_true false false = refl

swap_false : (a b : Bool) → b ≡ (b && (a || true))
swap_false true true = refl
swap_false true false = refl
swap_false false true = refl
swap_false false false = refl

rows_by : (s : RouteRow → Bool) (t : Bool) → (if t then filter (λ r. (count_of r == 0) && s r) all_rows else filter s all_rows) ≡ filter (λ r. s r && ((count_of r == 0) || not t)) all_rows
rows_by s true = filter_agree (λ r. (count_of r == 0) && s r) (λ r. s r && ((count_of r == 0) || false)) (λ r. swap_true (count_of r == 0) (s r)) all_rows
rows_by s false = filter_agree s (λ r. s r && ((count_of r == 0) || true)) (λ r. swap_false (count_of r == 0) (s r)) all_rows

pub rows_here : (path : List ℕ) → rows_at (is_tagged path) (untagged path) ≡ filter (meant_at path) all_rows
rows_here path = rows_by (served_at path) (written path)

abbrev pub rows_meant : List ℕ → List RouteRow
rows_meant path = filter (meant_at path) all_rows

route_here : (method path : List ℕ) → route_on method path ≡ route_by (untagged path) (rows_meant path) (with_method method (rows_meant path))
route_here method path = ap (λ (rs : List RouteRow). route_by (untagged path) rs (with_method method rs)) (rows_here path)

pub same_tests : (a b : Bool) (P : Type 0) → (a ≡ true → P) → (P → a ≡ true) → (b ≡ true → P) → (P → b ≡ true) → a ≡ b
same_tests true b P f g h k = sym (k (f refl))
same_tests false true P f g h k = g (h refl)
same_tests false false P f g h k = refl

pub are_meant : (path : List ℕ) → AreRowsOf path (rows_meant path)
are_meant path = record { is_meant = meant_at path; exactly = λ r. (λ e. meant_yes path r e, λ s. meant_test path r s.0 s.1); kept = refl }

rows_are_meant : (path : List ℕ) (rows : List RouteRow) → AreRowsOf path rows → rows ≡ rows_meant path
rows_are_meant path rows a =
    a.kept ∙ filter_agree a.is_meant (meant_at path) (λ r. same_tests (a.is_meant r) (meant_at path r) ((ps : List (List ℕ)) × IsMeant r ps path) (a.exactly r).0 (a.exactly r).1 (λ e. meant_yes path r e) (λ s. meant_test path r s.0 s.1)) all_rows

-- ---- the row of a method

has_by : (m : List ℕ) (q r : RouteRow) (rows : List RouteRow) (t : Bool) → bytes_eq (method_of q) m ≡ t → (with_method m rows ≡ Some r → method_of r ≡ m) → (if t then Some q else with_method m rows) ≡ Some r → method_of r ≡ m
has_by m q r rows true is later e =
    let same : q ≡ r = cc in
    sym (ap method_of same) ∙ (bytes_eq-Decides (method_of q) m).0 is
has_by m q r rows false is later e = later e

has_method : (m : List ℕ) (rows : List RouteRow) (r : RouteRow) → with_method m rows ≡ Some r → method_of r ≡ m
has_method m [] r e = absurd (cc)
has_method m (q ∷ rows) r e = has_by m q r rows (bytes_eq (method_of q) m) refl (has_method m rows r) e

others_by : (m : List ℕ) (q : RouteRow) (rows : List RouteRow) (t : Bool) → bytes_eq (method_of q) m ≡ t → (with_method m rows ≡ None → All (λ r. ¬ (method_of r ≡ m)) rows) → (if t then Some q else with_method m rows) ≡ None → All (λ r. ¬ (method_of r ≡ m)) (q ∷ rows)
others_by m q rows true is later e = absurd (cc)
others_by m q rows false is later e =
    All-cons (λ r. ¬ (method_of r ≡ m)) q rows (λ same. let h = (bytes_eq-Decides (method_of q) m).1 same in absurd (cc)) (later e)

others : (m : List ℕ) (rows : List RouteRow) → with_method m rows ≡ None → All (λ r. ¬ (method_of r ≡ m)) rows
others m [] e = All-nil (λ r. ¬ (method_of r ≡ m))
others m (q ∷ rows) e = others_by m q rows (bytes_eq (method_of q) m) refl (others m rows) e

none_by : (m : List ℕ) (q : RouteRow) (rows : List RouteRow) (t : Bool) → bytes_eq (method_of q) m ≡ t → ¬ (method_of q ≡ m) → with_method m rows ≡ None → (if t then Some q else with_method m rows) ≡ None
none_by m q rows true is other later = absurd (other ((bytes_eq-Decides (method_of q) m).0 is))
none_by m q rows false is other later = later

none_of : (m : List ℕ) (rows : List RouteRow) → All (λ r. ¬ (method_of r ≡ m)) rows → with_method m rows ≡ None
none_of m [] all = refl
none_of m (q ∷ rows) all =
    none_by m q rows (bytes_eq (method_of q) m) refl (All-head (λ r. ¬ (method_of r ≡ m)) q rows all) (none_of m rows (All-tail (λ r. ¬ (method_of r ≡ m)) q rows all))

-- ---- the laws

found_meant : (path m : List ℕ) (r : RouteRow) → with_method m (rows_meant path) ≡ Some r → (ps : List (List ℕ)) × IsMeant r ps path
found_meant path m r e = meant_yes path r (found_passes (meant_at path) m all_rows r e)

one_served : (path : List ℕ) (r q : RouteRow) (ps qs : List (List ℕ)) → IsServed r ps path → IsServed q qs path → method_of r ≡ method_of q → r ≡ q
one_served path r q ps qs is other same = one_row r q ps qs (untagged path) (placed r ps path is).place (placed q qs path other).place same

-- the rows have each row that is meant
kept_by : (p : RouteRow → Bool) (m : List ℕ) (q r : RouteRow) (rows : List RouteRow) (t : Bool) → p q ≡ t → (All (λ x. ¬ (method_of x ≡ m)) (filter p rows) → All (λ x. p x ≡ true → ¬ (method_of x ≡ m)) rows) → All (λ x. ¬ (method_of x ≡ m)) (cond t (q ∷ filter p rows) (filter p rows)) → All (λ x. p x ≡ true → ¬ (method_of x ≡ m)) (q ∷ rows)
kept_by p m q r rows true is later all =
    All-cons (λ x. p x ≡ true → ¬ (method_of x ≡ m)) q rows (λ e. All-head (λ x. ¬ (method_of x ≡ m)) q (filter p rows) all) (later (All-tail (λ x. ¬ (method_of x ≡ m)) q (filter p rows) all))
kept_by p m q r rows false is later all = All-cons (λ x. p x ≡ true → ¬ (method_of x ≡ m)) q rows (λ e. absurd (cc)) (later all)

kept_all : (p : RouteRow → Bool) (m : List ℕ) (rows : List RouteRow) → All (λ x. ¬ (method_of x ≡ m)) (filter p rows) → All (λ x. p x ≡ true → ¬ (method_of x ≡ m)) rows
kept_all p m [] all = All-nil (λ x. p x ≡ true → ¬ (method_of x ≡ m))
kept_all p m (q ∷ rows) all = kept_by p m q q rows (p q) refl (kept_all p m rows) all

not_none : (p : RouteRow → Bool) (r : RouteRow) → p r ≡ true → ¬ (with_method (method_of r) (filter p all_rows) ≡ None)
not_none p r is e =
    in_table (λ x. p x ≡ true → ¬ (method_of x ≡ method_of r)) r (kept_all p (method_of r) all_rows (others (method_of r) (filter p all_rows) e)) is refl

-- the row that the look-up finds is the one that is meant
found_by : (path : List ℕ) (r : RouteRow) (ps : List (List ℕ)) → IsMeant r ps path → (o : Option RouteRow) → with_method (method_of r) (rows_meant path) ≡ o → o ≡ Some r
found_by path r ps is None e = absurd (not_none (meant_at path) r (meant_test path r ps is) e)
found_by path r ps is (Some q) e =
    let other = found_meant path (method_of r) q e in
    ap Some (one_served path q r other.0 ps other.1.served is.served (has_method (method_of r) (rows_meant path) q e))

found : (path : List ℕ) (r : RouteRow) (ps : List (List ℕ)) → IsMeant r ps path → with_method (method_of r) (rows_meant path) ≡ Some r
found path r ps is = found_by path r ps is (with_method (method_of r) (rows_meant path)) refl

with_parts : (r : RouteRow) (ps : List (List ℕ)) (path : List ℕ) → IsPathOf r ps path → route_at path r ≡ route_with r ps
with_parts r ps path is =
    let e = parameters_are r path ps is in
    ap (λ (x : List ℕ). record { row = r; first = x; second = second_of r path }) e.0 ∙ ap (λ (x : List ℕ). record { row = r; first = get_or ps 0 []; second = x }) e.1

route_on_meant : (path : List ℕ) (r : RouteRow) (ps : List (List ℕ)) → IsMeant r ps path → route_on (method_of r) path ≡ Ok (route_with r ps)
route_on_meant path r ps is =
    route_here (method_of r) path ∙ ap (route_by (untagged path) (rows_meant path)) (found path r ps is) ∙ ap Ok (with_parts r ps (untagged path) (placed r ps path is.served).place)

-- a target and its query
not_by : (b : ℕ) → (b == 63) ≡ false → not (b == 63) ≡ true
not_by b e = ap not e

pub no_query : (path query : List ℕ) → HasNoQuery path → without_query (path ++ 63 ∷ query) ≡ path
no_query [] query all = take_while-cons (λ b. not (b == 63)) 63 query
no_query (b ∷ path) query all =
    take_while-cons (λ c. not (c == 63)) b (path ++ 63 ∷ query)
    ∙ ap (λ (t : Bool). cond t (b ∷ without_query (path ++ 63 ∷ query)) []) (not_by b (All-head (λ c. (c == 63) ≡ false) b path all))
    ∙ ap (λ (l : List ℕ). b ∷ l) (no_query path query (All-tail (λ c. (c == 63) ≡ false) b path all))

pub whole_path : (path : List ℕ) → HasNoQuery path → without_query path ≡ path
whole_path [] all = refl
whole_path (b ∷ path) all =
    take_while-cons (λ c. not (c == 63)) b path
    ∙ ap (λ (t : Bool). cond t (b ∷ without_query path) []) (not_by b (All-head (λ c. (c == 63) ≡ false) b path all))
    ∙ ap (λ (l : List ℕ). b ∷ l) (whole_path path (All-tail (λ c. (c == 63) ≡ false) b path all))

abbrev text_route : List ℕ → List ℕ → Result Route HttpRefusal
text_route method path = if is_utf8 path then route_on method path else Err refusal.NoRoute

route_text : (method path : List ℕ) (t : Bool) → is_utf8 path ≡ t → text_route method path ≡ (if t then route_on method path else Err refusal.NoRoute)
route_text method path t e = ap (λ (b : Bool). if b then route_on method path else Err refusal.NoRoute) e

pub query_dropped : (method path query : List ℕ) → HasNoQuery path → route_of method (path ++ 63 ∷ query) ≡ route_of method path
query_dropped method path query all = ap (text_route method) (no_query path query all ∙ sym (whole_path path all))

pub meant_routed : (r : RouteRow) (ps : List (List ℕ)) (path : List ℕ) → IsServed r ps path → (IsWrittenOut path → ps ≡ []) → is_utf8 path ≡ true → HasNoQuery path → route_of (method_of r) path ≡ Ok (route_with r ps)
meant_routed r ps path is first text all =
    ap (text_route (method_of r)) (whole_path path all)
    ∙ route_text (method_of r) path true text
    ∙ route_on_meant path r ps (record { served = is; first = first })

-- after a tag no path of a row with parameters is written out for another
tagged_first : (r : RouteRow) (ps : List (List ℕ)) (tag path : List ℕ) → is_of_a_supplier r ≡ true → IsParameter tag → IsPathOf r ps path → IsWrittenOut (codes "/a/" ++ (tag ++ path)) → ps ≡ []
tagged_first r ps tag path supplier is rested w =
    let whole = codes "/a/" ++ (tag ++ path) in
    let begin = path_begins r ps path rested in
    let other = placed w.0 [] whole w.1 in
    let there : IsPathOf w.0 [] path = subst (IsPathOf w.0 []) (untagged_here tag path is begin) other.place in
    let second = supplier_by (is_of_a_supplier w.0) (is_tagged whole) (is_tagged_here tag path is begin) other.may in
    let same = one_of_suppliers r w.0 ps [] path rested there supplier second in
    no_items ps (rested.count ∙ ap count_of same ∙ sym there.count)

pub tagged_routed : (r : RouteRow) (ps : List (List ℕ)) (tag path : List ℕ) → is_of_a_supplier r ≡ true → IsParameter tag → IsPathOf r ps path → is_utf8 (codes "/a/" ++ (tag ++ path)) ≡ true → HasNoQuery (codes "/a/" ++ (tag ++ path)) → route_of (method_of r) (codes "/a/" ++ (tag ++ path)) ≡ Ok (route_with r ps)
tagged_routed r ps tag path supplier is rested text all =
    meant_routed r ps (codes "/a/" ++ (tag ++ path)) (inr (record { supplier = supplier; tag = tag; tagged = is; rest = path; rested = rested; spelled = refl })) (tagged_first r ps tag path supplier is rested) text all

-- what a route tells
record Found (method path : List ℕ) (route : Route) : Type 0 where
  pub asked : method_of route.row ≡ method
  pub parameters : List (List ℕ)
  pub meant : IsMeant route.row parameters path
  pub with_them : route ≡ route_with route.row parameters

found_of : (method path : List ℕ) (r : RouteRow) → with_method method (rows_meant path) ≡ Some r → Found method path (route_at (untagged path) r)
found_of method path r e =
    let m = found_meant path method r e in
    record { asked = has_method method (rows_meant path) r e; parameters = m.0; meant = m.1; with_them = with_parts r m.0 (untagged path) (placed r m.0 path m.1.served).place }

same_route : (a b : Route) → ◌≡◌ {A = Result Route HttpRefusal} (Ok a) (Ok b) → a ≡ b
same_route a b e = cc

found_route : (method path : List ℕ) (route : Route) (o : Option RouteRow) → with_method method (rows_meant path) ≡ o → route_by (untagged path) (rows_meant path) o ≡ Ok route → Found method path route
found_route method path route None e is = absurd (cc)
found_route method path route (Some r) e is = subst (Found method path) (same_route (route_at (untagged path) r) route is) (found_of method path r e)

text_by : (method path : List ℕ) (route : Route) (t : Bool) → is_utf8 path ≡ t → (if t then route_on method path else Err refusal.NoRoute) ≡ Ok route → is_utf8 path ≡ true
text_by method path route true e is = e
text_by method path route false e is = absurd (cc)

pub route_is_text : (method target : List ℕ) (route : Route) → route_of method target ≡ Ok route → is_utf8 (without_query target) ≡ true
route_is_text method target route e = text_by method (without_query target) route (is_utf8 (without_query target)) refl e

route_found : (method target : List ℕ) (route : Route) → route_of method target ≡ Ok route → Found method (without_query target) route
route_found method target route e =
    let path = without_query target in
    found_route method path route (with_method method (rows_meant path)) refl (sym (route_here method path) ∙ sym (route_text method path true (route_is_text method target route e)) ∙ e)

pub route_method : (method target : List ℕ) (route : Route) → route_of method target ≡ Ok route → method_of route.row ≡ method
route_method method target route e = (route_found method target route e).asked

pub route_path : (method target : List ℕ) (route : Route) → route_of method target ≡ Ok route → (parameters : List (List ℕ)) × IsMeant route.row parameters (without_query target) × (route ≡ route_with route.row parameters)
route_path method target route e = let f = route_found method target route e in (f.parameters, f.meant, f.with_them)

-- ---- no route

some_meant : (path : List ℕ) (r : RouteRow) (ps : List (List ℕ)) (t : Bool) → IsServed r ps path → written path ≡ t → (q : RouteRow) × (meant_at path q ≡ true)
some_meant path r ps true is e =
    let w = any_gives (written_at path) all_rows e in (
      w.0,
      and_from (served_at path w.0) ((count_of w.0 == 0) || not (written path)) (both_right (count_of w.0 == 0) (served_at path w.0) w.1) (or_left (count_of w.0 == 0) (not (written path)) (both_left (count_of w.0 == 0) (served_at path w.0) w.1)),
    )
some_meant path r ps false is e = (r, and_from (served_at path r) ((count_of r == 0) || not (written path)) (served_test path r ps is) (or_right (count_of r == 0) (not (written path)) (ap not e)))

not_empty : (path : List ℕ) (q : RouteRow) → meant_at path q ≡ true → ¬ (rows_meant path ≡ [])
not_empty path q is e =
    let both : true ≡ false = sym (any_from (meant_at path) q is) ∙ any_kept (meant_at path) all_rows ∙ ap (λ (rs : List RouteRow). not (length rs == 0)) e in
    absurd (cc)

empty_by : (p : RouteRow → Bool) (q : RouteRow) (rows : List RouteRow) (t : Bool) → p q ≡ t → ((r : RouteRow) → ¬ (p r ≡ true)) → filter p rows ≡ [] → cond t (q ∷ filter p rows) (filter p rows) ≡ []
empty_by p q rows true is none later = absurd (none q is)
empty_by p q rows false is none later = later

empty : (p : RouteRow → Bool) (rows : List RouteRow) → ((r : RouteRow) → ¬ (p r ≡ true)) → filter p rows ≡ []
empty p [] none = refl
empty p (q ∷ rows) none = empty_by p q rows (p q) refl none (empty p rows none)

no_rows : (path : List ℕ) → ((r : RouteRow) (ps : List (List ℕ)) → ¬ IsServed r ps path) → rows_meant path ≡ []
no_rows path none = empty (meant_at path) all_rows (λ r e. let m = meant_yes path r e in none r m.0 m.1.served)

same_refusal : (a b : HttpRefusal) → ◌≡◌ {A = Result Route HttpRefusal} (Err a) (Err b) → a ≡ b
same_refusal a b e = cc

refused_empty : (rows : List RouteRow) → refused rows ≡ refusal.NoRoute → rows ≡ []
refused_empty [] e = refl
refused_empty (q ∷ rows) e = absurd (cc)

none_empty : (path : List ℕ) (rows : List RouteRow) (o : Option RouteRow) → route_by path rows o ≡ Err refusal.NoRoute → rows ≡ []
none_empty path rows None e = refused_empty rows (same_refusal (refused rows) refusal.NoRoute e)
none_empty path rows (Some r) e = absurd (cc)

pub no_route_none : (method target : List ℕ) → route_of method target ≡ Err refusal.NoRoute → is_utf8 (without_query target) ≡ true → (r : RouteRow) (ps : List (List ℕ)) → ¬ IsServed r ps (without_query target)
no_route_none method target e text r ps is =
    let path = without_query target in
    let rows = none_empty (untagged path) (rows_meant path) (with_method method (rows_meant path)) (sym (route_here method path) ∙ sym (route_text method path true text) ∙ e) in
    let q = some_meant path r ps (written path) is refl in
    not_empty path q.0 q.1 rows

none_by_text : (method path : List ℕ) (t : Bool) → is_utf8 path ≡ t → (is_utf8 path ≡ true → (r : RouteRow) (ps : List (List ℕ)) → ¬ IsServed r ps path) → text_route method path ≡ Err refusal.NoRoute
none_by_text method path true e none = route_text method path true e ∙ route_here method path ∙ ap (λ (rs : List RouteRow). route_by (untagged path) rs (with_method method rs)) (no_rows path (none e))
none_by_text method path false e none = route_text method path false e

pub none_no_route : (method target : List ℕ) → (is_utf8 (without_query target) ≡ true → (r : RouteRow) (ps : List (List ℕ)) → ¬ IsServed r ps (without_query target)) → route_of method target ≡ Err refusal.NoRoute
none_no_route method target none = none_by_text method (without_query target) (is_utf8 (without_query target)) refl none

-- ---- a wrong method

abbrev Without : List ℕ → List RouteRow → Type 0
Without method rows = All (λ r. ¬ (method_of r ≡ method)) rows

abbrev Wrong : (method path allowed : List ℕ) → Type 0
Wrong method path allowed = (rows : List RouteRow) × AreRowsOf path rows × (0 < length rows) × Without method rows × (allowed ≡ joined rows)

refused_some : (rows : List RouteRow) (allowed : List ℕ) → refused rows ≡ refusal.WrongMethod allowed → (0 < length rows) × (allowed ≡ joined rows)
refused_some [] allowed e = absurd (cc)
refused_some (q ∷ rows) allowed e = (omega arith, cc)

wrong_by : (method path allowed : List ℕ) (o : Option RouteRow) → with_method method (rows_meant path) ≡ o → route_by (untagged path) (rows_meant path) o ≡ Err (refusal.WrongMethod allowed) → Wrong method path allowed
wrong_by method path allowed None e is =
    let some = refused_some (rows_meant path) allowed (same_refusal (refused (rows_meant path)) (refusal.WrongMethod allowed) is) in
    (rows_meant path, are_meant path, some.0, others method (rows_meant path) e, some.1)
wrong_by method path allowed (Some r) e is = absurd (cc)

wrong_text : (method path allowed : List ℕ) (t : Bool) → is_utf8 path ≡ t → (if t then route_on method path else Err refusal.NoRoute) ≡ Err (refusal.WrongMethod allowed) → (is_utf8 path ≡ true) × Wrong method path allowed
wrong_text method path allowed true e is = (e, wrong_by method path allowed (with_method method (rows_meant path)) refl (sym (route_here method path) ∙ is))
wrong_text method path allowed false e is = absurd (cc)

pub wrong_has : (method target allowed : List ℕ) → route_of method target ≡ Err (refusal.WrongMethod allowed) → (is_utf8 (without_query target) ≡ true) × Wrong method (without_query target) allowed
wrong_has method target allowed e = wrong_text method (without_query target) allowed (is_utf8 (without_query target)) refl e

refused_joined : (rows : List RouteRow) → 0 < length rows → refused rows ≡ refusal.WrongMethod (joined rows)
refused_joined [] some = absurd (omega (arith, some))
refused_joined (q ∷ rows) some = refl

wrong_here : (method path allowed : List ℕ) (rows : List RouteRow) → AreRowsOf path rows → 0 < length rows → Without method rows → allowed ≡ joined rows → route_on method path ≡ Err (refusal.WrongMethod allowed)
wrong_here method path allowed rows are some without is =
    route_here method path
    ∙ ap (λ (rs : List RouteRow). route_by (untagged path) rs (with_method method rs)) (sym (rows_are_meant path rows are))
    ∙ ap (route_by (untagged path) rows) (none_of method rows without)
    ∙ ap Err (refused_joined rows some ∙ ap refusal.WrongMethod (sym is))

pub wrong_from : (method target allowed : List ℕ) → (is_utf8 (without_query target) ≡ true) × Wrong method (without_query target) allowed → route_of method target ≡ Err (refusal.WrongMethod allowed)
wrong_from method target allowed w =
    let path = without_query target in
    route_text method path true w.0 ∙ wrong_here method path allowed w.1.0 w.1.1 w.1.2 w.1.3 w.1.4

-- ---- each method once

abbrev count_up : ℕ → List RouteRow → Bool
count_up n [] = true
count_up n (q ∷ rows) = (rank q == n) && count_up (suc n) rows

counted : (n : ℕ) (rows : List RouteRow) (i : ℕ) (d : RouteRow) → count_up n rows ≡ true → i < length rows → rank (get_or rows i d) ≡ n + i
counted n [] i d e lt = absurd (omega (arith, lt))
counted n (q ∷ rows) zero d e lt = let here = same_rank (rank q) n (both_left (rank q == n) (count_up (suc n) rows) e) in omega (arith, here)
counted n (q ∷ rows) (suc i) d e lt = let later = counted (suc n) rows i d (both_right (rank q == n) (count_up (suc n) rows) e) (omega (arith, lt)) in omega (arith, later)

ranked_at : (i : ℕ) (d : RouteRow) → i < length all_rows → rank (get_or all_rows i d) ≡ i
ranked_at i d lt = let e = counted 0 all_rows i d refl lt in omega (arith, e)

apart_at : (i j : ℕ) (d : RouteRow) → i < j → j < length all_rows → ¬ (get_or all_rows i d ≡ get_or all_rows j d)
apart_at i j d lt inside same =
    let a = ranked_at i d (omega (arith, lt, inside)) in
    let b = ranked_at j d inside in
    let e = ap rank same in
    absurd (omega (arith, a, b, e, lt))

table_once : (path : List ℕ) → AllPairs (λ a b. meant_at path a ≡ true → meant_at path b ≡ true → ¬ (method_of a ≡ method_of b)) all_rows
table_once path = λ i j d lt inside first second same.
    let a = meant_yes path (get_or all_rows i d) first in
    let b = meant_yes path (get_or all_rows j d) second in
    apart_at i j d lt inside (one_served path (get_or all_rows i d) (get_or all_rows j d) a.0 b.0 a.1.served b.1.served same)

meant_once : (path : List ℕ) → AllPairs (λ a b. ¬ (method_of a ≡ method_of b)) (rows_meant path)
meant_once path = λ i j d lt inside same.
    AllPairs-filter (λ a b. meant_at path a ≡ true → meant_at path b ≡ true → ¬ (method_of a ≡ method_of b)) (meant_at path) all_rows (table_once path) i j d lt inside (filter_passes (meant_at path) all_rows i d (omega (arith, lt, inside))) (filter_passes (meant_at path) all_rows j d inside) same

pub rows_once : (path : List ℕ) (rows : List RouteRow) → AreRowsOf path rows → AllPairs (λ a b. ¬ (method_of a ≡ method_of b)) rows
rows_once path rows are = subst (λ (rs : List RouteRow). AllPairs (λ a b. ¬ (method_of a ≡ method_of b)) rs) (sym (rows_are_meant path rows are)) (meant_once path)
