-- How the rows of a path and the row of a method are found.
use Rattle.std.proofs.Common.{◌≡◌, ℕ, suc, ◌+◌, ◌<◌, Bool, true, false, List, [], ◌∷◌, ◌++◌, length, get_or, take, drop, Some, Err, refl, sym, ap, ◌∙◌, arith, cond, add-one, inl, inr, append_assoc, append-nil}
use Rattle.std.specs.Prelude.{◌⊎◌, ◌&&◌, ◌||◌, ◌==◌, not, codes, bytes_eq, Result, if◌then◌else◌}
use Rattle.std.specs.List.{filter, flat_map, list_any}
use Rattle.std.proofs.Math.Seq.{drop-cons, take-suc}
use Rattle.std.proofs.lemmas.Grind.{flat_map-append}
use Rattle.std.proofs.lemmas.Bool.Decides.{nat_tests}
use Rattle.uss_route.specs.declared.rows.RouteRow.{RouteRow}
use Rattle.uss_route.specs.Rows.{method_of, all_rows}
use Rattle.std.specs.Str.{is_utf8}
use Rattle.uss_http.specs.declared.refusal.HttpRefusal.{HttpRefusal}
use Rattle.uss_http.specs.declared.refusal.HttpRefusal.TheVariants as refusal
use Rattle.uss_route.specs.declared.found.Route.{Route}
use Rattle.uss_route.specs.Routes.{fits, is_served, is_written_out, rows_at, with_method, without_query, route_on, route_of}

pub both_left : (a b : Bool) → (a && b) ≡ true → a ≡ true
both_left true b e = refl
both_left false b e = e

pub both_right : (a b : Bool) → (a && b) ≡ true → b ≡ true
both_right true b e = e
both_right false b e = absurd (cc)

-- the row at this place has the method
pub method_here : (m : List ℕ) (rows : List RouteRow) (i : ℕ) (d : RouteRow) → i < length rows → bytes_eq (method_of (get_or rows i d)) m ≡ true → with_method m (drop i rows) ≡ Some (get_or rows i d)
method_here m rows i d lt has = ap (with_method m) (drop-cons rows i d lt) ∙ ap (λ (t : Bool). if t then Some (get_or rows i d) else with_method m (drop (suc i) rows)) has

pub method_later : (m : List ℕ) (rows : List RouteRow) (i : ℕ) (d : RouteRow) → i < length rows → bytes_eq (method_of (get_or rows i d)) m ≡ false → with_method m (drop i rows) ≡ with_method m (drop (i + 1) rows)
method_later m rows i d lt has = rw add-one (ap (with_method m) (drop-cons rows i d lt) ∙ ap (λ (t : Bool). if t then Some (get_or rows i d) else with_method m (drop (suc i) rows)) has)

-- one more method after others
pub joined_more : (front : List ℕ) (rows : List RouteRow) (i : ℕ) (d : RouteRow) → i < length rows → front ++ flat_map (λ r. codes ", " ++ method_of r) (take (i + 1) rows) ≡ (((front ++ flat_map (λ r. codes ", " ++ method_of r) (take i rows)) ++ codes ", ") ++ method_of (get_or rows i d))
joined_more front rows i d lt =
    let more = λ (s : RouteRow). codes ", " ++ method_of s in
    let r = get_or rows i d in
    let front_rows = flat_map more (take i rows) in
    ap (λ (t : List ℕ). front ++ t) (rw add-one (ap (flat_map more) (take-suc rows i d lt)) ∙ flat_map-append more (take i rows) (r ∷ []) ∙ ap (λ (t : List ℕ). front_rows ++ t) (append-nil (more r)))
    ∙ sym (append_assoc front front_rows (more r))
    ∙ sym (append_assoc (front ++ front_rows) (codes ", ") (method_of r))

-- a row that is found among those that pass a test passes it
found_here : (p : RouteRow → Bool) (m : List ℕ) (q : RouteRow) (rows : List RouteRow) (r : RouteRow) (t u : Bool) → p q ≡ t → bytes_eq (method_of q) m ≡ u → (with_method m (filter p rows) ≡ Some r → p r ≡ true) → with_method m (cond t (q ∷ filter p rows) (filter p rows)) ≡ Some r → p r ≡ true
found_here p m q rows r false u is has later e = later e
found_here p m q rows r true false is has later e = later (sym (ap (λ (t : Bool). if t then Some q else with_method m (filter p rows)) has) ∙ e)
found_here p m q rows r true true is has later e =
    let same : Some q ≡ Some r = sym (ap (λ (t : Bool). if t then Some q else with_method m (filter p rows)) has) ∙ e in
    let row : q ≡ r = cc in
    sym (ap p row) ∙ is

pub found_passes : (p : RouteRow → Bool) (m : List ℕ) (rows : List RouteRow) (r : RouteRow) → with_method m (filter p rows) ≡ Some r → p r ≡ true
found_passes p m [] r e = absurd (cc)
found_passes p m (q ∷ rows) r e = found_here p m q rows r (p q) (bytes_eq (method_of q) m) refl refl (found_passes p m rows r) e

fits_by : (tagged : Bool) (path m : List ℕ) (r : RouteRow) (t : Bool) → with_method m (if t then filter (is_written_out tagged path) all_rows else filter (is_served tagged path) all_rows) ≡ Some r → fits r path ≡ true
fits_by tagged path m r true e = both_left (fits r path) _ (both_right _ (is_served tagged path r) (found_passes (is_written_out tagged path) m all_rows r e))
fits_by tagged path m r false e = both_left (fits r path) _ (found_passes (is_served tagged path) m all_rows r e)

-- a row of a path has this path
pub found_fits : (tagged : Bool) (path m : List ℕ) (r : RouteRow) → with_method m (rows_at tagged path) ≡ Some r → fits r path ≡ true
found_fits tagged path m r e = fits_by tagged path m r (list_any (is_written_out tagged path) all_rows) e

-- whether some row passes a test, by those that do
any_by : (p : RouteRow → Bool) (q : RouteRow) (rows : List RouteRow) (t : Bool) → list_any p rows ≡ not (length (filter p rows) == 0) → (t || list_any p rows) ≡ not (length (cond t (q ∷ filter p rows) (filter p rows)) == 0)
any_by p q rows true later = grind (arith, nat_tests)
any_by p q rows false later = later

pub any_kept : (p : RouteRow → Bool) (rows : List RouteRow) → list_any p rows ≡ not (length (filter p rows) == 0)
any_kept p [] = refl
any_kept p (q ∷ rows) = any_by p q rows (p q) (any_kept p rows)

-- the path of a target
pub whole_route : (method target path : List ℕ) (answer : Result Route HttpRefusal) → path ≡ without_query target → is_utf8 path ≡ true → (answer ≡ Err refusal.Memory) ⊎ (answer ≡ route_on method path) → (answer ≡ Err refusal.Memory) ⊎ (answer ≡ route_of method target)
whole_route method target path answer is text (inl m) = inl m
whole_route method target path answer is text (inr m) = inr (m ∙ ap (route_on method) is ∙ sym (ap (λ (t : Bool). if t then route_on method (without_query target) else Err refusal.NoRoute) (sym (ap is_utf8 is) ∙ text)))

pub no_text : (method target path : List ℕ) → path ≡ without_query target → is_utf8 path ≡ false → ◌≡◌ {A = Result Route HttpRefusal} (Err refusal.NoRoute) (route_of method target)
no_text method target path is text = sym (ap (λ (t : Bool). if t then route_on method (without_query target) else Err refusal.NoRoute) (sym (ap is_utf8 is) ∙ text))

pub not_true : (b : Bool) → (b ≡ true → ⊥) → b ≡ false
not_true true h = absurd (h refl)
not_true false h = refl
