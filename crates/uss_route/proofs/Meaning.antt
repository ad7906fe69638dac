-- Which rows a path means, by the tests of the look-up.
use Rattle.std.proofs.Common.{◌≡◌, ℕ, suc, ◌+◌, ◌<◌, Bool, true, false, List, [], ◌∷◌, ◌++◌, length, get_or, take, refl, sym, ap, ◌∙◌, subst, arith, cond, All}
use Rattle.std.specs.Prelude.{◌&&◌, ◌||◌, ◌==◌, not, bytes_eq, codes}
use Rattle.std.specs.List.{list_any, list_all}
use Rattle.std.proofs.lemmas.Bool.{and_from}
use Rattle.std.proofs.lemmas.List.Elements.{All-head, All-tail}
use Rattle.std.proofs.lemmas.List.Folds.{list_any_at, list_all_at}
use Rattle.std.proofs.lemmas.Bool.Decides.{nat_tests}
use Rattle.std.proofs.lemmas.Slice.Eq.{bytes_eq-Decides}
use Rattle.uss_route.specs.declared.rows.RouteRow.{RouteRow}
use Rattle.uss_route.specs.declared.rows.RouteRow.TheVariants as row
use Rattle.uss_route.specs.Rows.{method_of, text_of, count_of, is_of_a_supplier, all_rows}
use Rattle.uss_route.specs.Spelling.{IsParameter, parameters_text, IsPathOf}
use Rattle.uss_route.proofs.Spelled.{NoSlash, begins}

-- ---- the table

abbrev pub rank : RouteRow → ℕ
rank row.DssQuery = 0
rank row.DssGet = 1
rank row.DssCreate = 2
rank row.DssChange = 3
rank row.DssRemove = 4
rank row.TicketPut = 5
rank row.TicketGet = 6
rank row.TicketRemove = 7
rank row.TicketQuery = 8
rank row.TicketChange = 9
rank row.Details = 10
rank row.Notified = 11
rank row.Asks = 12
rank row.Cancels = 13
rank row.Positions = 14
rank row.Sweeps = 15

pub at_rank : (r : RouteRow) → get_or all_rows (rank r) row.DssQuery ≡ r
at_rank row.DssQuery = refl
at_rank row.DssGet = refl
at_rank row.DssCreate = refl
at_rank row.DssChange = refl
at_rank row.DssRemove = refl
at_rank row.TicketPut = refl
at_rank row.TicketGet = refl
at_rank row.TicketRemove = refl
at_rank row.TicketQuery = refl
at_rank row.TicketChange = refl
at_rank row.Details = refl
at_rank row.Notified = refl
at_rank row.Asks = refl
at_rank row.Cancels = refl
at_rank row.Positions = refl
at_rank row.Sweeps = refl

pub ranked : (r : RouteRow) → rank r < length all_rows
ranked row.DssQuery = omega arith
ranked row.DssGet = omega arith
ranked row.DssCreate = omega arith
ranked row.DssChange = omega arith
ranked row.DssRemove = omega arith
ranked row.TicketPut = omega arith
ranked row.TicketGet = omega arith
ranked row.TicketRemove = omega arith
ranked row.TicketQuery = omega arith
ranked row.TicketChange = omega arith
ranked row.Details = omega arith
ranked row.Notified = omega arith
ranked row.Asks = omega arith
ranked row.Cancels = omega arith
ranked row.Positions = omega arith
ranked row.Sweeps = omega arith

pub row_begins : (r : RouteRow) (rest : List ℕ) → begins (text_of r ++ rest)
row_begins row.DssQuery rest = refl
row_begins row.DssGet rest = refl
row_begins row.DssCreate rest = refl
row_begins row.DssChange rest = refl
row_begins row.DssRemove rest = refl
row_begins row.TicketPut rest = refl
row_begins row.TicketGet rest = refl
row_begins row.TicketRemove rest = refl
row_begins row.TicketQuery rest = refl
row_begins row.TicketChange rest = refl
row_begins row.Details rest = refl
row_begins row.Notified rest = refl
row_begins row.Asks rest = refl
row_begins row.Cancels rest = refl
row_begins row.Positions rest = refl
row_begins row.Sweeps rest = refl

pub no_tag : (r : RouteRow) (rest : List ℕ) → bytes_eq (take 3 (text_of r ++ rest)) (codes "/a/") ≡ false
no_tag row.DssQuery rest = refl
no_tag row.DssGet rest = refl
no_tag row.DssCreate rest = refl
no_tag row.DssChange rest = refl
no_tag row.DssRemove rest = refl
no_tag row.TicketPut rest = refl
no_tag row.TicketGet rest = refl
no_tag row.TicketRemove rest = refl
no_tag row.TicketQuery rest = refl
no_tag row.TicketChange rest = refl
no_tag row.Details rest = refl
no_tag row.Notified rest = refl
no_tag row.Asks rest = refl
no_tag row.Cancels rest = refl
no_tag row.Positions rest = refl
no_tag row.Sweeps rest = refl

-- the slashes in the bytes
abbrev pub slashes : List ℕ → ℕ
slashes [] = 0
slashes (b ∷ bytes) = cond (b == 47) (1 + slashes bytes) (slashes bytes)

-- two rows whose texts and slashes may be those of one path
abbrev pub meet : RouteRow → RouteRow → Bool
meet r q =
    bytes_eq (take (length (text_of q)) (text_of r)) (take (length (text_of r)) (text_of q)) && (slashes (text_of r) + count_of r == slashes (text_of q) + count_of q)

-- of the same method, or both of a supplier
abbrev alike : RouteRow → RouteRow → Bool
alike r q = bytes_eq (method_of r) (method_of q) || (is_of_a_supplier r && is_of_a_supplier q)

abbrev same_or_apart : RouteRow → RouteRow → Bool
same_or_apart r q = not (alike r q && meet r q) || (rank r == rank q)

apart : (r : RouteRow) → list_all (same_or_apart r) all_rows ≡ true
apart row.DssQuery = refl
apart row.DssGet = refl
apart row.DssCreate = refl
apart row.DssChange = refl
apart row.DssRemove = refl
apart row.TicketPut = refl
apart row.TicketGet = refl
apart row.TicketRemove = refl
apart row.TicketQuery = refl
apart row.TicketChange = refl
apart row.Details = refl
apart row.Notified = refl
apart row.Asks = refl
apart row.Cancels = refl
apart row.Positions = refl
apart row.Sweeps = refl

passes_by : (p : RouteRow → Bool) (q : RouteRow) (t : Bool) → p (get_or all_rows (rank q) row.DssQuery) ≡ t → list_all p all_rows ≡ true → p q ≡ true
passes_by p q true is all = sym (ap p (at_rank q)) ∙ is
passes_by p q false is all = absurd (let e = list_all_at p all_rows (rank q) row.DssQuery (ranked q) is in cc)

pub passes_all : (p : RouteRow → Bool) (q : RouteRow) → list_all p all_rows ≡ true → p q ≡ true
passes_all p q all = passes_by p q (p (get_or all_rows (rank q) row.DssQuery)) refl all

-- what holds of each row of the table holds of each row
pub in_table : (P : RouteRow → Type 0) (q : RouteRow) → All P all_rows → P q
in_table P q all = subst P (at_rank q) (all (rank q) row.DssQuery (ranked q))

pub any_from : (p : RouteRow → Bool) (q : RouteRow) → p q ≡ true → list_any p all_rows ≡ true
any_from p q is = list_any_at p all_rows (rank q) row.DssQuery (ranked q) (ap p (at_rank q) ∙ is)

any_gives_by : (p : RouteRow → Bool) (q : RouteRow) (rows : List RouteRow) (t : Bool) → p q ≡ t → (list_any p rows ≡ true → (r : RouteRow) × (p r ≡ true)) → (t || list_any p rows) ≡ true → (r : RouteRow) × (p r ≡ true)
any_gives_by p q rows true is later e = (q, is)
any_gives_by p q rows false is later e = later e

pub any_gives : (p : RouteRow → Bool) (rows : List RouteRow) → list_any p rows ≡ true → (r : RouteRow) × (p r ≡ true)
any_gives p [] e = absurd (cc)
any_gives p (q ∷ rows) e = any_gives_by p q rows (p q) refl (any_gives p rows) e

pub same_rank : (n m : ℕ) → (n == m) ≡ true → n ≡ m
same_rank n m e = grind (arith, nat_tests)

same_by : (r q : RouteRow) (t : Bool) → t ≡ true → (not t || (rank r == rank q)) ≡ true → r ≡ q
same_by r q true is e = sym (at_rank r) ∙ ap (λ (n : ℕ). get_or all_rows n row.DssQuery) (same_rank (rank r) (rank q) e) ∙ at_rank q
same_by r q false is e = absurd (cc)

one_of_meet : (r q : RouteRow) → alike r q ≡ true → meet r q ≡ true → r ≡ q
one_of_meet r q like is = same_by r q (alike r q && meet r q) (and_from (alike r q) (meet r q) like is) (passes_all (same_or_apart r) q (apart r))

-- ---- a path has one row of a method

slash_step : (b : ℕ) (t : Bool) (n m k : ℕ) → n ≡ m + k → cond t (1 + n) n ≡ cond t (1 + m) m + k
slash_step b true n m k e = omega (arith, e)
slash_step b false n m k e = e

slashes_append : (xs ys : List ℕ) → slashes (xs ++ ys) ≡ slashes xs + slashes ys
slashes_append [] ys = omega arith
slashes_append (x ∷ xs) ys = slash_step x (x == 47) (slashes (xs ++ ys)) (slashes xs) (slashes ys) (slashes_append xs ys)

no_slashes : (p : List ℕ) → All NoSlash p → slashes p ≡ 0
no_slashes [] all = refl
no_slashes (b ∷ p) all = ap (λ (t : Bool). cond t (1 + slashes p) (slashes p)) (All-head NoSlash b p all) ∙ no_slashes p (All-tail NoSlash b p all)

one_more : (p text : List ℕ) (n : ℕ) → slashes p ≡ 0 → slashes text ≡ n → 1 + slashes (p ++ text) ≡ suc n
one_more p text n none later = let e = slashes_append p text in omega (arith, e, none, later)

slashes_parameters : (ps : List (List ℕ)) → All IsParameter ps → slashes (parameters_text ps) ≡ length ps
slashes_parameters [] all = refl
slashes_parameters (p ∷ ps) all =
    let is = All-head IsParameter p ps all in
    one_more p (parameters_text ps) (length ps) (no_slashes p is.free) (slashes_parameters ps (All-tail IsParameter p ps all))

slashes_path : (r : RouteRow) (ps : List (List ℕ)) (path : List ℕ) → IsPathOf r ps path → slashes path ≡ slashes (text_of r) + count_of r
slashes_path r ps path is =
    ap slashes is.spelled ∙ slashes_append (text_of r) (parameters_text ps) ∙ ap (λ (n : ℕ). slashes (text_of r) + n) (slashes_parameters ps is.are ∙ is.count)

fronts : (a x b y : List ℕ) → a ++ x ≡ b ++ y → take (length b) a ≡ take (length a) b
fronts [] x [] y e = refl
fronts [] x (c ∷ b) y e = refl
fronts (d ∷ a) x [] y e = refl
fronts (d ∷ a) x (c ∷ b) y e =
    let head : d ≡ c = cc in
    let tail : a ++ x ≡ b ++ y = cc in
    ap (λ (h : ℕ). h ∷ take (length b) a) head ∙ ap (λ (l : List ℕ). c ∷ l) (fronts a x b y tail)

pub same_number : (n m : ℕ) → n ≡ m → (n == m) ≡ true
same_number n m e = grind (arith, nat_tests)

pub meeting : (r q : RouteRow) (ps qs : List (List ℕ)) (path : List ℕ) → IsPathOf r ps path → IsPathOf q qs path → meet r q ≡ true
meeting r q ps qs path is other =
    let front = fronts (text_of r) (parameters_text ps) (text_of q) (parameters_text qs) (sym is.spelled ∙ other.spelled) in
    let count = sym (slashes_path r ps path is) ∙ slashes_path q qs path other in
    and_from (bytes_eq (take (length (text_of q)) (text_of r)) (take (length (text_of r)) (text_of q))) _ ((bytes_eq-Decides (take (length (text_of q)) (text_of r)) (take (length (text_of r)) (text_of q))).1 front) (same_number (slashes (text_of r) + count_of r) (slashes (text_of q) + count_of q) count)

pub or_left : (a b : Bool) → a ≡ true → (a || b) ≡ true
or_left true b e = refl
or_left false b e = absurd (cc)

pub or_right : (a b : Bool) → b ≡ true → (a || b) ≡ true
or_right true b e = refl
or_right false b e = e

pub one_row : (r q : RouteRow) (ps qs : List (List ℕ)) (path : List ℕ) → IsPathOf r ps path → IsPathOf q qs path → method_of r ≡ method_of q → r ≡ q
one_row r q ps qs path is other same =
    one_of_meet r q (or_left (bytes_eq (method_of r) (method_of q)) (is_of_a_supplier r && is_of_a_supplier q) ((bytes_eq-Decides (method_of r) (method_of q)).1 same)) (meeting r q ps qs path is other)

-- a path has one row of a supplier
pub one_of_suppliers : (r q : RouteRow) (ps qs : List (List ℕ)) (path : List ℕ) → IsPathOf r ps path → IsPathOf q qs path → is_of_a_supplier r ≡ true → is_of_a_supplier q ≡ true → r ≡ q
one_of_suppliers r q ps qs path is other first second =
    one_of_meet r q (or_right (bytes_eq (method_of r) (method_of q)) (is_of_a_supplier r && is_of_a_supplier q) (and_from (is_of_a_supplier r) (is_of_a_supplier q) first second)) (meeting r q ps qs path is other)
