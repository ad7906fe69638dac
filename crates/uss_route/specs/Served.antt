-- Which rows are served at a path, by the bytes that it consists of. This project's own.
use Rattle.std.specs.Prelude.{◌≡◌, ◌⊎◌, ◌↔◌, ◌==◌, true, false, Bool, ℕ, List, [], ◌++◌, codes, filter, get_or, All}
use Rattle.uss_route.specs.declared.rows.RouteRow.{RouteRow}
use Rattle.uss_route.specs.declared.found.Route.{Route}
use Rattle.uss_route.specs.Rows.{is_of_a_supplier, all_rows}
use Rattle.uss_route.specs.Spelling.{IsParameter, IsPathOf}

-- no query begins in the bytes
abbrev pub HasNoQuery : List ℕ → Type 0
HasNoQuery bytes = All (λ b. (b == 63) ≡ false) bytes

-- the path is `/a/`, a tag, and after it a path of an event of a supplier
pub record IsBehindTag (row : RouteRow) (parameters : List (List ℕ)) (path : List ℕ) : Type 0 where
  pub supplier : is_of_a_supplier row ≡ true
  pub tag : List ℕ
  pub tagged : IsParameter tag
  pub rest : List ℕ
  pub rested : IsPathOf row parameters rest
  pub spelled : path ≡ codes "/a/" ++ (tag ++ rest)

-- the row is served at this path, with these parameters
abbrev pub IsServed : RouteRow → List (List ℕ) → List ℕ → Type 0
IsServed row parameters path = IsPathOf row parameters path ⊎ IsBehindTag row parameters path

-- the path is written out: a row without parameters is served at it
abbrev pub IsWrittenOut : List ℕ → Type 0
IsWrittenOut path = (row : RouteRow) × IsServed row [] path

-- the path means this row, with these parameters: it is served there, and where the path is written out it has none
pub record IsMeant (row : RouteRow) (parameters : List (List ℕ)) (path : List ℕ) : Type 0 where
  pub served : IsServed row parameters path
  pub first : IsWrittenOut path → parameters ≡ []

-- the rows that the path means, each once, in the order of the table
pub record AreRowsOf (path : List ℕ) (rows : List RouteRow) : Type 0 where
  pub is_meant : RouteRow → Bool
  pub exactly : (row : RouteRow) → (is_meant row ≡ true) ↔ ((parameters : List (List ℕ)) × IsMeant row parameters path)
  pub kept : rows ≡ filter is_meant all_rows

-- the route of a row with these parameters, of which it has two at most
abbrev pub route_with : RouteRow → List (List ℕ) → Route
route_with row parameters = record { row = row; first = get_or parameters 0 []; second = get_or parameters 1 [] }
