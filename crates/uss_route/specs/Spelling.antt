-- A path as a text and parameters. This project's own.
use Rattle.std.specs.Prelude.{◌≡◌, ℕ, ◌<◌, ◌==◌, false, List, ◌∷◌, ◌++◌, length, All}
use Rattle.std.specs.List.{flat_map}
use Rattle.uss_route.specs.declared.rows.RouteRow.{RouteRow}
use Rattle.uss_route.specs.Rows.{text_of, count_of}

-- a parameter: it isn't empty and has no slash
pub record IsParameter (bytes : List ℕ) : Type 0 where
  pub some : 0 < length bytes
  pub free : All (λ b. (b == 47) ≡ false) bytes

-- each parameter after a slash
abbrev pub parameters_text : List (List ℕ) → List ℕ
parameters_text parameters = flat_map (λ p. 47 ∷ p) parameters

-- the path is the text of the row and these parameters
pub record IsPathOf (row : RouteRow) (parameters : List (List ℕ)) (path : List ℕ) : Type 0 where
  pub count : length parameters ≡ count_of row
  pub are : All IsParameter parameters
  pub spelled : path ≡ text_of row ++ parameters_text parameters
