-- How a path is looked up in the table. This project's own.
use Rattle.std.specs.Prelude.{ℕ, zero, suc, ◌+◌, ◌==◌, nat_lt, Bool, not, ◌&&◌, ◌||◌, List, [], ◌∷◌, ◌++◌, length, take, drop, filter, codes, bytes_eq, Option, Some, None, Result, Ok, Err, if◌then◌else◌}
use Rattle.std.specs.List.{take_while, list_any, flat_map}
use Rattle.std.specs.Str.{is_utf8}
use Rattle.uss_http.specs.declared.refusal.HttpRefusal.{HttpRefusal}
use Rattle.uss_http.specs.declared.refusal.HttpRefusal.TheVariants as refusal
use Rattle.uss_route.specs.declared.rows.RouteRow.{RouteRow}
use Rattle.uss_route.specs.declared.found.Route.{Route}
use Rattle.uss_route.specs.Rows.{method_of, text_of, count_of, is_of_a_supplier, all_rows}

-- the bytes before the first such byte, or all
abbrev pub before : ℕ → List ℕ → List ℕ
before separator bytes = take_while (λ b. not (b == separator)) bytes

-- a path without its query: the part before the first `?`
abbrev pub without_query : List ℕ → List ℕ
without_query target = before 63 target

-- the part before the first slash
abbrev pub segment : List ℕ → List ℕ
segment bytes = before 47 bytes

-- the tag after `/a/`, and nothing where there is none
abbrev pub tag_of : List ℕ → List ℕ
tag_of path = if bytes_eq (take 3 path) (codes "/a/") then segment (drop 3 path) else []

-- a path after a tag
abbrev pub is_tagged : List ℕ → Bool
is_tagged path = nat_lt 0 (length (tag_of path))

-- the path without `/a/` and the tag, where it has one
abbrev pub untagged : List ℕ → List ℕ
untagged path = if is_tagged path then drop (3 + length (tag_of path)) path else path

-- a slash, and the rest up to the next
abbrev pub first_segment : List ℕ → List ℕ
first_segment bytes = segment (drop 1 bytes)

-- what comes after these two
abbrev pub behind_segment : List ℕ → List ℕ
behind_segment bytes = drop (1 + length (first_segment bytes)) bytes

-- the bytes are so many parameters: each is a slash and a segment that isn't empty
abbrev pub are_parameters : ℕ → List ℕ → Bool
are_parameters zero bytes = length bytes == 0
are_parameters (suc n) bytes =
    bytes_eq (take 1 bytes) (codes "/") && nat_lt 0 (length (first_segment bytes)) && are_parameters n (behind_segment bytes)

-- the bytes after the text of a row
abbrev pub behind_text : RouteRow → List ℕ → List ℕ
behind_text row path = drop (length (text_of row)) path

-- a path of this row: its text, and after it as many parameters as the row has
abbrev pub fits : RouteRow → List ℕ → Bool
fits row path = bytes_eq (take (length (text_of row)) path) (text_of row) && are_parameters (count_of row) (behind_text row path)

-- its first and its second parameter, empty where there is none
abbrev pub first_of : RouteRow → List ℕ → List ℕ
first_of row path = if nat_lt 0 (count_of row) then first_segment (behind_text row path) else []

abbrev pub second_of : RouteRow → List ℕ → List ℕ
second_of row path = if nat_lt 1 (count_of row) then first_segment (behind_segment (behind_text row path)) else []

-- the row is served at this path; after a tag only those of a supplier are
abbrev pub is_served : Bool → List ℕ → RouteRow → Bool
is_served tagged path row = fits row path && (is_of_a_supplier row || not tagged)

-- the same of a path that is written out, without parameters
abbrev pub is_written_out : Bool → List ℕ → RouteRow → Bool
is_written_out tagged path row = count_of row == 0 && is_served tagged path row

-- the rows of a path; where it is written out for some, only these
abbrev pub rows_at : Bool → List ℕ → List RouteRow
rows_at tagged path =
    if list_any (is_written_out tagged path) all_rows then filter (is_written_out tagged path) all_rows
    else filter (is_served tagged path) all_rows

-- the first row with this method
abbrev pub with_method : List ℕ → List RouteRow → Option RouteRow
with_method method [] = None
with_method method (row ∷ rows) = if bytes_eq (method_of row) method then Some row else with_method method rows

-- their methods, joined by a comma and a space
abbrev pub joined : List RouteRow → List ℕ
joined [] = []
joined (row ∷ rows) = method_of row ++ flat_map (λ r. codes ", " ++ method_of r) rows

-- no row of this method: the path isn't among those served, or its methods are others
abbrev pub refused : List RouteRow → HttpRefusal
refused [] = refusal.NoRoute
refused (row ∷ rows) = refusal.WrongMethod (joined (row ∷ rows))

-- the route of this row, with the parameters as they are in the path
abbrev pub route_at : List ℕ → RouteRow → Route
route_at path row = record { row = row; first = first_of row path; second = second_of row path }

abbrev pub route_by : List ℕ → List RouteRow → Option RouteRow → Result Route HttpRefusal
route_by path rows None = Err (refused rows)
route_by path rows (Some row) = Ok (route_at path row)

-- the route of a method and a path without query
abbrev pub route_on : (method path : List ℕ) → Result Route HttpRefusal
route_on method path =
    route_by (untagged path) (rows_at (is_tagged path) (untagged path)) (with_method method (rows_at (is_tagged path) (untagged path)))

-- the route of a method and a target
abbrev pub route_of : (method target : List ℕ) → Result Route HttpRefusal
route_of method target = if is_utf8 (without_query target) then route_on method (without_query target) else Err refusal.NoRoute
