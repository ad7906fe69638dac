-- The patterns of the table, and the rows of each path. This project's own.
use Rattle.std.specs.Prelude.{◌≡◌, ℕ, List, [], ◌∷◌, Option, Some, None, Result, Ok, Err}
use Rattle.matchit.specs.Rows.{RowsOf}
use Rattle.matchit.specs.Order.{placed}
use Rattle.matchit.specs.Route.{Scan, parse_route}
use Rattle.matchit.specs.Router.{RouteOf, route_from, nearest}
use Rattle.matchit.specs.Seek.{first}
use Rattle.matchit.specs.declared.error.InsertError.{InsertError}
use Rattle.uss_route.specs.declared.rows.RouteRow.{RouteRow}
use Rattle.uss_route.specs.declared.rows.RouteRow.TheVariants as row
use Rattle.uss_route.specs.declared.patterns.RoutePath.{RoutePath}
use Rattle.uss_route.specs.declared.patterns.RoutePath.TheVariants as path
use Rattle.uss_route.specs.Routes.{is_tagged, untagged, rows_at}

-- the rows of a path, in the order of the table
abbrev pub rows_of : RoutePath → List RouteRow
rows_of path.ReferenceQuery = row.DssQuery ∷ []
rows_of path.Reference = row.DssGet ∷ row.DssCreate ∷ []
rows_of path.ReferenceVersion = row.DssChange ∷ row.DssRemove ∷ []
rows_of path.TicketQuery = row.TicketQuery ∷ []
rows_of path.Ticket = row.TicketPut ∷ row.TicketGet ∷ []
rows_of path.TicketVersion = row.TicketRemove ∷ row.TicketChange ∷ []
rows_of path.Intents = row.Notified ∷ []
rows_of path.Intent = row.Details ∷ []
rows_of path.Asks = row.Asks ∷ []
rows_of path.Cancels = row.Cancels ∷ []
rows_of path.Positions = row.Positions ∷ []
rows_of path.Sweeps = row.Sweeps ∷ []

-- a router of paths
abbrev pub Table : Type 0
Table = RowsOf (RouteOf RoutePath)

-- the rows of what a router finds
abbrev pub found_rows : Option (RouteOf RoutePath) → List RouteRow
found_rows None = []
found_rows (Some found) = rows_of found.value

-- the router finds the rows of each path
abbrev pub FindsRows : Table → Type 0
FindsRows table = (path : List ℕ) → found_rows (first table path) ≡ rows_at (is_tagged path) (untagged path)

-- the router with one more pattern that was read
abbrev pub on_read : Table → RoutePath → Result Scan InsertError → Table
on_read table path (Ok scan) = placed (scan.pattern, route_from scan path) table
on_read table path (Err e) = table

unfoldable pub with_pattern : Table → List ℕ × RoutePath → Table
with_pattern table entry = on_read table entry.1 (parse_route entry.0)

-- the pattern can be read, and conflicts with none in the router
abbrev pub IsFreeOnRead : Table → Result Scan InsertError → Type 0
IsFreeOnRead table (Ok scan) = nearest scan.pattern table ≡ None
IsFreeOnRead table (Err e) = ⊥

abbrev pub IsFree : Table → List ℕ → Type 0
IsFree table text = IsFreeOnRead table (parse_route text)
