-- Tests that compute: whether a place is in a region, and whether two regions have a point in common.
-- The contracts of `Outline::holds` and `Outline::meets` say that these tests answer the questions of Plane, `InRegion` and
-- `Meet`, for every list of vertices.
use Rattle.std.specs.Prelude.{ℤ, pos, Bool, false, ◌&&◌, ◌||◌, int_le, List, [], ◌∷◌}
use Rattle.std.specs.List.{list_any}
use Rattle.std.specs.Int.{int_min, int_max}
use Rattle.uss_shape.specs.declared.Place.{Place}
use Rattle.uss_shape.specs.Plane.{cross, Edge, edges, is_above}
use Rattle.uss_shape.specs.Words.{odd}

-- the closed ranges of a and b and of p and q have a number in common
abbrev pub ranges_touch : ℤ → ℤ → ℤ → ℤ → Bool
ranges_touch a b p q = int_le (int_min a b) (int_max p q) && int_le (int_min p q) (int_max a b)

-- the numbers are not strictly on one side of 0
abbrev pub is_straddling : ℤ → ℤ → Bool
is_straddling s t = (int_le s (pos 0) && int_le (pos 0) t) || (int_le t (pos 0) && int_le (pos 0) s)

-- the edges have a point in common: their boxes have, and the ends of each are not strictly on one side of the other's line
abbrev pub edges_touch : Edge → Edge → Bool
edges_touch e f =
    (ranges_touch e.from.x e.to.x f.from.x f.to.x && ranges_touch e.from.y e.to.y f.from.y f.to.y) &&
    (is_straddling (cross e.from e.to f.from) (cross e.from e.to f.to) && is_straddling (cross f.from f.to e.from) (cross f.from f.to e.to))

-- the place is in the region: an edge is at it, or an odd number of edges is above it
unfoldable pub region_holds : List Place → Place → Bool
region_holds vs p = list_any (edges_touch (record { from = p; to = p })) (edges vs) || odd (is_above p) (edges vs)

-- the first vertex of the second list is in the region of the first
unfoldable pub region_holds_first : List Place → List Place → Bool
region_holds_first us [] = false
region_holds_first us (v ∷ vs) = region_holds us v

-- the regions have a point in common: two edges touch, or one outline's first vertex is in the other's region
unfoldable pub outlines_meet : List Place → List Place → Bool
outlines_meet us vs = list_any (λ e. list_any (edges_touch e) (edges vs)) (edges us) || (region_holds_first vs us || region_holds_first us vs)
