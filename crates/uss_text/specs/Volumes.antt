-- The volumes of a script: `rect X1 Y1 X2 Y2` or `poly N X1 Y1 .. XN YN`, then `LOW HIGH START END`. Numbers are
-- 1e-7 degrees, millimetres and nanoseconds since 1970. The refusals of the outline, and then of the volume, come
-- after the last word of the volume. This project's own.
use Rattle.std.specs.Prelude.{ℕ, take, List, [], ◌∷◌, Bool, not, Result, Ok, Err, ℤ, nat_lt, int_lt, ◌&&◌, length, bytes_eq, codes, if◌then◌else◌}
use Rattle.std.specs.List.{list_all}
use Rattle.uss_shape.specs.Limits.{fewest_outline_vertices, most_outline_vertices}
use Rattle.uss_shape.specs.declared.Place.{Place}
use Rattle.uss_shape.specs.Shape.{corners}
use Rattle.uss_vol4.specs.Volume.{Volume4D}
use Rattle.uss_vol4.specs.Ranges.{is_in_plane, is_altitude, is_instant}
use Rattle.uss_shape.specs.declared.ShapeRefusal.{ShapeRefusal}
use Rattle.uss_shape.specs.declared.ShapeRefusal.TheVariants as Shape
use Rattle.uss_vol4.specs.declared.VolRefusal.{VolRefusal}
use Rattle.uss_vol4.specs.declared.VolRefusal.TheVariants as Vol
use Rattle.uss_text.specs.declared.refusal.WordRefusal.{WordRefusal}
use Rattle.uss_text.specs.declared.refusal.WordRefusal.TheVariants.{BadLine, TooFewVertices, TooManyVertices, OutOfRange, LowAboveHigh, StartAfterEnd, AltitudeRange, TimeRange, Memory}
use Rattle.uss_text.specs.Reading.{◌>>=◌, Read, read, Reader, word_at, integer_at, count_at, many_at}

-- the two coordinates of a place
unfoldable pub place_at : Reader Place
place_at ws = do
  x ← integer_at ws
  y ← integer_at x.rest
  Ok (read (record { x = x.value; y = y.value }) y.rest)

unfoldable pub poly_at : Reader (List Place)
poly_at ws = do
  count ← count_at ws
  many_at place_at count.value count.rest

unfoldable pub rect_at : Reader (List Place)
rect_at ws = do
  first ← place_at ws
  second ← place_at first.rest
  Ok (read (corners (record { x1 = first.value.x; y1 = first.value.y; x2 = second.value.x; y2 = second.value.y })) second.rest)

-- the vertices of the outline, by the word for its kind
abbrev pub vertices_of : List ℕ → Reader (List Place)
vertices_of kind ws = if bytes_eq kind (codes "rect") then rect_at ws
    else (if bytes_eq kind (codes "poly") then poly_at ws else Err BadLine)

unfoldable pub vertices_at : Reader (List Place)
vertices_at ws = do
  kind ← word_at ws
  vertices_of kind.value kind.rest

-- the refusals of an outline and of a volume, as those of the word after which they come
abbrev pub outline_refusal : ShapeRefusal → WordRefusal
outline_refusal Shape.TooFewVertices = TooFewVertices
outline_refusal Shape.TooManyVertices = TooManyVertices
outline_refusal (Shape.OutOfRange i) = OutOfRange
outline_refusal Shape.Memory = Memory

abbrev pub volume_refusal : VolRefusal → WordRefusal
volume_refusal Vol.LowAboveHigh = LowAboveHigh
volume_refusal Vol.StartAfterEnd = StartAfterEnd
volume_refusal Vol.AltitudeRange = AltitudeRange
volume_refusal Vol.TimeRange = TimeRange
volume_refusal Vol.Memory = Memory

-- the first refusal whose test holds, if one does
abbrev pub first_refused : {A : Type 0} → List (Bool × WordRefusal) → A → Result A WordRefusal
first_refused [] x = Ok x
first_refused (test ∷ tests) x = if test.0 then Err test.1 else first_refused tests x

-- the refusals of an outline and then of a volume, in their order
unfoldable pub volume_of : List Place → (low high start end : ℤ) → Result Volume4D WordRefusal
volume_of places low high start end = first_refused
    ((nat_lt (length places) fewest_outline_vertices, TooFewVertices)
    ∷ (nat_lt most_outline_vertices (length places), TooManyVertices)
    ∷ (not (list_all is_in_plane places), OutOfRange)
    ∷ (int_lt high low, LowAboveHigh)
    ∷ (int_lt end start, StartAfterEnd)
    ∷ (not (is_altitude low && is_altitude high), AltitudeRange)
    ∷ (not (is_instant start && is_instant end), TimeRange)
    ∷ [])
    (record { outline = places; low = low; high = high; start = start; end = end })

-- the volume of these vertices and of the four numbers after them
unfoldable pub volume_behind : List Place → Reader Volume4D
volume_behind vertices ws = do
  low ← integer_at ws
  high ← integer_at low.rest
  start ← integer_at high.rest
  end ← integer_at start.rest
  volume ← volume_of vertices low.value high.value start.value end.value
  Ok (read volume end.rest)

unfoldable pub volume_at : Reader Volume4D
volume_at ws = do
  outline ← vertices_at ws
  volume_behind outline.value outline.rest

-- ---- What a reader may keep: 1,001 vertices are enough to be refused, so the volume is the same.

-- at most the first 1,001
abbrev pub kept : Result (Read (List Place)) WordRefusal → Result (Read (List Place)) WordRefusal
kept (Ok vertices) = Ok (read (take 1001 vertices.value) vertices.rest)
kept (Err e) = Err e

abbrev pub kept_vertices_of : List ℕ → Reader (List Place)
kept_vertices_of kind ws = if bytes_eq kind (codes "rect") then rect_at ws
    else (if bytes_eq kind (codes "poly") then kept (poly_at ws) else Err BadLine)

unfoldable pub kept_vertices_at : Reader (List Place)
kept_vertices_at ws = do
  kind ← word_at ws
  kept_vertices_of kind.value kind.rest
