-- How a volume in four dimensions is read: the Volume4D of the OpenAPI annex of ASTM F3548-21 with a polygon, in whole numbers of
-- 1e-7 degrees and mm. That profile, the limits and the order of the refusals are this project's own.
use Rattle.std.specs.Prelude.{ℕ, List, not, Option, Some, None, Result, Ok, Err, ℤ, nat_lt, int_lt, ◌&&◌, length, codes, if◌then◌else◌}
use Rattle.std.specs.List.{position_from}
use Rattle.uss_shape.specs.Limits.{fewest_outline_vertices, most_outline_vertices}
use Rattle.uss_shape.specs.declared.Place.{Place}
use Rattle.uss_wire_words.specs.declared.volumes.Space.{Space}
use Rattle.uss_shape.specs.declared.ShapeRefusal.{ShapeRefusal}
use Rattle.uss_shape.specs.declared.ShapeRefusal.TheVariants as Shape
use Rattle.uss_vol4.specs.Volume.{Volume4D}
use Rattle.uss_vol4.specs.declared.VolRefusal.{VolRefusal}
use Rattle.uss_vol4.specs.declared.VolRefusal.TheVariants as Vol
use Rattle.uss_wire_base.specs.declared.refusal.Member.TheVariants as Member
use Rattle.uss_wire_base.specs.declared.refusal.WireRefusal.{WireRefusal}
use Rattle.uss_wire_base.specs.declared.refusal.WireRefusal.TheVariants.{TooFewVertices, TooManyVertices, OutOfRange, LowAboveHigh, StartAfterEnd, AltitudeRange, TimeRange, Memory}
use Rattle.uss_wire_base.specs.Reading.{◌>>=◌, Reader, object_at, without, field, integer_at, word_at, list_at}
use Rattle.uss_vol4.specs.Ranges.{is_in_plane, is_altitude, is_instant}
use Rattle.uss_wire_base.specs.Moments.{instant_at}

-- a vertex: a latitude and a longitude in 1e-7 degrees
unfoldable pub vertex_at : Reader Place
vertex_at place d = do
  _ ← object_at place d
  _ ← without Member.Lat d
  _ ← without Member.Lng d
  lat ← field Member.LatE7 integer_at d
  lng ← field Member.LngE7 integer_at d
  Ok (record { x = lng; y = lat })

-- the refusals of an outline and of a volume, as those of a message
abbrev pub outline_refusal : ShapeRefusal → WireRefusal
outline_refusal Shape.TooFewVertices = TooFewVertices
outline_refusal Shape.TooManyVertices = TooManyVertices
outline_refusal (Shape.OutOfRange index) = OutOfRange index
outline_refusal Shape.Memory = Memory

abbrev pub volume_refusal : VolRefusal → WireRefusal
volume_refusal Vol.LowAboveHigh = LowAboveHigh
volume_refusal Vol.StartAfterEnd = StartAfterEnd
volume_refusal Vol.AltitudeRange = AltitudeRange
volume_refusal Vol.TimeRange = TimeRange
volume_refusal Vol.Memory = Memory

abbrev pub unless_out : List Place → Option ℕ → Result (List Place) WireRefusal
unless_out places None = Ok places
unless_out places (Some index) = Err (OutOfRange index)

-- 3 to 1,000 places on the earth
unfoldable pub outline_of : List Place → Result (List Place) WireRefusal
outline_of places = if nat_lt (length places) fewest_outline_vertices then Err TooFewVertices
    else (if nat_lt most_outline_vertices (length places) then Err TooManyVertices else unless_out places (position_from (λ p. not (is_in_plane p)) 0 places))

-- a polygon: its vertices; the refusals of the outline come after them
unfoldable pub polygon_at : Reader (List Place)
polygon_at place d = do
  _ ← object_at place d
  vertices ← field Member.Vertices (list_at vertex_at) d
  outline_of vertices

-- an altitude in mm above the WGS 84 ellipsoid
unfoldable pub altitude_at : Reader ℤ
altitude_at place d = do
  _ ← object_at place d
  _ ← without Member.Value d
  mm ← field Member.ValueMm integer_at d
  _ ← field Member.Reference (word_at (codes "W84")) d
  _ ← field Member.Units (word_at (codes "MM")) d
  Ok mm

-- an instant, in ns since 1970-01-01T00:00:00Z
unfoldable pub time_at : Reader ℤ
time_at place d = do
  _ ← object_at place d
  moment ← field Member.Value instant_at d
  _ ← field Member.Format (word_at (codes "RFC3339")) d
  Ok moment

-- an outline and a range of altitude
unfoldable pub space_at : Reader Space
space_at place d = do
  _ ← object_at place d
  _ ← without Member.OutlineCircle d
  outline ← field Member.OutlinePolygon polygon_at d
  low ← field Member.AltitudeLower altitude_at d
  high ← field Member.AltitudeUpper altitude_at d
  Ok (record { outline = outline; low = low; high = high })

-- the refusals of a volume, in their order
unfoldable pub volume_of : Space → (start end : ℤ) → Result Volume4D WireRefusal
volume_of space start end = if int_lt space.high space.low then Err LowAboveHigh
    else (if int_lt end start then Err StartAfterEnd
    else (if not (is_altitude space.low && is_altitude space.high) then Err AltitudeRange
    else (if not (is_instant start && is_instant end) then Err TimeRange
    else Ok (record { outline = space.outline; low = space.low; high = space.high; start = start; end = end }))))

-- a volume in four dimensions; its refusals come after its members
unfoldable pub volume_at : Reader Volume4D
volume_at place d = do
  _ ← object_at place d
  space ← field Member.Volume space_at d
  start ← field Member.TimeStart time_at d
  end ← field Member.TimeEnd time_at d
  volume_of space start end
