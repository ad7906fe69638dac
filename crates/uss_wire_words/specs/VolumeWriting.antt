-- How a volume in four dimensions is written: its members ascending by name.
use Rattle.std.specs.Prelude.{ℤ, List, codes}
use Rattle.serde_json.specs.Data.{Data, object, member, no_members, number, string}
use Rattle.serde_json.specs.Find.{of_integer}
use Rattle.uss_shape.specs.declared.Place.{Place}
use Rattle.uss_vol4.specs.Volume.{Volume4D}
use Rattle.uss_wire_base.specs.Writing.{list_json}
use Rattle.uss_wire_base.specs.Moments.{instant_json}

abbrev pub vertex_json : Place → Data
vertex_json p = object (member (codes "lat_e7") (number (of_integer p.y)) (member (codes "lng_e7") (number (of_integer p.x)) no_members))

unfoldable pub polygon_json : List Place → Data
polygon_json places = object (member (codes "vertices") (list_json vertex_json places) no_members)

unfoldable pub altitude_json : ℤ → Data
altitude_json mm = object (member (codes "reference") (string (codes "W84")) (member (codes "units") (string (codes "MM")) (member (codes "value_mm") (number (of_integer mm)) no_members)))

unfoldable pub time_json : ℤ → Data
time_json moment = object (member (codes "format") (string (codes "RFC3339")) (member (codes "value") (instant_json moment) no_members))

unfoldable pub space_json : Volume4D → Data
space_json v = object (member (codes "altitude_lower") (altitude_json v.low) (member (codes "altitude_upper") (altitude_json v.high) (member (codes "outline_polygon") (polygon_json v.outline) no_members)))

unfoldable pub volume_json : Volume4D → Data
volume_json v = object (member (codes "time_end") (time_json v.end) (member (codes "time_start") (time_json v.start) (member (codes "volume") (space_json v) no_members)))
