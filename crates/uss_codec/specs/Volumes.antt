-- How places and volumes are read, and a test of what a volume is. This project's own.
use Rattle.std.specs.Prelude.{Bool, ◌&&◌, nat_le, ℤ, int_le, List, length}
use Rattle.std.specs.List.{list_all}
use Rattle.uss_shape.specs.Limits.{fewest_outline_vertices, most_outline_vertices}
use Rattle.uss_shape.specs.declared.Place.{Place}
use Rattle.uss_vol4.specs.Volume.{Volume4D}
use Rattle.uss_vol4.specs.Ranges.{is_in_plane, is_altitude, is_instant}
use Rattle.uss_codec.specs.Reading.{Reading, both_at, made_at, only_at, list_at, signed_in_8_bytes_at}

unfoldable pub is_outline : List Place → Bool
is_outline vertices = nat_le fewest_outline_vertices (length vertices) && (nat_le (length vertices) most_outline_vertices && list_all is_in_plane vertices)

unfoldable pub is_volume : Volume4D → Bool
is_volume v =
    is_outline v.outline && (int_le v.low v.high && (int_le v.start v.end
    && ((is_altitude v.low && is_altitude v.high) && (is_instant v.start && is_instant v.end))))

unfoldable pub place_at : Reading Place
place_at bytes = made_at (λ p. record { x = p.0; y = p.1 }) (both_at signed_in_8_bytes_at signed_in_8_bytes_at) bytes

-- the parts of a volume: its vertices, two altitudes and two instants
abbrev pub volume_of : List Place × (ℤ × (ℤ × (ℤ × ℤ))) → Volume4D
volume_of parts = record { outline = parts.0; low = parts.1.0; high = parts.1.1.0; start = parts.1.1.1.0; end = parts.1.1.1.1 }

abbrev pub volume_with : List Place → (low high start end : ℤ) → Volume4D
volume_with vertices low high start end = record { outline = vertices; low = low; high = high; start = start; end = end }

unfoldable pub volume_at : Reading Volume4D
volume_at bytes =
    only_at is_volume (made_at volume_of (both_at (list_at most_outline_vertices place_at)
    (both_at signed_in_8_bytes_at (both_at signed_in_8_bytes_at (both_at signed_in_8_bytes_at signed_in_8_bytes_at))))) bytes
