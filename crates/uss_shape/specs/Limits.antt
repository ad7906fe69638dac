-- The limits of outlines. This project's own; each is said here alone, and whoever has to keep to one cites it.
use Rattle.std.specs.Prelude.{ℕ, ℤ, pos}

-- the vertices of an outline, at least: fewer enclose nothing
abbrev pub fewest_outline_vertices : ℕ
fewest_outline_vertices = 3

-- and at most, so that two outlines are compared in bounded time
abbrev pub most_outline_vertices : ℕ
most_outline_vertices = 1000

-- 180 and 90 degrees in units of 1e-7 degrees: how far a longitude and a latitude are from 0
abbrev pub furthest_longitude : ℤ
furthest_longitude = pos 1800000000

abbrev pub furthest_latitude : ℤ
furthest_latitude = pos 900000000
