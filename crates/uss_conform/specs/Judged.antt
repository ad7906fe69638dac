-- What a monitor comes to and answers at a position, by the positions that were counted before it. This project's own.
use Rattle.std.specs.Prelude.{◌≡◌, ℤ, List, [], ◌∷◌, ◌++◌, Some, None, Result, Ok, Err}
use Rattle.uss_shape.specs.declared.Place.{Place}
use Rattle.uss_vol4.specs.Volume.{Volume4D}
use Rattle.uss_event.specs.Pairs.{OperationalIntent}
use Rattle.uss_event.specs.declared.asks.Conform.{Conform}
use Rattle.uss_event.specs.declared.asks.PositionAsk.{PositionAsk}
use Rattle.uss_law_supplier.specs.Monitor.{Sighting, Watch, watched, later_position}
use Rattle.uss_law_supplier.specs.Positions.{found_with}
use Rattle.uss_conform.specs.declared.refusal.ConformRefusal.{ConformRefusal}
use Rattle.uss_conform.specs.declared.refusal.ConformRefusal.TheVariants.{OldPosition}

-- a position told at this place and altitude, of a flight of which these volumes are held
pub record IsOf (volumes : List Volume4D) (place : Place) (altitude : ℤ) (pair : OperationalIntent) (p : PositionAsk) : Type 0 where
  pub volumes_are : pair.details.volumes ≡ volumes
  pub place_is : p.place ≡ place
  pub altitude_is : p.altitude ≡ altitude

-- the moment that a refusal names
abbrev pub last_of : ConformRefusal → ℤ
last_of (OldPosition last) = last

-- after these positions this one is counted, and judged with them; or it is before the last of them, and they stay
abbrev pub Judges : List Sighting → Sighting → Result Conform ConformRefusal → Watch → Type 0
Judges before s (Ok found) after = (later_position before s.moment ≡ None) × (found ≡ found_with before s) × (after ≡ watched (before ++ s ∷ []))
Judges before s (Err (OldPosition last)) after = (later_position before s.moment ≡ Some last) × (after ≡ watched before)
