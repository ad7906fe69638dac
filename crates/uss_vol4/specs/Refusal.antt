-- When a volume is refused, and the numbers under which refusals are printed. They are this project's own.
use Rattle.std.specs.Prelude.{ℕ, ℤ, ◌≤ℤ◌, ◌<ℤ◌, Option, Some, None}
use Rattle.uss_vol4.specs.declared.VolRefusal.{VolRefusal}
use Rattle.uss_vol4.specs.declared.VolRefusal.TheVariants.{LowAboveHigh, StartAfterEnd, AltitudeRange, TimeRange, Memory}
use Rattle.uss_vol4.specs.Volume.{InAltitude, InTime}

-- why these ranges are refused: the first of these that is so
abbrev pub Refused : (low high start end : ℤ) → VolRefusal → Type 0
Refused low high start end LowAboveHigh = high <ℤ low
Refused low high start end StartAfterEnd = (low ≤ℤ high) × (end <ℤ start)
Refused low high start end AltitudeRange = (low ≤ℤ high) × (start ≤ℤ end) × (InAltitude low × InAltitude high → ⊥)
Refused low high start end TimeRange = (low ≤ℤ high) × (start ≤ℤ end) × (InAltitude low × InAltitude high) × (InTime start × InTime end → ⊥)
Refused low high start end Memory = ⊥

abbrev pub number_of : VolRefusal → Option ℕ
number_of LowAboveHigh = Some 111
number_of StartAfterEnd = Some 112
number_of AltitudeRange = Some 113
number_of TimeRange = Some 114
number_of Memory = None
