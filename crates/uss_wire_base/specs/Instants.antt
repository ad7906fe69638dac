-- Instants: which moment a date and a time of day stand for, and which date and time of day a moment has. Moments are ns since
-- 1970-01-01T00:00:00Z, by the Gregorian calendar without leap seconds. The range of instants is this project's own.
use Rattle.std.specs.Prelude.{ℕ, zero, suc, ◌+◌, ◌*◌, ℤ, pos, neg_ℤ, unsigned_abs, ◌+ℤ◌, ◌-ℤ◌, ◌*ℤ◌, Bool, ◌&&◌, int_le, Result, Ok, Err, if◌then◌else◌}
use Rattle.std.specs.Int.{int_div_euclid, int_rem_euclid}
use Rattle.jiff_core.specs.Calendar.{IsBetween, days_in_month, days_from_civil}
use Rattle.uss_vol4.specs.Ranges.{is_instant}
use Rattle.uss_wire_base.specs.declared.instants.Civil.{Civil}
use Rattle.uss_wire_base.specs.declared.instants.InstantRefusal.{InstantRefusal}
use Rattle.uss_wire_base.specs.declared.instants.InstantRefusal.TheVariants.{BadTime, TimeRange}

abbrev pub is_between : ℤ → ℤ → ℤ → Bool
is_between low high z = int_le low z && int_le z high

-- the calendar has the date, and a clock shows the time of day
abbrev pub is_civil : Civil → Bool
is_civil c =
    is_between (pos 1) (pos 12) c.month
    && (is_between (pos 1) (pos (days_in_month c.year (unsigned_abs c.month))) c.day
    && (is_between (pos 0) (pos 23) c.hour && (is_between (pos 0) (pos 59) c.minute
    && (is_between (pos 0) (pos 59) c.second && is_between (pos 0) (pos 999_999_999) c.nanosecond))))

-- what the digits of a text can say
pub record IsWritten (c : Civil) : Type 0 where
  pub year : IsBetween (pos 0) (pos 9999) c.year
  pub month : IsBetween (pos 0) (pos 99) c.month
  pub day : IsBetween (pos 0) (pos 99) c.day
  pub hour : IsBetween (pos 0) (pos 99) c.hour
  pub minute : IsBetween (pos 0) (pos 99) c.minute
  pub second : IsBetween (pos 0) (pos 99) c.second
  pub nanosecond : IsBetween (pos 0) (pos 999_999_999) c.nanosecond
  pub east : IsBetween (neg_ℤ (pos 86_399)) (pos 86_399) c.east

-- the ns from 1970-01-01T00:00:00 to what the clock shows
unfoldable pub clock_of : Civil → ℤ
clock_of c =
    days_from_civil c.year (unsigned_abs c.month) (unsigned_abs c.day) *ℤ pos 86_400_000_000_000
    +ℤ pos ((unsigned_abs c.hour * 3600 + unsigned_abs c.minute * 60 + unsigned_abs c.second) * 1_000_000_000 + unsigned_abs c.nanosecond)

-- the moment: a clock that is ahead shows it later
abbrev pub moment_of : Civil → ℤ
moment_of c = clock_of c -ℤ (c.east *ℤ pos 1_000_000_000)

-- the moment, where it is in the range of instants
abbrev pub in_range : ℤ → Result ℤ InstantRefusal
in_range m = if is_instant m then Ok m else Err TimeRange

unfoldable pub instant_of : Civil → Result ℤ InstantRefusal
instant_of c = if is_civil c then in_range (moment_of c) else Err BadTime

-- ---- the date of a day

-- the greatest number up to the limit that passes, and 0 where none does
unfoldable pub last_of : (ℕ → Bool) → ℕ → ℕ
last_of p zero = 0
last_of p (suc n) = if p (suc n) then suc n else last_of p n

-- the last year, and in it the last month, whose first day isn't after the day, which is counted from 1970-01-01
abbrev pub year_of : ℤ → ℕ
year_of day = last_of (λ y. int_le (days_from_civil (pos y) 1 1) day) 9999

abbrev pub month_of : ℤ → ℕ
month_of day = last_of (λ m. int_le (days_from_civil (pos (year_of day)) m 1) day) 12

abbrev pub day_of : ℤ → ℕ
day_of day = unsigned_abs (day -ℤ days_from_civil (pos (year_of day)) (month_of day) 1) + 1

-- the day of a moment, and the ns since its midnight
abbrev pub day_number : ℤ → ℤ
day_number moment = int_div_euclid moment (pos 86_400_000_000_000)

abbrev pub since_midnight : ℤ → ℕ
since_midnight moment = unsigned_abs (int_rem_euclid moment (pos 86_400_000_000_000))
