-- The text of an instant, after RFC 3339: a date, `T`, a time of day with up to nine decimals, and `Z` or an offset.
use Rattle.std.specs.Prelude.{◌≡◌, ℕ, ◌+◌, ◌*◌, ◌-◌, ◌/◌, ◌%◌, ◌^◌, ◌==◌, ℤ, pos, neg_ℤ, List, [], ◌∷◌, ◌++◌, ◌&&◌, ◌||◌, nat_le, length, take, drop, take_while, Result, Ok, Err, if◌then◌else◌}
use Rattle.std.specs.List.{list_all}
use Rattle.std.specs.Char.{is_ascii_digit}
use Rattle.std.specs.Str.Parse.{digits_value}
use Rattle.uss_wire_base.specs.declared.instants.Civil.{Civil}
use Rattle.uss_wire_base.specs.declared.instants.InstantRefusal.{InstantRefusal}
use Rattle.uss_wire_base.specs.declared.instants.InstantRefusal.TheVariants.{BadTime}
use Rattle.uss_wire_base.specs.Reading.{◌>>=◌}
use Rattle.uss_wire_base.specs.Instants.{instant_of, year_of, month_of, day_of, day_number, since_midnight}

-- ---- what is read

-- a value, and the bytes after it
pub record Read (A : Type 0) : Type 0 where
  pub value : A
  pub rest : List ℕ

abbrev pub read : {A : Type 0} → A → List ℕ → Read A
read x bytes = record { value = x; rest = bytes }

abbrev pub Part : Type 0 → Type 0
Part A = List ℕ → Result (Read A) InstantRefusal

-- what a function returned and the bytes that it left are what reading gives
abbrev pub Takes : {A : Type 0} → Result A InstantRefusal → List ℕ → Result (Read A) InstantRefusal → Type 0
Takes (Ok x) rest given = given ≡ Ok (read x rest)
Takes (Err e) rest given = given ≡ Err e

-- the number of so many digits
unfoldable pub digits_at : ℕ → Part ℕ
digits_at count bytes =
    if nat_le count (length bytes) && list_all is_ascii_digit (take count bytes) then Ok (read (digits_value 10 (take count bytes)) (drop count bytes)) else Err BadTime

-- one of two bytes
unfoldable pub mark_at : ℕ → ℕ → Part (Unit {0})
mark_at a b [] = Err BadTime
mark_at a b (c ∷ bytes) = if (c == a) || (c == b) then Ok (read tt bytes) else Err BadTime

-- the ns of so many decimals
unfoldable pub scaled_at : ℕ → Part ℕ
scaled_at count bytes = do
  decimals ← digits_at count bytes
  Ok (read (decimals.value * 10 ^ (9 - count)) decimals.rest)

-- one to nine decimals: all digits that follow
unfoldable pub decimals_at : Part ℕ
decimals_at bytes = let count = length (take_while is_ascii_digit bytes) in
    if nat_le 1 count && nat_le count 9 then scaled_at count bytes else Err BadTime

-- the decimals after a point (46), if there is one
unfoldable pub fraction_at : Part ℕ
fraction_at [] = Ok (read 0 [])
fraction_at (c ∷ bytes) = if c == 46 then decimals_at bytes else Ok (read 0 (c ∷ bytes))

-- hours up to 23 and minutes up to 59, in seconds
unfoldable pub clock_at : Part ℕ
clock_at bytes = do
  hours ← digits_at 2 bytes
  colon ← mark_at 58 58 hours.rest
  minutes ← digits_at 2 colon.rest
  (if nat_le hours.value 23 && nat_le minutes.value 59 then Ok (read (hours.value * 3600 + minutes.value * 60) minutes.rest) else Err BadTime)

unfoldable pub ahead_at : Part ℤ
ahead_at bytes = do
  seconds ← clock_at bytes
  Ok (read (pos seconds.value) seconds.rest)

unfoldable pub behind_at : Part ℤ
behind_at bytes = do
  seconds ← clock_at bytes
  Ok (read (neg_ℤ (pos seconds.value)) seconds.rest)

-- by how many seconds the clock is ahead of UTC: none by `Z` (90) or `z` (122), else after `+` (43) or `-` (45)
unfoldable pub zone_at : Part ℤ
zone_at [] = Err BadTime
zone_at (c ∷ bytes) = if (c == 90) || (c == 122) then Ok (read (pos 0) bytes)
    else (if c == 43 then ahead_at bytes else (if c == 45 then behind_at bytes else Err BadTime))

-- the date: `-` is 45
unfoldable pub date_at : Part (ℕ × ℕ × ℕ)
date_at bytes = do
  year ← digits_at 4 bytes
  first ← mark_at 45 45 year.rest
  month ← digits_at 2 first.rest
  second ← mark_at 45 45 month.rest
  day ← digits_at 2 second.rest
  Ok (read (year.value, month.value, day.value) day.rest)

-- the time of day: `:` is 58
unfoldable pub time_at : Part (ℕ × ℕ × ℕ × ℕ)
time_at bytes = do
  hour ← digits_at 2 bytes
  first ← mark_at 58 58 hour.rest
  minute ← digits_at 2 first.rest
  second ← mark_at 58 58 minute.rest
  seconds ← digits_at 2 second.rest
  fraction ← fraction_at seconds.rest
  Ok (read (hour.value, minute.value, seconds.value, fraction.value) fraction.rest)

-- nothing is left
unfoldable pub end_at : List ℕ → Result (Unit {0}) InstantRefusal
end_at [] = Ok tt
end_at (b ∷ bytes) = Err BadTime

abbrev pub civil_of : ℕ × ℕ × ℕ → ℕ × ℕ × ℕ × ℕ → ℤ → Civil
civil_of date time east =
    record { year = pos date.0; month = pos date.1; day = pos date.2; hour = pos time.0; minute = pos time.1; second = pos time.2; nanosecond = pos time.3; east = east }

-- the date, `T` (84) or `t` (116), the time of day, and the offset
unfoldable pub civil_at : List ℕ → Result Civil InstantRefusal
civil_at bytes = do
  date ← date_at bytes
  mark ← mark_at 84 116 date.rest
  time ← time_at mark.rest
  zone ← zone_at time.rest
  _ ← end_at zone.rest
  Ok (civil_of date.value time.value zone.value)

-- the moment that a text stands for
abbrev pub read_instant : List ℕ → Result ℤ InstantRefusal
read_instant text = civil_at text >>= instant_of

-- ---- what is written

abbrev pub digit : ℕ → ℕ
digit n = 48 + n % 10

-- the last two, four or nine digits of a number
abbrev pub two : ℕ → List ℕ
two n = digit (n / 10) ∷ digit n ∷ []

abbrev pub four : ℕ → List ℕ
four n = digit (n / 1000) ∷ digit (n / 100) ∷ digit (n / 10) ∷ digit n ∷ []

abbrev pub nine : ℕ → List ℕ
nine n =
    digit (n / 100_000_000) ∷ digit (n / 10_000_000) ∷ digit (n / 1_000_000) ∷ digit (n / 100_000) ∷ digit (n / 10_000)
    ∷ digit (n / 1000) ∷ digit (n / 100) ∷ digit (n / 10) ∷ digit n ∷ []

abbrev pub date_text : ℤ → List ℕ
date_text day = four (year_of day) ++ 45 ∷ two (month_of day) ++ 45 ∷ two (day_of day)

abbrev pub time_text : ℕ → List ℕ
time_text nanos =
    two (nanos / 3_600_000_000_000) ++ 58 ∷ two (nanos / 60_000_000_000 % 60) ++ 58 ∷ two (nanos / 1_000_000_000 % 60) ++ 46 ∷ nine (nanos % 1_000_000_000)

-- YYYY-MM-DDTHH:MM:SS.nnnnnnnnnZ, always with nine decimals
unfoldable pub instant_text : ℤ → List ℕ
instant_text moment = date_text (day_number moment) ++ 84 ∷ time_text (since_midnight moment) ++ 90 ∷ []
