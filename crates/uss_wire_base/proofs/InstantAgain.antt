-- The text of an instant is read as the instant.
use Rattle.std.proofs.Common.{◌≡◌, ℕ, ◌+◌, ◌*◌, ◌/◌, ◌%◌, ◌<◌, ◌≤◌, true, List, [], ◌∷◌, ◌++◌, length, take, drop, Ok, Err, refl, sym, ap, ◌∙◌, arith, ℤ, pos, negsuc}
use Rattle.std.proofs.lemmas.List.{length-append}
use Rattle.std.proofs.Math.Seq.{take-append_seam, drop-append_seam}
use Rattle.std.specs.Prelude.{nat_le, int_le, take_while, Result}
use Rattle.std.specs.List.{list_all}
use Rattle.std.specs.Char.{is_ascii_digit, digit_value}
use Rattle.std.specs.Str.Parse.{digits_value}
use Rattle.std.proofs.lemmas.Int.{ints}
use Rattle.std.proofs.lemmas.Bool.{cond-true, and_from, and_parts}
use Rattle.std.proofs.lemmas.Bool.Decides.{nat_tests}
use Rattle.jiff_core.specs.Calendar.{IsCivilDate, days_in_month, days_from_civil}
use Rattle.jiff_core.proofs.CalendarLemmas.{days_in_month_bounds}
use Rattle.uss_wire_base.specs.declared.instants.Civil.{Civil}
use Rattle.uss_wire_base.specs.declared.instants.InstantRefusal.{InstantRefusal}
use Rattle.uss_wire_base.specs.declared.instants.InstantRefusal.TheVariants.{BadTime, TimeRange}
use Rattle.uss_wire_base.specs.Reading.{◌>>=◌}
use Rattle.uss_vol4.specs.Ranges.{is_instant}
use Rattle.uss_wire_base.specs.Instants.{is_between, is_civil, clock_of, moment_of, in_range, instant_of, year_of, month_of, day_of, since_midnight}
use Rattle.uss_wire_base.specs.InstantText.{read, digit, two, four, nine, digits_at, mark_at, scaled_at, decimals_at, fraction_at, zone_at, date_at, time_at, end_at, civil_of, civil_at, read_instant, instant_text}
use Rattle.uss_wire_base.proofs.Dates.{date_of}
use Rattle.uss_wire_base.proofs.InstantTexts.{parts_text}

-- ---- digits
is_digit : (n : ℕ) → is_ascii_digit (digit n) ≡ true
is_digit n = let h : n % 10 < 10 = omega arith in grind (arith, nat_tests)

value_digit : (n : ℕ) → digit_value (digit n) ≡ n % 10
value_digit n = let h : n % 10 < 10 = omega arith in grind (arith, nat_tests)

long_enough : (m n k : ℕ) → n ≡ m + k → nat_le m n ≡ true
long_enough m n k e = grind (arith, nat_tests)

digits_read : (count n : ℕ) (ds rest : List ℕ) → length ds ≡ count → list_all is_ascii_digit ds ≡ true → digits_value 10 ds ≡ n → digits_at count (ds ++ rest) ≡ Ok (read n rest)
unfolding digits_at
digits_read count n ds rest whole digits value =
    let front : take count (ds ++ rest) ≡ ds = ap (λ k. take k (ds ++ rest)) (sym whole) ∙ take-append_seam ds rest in
    let behind : drop count (ds ++ rest) ≡ rest = ap (λ k. drop k (ds ++ rest)) (sym whole) ∙ drop-append_seam ds rest in
    let long : nat_le count (length (ds ++ rest)) ≡ true = long_enough count (length (ds ++ rest)) (length rest) (length-append ds rest ∙ ap (λ k. k + length rest) whole) in
    rw (long, front, digits, behind, value) refl

two_at : (n : ℕ) (rest : List ℕ) → n < 100 → digits_at 2 (two n ++ rest) ≡ Ok (read n rest)
two_at n rest small = digits_read 2 n (two n) rest refl (simp is_digit) (simp value_digit (omega arith))

four_at : (n : ℕ) (rest : List ℕ) → n < 10_000 → digits_at 4 (four n ++ rest) ≡ Ok (read n rest)
four_at n rest small = digits_read 4 n (four n) rest refl (simp is_digit) (simp value_digit (omega arith))

nine_at : (n : ℕ) (rest : List ℕ) → n < 1_000_000_000 → digits_at 9 (nine n ++ rest) ≡ Ok (read n rest)
nine_at n rest small = digits_read 9 n (nine n) rest refl (simp is_digit) (simp value_digit (omega arith))

nine_digits : (n : ℕ) (rest : List ℕ) → length (take_while is_ascii_digit (nine n ++ 90 ∷ rest)) ≡ 9
nine_digits n rest = simp is_digit

fraction_again : (n : ℕ) (rest : List ℕ) → n < 1_000_000_000 → fraction_at (46 ∷ nine n ++ 90 ∷ rest) ≡ Ok (read n (90 ∷ rest))
unfolding fraction_at decimals_at scaled_at
fraction_again n rest small = rw (nine_digits n rest, nine_at n (90 ∷ rest) small) (ap (λ k. Ok (read k (90 ∷ rest))) (omega arith))

date_again : (y m d : ℕ) (rest : List ℕ) → y < 10_000 → m < 100 → d < 100 → date_at (four y ++ 45 ∷ two m ++ 45 ∷ two d ++ rest) ≡ Ok (read (y, m, d) rest)
unfolding date_at mark_at
date_again y m d rest a b c = rw (four_at y (45 ∷ two m ++ 45 ∷ two d ++ rest) a, two_at m (45 ∷ two d ++ rest) b, two_at d rest c) refl

time_again : (h i s n : ℕ) (rest : List ℕ) → h < 100 → i < 100 → s < 100 → n < 1_000_000_000 → time_at (two h ++ 58 ∷ two i ++ 58 ∷ two s ++ 46 ∷ nine n ++ 90 ∷ rest) ≡ Ok (read (h, i, s, n) (90 ∷ rest))
unfolding time_at mark_at
time_again h i s n rest a b c e = rw (two_at h (58 ∷ two i ++ 58 ∷ two s ++ 46 ∷ nine n ++ 90 ∷ rest) a, two_at i (58 ∷ two s ++ 46 ∷ nine n ++ 90 ∷ rest) b, two_at s (46 ∷ nine n ++ 90 ∷ rest) c, fraction_again n rest e) refl

civil_again : (y m d h i s n : ℕ) → y < 10_000 → m < 100 → d < 100 → h < 100 → i < 100 → s < 100 → n < 1_000_000_000 → civil_at (parts_text y m d h i s n) ≡ Ok (civil_of (y, m, d) (h, i, s, n) (pos 0))
unfolding civil_at mark_at zone_at end_at
civil_again y m d h i s n a b c e f g j =
    rw (date_again y m d (84 ∷ two h ++ 58 ∷ two i ++ 58 ∷ two s ++ 46 ∷ nine n ++ 90 ∷ []) a b c, time_again h i s n [] e f g j) refl

-- ---- the moment of a date and a time of day
pub record DayOf (m : ℤ) (n k : ℕ) : Type 0 where
  pub moment : m ≡ pos (n * 86_400_000_000_000 + k)
  pub few : n < 2_000_000
  pub within : k < 86_400_000_000_000

-- the day of a moment from 1970 on
pub day_parts : (m : ℕ) → m < 7_258_118_400_000_000_001 → DayOf (pos m) (m / 86_400_000_000_000) (since_midnight (pos m))
day_parts m few = record { moment = ap pos (omega arith); few = omega arith; within = omega arith }

between : (low high n : ℕ) → low ≤ n → n ≤ high → is_between (pos low) (pos high) (pos n) ≡ true
between low high n a b = grind (arith, ints)

civil_true : (y m d h i s n : ℕ) → IsCivilDate (pos y) m d → h < 24 → i < 60 → s < 60 → n < 1_000_000_000 → is_civil (civil_of (y, m, d) (h, i, s, n) (pos 0)) ≡ true
civil_true y m d h i s n c a b e f =
    and_from _ _ (between 1 12 m c.1.0 c.1.1) (and_from _ _ (between 1 (days_in_month (pos y) m) d c.2.0 c.2.1) (and_from _ _ (between 0 23 h (omega arith) (omega arith)) (and_from _ _ (between 0 59 i (omega arith) (omega arith)) (and_from _ _ (between 0 59 s (omega arith) (omega arith)) (between 0 999_999_999 n (omega arith) (omega arith))))))

from_range : (m : ℕ) → is_instant (pos m) ≡ true → m < 7_258_118_400_000_000_001
from_range m h = let p = and_parts (int_le (pos 946_684_800_000_000_000) (pos m)) (int_le (pos m) (pos 7_258_118_400_000_000_000)) h in grind (arith, ints)

moment_again : (y m d h i s n day k : ℕ) → days_from_civil (pos y) m d ≡ pos day → k ≡ (h * 3600 + i * 60 + s) * 1_000_000_000 + n → moment_of (civil_of (y, m, d) (h, i, s, n) (pos 0)) ≡ pos (day * 86_400_000_000_000 + k)
unfolding clock_of
moment_again y m d h i s n day k is_day is_time = rw is_day (omega (arith, ints))

pub instant_again : (m : ℤ) → is_instant m ≡ true → read_instant (instant_text m) ≡ Ok m
unfolding instant_text instant_of
instant_again (pos m) h =
    let parts = day_parts m (from_range m h) in
    let n = m / 86_400_000_000_000 in
    let k = since_midnight (pos m) in
    let date = date_of n parts.few in
    let y = year_of (pos n) in
    let month = month_of (pos n) in
    let d = day_of (pos n) in
    let hour = k / 3_600_000_000_000 in
    let minute = k / 60_000_000_000 % 60 in
    let second = k / 1_000_000_000 % 60 in
    let nanos = k % 1_000_000_000 in
    let within = parts.within in
    let a : hour < 24 = omega arith in
    let b : minute < 60 = omega arith in
    let c : second < 60 = omega arith in
    let e : nanos < 1_000_000_000 = omega arith in
    let f = days_in_month_bounds (pos y) month in
    let g : d < 100 = let last = date.civil.2.1 in omega arith in
    let j : month < 100 = let last = date.civil.1.1 in omega arith in
    let o : y < 10_000 = let few = date.few in omega arith in
    let time : k ≡ (hour * 3600 + minute * 60 + second) * 1_000_000_000 + nanos = omega arith in
    ap (λ (r : Result Civil InstantRefusal). r >>= instant_of) (civil_again y month d hour minute second nanos o j g (omega arith) (omega arith) (omega arith) e)
    ∙ cond-true (is_civil (civil_of (y, month, d) (hour, minute, second, nanos) (pos 0))) (in_range (moment_of (civil_of (y, month, d) (hour, minute, second, nanos) (pos 0)))) (Err BadTime) (civil_true y month d hour minute second nanos date.civil a b c e)
    ∙ ap in_range (moment_again y month d hour minute second nanos n k date.day time ∙ sym parts.moment)
    ∙ cond-true (is_instant (pos m)) (Ok (pos m)) (Err TimeRange) h
instant_again (negsuc m) h = absurd (before m h)
  where
    before : (m : ℕ) → is_instant (negsuc m) ≡ true → ⊥
    before m h = let p = and_parts (int_le (pos 946_684_800_000_000_000) (negsuc m)) (int_le (negsuc m) (pos 7_258_118_400_000_000_000)) h in grind (arith, ints)
