-- The date of a day: the last year and the last month that have begun.
use Rattle.std.proofs.Common.{◌≡◌, ℕ, zero, suc, ◌+◌, ◌-◌, ◌<◌, ◌≤◌, ◌⊎◌, Bool, true, false, refl, sym, ap, ◌∙◌, subst, arith, lit≤, ⊎_elim, ℤ, pos, ◌-ℤ◌, ◌<ℤ◌, ◌≤ℤ◌, unsigned_abs}
use Rattle.std.specs.Prelude.{int_le}
use Rattle.std.proofs.lemmas.Int.{ints}
use Rattle.std.proofs.lemmas.Bool.{cond-true, cond-false, cases_Bool}
use Rattle.jiff_core.specs.Calendar.{IsCivilDate, day_count, days_from_civil, days_in_month, days_in_year}
use Rattle.jiff_core.proofs.SignedLemmas.{signed_arith}
use Rattle.jiff_core.proofs.CalendarLemmas.{day_count-epoch, days_from_civil-day_count, day_count-lt_year, day_count-lt_month, day_count-day, day_count-next_year, day_count-next_month, day_count-last_of_year, day_count-day_of_year}
use Rattle.jiff_core.proofs.DateLemmas.{days_from_civil-day}
use Rattle.jiff_core.proofs.MarchLemmas.{day_count-early}
use Rattle.uss_wire_base.specs.Instants.{last_of, year_of, month_of, day_of}

both : (b : Bool) → b ≡ true → b ≡ false → ⊥
both b t f = cc

same_or_less : (n m : ℕ) → n ≤ m → (n ≡ m) ⊎ (n < m)
same_or_less n m h = grind arith

-- ---- the greatest number that passes
pub last_is : (p : ℕ → Bool) (n limit : ℕ) → n ≤ limit → p n ≡ true → ((k : ℕ) → n < k → k ≤ limit → p k ≡ false) → last_of p limit ≡ n
unfolding last_of
last_is p n zero within passes later = omega arith
last_is p n (suc limit) within passes later =
    ⊎_elim
    (λ t. cond-true (p (suc limit)) (suc limit) (last_of p limit) t ∙ sym (⊎_elim (λ e. e) (λ lt. absurd (both (p (suc limit)) t (later (suc limit) lt (omega arith)))) (same_or_less n (suc limit) within)))
    (λ f. cond-false (p (suc limit)) (suc limit) (last_of p limit) f ∙ last_is p n limit (⊎_elim (λ e. absurd (both (p (suc limit)) (ap p (sym e) ∙ passes) f)) (λ lt. omega arith) (same_or_less n (suc limit) within)) passes (λ k after inside. later k after (omega arith)))
    (cases_Bool (p (suc limit)))

-- ---- days before and after
le_days : (y : ℤ) (m d : ℕ) (z : ℤ) (n e : ℕ) → day_count y m d ≤ day_count z n e → int_le (days_from_civil y m d) (days_from_civil z n e) ≡ true
le_days y m d z n e h =
    let a = days_from_civil-day_count y m d in
    let b = days_from_civil-day_count z n e in
    let le : days_from_civil y m d ≤ℤ days_from_civil z n e = omega (arith, signed_arith) in
    grind (arith, ints)

lt_days : (y : ℤ) (m d : ℕ) (z : ℤ) (n e : ℕ) → day_count z n e < day_count y m d → int_le (days_from_civil y m d) (days_from_civil z n e) ≡ false
lt_days y m d z n e h =
    let a = days_from_civil-day_count y m d in
    let b = days_from_civil-day_count z n e in
    let lt : days_from_civil z n e <ℤ days_from_civil y m d = omega (arith, signed_arith) in
    grind (arith, ints)

-- ---- the date of a day that is one's date
pub year_is : (y m d : ℕ) → IsCivilDate (pos y) m d → year_of (days_from_civil (pos y) m d) ≡ y
year_is y m d c =
    last_is (λ k. int_le (days_from_civil (pos k) 1 1) (days_from_civil (pos y) m d)) y 9999
    (let h = c.0 in omega (arith, ints))
    (le_days (pos y) 1 1 (pos y) m d (let e = day_count-day_of_year (pos y) m d c.2.0 in omega arith))
    (λ k after inside. lt_days (pos k) 1 1 (pos y) m d (day_count-lt_year (pos y) m d (pos k) 1 1 c (omega arith) (omega (arith, ints))))

pub month_is : (y m d : ℕ) → IsCivilDate (pos y) m d → month_of (days_from_civil (pos y) m d) ≡ m
month_is y m d c =
    ap (λ year. last_of (λ k. int_le (days_from_civil (pos year) k 1) (days_from_civil (pos y) m d)) 12) (year_is y m d c)
    ∙ last_is (λ k. int_le (days_from_civil (pos y) k 1) (days_from_civil (pos y) m d)) m 12
    c.1.1
    (le_days (pos y) m 1 (pos y) m d (let e = day_count-day (pos y) m d 1 c.2.0 (omega arith) in omega arith))
    (λ k after inside. lt_days (pos y) k 1 (pos y) m d (day_count-lt_month (pos y) m d k 1 c (omega arith) after))

day_within : (y m d : ℕ) → 1 ≤ d → unsigned_abs (days_from_civil (pos y) m d -ℤ days_from_civil (pos y) m 1) + 1 ≡ d
day_within y m d some =
    let e = days_from_civil-day (pos y) m d 1 some (omega arith) in
    let z : days_from_civil (pos y) m d -ℤ days_from_civil (pos y) m 1 ≡ pos (d - 1) = omega (arith, signed_arith) in
    ap (λ n. unsigned_abs n + 1) z ∙ omega arith

pub day_is : (y m d : ℕ) → IsCivilDate (pos y) m d → day_of (days_from_civil (pos y) m d) ≡ d
day_is y m d c = rw (month_is y m d c, year_is y m d c) (day_within y m d c.2.0)

-- ---- each day has such a date
last_passes : (p : ℕ → Bool) (limit w : ℕ) → 1 ≤ w → w ≤ limit → p w ≡ true → (p (last_of p limit) ≡ true) × (w ≤ last_of p limit) × (last_of p limit ≤ limit)
unfolding last_of
last_passes p zero w some within passes = absurd (omega arith)
last_passes p (suc limit) w some within passes =
    ⊎_elim
    (λ t. subst (λ l. (p l ≡ true) × (w ≤ l) × (l ≤ suc limit)) (sym (cond-true (p (suc limit)) (suc limit) (last_of p limit) t)) (t, within, omega arith))
    (λ f. subst (λ l. (p l ≡ true) × (w ≤ l) × (l ≤ suc limit)) (sym (cond-false (p (suc limit)) (suc limit) (last_of p limit) f))
    (let less : w < suc limit = ⊎_elim (λ e. absurd (both (p (suc limit)) (ap p (sym e) ∙ passes) f)) (λ lt. lt) (same_or_less w (suc limit) within) in
    let h = last_passes p limit w some (omega arith) passes in
    (h.0, h.1, omega arith)))
    (cases_Bool (p (suc limit)))

last_after : (p : ℕ → Bool) (limit k : ℕ) → last_of p limit < k → k ≤ limit → p k ≡ false
unfolding last_of
last_after p zero k after within = absurd (omega arith)
last_after p (suc limit) k after within =
    ⊎_elim
    (λ t. absurd (let h : suc limit < k = subst (λ l. l < k) (cond-true (p (suc limit)) (suc limit) (last_of p limit) t) after in omega arith))
    (λ f. let h : last_of p limit < k = subst (λ l. l < k) (cond-false (p (suc limit)) (suc limit) (last_of p limit) f) after in
    ⊎_elim (λ e. ap p e ∙ f) (λ lt. last_after p limit k h (omega arith)) (same_or_less k (suc limit) within))
    (cases_Bool (p (suc limit)))

from_le : (y : ℤ) (m d n : ℕ) → int_le (days_from_civil y m d) (pos n) ≡ true → day_count y m d ≤ n + 4_371_953
from_le y m d n h =
    let a = days_from_civil-day_count y m d in
    let le : days_from_civil y m d ≤ℤ pos n = grind (arith, ints) in
    omega (arith, signed_arith)

from_gt : (y : ℤ) (m d n : ℕ) → int_le (days_from_civil y m d) (pos n) ≡ false → n + 4_371_953 < day_count y m d
from_gt y m d n h =
    let a = days_from_civil-day_count y m d in
    let lt : pos n <ℤ days_from_civil y m d = grind (arith, ints) in
    omega (arith, signed_arith)

to_le : (y : ℤ) (m d n : ℕ) → day_count y m d ≤ n + 4_371_953 → int_le (days_from_civil y m d) (pos n) ≡ true
to_le y m d n h =
    let a = days_from_civil-day_count y m d in
    let le : days_from_civil y m d ≤ℤ pos n = omega (arith, signed_arith) in
    grind (arith, ints)

-- the year that a day from 1970 on lies in
record InYear (n y : ℕ) : Type 0 where
  pub begun : day_count (pos y) 1 1 ≤ n + 4_371_953
  pub lasts : n + 4_371_953 < day_count (pos y) 1 1 + days_in_year (pos y)
  pub few : y < 9999

in_year : (n : ℕ) → n < 2_000_000 → InYear n (year_of (pos n))
in_year n small =
    let p : ℕ → Bool = λ k. int_le (days_from_civil (pos k) 1 1) (pos n) in
    let first = last_passes p 9999 1970 (lit≤ tt) (lit≤ tt) (to_le (pos 1970) 1 1 n (let e = day_count-epoch in omega arith)) in
    let begun = from_le (pos (year_of (pos n))) 1 1 n first.0 in
    let end = day_count-early (pos 9999) 19998 1 1 refl (omega arith) (omega arith) (omega arith) in
    let few : year_of (pos n) < 9999 = ⊎_elim (λ e. absurd (let at : day_count (pos 9999) 1 1 ≤ n + 4_371_953 = subst (λ y. day_count (pos y) 1 1 ≤ n + 4_371_953) e begun in omega arith)) (λ lt. lt) (same_or_less (year_of (pos n)) 9999 first.2) in
    let after = from_gt (pos (year_of (pos n) + 1)) 1 1 n (last_after p 9999 (year_of (pos n) + 1) (omega arith) (omega arith)) in
    let next = day_count-next_year (pos (year_of (pos n))) (pos (year_of (pos n) + 1)) (omega (arith, ints)) (omega (arith, ints)) in
    record { begun = begun; lasts = omega arith; few = few }

record InMonth (n y m : ℕ) : Type 0 where
  pub some : 1 ≤ m
  pub few : m ≤ 12
  pub begun : day_count (pos y) m 1 ≤ n + 4_371_953
  pub lasts : n + 4_371_953 < day_count (pos y) m 1 + days_in_month (pos y) m

in_month : (n : ℕ) → n < 2_000_000 → InMonth n (year_of (pos n)) (month_of (pos n))
in_month n small =
    let y = year_of (pos n) in
    let within = in_year n small in
    let q : ℕ → Bool = λ k. int_le (days_from_civil (pos y) k 1) (pos n) in
    let first = last_passes q 12 1 (lit≤ tt) (lit≤ tt) (to_le (pos y) 1 1 n within.begun) in
    let begun = from_le (pos y) (month_of (pos n)) 1 n first.0 in
    record {
      some = first.1;
      few = first.2;
      begun = begun;
      lasts = ⊎_elim
          (λ e. subst (λ m. n + 4_371_953 < day_count (pos y) m 1 + days_in_month (pos y) m) (sym e)
          (let last = day_count-last_of_year (pos y) in let day = day_count-day (pos y) 12 31 1 (lit≤ tt) (lit≤ tt) in omega (arith, within.lasts)))
          (λ lt. let after = from_gt (pos y) (month_of (pos n) + 1) 1 n (last_after q 12 (month_of (pos n) + 1) (omega arith) (omega arith)) in
          let next = day_count-next_month (pos y) (month_of (pos n)) first.1 in omega arith)
          (same_or_less (month_of (pos n)) 12 first.2);
    }

-- the date is one, and its day is the day
pub record IsDateOf (n y m d : ℕ) : Type 0 where
  pub civil : IsCivilDate (pos y) m d
  pub few : y < 9999
  pub day : days_from_civil (pos y) m d ≡ pos n

pub date_of : (n : ℕ) → n < 2_000_000 → IsDateOf n (year_of (pos n)) (month_of (pos n)) (day_of (pos n))
date_of n small =
    let y = year_of (pos n) in
    let m = month_of (pos n) in
    let within = in_year n small in
    let month = in_month n small in
    let a = days_from_civil-day_count (pos y) m 1 in
    let z : pos n -ℤ days_from_civil (pos y) m 1 ≡ pos (n + 4_371_953 - day_count (pos y) m 1) = let b = month.begun in omega (arith, signed_arith) in
    let d : day_of (pos n) ≡ n + 4_371_953 - day_count (pos y) m 1 + 1 = ap (λ i. unsigned_abs i + 1) z in
    let e = days_from_civil-day (pos y) m (day_of (pos n)) 1 (omega arith) (lit≤ tt) in
    record {
      civil = (((omega (arith, ints), omega (arith, ints, within.few)), (month.some, month.few), (omega arith, let b = month.begun in let l = month.lasts in omega arith)));
      few = within.few;
      day = let b = month.begun in omega (arith, signed_arith);
    }
