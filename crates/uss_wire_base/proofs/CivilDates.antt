-- Civil dates and times, as jiff makes them.
use Rattle.std.proofs.Common.{◌≡◌, ℤ, pos, ◌≤ℤ◌, Bool, true, false, Ok, Err, sym, refl, ap, ◌∙◌, ⊎_elim, ◌-ℤ◌, arith, FitsSigned, w8, w16, w32}
use Rattle.std.proofs.lemmas.Int.{ints}
use Rattle.jiff.proofs.SpanFacts.{signed_arith}
use Rattle.std.specs.Prelude.{Result, is_some, IfSome, IfOk, IsOk, ◌↔◌, int_le, neg_ℤ}
use Rattle.std.specs.Result.{result_ok}
use Rattle.std.proofs.lemmas.Bool.{and_parts, and_from, true≢false, cond-true, cond-false, cases_Bool}
use Rattle.jiff_core.specs.Calendar.{IsBetween, IsDate}
use Rattle.jiff_core.specs.Date.{IsYmd}
use Rattle.jiff_core.specs.DateTime.{civil_nanos}
use Rattle.jiff_core.specs.Time.{IsTime, IsHms}
use Rattle.jiff_core.specs.declared.civil.datetime.DateTime.{DateTime}
use Rattle.uss_wire_base.specs.declared.instants.Civil.{Civil}
use Rattle.jiff_core.specs.Timestamp.{IsTimestampNanos, IsOffsetSeconds, nanos_of_seconds}
use Rattle.uss_wire_base.specs.declared.instants.InstantRefusal.TheVariants.{BadTime, TimeRange}
use Rattle.uss_vol4.specs.Ranges.{is_instant}
use Rattle.uss_wire_base.specs.Instants.{is_between, is_civil, IsWritten, clock_of, moment_of, in_range, instant_of}

from_between : (low high z : ℤ) → IsBetween low high z → is_between low high z ≡ true
from_between low high z h = grind (arith, ints)

to_between : (low high z : ℤ) → is_between low high z ≡ true → IsBetween low high z
to_between low high z h = let p = and_parts (int_le low z) (int_le z high) h in grind (arith, ints)

year_in : (y : ℤ) → IsBetween (pos 0) (pos 9999) y → IsBetween (neg_ℤ (pos 9999)) (pos 9999) y
year_in y h = (omega (arith, ints, h.0), h.1)

abbrev Shows : Civil → Type 0
Shows c = IsDate c.year c.month c.day × IsTime c.hour c.minute c.second c.nanosecond

pub shows_civil : (c : Civil) → Shows c → is_civil c ≡ true
shows_civil c h =
    and_from _ _ (from_between _ _ _ h.0.1) (and_from _ _ (from_between _ _ _ h.0.2) (and_from _ _ (from_between _ _ _ h.1.0) (and_from _ _ (from_between _ _ _ h.1.1) (and_from _ _ (from_between _ _ _ h.1.2) (from_between _ _ _ h.1.3)))))

pub civil_shows : (c : Civil) → IsWritten c → is_civil c ≡ true → Shows c
civil_shows c w h =
    let a = and_parts _ _ h in
    let b = and_parts _ _ a.1 in
    let d = and_parts _ _ b.1 in
    let e = and_parts _ _ d.1 in
    let f = and_parts _ _ e.1 in
    ((year_in c.year w.year, to_between _ _ _ a.0, to_between _ _ _ b.0), (to_between _ _ _ d.0, to_between _ _ _ e.0, to_between _ _ _ f.0, to_between _ _ _ f.1))

pub decided : {A E : Type 0} (r : Result A E) (P : Type 0) (b : Bool) → (IsOk r ↔ P) → (P → b ≡ true) → (b ≡ true → P) → is_some (result_ok r) ≡ b
decided (Ok x) P b i f g = sym (f (i.0 refl))
decided (Err e) P true i f g = absurd (true≢false (sym (i.1 (g refl))))
decided (Err e) P false i f g = refl

pub made : {E : Type 0} (c : Civil) (r : Result DateTime E) → IfOk r (λ dt. IsYmd c.year c.month c.day dt.date × IsHms c.hour c.minute c.second c.nanosecond dt.time) → IfSome (result_ok r) (λ dt. civil_nanos dt ≡ clock_of c)
unfolding civil_nanos clock_of
made c (Err e) h = tt
made c (Ok dt) h =
    rw (← h.0.0, ← h.0.1, ← h.0.2, ← h.1.0, ← h.1.1, ← h.1.2, ← h.1.3) refl

pub record Fits (c : Civil) : Type 0 where
  pub year : FitsSigned w16 c.year
  pub month : FitsSigned w8 c.month
  pub day : FitsSigned w8 c.day
  pub hour : FitsSigned w8 c.hour
  pub minute : FitsSigned w8 c.minute
  pub second : FitsSigned w8 c.second
  pub nanosecond : FitsSigned w32 c.nanosecond
  pub east : FitsSigned w32 c.east

pub fits : (c : Civil) → IsWritten c → Fits c
fits c w = record {
  year = omega (arith, signed_arith, w.year.0, w.year.1);
  month = omega (arith, signed_arith, w.month.0, w.month.1);
  day = omega (arith, signed_arith, w.day.0, w.day.1);
  hour = omega (arith, signed_arith, w.hour.0, w.hour.1);
  minute = omega (arith, signed_arith, w.minute.0, w.minute.1);
  second = omega (arith, signed_arith, w.second.0, w.second.1);
  nanosecond = omega (arith, signed_arith, w.nanosecond.0, w.nanosecond.1);
  east = omega (arith, signed_arith, w.east.0, w.east.1);
}

-- ---- the answer

pub answer_there : (c : Civil) (m : ℤ) → true ≡ is_civil c → m ≡ moment_of c → in_range m ≡ instant_of c
unfolding instant_of
answer_there c m civil same = ap in_range same ∙ sym (cond-true (is_civil c) (in_range (moment_of c)) (Err BadTime) (sym civil))

kept_in : (m : ℤ) → is_instant m ≡ true → IsTimestampNanos m
kept_in m h =
    let p = and_parts (int_le (pos 946_684_800_000_000_000) m) (int_le m (pos 7_258_118_400_000_000_000)) h in
    let low : pos 946_684_800_000_000_000 ≤ℤ m = grind (arith, ints) in
    let high : m ≤ℤ pos 7_258_118_400_000_000_000 = grind (arith, ints) in
    (omega (arith, ints), omega (arith, ints))

pub answer_far : (c : Civil) → true ≡ is_civil c → (IsTimestampNanos (moment_of c) → ⊥) → Err TimeRange ≡ instant_of c
unfolding instant_of
answer_far c civil far =
    ⊎_elim (λ t. absurd (far (kept_in (moment_of c) t))) (λ f. sym (cond-false (is_instant (moment_of c)) (Ok (moment_of c)) (Err TimeRange) f)) (cases_Bool (is_instant (moment_of c)))
    ∙ sym (cond-true (is_civil c) (in_range (moment_of c)) (Err BadTime) (sym civil))

pub offset_in : (z : ℤ) → IsBetween (neg_ℤ (pos 86_399)) (pos 86_399) z → IsOffsetSeconds z
offset_in z h = let a = h.0 in let b = h.1 in (omega (arith, ints), omega (arith, ints))

pub never_err : (A : Type 0) {E : Type 0} (e : E) (P : Type 0) → (IsOk {T = A} (Err e) ↔ P) → P → ⊥
never_err A e P i p = true≢false (sym (i.1 p))

pub moment_at : (c : Civil) (dt m seconds : ℤ) → m ≡ dt -ℤ nanos_of_seconds seconds → dt ≡ clock_of c → seconds ≡ c.east → m ≡ moment_of c
moment_at c dt m seconds a b s = a ∙ (λ i. b i -ℤ nanos_of_seconds (s i))
