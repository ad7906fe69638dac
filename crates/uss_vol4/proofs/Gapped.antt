-- A volume with its end put later is a volume, and two such volumes share exactly where the two are within the gap.
use Rattle.std.proofs.Common.{◌≡◌, ℕ, ◌↔◌, Bool, IsTrue, subst, sym, ℤ, pos, arith}
use Rattle.std.specs.Prelude.{◌≤ℤ◌, ◌+ℤ◌}
use Rattle.std.specs.Int.{int_min, int_max}
use Rattle.std.proofs.lemmas.Int.{ints, clamps}
use Rattle.uss_vol4.specs.Volume.{Volume4D, IsVolume, InRange, Shares, latest}
use Rattle.uss_vol4.specs.Gaps.{later, AreWithin}

pub later_is_volume : (gap : ℕ) (v : Volume4D) → IsVolume v → IsVolume (later gap v)
later_is_volume gap v h =
    let t : v.start ≤ℤ v.end = h.times in
    let e = h.end in
    record {
      outline = h.outline;
      altitudes = h.altitudes;
      times = omega (arith, ints, clamps);
      low = h.low;
      high = h.high;
      start = h.start;
      end = (omega (arith, ints, clamps), omega (arith, ints, clamps));
    }

-- the last moment of the range until m
in_range : (s e m : ℤ) → s ≤ℤ e → s ≤ℤ m → InRange s e (int_min m e)
in_range s e m h k = (omega (arith, ints, clamps), omega (arith, ints, clamps))

gap_kept : (e f m : ℤ) (gap : ℕ) → m ≤ℤ int_min (f +ℤ pos gap) latest → int_min m e ≤ℤ (int_min m f +ℤ pos gap)
gap_kept e f m gap h = omega (arith, ints, clamps)

pub within_of_shares : (gap : ℕ) (a b : Volume4D) → IsVolume a → IsVolume b → Shares (later gap a) (later gap b) → AreWithin gap a b
within_of_shares gap a b v w s =
    let h = s.in_first.time in
    let k = s.in_second.time in
    record {
      point = s.point;
      grid = s.grid;
      altitude = s.altitude;
      first = int_min s.moment a.end;
      second = int_min s.moment b.end;
      positive = s.positive;
      in_first = record { place = s.in_first.place; height = s.in_first.height; time = in_range a.start a.end s.moment v.times h.0 };
      in_second = record { place = s.in_second.place; height = s.in_second.height; time = in_range b.start b.end s.moment w.times k.0 };
      no_later = gap_kept a.end b.end s.moment gap k.1;
      no_earlier = gap_kept b.end a.end s.moment gap h.1;
    }

in_later : (s e m n : ℤ) (gap : ℕ) → InRange s e m → e ≤ℤ latest → n ≤ℤ (m +ℤ pos gap) → n ≤ℤ latest → InRange s (int_min (e +ℤ pos gap) latest) (int_max m n)
in_later s e m n gap h k l j = (omega (arith, ints, clamps), omega (arith, ints, clamps))

in_later_too : (s e m n : ℤ) (gap : ℕ) → InRange s e n → e ≤ℤ latest → m ≤ℤ (n +ℤ pos gap) → m ≤ℤ latest → InRange s (int_min (e +ℤ pos gap) latest) (int_max m n)
in_later_too s e m n gap h k l j = (omega (arith, ints, clamps), omega (arith, ints, clamps))

no_later_than : (s e m : ℤ) → InRange s e m → e ≤ℤ latest → m ≤ℤ latest
no_later_than s e m h k = omega (arith, ints)

pub shares_of_within : (gap : ℕ) (a b : Volume4D) → IsVolume a → IsVolume b → AreWithin gap a b → Shares (later gap a) (later gap b)
shares_of_within gap a b v w s =
    record {
      point = s.point;
      grid = s.grid;
      altitude = s.altitude;
      moment = int_max s.first s.second;
      positive = s.positive;
      in_first = record {
        place = s.in_first.place;
        height = s.in_first.height;
        time = in_later a.start a.end s.first s.second gap s.in_first.time v.end.1 s.no_earlier (no_later_than b.start b.end s.second s.in_second.time w.end.1);
      };
      in_second = record {
        place = s.in_second.place;
        height = s.in_second.height;
        time = in_later_too b.start b.end s.first s.second gap s.in_second.time w.end.1 s.no_later (no_later_than a.start a.end s.first s.in_first.time v.end.1);
      };
    }

pub shares_are_within : (gap : ℕ) (a b : Volume4D) → IsVolume a → IsVolume b → Shares (later gap a) (later gap b) ↔ AreWithin gap a b
shares_are_within gap a b v w = (within_of_shares gap a b v w, shares_of_within gap a b v w)

-- with one gap for both, a test of whether the later volumes share tells whether the two are within the gap
pub gap_told : (t : Bool) (first second : ℕ) (a b : Volume4D) → IsVolume a → IsVolume b → (IsTrue t ↔ Shares (later first a) (later second b)) → first ≡ second → IsTrue t ↔ AreWithin first a b
gap_told t first second a b v w k q =
    let m = shares_are_within first a b v w in (
      λ h. m.0 (subst (λ (g : ℕ). Shares (later first a) (later g b)) (sym q) (k.0 h)),
      λ s. k.1 (subst (λ (g : ℕ). Shares (later first a) (later g b)) q (m.1 s)),
    )
