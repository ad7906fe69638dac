-- What an outline or a volume that is refused says of the test of volumes.
use Rattle.std.proofs.Common.{◌≡◌, ℤ, ◌≤ℤ◌, ◌<ℤ◌, true, false, List, ap, subst, ◌∙◌, arith}
use Rattle.std.proofs.lemmas.Int.{ints}
use Rattle.std.proofs.lemmas.Bool.{false_from_ne_true}
use Rattle.uss_shape.specs.declared.Place.{Place}
use Rattle.uss_shape.specs.Shape.{IsOutline}
use Rattle.uss_vol4.specs.Volume.{Volume4D, IsVolume}
use Rattle.uss_vol4.specs.Refusal.{Refused}
use Rattle.uss_vol4.specs.declared.VolRefusal.{VolRefusal}
use Rattle.uss_vol4.specs.declared.VolRefusal.TheVariants.{LowAboveHigh, StartAfterEnd, AltitudeRange, TimeRange, Memory}
use Rattle.uss_codec.specs.Volumes.{is_volume, volume_with}
use Rattle.uss_codec.specs.VolumeLaws.{volume_from, volume_true}

module _ (vs : List Place) (low high start end : ℤ) where
  pub not_outline : (IsOutline vs → ⊥) → is_volume (volume_with vs low high start end) ≡ false
  not_outline out = false_from_ne_true (is_volume (volume_with vs low high start end)) (λ h. out (volume_from (volume_with vs low high start end) h).outline)

  apart : (a b : ℤ) → a <ℤ b → b ≤ℤ a → ⊥
  apart a b h k = omega (arith, ints)

  no_volume : (e : VolRefusal) → Refused low high start end e → IsVolume (volume_with vs low high start end) → ⊥
  no_volume LowAboveHigh r v = apart high low r v.altitudes
  no_volume StartAfterEnd r v = apart end start r.1 v.times
  no_volume AltitudeRange r v = r.2 (v.low, v.high)
  no_volume TimeRange r v = r.3 (v.start, v.end)
  no_volume Memory r v = r

  pub not_volume : (e : VolRefusal) → Refused low high start end e → is_volume (volume_with vs low high start end) ≡ false
  not_volume e r = false_from_ne_true (is_volume (volume_with vs low high start end)) (λ h. no_volume e r (volume_from (volume_with vs low high start end) h))

  pub is_made : (outline : List Place) (w : Volume4D) → outline ≡ vs → w ≡ volume_with outline low high start end → IsVolume w
      → (w ≡ volume_with vs low high start end) × (is_volume (volume_with vs low high start end) ≡ true)
  is_made outline w e h v =
      let k : w ≡ volume_with vs low high start end = h ∙ ap (λ (o : List Place). volume_with o low high start end) e in
      (k, volume_true (volume_with vs low high start end) (subst IsVolume k v))
