-- Worked examples of the definitions and of the tests that compute.
use Rattle.std.proofs.Common.{◌≡◌, ℕ, ◌+◌, true, false, refl, [], ◌∷◌, pos}
use Rattle.uss_shape.specs.declared.Rect.{Rect}
use Rattle.uss_shape.specs.Shape.{corners}
use Rattle.uss_shape.specs.Overlap.{region_holds, region_holds_first, outlines_meet}
use Rattle.uss_vol4.specs.Volume.{Volume4D}
use Rattle.uss_vol4.specs.Sharing.{shares, any_shares}

abbrev block : ℕ → ℕ → ℕ → Volume4D
block x low start =
    let r : Rect = record { x1 = pos x; y1 = pos 0; x2 = pos (x + 10); y2 = pos 10 } in
    record { outline = corners r; low = pos low; high = pos (low + 100); start = pos start; end = pos (start + 1800000000000) }

-- blocks that touch in the plane, in altitude and in time share a point
touching : shares (block 0 0 1700003600000000000) (block 10 100 1700005400000000000) ≡ true
unfolding shares outlines_meet region_holds region_holds_first
touching = refl

too_late : shares (block 0 0 1700003600000000000) (block 10 100 1700005400000000001) ≡ false
unfolding shares outlines_meet region_holds region_holds_first
too_late = refl

too_high : shares (block 0 0 1700003600000000000) (block 0 101 1700003600000000000) ≡ false
unfolding shares outlines_meet region_holds region_holds_first
too_high = refl

some_share : any_shares (block 0 0 1700003600000000000 ∷ block 50 0 1700003600000000000 ∷ []) (block 30 0 1700003600000000000 ∷ block 41 7 1700003600000000000 ∷ []) ≡ true
unfolding any_shares shares outlines_meet region_holds region_holds_first
some_share = refl
