-- Worked examples of the definitions and of the tests that compute.
use Rattle.uss_shape.proofs.Ring.{lin}
use Rattle.std.proofs.Common.{◌≡◌, true, false, inl, inr, refl, arith, List, [], ◌∷◌, ℤ, pos}
use Rattle.std.specs.Prelude.{neg_ℤ, ◌≤ℤ◌}
use Rattle.uss_shape.specs.declared.Place.{Place}
use Rattle.uss_shape.specs.Plane.{Meet}
use Rattle.uss_shape.specs.Overlap.{region_holds, region_holds_first, outlines_meet}

abbrev at : ℤ → ℤ → Place
at x y = record { x = x; y = y }

-- two bars that cross, though no vertex of one lies in the other
abbrev bar : List Place
bar = at (pos 0) (pos 0) ∷ at (pos 10) (pos 3) ∷ at (pos 10) (pos 4) ∷ at (pos 0) (pos 1) ∷ []

abbrev upright_bar : List Place
upright_bar = at (pos 3) (neg_ℤ (pos 5)) ∷ at (pos 4) (neg_ℤ (pos 5)) ∷ at (pos 4) (pos 9) ∷ at (pos 3) (pos 9) ∷ []

below_nine : neg_ℤ (pos 50) ≤ℤ pos 9
below_nine = omega lin

-- they meet in (30 / 10, 9 / 10), on an edge of each
bars_meet : Meet bar upright_bar
bars_meet = record {
  point = at (pos 30) (pos 9);
  grid = pos 10;
  positive = omega lin;
  in_first = inl (1, _, omega arith, refl, (refl, inl (omega lin, omega lin), inl (omega lin, omega lin)));
  in_second = inl (0, _, omega arith, refl, (refl, inl (omega lin, omega lin), inr (below_nine, omega lin)));
}

bars_test : outlines_meet bar upright_bar ≡ true
unfolding outlines_meet region_holds region_holds_first
bars_test = refl

-- a rectangle in the notch of a U
abbrev notched : List Place
notched = at (pos 0) (pos 0) ∷ at (pos 30) (pos 0) ∷ at (pos 30) (pos 30) ∷ at (pos 20) (pos 30) ∷ at (pos 20) (pos 10) ∷ at (pos 10) (pos 10) ∷ at (pos 10) (pos 30) ∷ at (pos 0) (pos 30) ∷ []

abbrev in_notch : List Place
in_notch = at (pos 12) (pos 15) ∷ at (pos 18) (pos 15) ∷ at (pos 18) (pos 25) ∷ at (pos 12) (pos 25) ∷ []

notch_test : outlines_meet notched in_notch ≡ false
unfolding outlines_meet region_holds region_holds_first
notch_test = refl

-- by the even-odd rule the places right and left of a bow tie's waist are in its region, and those above are not
abbrev bow_tie : List Place
bow_tie = at (pos 0) (pos 0) ∷ at (pos 10) (pos 10) ∷ at (pos 10) (pos 0) ∷ at (pos 0) (pos 10) ∷ []

left_of_waist : region_holds bow_tie (at (pos 2) (pos 5)) ≡ true
unfolding region_holds
left_of_waist = refl

above_waist : region_holds bow_tie (at (pos 5) (pos 7)) ≡ false
unfolding region_holds
above_waist = refl
