-- The box that grows over all extents of all alternatives.
use Rattle.std.proofs.Common.{◌≡◌, ◌∙◌, ap, refl, sym, arith, ℤ, List, [], ◌∷◌, ◌++◌, Option, Some, None}
use Rattle.std.specs.Int.{int_min, int_max}
use Rattle.std.specs.List.{fold}
use Rattle.std.proofs.lemmas.Int.{ints, clamps}
use Rattle.std.proofs.lemmas.List.Sums.{fold-append}
use Rattle.uss_vol4.specs.declared.Box4.{Box4}
use Rattle.uss_vol4.specs.Volume.{Volume4D}
use Rattle.uss_vol4.specs.Bounding.{box_of, joined, bounding_box, BoundsSome}
use Rattle.uss_vol4.proofs.Round.{bounding_box_is}
use Rattle.uss_event.specs.declared.details.Proposal.{Proposal}
use Rattle.uss_law_duty.specs.Sends.{all_extents}
use Rattle.uss_job.specs.Area.{with_volume, box_or_zeros, HasExtents}

min_self : (a : ℤ) → int_min a a ≡ a
min_self a = omega (arith, ints, clamps)

max_self : (a : ℤ) → int_max a a ≡ a
max_self a = omega (arith, ints, clamps)

joined_self : (b : Box4) → joined b b ≡ b
joined_self b = simp min_self

grown : (b : Box4) (vs : List Volume4D) → fold with_volume (Some b) vs ≡ Some (fold (λ (b : Box4) (w : Volume4D). joined b (box_of w)) b vs)
grown b [] = refl
grown b (v ∷ vs) = grown (joined b (box_of v)) vs

pub round_is : (vs : List Volume4D) → box_or_zeros (fold with_volume None vs) ≡ bounding_box vs
unfolding bounding_box
round_is [] = refl
round_is (v ∷ vs) =
    ap box_or_zeros (grown (box_of v) vs)
    ∙ ap (λ (b : Box4). fold (λ (b : Box4) (w : Volume4D). joined b (box_of w)) b vs) (sym (joined_self (box_of v)))

abbrev with_proposal : Option Box4 → Proposal → Option Box4
with_proposal b p = fold with_volume (fold with_volume b p.volumes) p.off_nominal

proposals_from : (b : Option Box4) (ps : List Proposal) → fold with_proposal b ps ≡ fold with_volume b (all_extents ps)
proposals_from b [] = refl
proposals_from b (p ∷ ps) =
    proposals_from (with_proposal b p) ps
    ∙ ap (λ (c : Option Box4). fold with_volume c (all_extents ps)) (sym (fold-append with_volume b p.volumes p.off_nominal))
    ∙ sym (fold-append with_volume b (p.volumes ++ p.off_nominal) (all_extents ps))

pub proposals_are : (ps : List Proposal) → fold (λ (b : Option Box4) (p : Proposal). fold with_volume (fold with_volume b p.volumes) p.off_nominal) None ps ≡ fold with_volume None (all_extents ps)
proposals_are ps = proposals_from None ps

pub bounds_some : (ps : List Proposal) → HasExtents ps → BoundsSome (bounding_box (all_extents ps))
bounds_some ps h = record { volumes = all_extents ps; some = h.some; well_formed = h.volumes; bounding = bounding_box_is (all_extents ps) h.some h.volumes }
