use Rattle.std.proofs.Common.{◌≡◌, ◌∙◌, ap, Bool, true, false, ◌&&◌, refl, List, ℤ}
use Rattle.std.specs.Bool.{Decides}
use Rattle.std.proofs.lemmas.Bool.Decides.{Decides-int_eq}
use Rattle.std.proofs.lemmas.Slice.Eq.{slice_eq-Decides}
use Rattle.uss_shape.specs.declared.Place.{Place}
use Rattle.uss_shape.specs.Same.{same_place, same_vertices}

pub place_eq : (a b : Place) → a.x ≡ b.x → a.y ≡ b.y → a ≡ b
place_eq a b e f =
    ap (λ (t : ℤ). let r : Place = record { x = t; y = a.y } in r) e ∙ ap (λ (t : ℤ). let r : Place = record { x = b.x; y = t } in r) f

and_both : (a b : Bool) → (a && b) ≡ true → (a ≡ true) × (b ≡ true)
and_both true b h = (refl, h)
and_both false b h = absurd (let e : false ≡ true = h in cc)

both_and : (a b : Bool) → a ≡ true → b ≡ true → (a && b) ≡ true
both_and true b h k = k
both_and false b h k = h

pub place_decides : (a b : Place) → Decides (same_place a b) (a ≡ b)
place_decides a b = (
  λ h. let k = and_both _ _ h in place_eq a b ((Decides-int_eq a.x b.x).0 k.0) ((Decides-int_eq a.y b.y).0 k.1),
  λ e. both_and _ _ ((Decides-int_eq a.x b.x).1 (ap (λ (p : Place). p.x) e)) ((Decides-int_eq a.y b.y).1 (ap (λ (p : Place). p.y) e)),
)

-- the test tells whether the lists are the same
pub same_vertices_tells : (us vs : List Place) → Decides (same_vertices us vs) (us ≡ vs)
same_vertices_tells us vs = slice_eq-Decides {E = same_place} place_decides us vs (same_vertices us vs) refl
