-- When `==` says that two volumes are the same: the same vertices in the same order, and the same ranges.
use Rattle.std.specs.Prelude.{Bool, ◌&&◌}
use Rattle.std.specs.Ordering.{int_eq}
use Rattle.std.specs.Cmp.{IsEquivalence}
use Rattle.std.proofs.lemmas.Cmp.{and_equiv, on_equiv, int_eq_equiv}
use Rattle.uss_shape.specs.Same.{same_vertices, same_vertices_equiv}
use Rattle.uss_vol4.specs.Volume.{Volume4D}

abbrev pub same_volume : Volume4D → Volume4D → Bool
same_volume a b = same_vertices a.outline b.outline && (int_eq a.low b.low && (int_eq a.high b.high && (int_eq a.start b.start && int_eq a.end b.end)))

-- it is an equivalence, as the laws of `==` ask
pub same_volume_equiv : IsEquivalence same_volume
same_volume_equiv =
    and_equiv (on_equiv (λ (v : Volume4D). v.outline) same_vertices_equiv)
    (and_equiv (on_equiv (λ (v : Volume4D). v.low) int_eq_equiv)
    (and_equiv (on_equiv (λ (v : Volume4D). v.high) int_eq_equiv)
    (and_equiv (on_equiv (λ (v : Volume4D). v.start) int_eq_equiv) (on_equiv (λ (v : Volume4D). v.end) int_eq_equiv))))
