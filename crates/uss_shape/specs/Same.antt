-- When `==` says that two outlines are the same: they have the same vertices in the same order.
use Rattle.std.specs.Prelude.{Bool, ◌&&◌, List}
use Rattle.std.specs.Ordering.{int_eq}
use Rattle.std.specs.Cmp.{IsEquivalence}
use Rattle.std.proofs.lemmas.Cmp.{and_equiv, on_equiv, int_eq_equiv, lists_equiv}
use Rattle.std.specs.Cmp.Lexicographic.{pointwise}
use Rattle.uss_shape.specs.declared.Place.{Place}

abbrev pub same_place : Place → Place → Bool
same_place a b = int_eq a.x b.x && int_eq a.y b.y

abbrev pub same_vertices : List Place → List Place → Bool
same_vertices = pointwise same_place

-- it is an equivalence, as the laws of `==` ask
pub same_vertices_equiv : IsEquivalence same_vertices
same_vertices_equiv = lists_equiv (and_equiv (on_equiv (λ (p : Place). p.x) int_eq_equiv) (on_equiv (λ (p : Place). p.y) int_eq_equiv))
