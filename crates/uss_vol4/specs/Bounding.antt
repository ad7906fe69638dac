-- Boxes in four dimensions: the least box round volumes, and the volume of a box.
use Rattle.std.specs.Prelude.{◌<◌, pos, List, [], ◌∷◌, length, All}
use Rattle.std.specs.Int.{int_min, int_max}
use Rattle.std.specs.List.{fold, flat_map}
use Rattle.uss_shape.specs.declared.Place.{Place}
use Rattle.uss_shape.specs.declared.Rect.{Rect}
use Rattle.uss_shape.specs.Shape.{IsBounds, IsLeast, IsGreatest, bounds_of, corners}
use Rattle.uss_vol4.specs.declared.Box4.{Box4}
use Rattle.uss_vol4.specs.Volume.{Volume4D, IsVolume}

-- the vertices of all the outlines
abbrev pub vertices_of : List Volume4D → List Place
vertices_of list = flat_map (λ v. v.outline) list

-- the box has the least and the greatest of all coordinates, altitudes and instants of the volumes
pub record IsBoundingBox (list : List Volume4D) (b : Box4) : Type 0 where
  pub rect : IsBounds (vertices_of list) b.rect
  pub low : IsLeast (λ v. v.low) list b.low
  pub high : IsGreatest (λ v. v.high) list b.high
  pub start : IsLeast (λ v. v.start) list b.start
  pub end : IsGreatest (λ v. v.end) list b.end

-- the box of one volume
abbrev pub box_of : Volume4D → Box4
box_of v = record { rect = bounds_of v.outline; low = v.low; high = v.high; start = v.start; end = v.end }

-- the least box round two
abbrev pub joined_rect : Rect → Rect → Rect
joined_rect r s = record { x1 = int_min r.x1 s.x1; y1 = int_min r.y1 s.y1; x2 = int_max r.x2 s.x2; y2 = int_max r.y2 s.y2 }

abbrev pub joined : Box4 → Box4 → Box4
joined a b = record { rect = joined_rect a.rect b.rect; low = int_min a.low b.low; high = int_max a.high b.high; start = int_min a.start b.start; end = int_max a.end b.end }

-- the bounding box as a function, the box of zeros where there is no volume
unfoldable pub bounding_box : List Volume4D → Box4
bounding_box [] = record { rect = record { x1 = pos 0; y1 = pos 0; x2 = pos 0; y2 = pos 0 }; low = pos 0; high = pos 0; start = pos 0; end = pos 0 }
bounding_box (v ∷ vs) = fold (λ b w. joined b (box_of w)) (box_of v) (v ∷ vs)

-- the box is the bounding box of some volumes
pub record BoundsSome (b : Box4) : Type 0 where
  pub volumes : List Volume4D
  pub some : 0 < length volumes
  pub well_formed : All IsVolume volumes
  pub bounding : IsBoundingBox volumes b

-- the rectangular volume of the box
abbrev pub volume_of : Box4 → Volume4D
volume_of b = record { outline = corners b.rect; low = b.low; high = b.high; start = b.start; end = b.end }
