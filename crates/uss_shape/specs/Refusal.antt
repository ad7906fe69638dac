-- The numbers under which refusals are printed. They are this project's own.
use Rattle.std.specs.Prelude.{ℕ, Option, Some, None}
use Rattle.uss_shape.specs.declared.ShapeRefusal.{ShapeRefusal}
use Rattle.uss_shape.specs.declared.ShapeRefusal.TheVariants.{TooFewVertices, TooManyVertices, OutOfRange, Memory}

abbrev pub number_of : ShapeRefusal → Option ℕ
number_of TooFewVertices = Some 101
number_of TooManyVertices = Some 102
number_of (OutOfRange i) = Some 103
number_of Memory = None
