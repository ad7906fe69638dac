-- Who sent a message, and who is to get it, is there. This project's own.
use Rattle.std.specs.Prelude.{ℕ, ◌≡◌, List, Some, IfSome}
use Rattle.uss_law_world.specs.World.{Supplier, Post, supplier_in}
use Rattle.uss_law_world.specs.World.Post.{Called, Replied, Asked, Answered}

-- a supplier with this number is there
abbrev pub IsThere : List Supplier → ℕ → Type 0
IsThere suppliers s = (x : Supplier) × (supplier_in s suppliers ≡ Some x)

-- each supplier of a message is; a call of another supplier may go to nobody
abbrev pub HasParties : List Supplier → Post → Type 0
HasParties suppliers (Called from call) = IsThere suppliers from
HasParties suppliers (Replied to answered call reply) = IsThere suppliers to
HasParties suppliers (Asked from to call) = IsThere suppliers from × IfSome to (IsThere suppliers)
HasParties suppliers (Answered to answered call reply) = IsThere suppliers to
