-- The set has those of the numbers so far.
use Rattle.std.proofs.Common.{◌≡◌, ℕ, ◌||◌, take}
use Rattle.std.specs.List.{list_any}
use Rattle.std.specs.BTreeSet.{contains}
use Rattle.std.specs.Ordering.{nat_cmp}
use Rattle.uss_dss.specs.Located.{whose, is_that}
use Rattle.uss_dss.proofs.located.Located.add_near.Given as goal

abbrev pub invariant-loop-n : goal.invariant-loop-n
invariant-loop-n l =
    (k : ℕ) → contains nat_cmp l.near k ≡ (contains nat_cmp l.fn.near k || list_any (λ n. is_that (whose n l.self) k) (take l.n-index l.n-items))
