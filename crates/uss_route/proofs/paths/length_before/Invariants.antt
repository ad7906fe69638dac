use Rattle.std.proofs.Common.{length, ◌-◌, ◌≡◌, ◌≤◌, true, take}
use Rattle.std.specs.Prelude.{not, ◌==◌}
use Rattle.std.specs.List.{list_all}
use Rattle.uss_route.proofs.paths.length_before.Given as goal

abbrev pub invariant-counting : goal.invariant-counting
invariant-counting l = record {
  within : l.count ≤ length l.bytes;
  passed : list_all (λ b. not (b == l.separator)) (take l.count l.bytes) ≡ true;
}

abbrev pub decreases-counting : goal.decreases-counting
decreases-counting l = length l.bytes - l.count
