-- The set stands for the OVNs so far.
use Rattle.std.proofs.Common.{take}
use Rattle.uss_dss.specs.Keys.{Finds}
use Rattle.uss_dss.proofs.key.key_set.Given as goal

abbrev pub invariant-loop-ovn : goal.invariant-loop-ovn
invariant-loop-ovn l = Finds l.set (take l.ovn-index l.key)
