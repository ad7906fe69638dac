use Rattle.std.proofs.Common.{◌≡◌, drop}
use Rattle.uss_law_dss.specs.Fits.{ascend}
use Rattle.uss_rest.proofs.replies.ascend.Given as goal

abbrev pub invariant-loop-i : goal.invariant-loop-i
invariant-loop-i l = ascend (drop l.i l.references) ≡ ascend l.references
