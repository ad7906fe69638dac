use Rattle.std.proofs.Common.{◌≡◌, drop}
use Rattle.uss_event.specs.Rules.{ascend}
use Rattle.uss_event.proofs.rules.ascend.Given as goal

abbrev pub invariant-loop-i : goal.invariant-loop-i
invariant-loop-i l = ascend (drop l.i l.numbers) ≡ ascend l.numbers
