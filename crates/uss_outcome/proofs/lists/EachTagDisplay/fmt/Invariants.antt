use Rattle.std.proofs.Common.{take}
use Rattle.std.specs.Prelude.{decimal}
use Rattle.std.specs.Fmt.{HasWritten, IsPlainFormatter}
use Rattle.std.specs.List.{flat_map}
use Rattle.uss_outcome.specs.Outcomes.{behind}
use Rattle.uss_outcome.proofs.lists.EachTagDisplay.fmt.Given as goal

abbrev pub invariant-loop-tag : goal.invariant-loop-tag
invariant-loop-tag g l =
    IsPlainFormatter l.initial.f → HasWritten g.W.Write.write_str_gives l.initial.f (flat_map (behind decimal) (take l.tag-index l.tag-items)) l.f
