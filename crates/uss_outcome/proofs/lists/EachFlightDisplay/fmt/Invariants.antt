use Rattle.std.proofs.Common.{take}
use Rattle.std.specs.Fmt.{HasWritten, IsPlainFormatter}
use Rattle.std.specs.List.{flat_map}
use Rattle.uss_intent.specs.Identifiers.{identifier_text}
use Rattle.uss_outcome.specs.Outcomes.{behind}
use Rattle.uss_outcome.proofs.lists.EachFlightDisplay.fmt.Given as goal

abbrev pub invariant-loop-flight : goal.invariant-loop-flight
invariant-loop-flight g l =
    IsPlainFormatter l.initial.f → HasWritten g.W.Write.write_str_gives l.initial.f (flat_map (behind identifier_text) (take l.flight-index l.flight-items)) l.f
