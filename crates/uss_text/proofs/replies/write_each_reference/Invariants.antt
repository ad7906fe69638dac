use Rattle.std.proofs.Common.{◌≡◌, ◌++◌, take}
use Rattle.std.specs.Prelude.{string_bytes}
use Rattle.std.specs.List.{flat_map}
use Rattle.uss_text.specs.Replies.{reference_line}
use Rattle.uss_text.proofs.replies.write_each_reference.Given as goal

abbrev pub invariant-loop-reference : goal.invariant-loop-reference
invariant-loop-reference l = string_bytes l.text ≡ string_bytes l.initial.text ++ flat_map reference_line (take l.reference-index l.list)
