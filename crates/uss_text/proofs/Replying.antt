-- The line of a reference, in parts.
use Rattle.std.proofs.Common.{◌≡◌, ◌++◌, append_assoc}
use Rattle.uss_intent.specs.declared.records.Reference.{Reference}
use Rattle.uss_text.specs.Replies.{ovn_text, reference_front, reference_back, reference_line}

pub reference_parts : (r : Reference) → reference_line r ≡ reference_front r ++ (ovn_text r.ovn ++ reference_back r)
unfolding reference_line
reference_parts r = simp append_assoc
