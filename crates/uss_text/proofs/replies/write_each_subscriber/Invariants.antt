use Rattle.std.proofs.Common.{◌≡◌, ◌++◌, take}
use Rattle.std.specs.Prelude.{string_bytes}
use Rattle.std.specs.List.{flat_map}
use Rattle.uss_text.specs.Replies.{subscriber_line}
use Rattle.uss_text.proofs.replies.write_each_subscriber.Given as goal

abbrev pub invariant-loop-subscriber : goal.invariant-loop-subscriber
invariant-loop-subscriber l = string_bytes l.text ≡ string_bytes l.initial.text ++ flat_map subscriber_line (take l.subscriber-index l.list)
