use Rattle.std.proofs.Common.{◌≡◌, ◌++◌, take}
use Rattle.std.specs.List.{flat_map}
use Rattle.uss_book_codec.specs.Coding.{proposal}
use Rattle.uss_book_codec.proofs.asks.put_each_proposal.Given as goal

abbrev pub invariant-loop-value : goal.invariant-loop-value
invariant-loop-value l = l.out.items ≡ l.fn.out.items ++ flat_map proposal (take l.value-index l.values)
