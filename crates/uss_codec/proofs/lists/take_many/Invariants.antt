use Rattle.std.proofs.Common.{◌≡◌, ◌-◌}
use Rattle.uss_codec.specs.Reading.{many_at}
use Rattle.uss_codec.proofs.Loop.{with_front}
use Rattle.uss_codec.proofs.lists.take_many.Given as goal

abbrev pub invariant-loop : goal.invariant-loop
invariant-loop g l = with_front g.T.Coded.reading l.items.items (many_at g.T.Coded.reading (l.count - l.counter) l.rest) ≡ many_at g.T.Coded.reading l.count l.bytes
