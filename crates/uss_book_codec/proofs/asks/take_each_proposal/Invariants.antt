use Rattle.std.proofs.Common.{◌≡◌, ◌-◌}
use Rattle.uss_codec.specs.Reading.{many_at}
use Rattle.uss_codec.proofs.Loop.{with_front}
use Rattle.uss_book_codec.specs.Reading.{proposal_at}
use Rattle.uss_book_codec.proofs.asks.take_each_proposal.Given as goal

abbrev pub invariant-loop : goal.invariant-loop
invariant-loop l = with_front proposal_at l.items.items (many_at proposal_at (l.count - l.counter) l.rest) ≡ many_at proposal_at l.count l.bytes
