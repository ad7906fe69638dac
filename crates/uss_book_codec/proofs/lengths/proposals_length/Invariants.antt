use Rattle.std.proofs.Common.{◌≡◌, ◌≤◌, ◌*◌, take}
use Rattle.std.specs.List.{sum_by}
use Rattle.uss_law_book.specs.Coding.{proposal_length}
use Rattle.uss_book_codec.proofs.lengths.proposals_length.Given as goal

abbrev pub invariant-loop-proposal : goal.invariant-loop-proposal
invariant-loop-proposal l = (l.total ≡ sum_by proposal_length (take l.proposal-index l.proposals)) × (l.total ≤ 8178362 * l.proposal-index)
