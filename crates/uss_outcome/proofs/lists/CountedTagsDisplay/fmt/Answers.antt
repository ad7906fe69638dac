use Rattle.std.proofs.Common.{rules}
use Rattle.std.specs.Prelude.{length, decimal}
use Rattle.uss_outcome.proofs.Sentences.{sentence_parts}
use Rattle.uss_outcome.proofs.lists.CountedTagsDisplay.fmt.Goals as goal

pub returns-clause-writes : goal.returns-clause-writes
returns-clause-writes g c = rw (sentence_parts (decimal (length c.args.self.now.tags.now)) decimal c.args.self.now.tags.now) (search rules)
