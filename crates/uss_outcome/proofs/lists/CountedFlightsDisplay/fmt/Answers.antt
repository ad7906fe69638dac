use Rattle.std.proofs.Common.{rules}
use Rattle.std.specs.Prelude.{length, decimal}
use Rattle.uss_intent.specs.Identifiers.{identifier_text}
use Rattle.uss_outcome.proofs.Sentences.{sentence_parts}
use Rattle.uss_outcome.proofs.lists.CountedFlightsDisplay.fmt.Goals as goal

pub returns-clause-writes : goal.returns-clause-writes
returns-clause-writes g c = rw (sentence_parts (decimal (length c.args.self.now.flights.now)) identifier_text c.args.self.now.flights.now) (search rules)
