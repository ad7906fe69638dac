use Rattle.uss_rest.proofs.Pairs.{plain}
use Rattle.uss_rest.proofs.laws.errors_without_references.Goals as goal

pub returns : goal.returns
returns c = plain
