use Rattle.uss_text.proofs.Signed.{found, every}
use Rattle.uss_text.proofs.numbers.integer.Goals as goal

pub returns-clause-found : goal.returns-clause-found
returns-clause-found c = found c.args.word.now c.parsed_integer.result c.parsed_integer.ensures

pub returns-clause-every : goal.returns-clause-every
returns-clause-every c = every c.args.word.now c.parsed_integer.result c.parsed_integer.ensures
