use Rattle.uss_text.proofs.Decimal.{found, every}
use Rattle.uss_text.proofs.numbers.natural.Goals as goal

pub returns-clause-found : goal.returns-clause-found
returns-clause-found c = found c.args.word.now c.parsed_natural.result c.parsed_natural.ensures

pub returns-clause-every : goal.returns-clause-every
returns-clause-every c = every c.args.word.now c.parsed_natural.result c.parsed_natural.ensures
