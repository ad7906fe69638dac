use Rattle.std.proofs.Common.{◌≤◌, length, arith}
use Rattle.std.proofs.lemmas.Grind.{common_steps}
use Rattle.uss_http.proofs.HeadSteps.{short_phrase}
use Rattle.uss_http.proofs.writing.status_line.Goals as goal

pub add-requires-4 : goal.add-requires-4
add-requires-4 c = let short : length c.phrase.result.now ≤ 31 = short_phrase c.args.status c.phrase.result.now c.phrase.ensures in grind (arith, common_steps)

pub returns-clause-short : goal.returns-clause-short
returns-clause-short c = let short : length c.phrase.result.now ≤ 31 = short_phrase c.args.status c.phrase.result.now c.phrase.ensures in grind (arith, common_steps)
