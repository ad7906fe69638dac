use Rattle.std.proofs.Common.{ap, Err}
use Rattle.uss_app.proofs.Telling.{too_large_says}
use Rattle.uss_app.proofs.answer.answer_to.Goals as goal

pub returns-in-Err-TooLarge-clause-says : goal.returns-in-Err-TooLarge-clause-says
returns-in-Err-TooLarge-clause-says g c left is =
    too_large_says c.args.command left c.refused.result (c.in-Err-TooLarge.ensures.too_large left is (ap Err c.in-Err-TooLarge.field-0-is)) c.refused.ensures.status c.refused.ensures.text
