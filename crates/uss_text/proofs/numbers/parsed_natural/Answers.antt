use Rattle.std.proofs.Common.{◌≡◌, true, ◌∙◌}
use Rattle.uss_text.specs.Numbers.{is_natural}
use Rattle.uss_text.proofs.Digits.{natural_parsed, natural_utf8}
use Rattle.uss_text.proofs.numbers.parsed_natural.Goals as goal

pub returns-in-Ok : goal.returns-in-Ok
returns-in-Ok c =
    let yes : is_natural c.args.word.now ≡ true = cc in
    let parsed = rw c.in-Ok.ensures.cases.0 at c.parse.ensures.value.0 in
    c.ok.ensures.value ∙ natural_parsed c.args.word.now c.parse.result yes parsed

pub returns-in-Err : goal.returns-in-Err
returns-in-Err c =
    let yes : is_natural c.args.word.now ≡ true = cc in
    absurd (c.in-Err.ensures.cases.0 (natural_utf8 c.args.word.now yes))
