use Rattle.std.proofs.Common.{◌≡◌, ◌∙◌, sym, ap, subst, Bool, Some}
use Rattle.std.specs.Prelude.{slice_get}
use Rattle.std.specs.Option.{option_copied}
use Rattle.uss_book.specs.Judge.{IsJudged}
use Rattle.uss_book.proofs.Records.{next_record, still_legal}
use Rattle.uss_book.proofs.judge.entries_of.Goals as goal

pub loop-n-preserved : goal.loop-n-preserved
loop-n-preserved c =
    let es = c.loop-n.kept.entries in
    let now = c.judge.new.kept.entries in
    let bytes = c.unwrap-record.result.now in
    let f = subst (λ (b : Bool). IsJudged es bytes now b) c.if-not-branch.false c.in_ok-judge.ensures in
    let at : slice_get c.args.records.now c.loop-n.n ≡ Some bytes = sym c.item.ensures ∙ ap option_copied c.unwrap-record.ensures in
    (still_legal es now bytes c.loop-n.invariant.0 f, next_record es now c.args.records.now c.loop-n.n bytes c.loop-n.invariant.1 at f)
