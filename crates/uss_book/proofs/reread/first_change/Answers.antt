use Rattle.std.proofs.Common.{arith, ◌≡◌, ◌∙◌, sym, ap, Some}
use Rattle.std.specs.Prelude.{slice_get}
use Rattle.std.specs.Option.{option_copied}
use Rattle.uss_book.proofs.Rereading.{take_step, all_taken}
use Rattle.uss_book.proofs.reread.first_change.Goals as goal

pub loop-n-preserved : goal.loop-n-preserved
loop-n-preserved c =
    let there : slice_get c.args.found.now c.loop-n.n ≡ Some c.unwrap.result.now = sym c.item.ensures ∙ c.is_there.ensures.0 c.if-not-is_there.false in
    let is : slice_get c.args.known.now c.loop-n.n ≡ Some c.unwrap.result.now = sym c.item-in-loop-n.ensures ∙ ap option_copied c.unwrap.ensures in
    take_step c.args.found.now c.args.known.now c.loop-n.n c.unwrap.result.now there is c.loop-n.invariant

pub returns : goal.returns
returns c = all_taken c.args.found.now c.args.known.now c.loop-n.n (omega (arith, c.loop-n-test.false, c.count-n-end.ensures)) c.loop-n.invariant
