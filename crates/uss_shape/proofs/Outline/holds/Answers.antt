use Rattle.std.proofs.Common.{◌∙◌}
use Rattle.uss_shape.proofs.Answer.{same_test, region_holds_tells}
use Rattle.uss_shape.proofs.Outline.holds.Goals as goal

pub returns-clause-test : goal.returns-clause-test
returns-clause-test c =
    let e = c.as_slice.ensures.value ∙ c.self.view_is in
    same_test _ _ (rw e at c.holds_in.ensures) (region_holds_tells c.args.self.now c.args.p)
