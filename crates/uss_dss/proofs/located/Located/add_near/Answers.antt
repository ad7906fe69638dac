-- Whose boxes are found are near.
use Rattle.std.proofs.Common.{◌||◌, ◌∙◌, ap, sym}
use Rattle.std.specs.List.{list_any}
use Rattle.std.specs.BTreeSet.{contains}
use Rattle.std.specs.Ordering.{nat_cmp}
use Rattle.std.proofs.lemmas.Grind.{get_or_default_zero}
use Rattle.std.proofs.lemmas.List.{take_all}
use Rattle.uss_dss.specs.Located.{whose, is_that}
use Rattle.uss_dss.proofs.Found.{one_more_number, near_numbers}
use Rattle.uss_dss.proofs.located.Located.add_near.Goals as goal

pub loop-n-preserved : goal.loop-n-preserved
loop-n-preserved c = λ k. one_more_number c.args.self.now _ c.loop-n.n-index _ k _ _ _ c.loop-n-test.true (sym (get_or_default_zero _ _ _ c.loop-n-test.true)) (c.loop-n.invariant k) (c.in_ok-add_owner.ensures k)

pub returns : goal.returns
returns c = λ what j id.
    c.loop-n.invariant id
    ∙ ap (λ xs. contains nat_cmp c.args.near.now id || list_any (λ n. is_that (whose n c.args.self.now) id) xs) (take_all c.loop-n.n-index c.deref-n-items.result.now c.loop-n-test.false ∙ c.deref-n-items.ensures.value)
    ∙ ap (λ t. contains nat_cmp c.args.near.now id || t) (near_numbers what c.args.self.now c.args.q.now id _ j c.in_ok-candidates.ensures.points)
