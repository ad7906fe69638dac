use Rattle.std.proofs.Common.{Some, None, sym, ◌∙◌}
use Rattle.uss_key.proofs.Stores.{found_pair}
use Rattle.uss_key.proofs.store.Store.get.Goals as goal

pub returns-in_default : goal.returns-in_default
returns-in_default c =
    rw (← c.self.view_is, ← c.number.ensures) (found_pair _ _ _ c.number.result None c.self.invariant (sym c.in_default.ensures.value))

pub returns : goal.returns
returns c =
    rw (← c.self.view_is, ← c.number.ensures) (c.get-2.ensures.value ∙ found_pair _ _ _ c.number.result (Some c.in-Some.number.now) c.self.invariant (sym c.in-Some.ensures.value))
