use Rattle.std.proofs.Common.{◌∙◌}
use Rattle.uss_key.proofs.Stores.{has_pair}
use Rattle.uss_key.proofs.store.Store.has.Goals as goal

pub returns : goal.returns
returns c = rw (← c.self.view_is, ← c.number.ensures) (c.contains_key.ensures ∙ has_pair _ _ _ c.number.result c.self.invariant)
