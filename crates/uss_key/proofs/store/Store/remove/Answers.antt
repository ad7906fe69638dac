use Rattle.std.proofs.Common.{sym}
use Rattle.uss_key.proofs.Stores.{taken_store, taken_values, nothing_taken}
use Rattle.uss_key.proofs.store.Store.remove.Goals as goal

pub invariant_of-self : goal.invariant_of-self
invariant_of-self c =
    taken_store _ _ _ _ _ c.number.result c.in-Some.number c.self.invariant (sym c.in-Some.ensures.value) c.remove.ensures.updates.0 c.remove-in-Some.ensures.entries

pub returns-in-Some : goal.returns-in-Some
returns-in-Some c =
    rw (← c.self.view_is, ← c.number.ensures) (taken_values c.self.inside.numbers c.self.inside.pairs c.remove-in-Some.new.self c.self.inside.next c.number.result c.in-Some.number c.self.invariant (sym c.in-Some.ensures.value) c.remove-in-Some.ensures.entries)

pub returns-in-None : goal.returns-in-None
returns-in-None c = rw (← c.self.view_is, ← c.number.ensures) (sym (nothing_taken _ _ _ c.number.result c.self.invariant (sym c.in-None.ensures.value)))
