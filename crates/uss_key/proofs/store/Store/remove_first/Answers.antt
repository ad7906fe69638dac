use Rattle.std.proofs.Common.{◌≡◌, ◌∙◌, ap}
use Rattle.uss_intent.specs.declared.records.Reference.{Reference}
use Rattle.uss_key.proofs.Stores.{first_store}
use Rattle.uss_key.proofs.store.Store.remove_first.Goals as goal

pub invariant_of-self : goal.invariant_of-self
invariant_of-self c =
    let of : c.number.result ≡ c.in-Some.pair.reference.flight = c.number.ensures ∙ ap (λ (r : Reference). r.flight) c.reference.ensures.value in
    first_store c.self.inside.numbers c.remove.new.self c.self.inside.pairs c.pop_first.new.self c.self.inside.next (c.in-Some.field-0-0, c.in-Some.pair) c.number.result of c.self.invariant c.in-Some.ensures.removal c.remove.ensures.updates.0
