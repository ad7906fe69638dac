use Rattle.std.proofs.Common.{◌≡◌, ◌∙◌, ap}
use Rattle.uss_intent.specs.declared.records.Reference.{Reference}
use Rattle.uss_key.proofs.Stores.{put_store, put_values, back_store}
use Rattle.uss_key.proofs.store.Store.push.Goals as goal

pub invariant_of-self-in-Ok-insert : goal.invariant_of-self-in-Ok-insert
invariant_of-self-in-Ok-insert c =
    let of : c.number-flight.result ≡ c.args.pair.reference.flight = c.number-flight.ensures ∙ ap (λ (r : Reference). r.flight) c.reference.ensures.value in
    put_store c.self.inside.numbers c.insert.new.self c.self.inside.pairs c.insert-2.new.self c.self.inside.next c.args.pair c.number-flight.result of c.self.invariant (rw (← c.self.view_is) at c.requires.new) (rw (← c.self.view_is) at c.requires.room) c.in-Ok.ensures.updates.0 c.in-Ok-insert.ensures.entries

pub returns-in-Ok-insert-clause-ok : goal.returns-in-Ok-insert-clause-ok
returns-in-Ok-insert-clause-ok c =
    rw (← c.self.view_is) (put_values c.self.inside.numbers c.self.inside.pairs c.insert-2.new.self c.self.inside.next c.args.pair c.self.invariant c.in-Ok-insert.ensures.entries)

pub invariant_of-self-in-Err : goal.invariant_of-self-in-Err
invariant_of-self-in-Err c =
    let of : c.number-flight.result ≡ c.args.pair.reference.flight = c.number-flight.ensures ∙ ap (λ (r : Reference). r.flight) c.reference.ensures.value in
    back_store c.self.inside.numbers c.insert.new.self c.remove.new.self c.self.inside.pairs c.insert-2.new.self c.self.inside.next c.args.pair c.number-flight.result of c.self.invariant (rw (← c.self.view_is) at c.requires.new) c.in-Ok.ensures.updates.0 c.remove.ensures.updates.0 c.in-Err.ensures.err
