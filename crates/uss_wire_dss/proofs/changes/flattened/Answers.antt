use Rattle.std.proofs.Common.{List, ◌++◌, ap, ◌∙◌, sym}
use Rattle.uss_intent.specs.declared.records.Subscriber.{Subscriber}
use Rattle.uss_wire_dss.specs.ChangesAndErrors.{owed_by}
use Rattle.uss_wire_dss.proofs.Flat.{owed_more}
use Rattle.uss_wire_dss.proofs.changes.flattened.Goals as goal

pub loop-one-preserved : goal.loop-one-preserved
loop-one-preserved c = c.in_ok-append.ensures ∙ ap (λ (a : List Subscriber). a ++ owed_by c.in-Some.one) c.loop-one.invariant ∙ sym (owed_more c.loop-one.yielded c.in-Some.one)
