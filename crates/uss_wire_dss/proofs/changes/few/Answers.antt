use Rattle.std.proofs.Common.{Ok, sym, ap, ◌∙◌}
use Rattle.uss_intent.specs.Limits.{most_tickets}
use Rattle.uss_wire_dss.specs.ChangesAndErrors.{fit}
use Rattle.uss_wire_dss.proofs.Flat.{few_fit, many_refused}
use Rattle.uss_wire_dss.proofs.changes.few.Goals as goal

pub returns-in_ok-flattened : goal.returns-in_ok-flattened
returns-in_ok-flattened c =
    few_fit c.args.member c.args.lists.items (sym (ap (fit most_tickets) c.as_slice.ensures.value) ∙ sym c.are_few.ensures ∙ c.if-are_few.true) ∙ ap Ok (sym c.in_ok-flattened.ensures)

pub returns-else-are_few : goal.returns-else-are_few
returns-else-are_few c = λ _. many_refused c.args.member c.args.lists.items (sym (ap (fit most_tickets) c.as_slice.ensures.value) ∙ sym c.are_few.ensures ∙ c.if-are_few.false)
