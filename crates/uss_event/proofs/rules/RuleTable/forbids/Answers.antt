use Rattle.std.proofs.Common.{ap, sym, ◌∙◌}
use Rattle.uss_intent.specs.Numbers.{is_one_of}
use Rattle.uss_event.proofs.Searched.{search_of_a_table}
use Rattle.uss_event.proofs.rules.RuleTable.forbids.Goals as goal

pub returns : goal.returns
returns c =
    let told = search_of_a_table c.self.inside.priorities.items c.args.priority c.binary_search.result c.self.invariant (rw (sym c.deref.ensures.value) c.binary_search.ensures.position) in
    c.is_ok.ensures.value ∙ told ∙ ap (is_one_of c.args.priority) c.self.view_is
