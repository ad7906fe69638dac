use Rattle.std.proofs.Common.{◌∙◌, ap, sym}
use Rattle.uss_book_rules.specs.States.{state_by_holding}
use Rattle.uss_book_rules.proofs.HeldState.{held_state_says}
use Rattle.uss_book_rules.proofs.opens.held_state.Goals as goal

pub returns : goal.returns
returns g c = c.state_by_holding.ensures ∙ ap (state_by_holding _) c.holding.ensures ∙ sym (held_state_says c.args.flight _)
