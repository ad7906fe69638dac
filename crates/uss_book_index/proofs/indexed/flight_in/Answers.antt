use Rattle.std.proofs.Common.{◌∙◌, ap, sym, refl}
use Rattle.std.specs.Option.{option_map, option_and_then}
use Rattle.uss_event.specs.declared.entries.Opening.{Opening}
use Rattle.uss_book_rules.specs.Speaks.{opening_in}
use Rattle.uss_book_rules.proofs.Direct.{opening_by_find}
use Rattle.uss_book_index.proofs.indexed.flight_in.Goals as goal

pub returns-in-Held : goal.returns-in-Held
returns-in-Held c = λ are. c.flight_of.ensures ∙ ap (λ o. option_map (λ (p : Opening). p.ask.flight) o) (c.opening.ensures are) ∙ rw c.in-Held.is refl

pub returns-in-Done : goal.returns-in-Done
returns-in-Done c = λ are. c.flight_of-in-Done.ensures ∙ ap (λ o. option_map (λ (p : Opening). p.ask.flight) o) (c.opening-in-Done.ensures are) ∙ rw c.in-Done.is refl
