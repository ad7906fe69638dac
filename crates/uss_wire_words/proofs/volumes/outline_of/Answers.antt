use Rattle.std.proofs.Common.{◌∙◌, ap, sym, refl, Ok, Err}
use Rattle.uss_wire_words.proofs.Made.{outline_refused, outline_made}
use Rattle.uss_wire_words.proofs.volumes.outline_of.Goals as goal

pub returns-in-Ok : goal.returns-in-Ok
returns-in-Ok c = outline_made c.args.vertices.items (c.in-Ok.ensures.accepted.0 refl) ∙ ap Ok (sym c.in-Ok.ensures.outline)

pub returns-in-Err : goal.returns-in-Err
returns-in-Err c = λ _. outline_refused c.args.vertices.items _ c.in-Err.ensures.refused ∙ ap Err (sym c.outline_refusal.ensures)
