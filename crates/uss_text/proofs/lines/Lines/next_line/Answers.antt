use Rattle.std.proofs.Common.{◌∙◌, sym}
use Rattle.uss_text.proofs.Cutting.{next_line_is, last_line_is}
use Rattle.uss_text.proofs.lines.Lines.next_line.Goals as goal

pub returns-in-Some : goal.returns-in-Some
returns-in-Some c = sym c.self.view_is ∙ next_line_is _ _ _ c.in-Some.ensures

pub returns-in-None : goal.returns-in-None
returns-in-None c = sym c.self.view_is ∙ last_line_is _ c.in-None.ensures (sym c.is_empty.ensures ∙ c.if-is_empty.false)
