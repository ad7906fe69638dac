use Rattle.std.proofs.Common.{◌∙◌, sym, ap}
use Rattle.uss_text.specs.Lines.{words_left}
use Rattle.uss_text.proofs.Cutting.{next_word_is, words_of-free}
use Rattle.uss_text.proofs.words.Words.next_word.Goals as goal

pub returns-in-Some-cut : goal.returns-in-Some-cut
returns-in-Some-cut c = sym c.self.view_is ∙ ap words_left c.in-Some.is ∙ next_word_is _ _ _ c.in-Some-cut.ensures

pub returns-in-None : goal.returns-in-None
returns-in-None c = sym c.self.view_is ∙ ap words_left c.in-Some.is ∙ words_of-free _ c.in-None.ensures
