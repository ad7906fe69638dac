use Rattle.std.proofs.Common.{◌∙◌, sym, arith}
use Rattle.uss_law_book.specs.Contents.{trials_of}
use Rattle.uss_book_index.proofs.InTurn.{got_final, none_final}
use Rattle.uss_book_index.proofs.entries.Entries.last_trial.Goals as goal

pub returns-then-made-eq0 : goal.returns-then-made-eq0
returns-then-made-eq0 c = sym (none_final (trials_of c.args.job c.args.self.now.entries) (sym c.attempts-made.ensures ∙ c.if-made-eq0.true))

pub returns-else-made-eq0 : goal.returns-else-made-eq0
returns-else-made-eq0 c = c.trial_at.ensures ∙ got_final (trials_of c.args.job c.args.self.now.entries) _ (omega (arith, c.attempts-made.ensures))
