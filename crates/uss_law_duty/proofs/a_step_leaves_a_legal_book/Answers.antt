use Rattle.uss_law_duty.proofs.Stays.{step_is_legal}
use Rattle.uss_law_duty.proofs.a_step_leaves_a_legal_book.Goals as goal

pub returns : goal.returns
returns c = step_is_legal
