use Rattle.uss_index.proofs.Bounded.{sharing_lists}
use Rattle.uss_index.proofs.laws.sharing_lists_have_boxes_that_meet.Goals as goal

pub returns : goal.returns
returns c = sharing_lists
