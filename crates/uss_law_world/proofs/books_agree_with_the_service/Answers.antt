use Rattle.uss_law_world.proofs.Headline.{agree_after}
use Rattle.uss_law_world.proofs.books_agree_with_the_service.Goals as goal

pub returns : goal.returns
returns c = λ table owners moves names free. agree_after table owners names moves free
