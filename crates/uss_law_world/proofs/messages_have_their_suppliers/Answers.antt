use Rattle.uss_law_world.proofs.Parties.{reached_placed}
use Rattle.uss_law_world.proofs.messages_have_their_suppliers.Goals as goal

pub returns : goal.returns
returns c = reached_placed
