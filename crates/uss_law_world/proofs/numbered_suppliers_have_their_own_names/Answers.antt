use Rattle.uss_law_world.proofs.Product.{numbered_are_suppliers}
use Rattle.uss_law_world.proofs.numbered_suppliers_have_their_own_names.Goals as goal

pub returns : goal.returns
returns c = numbered_are_suppliers
