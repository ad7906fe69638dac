use Rattle.std.proofs.Common.{◌∙◌, ◌≡◌, is_some, true}
use Rattle.std.specs.BTreeMap as tree
use Rattle.uss_book_index.specs.OrdinalOrder.{ordinal_cmp}
use Rattle.uss_book_index.proofs.Places.{done}
use Rattle.uss_book_index.proofs.Recorded.{not_missing}
use Rattle.uss_book_index.proofs.InTurn.{ordinals_grow, ordinals_stay}
use Rattle.uss_book_index.proofs.ordinals.Ordinals.enter.Goals as goal

pub returns-in-Some : goal.returns-in-Some
returns-in-Some c =
    let old = c.args.self.now.places in
    let o = c.in-Some.ordinal in
    let there : is_some (tree.get ordinal_cmp old o) ≡ true = rw c.in-Some.is at c.requires in
    let put = done c.insert.result c.insert.ensures.updates c.insert.ensures.absent (not_missing (tree.get ordinal_cmp old o) there) in
    λ es e are makes at. ordinals_grow old c.insert.new.self es e o c.args.place are (makes ∙ c.in-Some.is) at put.0

pub returns-in-None : goal.returns-in-None
returns-in-None c = λ es e are makes at. ordinals_stay c.args.self.now.places es e are (makes ∙ c.in-None.is)
