use Rattle.std.proofs.Common.{◌∙◌, ◌≡◌, is_some, true}
use Rattle.std.specs.BTreeMap as tree
use Rattle.std.specs.Ordering.{nat_cmp}
use Rattle.uss_book_index.proofs.Places.{done}
use Rattle.uss_book_index.proofs.Recorded.{recorded, records_stay, not_missing}
use Rattle.uss_book_index.proofs.records.Records.enter.Goals as goal

pub returns-in-Some-flight : goal.returns-in-Some-flight
returns-in-Some-flight c =
    let old = c.args.self.now.pairs in
    let flight = c.in-Some-flight.flight in
    let there : is_some (tree.get nat_cmp old flight) ≡ true = rw c.in-Some-flight.is at c.requires in
    let put = done c.insert.result c.insert.ensures.updates c.insert.ensures.absent (not_missing (tree.get nat_cmp old flight) there) in
    λ es e are s d at some. recorded old c.insert.new.self es e flight c.in-Some.pair are s d (at ∙ c.in-Some-flight.is) (some ∙ c.in-Some.is) put.0

pub returns-in-None : goal.returns-in-None
returns-in-None c = λ es e are s d at none. records_stay c.args.self.now.pairs es e are s d (none ∙ c.in-None.is)
