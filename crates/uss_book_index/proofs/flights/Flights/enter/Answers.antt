use Rattle.std.proofs.Common.{sym, ap, ◌∙◌, ◌≡◌, cond, Some, None}
use Rattle.std.specs.BTreeMap as tree
use Rattle.std.specs.BTreeMap.{is_at}
use Rattle.std.specs.Ordering.{nat_cmp}
use Rattle.uss_book_index.specs.Flights.{flight_after}
use Rattle.uss_book_index.proofs.Places.{done}
use Rattle.uss_book_index.proofs.Flown.{flown, flights_stay}
use Rattle.uss_book_index.proofs.flights.Flights.enter.Goals as goal

pub returns-in-Some-get : goal.returns-in-Some-get
returns-in-Some-get c =
    let old = c.args.self.now.flights in
    let f = c.in-Some-get.row.now in
    let flight = c.in-Some.flight in
    let here : tree.get nat_cmp old flight ≡ Some f = sym c.in-Some-get.ensures.value in
    let put = done c.insert.result c.insert.ensures.updates c.insert.ensures.absent (λ none. let e : Some f ≡ None = sym here ∙ none in cc) in
    λ es are s d at place.
    flown old c.insert.new.self es c.args.e.now flight f are s d (at ∙ c.in-Some.is) here
    (λ q. put.0 q ∙ ap (λ x. cond (is_at (nat_cmp flight) q) (Some x) (tree.get nat_cmp old q)) (c.after-more.ensures ∙ ap (λ n. flight_after f c.args.e.now n) (sym place)))

pub returns-in-None : goal.returns-in-None
returns-in-None c = λ es are s d at place. flights_stay c.args.self.now.flights es c.args.e.now are s d (at ∙ c.in-None.is)
