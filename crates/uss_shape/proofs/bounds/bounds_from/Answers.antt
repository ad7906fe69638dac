use Rattle.std.proofs.Common.{◌∙◌, sym, get_or, ap, List}
use Rattle.std.specs.List.{fold}
use Rattle.std.proofs.lemmas.List.Sums.{fold_more}
use Rattle.std.proofs.lemmas.List.{take_all}
use Rattle.uss_shape.specs.declared.Place.{Place}
use Rattle.uss_shape.specs.declared.Rect.{Rect}
use Rattle.uss_shape.specs.Shape.{grown, spot}
use Rattle.uss_shape.proofs.Walk.{origin}
use Rattle.uss_shape.proofs.Extreme.{grown_covers}
use Rattle.uss_shape.proofs.bounds.bounds_from.Goals as goal

pub loop-v-preserved : goal.loop-v-preserved
loop-v-preserved c =
    let at = get_or c.args.places.now c.loop-v.v-index origin in
    c.grow-r.ensures ∙ ap (λ (r : Rect). grown r at) c.loop-v.invariant ∙ sym (fold_more grown (spot c.args.first) c.args.places.now c.loop-v.v-index origin c.loop-v-test.true)

pub returns-clause-value : goal.returns-clause-value
returns-clause-value c = c.loop-v.invariant ∙ ap (λ (vs : List Place). fold grown (spot c.args.first) vs) (take_all c.loop-v.v-index c.args.places.now c.loop-v-test.false)

pub returns-clause-covers : goal.returns-clause-covers
returns-clause-covers c = rw (returns-clause-value c) (grown_covers c.args.first c.args.places.now)
