use Rattle.std.proofs.Common.{[], ◌∷◌, ◌++◌, ◌≡◌, ap, sym, ◌∙◌}
use Rattle.std.proofs.lemmas.Int.{to_z-of_z}
use Rattle.uss_law_supplier.specs.Monitor.{Watch, seen, watched, finding, is_later_than}
use Rattle.uss_law_supplier.specs.Positions.{sighting_of}
use Rattle.uss_conform.proofs.Judging.{as_counted, with_this, stay_in_order, lost_exactly}
use Rattle.uss_conform.proofs.monitor.Monitor.position.Goals as goal

pub returns-clause-counted : goal.returns-clause-counted
returns-clause-counted c =
    let moment_fits = c.ranges.moment in
    let altitude_fits = c.ranges.altitude in
    let one_more = simp to_z-of_z at c.seen.ensures in
    λ pair p of. one_more ∙ ap (seen c.args.self.now) (sym (as_counted c.args.volumes.now c.args.place c.args.altitude c.args.moment pair p of))

pub returns-clause-every : goal.returns-clause-every
returns-clause-every c =
    let moment_fits = c.ranges.moment in
    let altitude_fits = c.ranges.altitude in
    let one_more = simp to_z-of_z at c.seen.ensures in
    let not_late = simp to_z-of_z at c.in_default.ensures in
    λ before pair p w of.
    let counted : c.seen.result ≡ seen c.args.self.now (sighting_of pair p c.args.moment) = (
    one_more ∙ ap (seen c.args.self.now) (sym (as_counted c.args.volumes.now c.args.place c.args.altitude c.args.moment pair p of))) in
    let after : c.seen.result ≡ watched (before ++ sighting_of pair p c.args.moment ∷ []) = (
    with_this c.args.self.now c.seen.result before (sighting_of pair p c.args.moment) w counted) in
    (ap (λ (v : Watch). is_later_than c.args.moment v.last) (sym w) ∙ sym not_late, c.finding.ensures ∙ ap finding after, after)

pub returns-clause-in_order : goal.returns-clause-in_order
returns-clause-in_order c =
    let moment_fits = c.ranges.moment in
    let not_late = simp to_z-of_z at c.in_default.ensures in
    λ before pair p w o. stay_in_order c.args.self.now before (sighting_of pair p c.args.moment) w o (sym not_late)

pub returns-clause-lost : goal.returns-clause-lost
returns-clause-lost c =
    let moment_fits = c.ranges.moment in
    let altitude_fits = c.ranges.altitude in
    let one_more = simp to_z-of_z at c.seen.ensures in
    let not_late = simp to_z-of_z at c.in_default.ensures in
    λ before pair p w o of.
    let counted : c.seen.result ≡ seen c.args.self.now (sighting_of pair p c.args.moment) = (
    one_more ∙ ap (seen c.args.self.now) (sym (as_counted c.args.volumes.now c.args.place c.args.altitude c.args.moment pair p of))) in
    let after : c.seen.result ≡ watched (before ++ sighting_of pair p c.args.moment ∷ []) = (
    with_this c.args.self.now c.seen.result before (sighting_of pair p c.args.moment) w counted) in
    lost_exactly c.seen.result c.finding.result (before ++ sighting_of pair p c.args.moment ∷ []) after c.finding.ensures
    (stay_in_order c.args.self.now before (sighting_of pair p c.args.moment) w o (sym not_late))
