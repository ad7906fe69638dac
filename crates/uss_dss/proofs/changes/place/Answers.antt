-- The boxes are where the tickets are.
use Rattle.std.proofs.Common.{ℕ, cond, nat_eq, [], ◌∷◌, Option, Some, ◌∙◌, ap, sym, subst}
use Rattle.uss_dss.specs.Located.{area_in, IsWithout, IsNumbered}
use Rattle.uss_dss.proofs.Changed.{area_put}
use Rattle.uss_dss.proofs.Standing.{alike, undone, moved, bounded_as}
use Rattle.uss_dss.proofs.changes.place.Goals as goal

pub returns-in_err-previous-clause-located : goal.returns-in_err-previous-clause-located
returns-in_err-previous-clause-located c =
    alike (area_in c.args.tickets.now) c.args.number c.args.boxes.now c.enter.new.self c.requires.located c.requires.free c.in_err-previous.ensures.err

pub returns-in-Ok-clause-located : goal.returns-in-Ok-clause-located
returns-in-Ok-clause-located c =
    let box = bounded_as _ (c.args.new.area ∷ []) _ c.from_ref.ensures.value c.bounding-bounds.ensures.value c.bounding-bounds.ensures.least in
    moved (area_in c.args.tickets.now) (area_in c.put.new.self) c.args.number c.number-id.result (c.args.new.area ∷ []) c.bounding-bounds.result c.args.boxes.now c.enter.new.self c.forget.new.self
    c.requires.located c.requires.free box.0 box.1 c.in_ok-previous.ensures.ok
    (subst (λ (p : Option ℕ). IsWithout p c.enter.new.self c.forget.new.self) c.in_ok-previous.ensures.previous c.forget.ensures.without) c.forget.ensures.kept
    (λ k. ap (λ ts. area_in ts k) c.in-Ok.ensures.ok ∙ area_put c.args.new c.args.tickets.now k c.requires.new
    ∙ ap (λ i. cond (nat_eq k i) (Some (c.args.new.area ∷ [])) (area_in c.args.tickets.now k)) (sym c.number-id.ensures))

pub returns-in-Err-clause-located : goal.returns-in-Err-clause-located
returns-in-Err-clause-located c =
    rw c.in-Err.ensures.err
    (alike (area_in c.args.tickets.now) c.args.number c.args.boxes.now c.undo.new.self c.requires.located c.requires.free
    (undone c.args.number c.number-id.result c.bounding-bounds.result c.args.boxes.now c.enter.new.self c.undo.new.self c.requires.free c.in_ok-previous.ensures.ok c.undo.ensures.without
    (subst (λ (p : Option ℕ). IsNumbered c.number-id.result p c.enter.new.self c.undo.new.self) c.in_ok-previous.ensures.previous c.undo.ensures.numbered)))
