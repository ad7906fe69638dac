-- The boxes are where the references are.
use Rattle.std.proofs.Common.{ℕ, cond, nat_eq, Option, Some, ◌∙◌, ap, sym, subst}
use Rattle.uss_dss.specs.Located.{extents_in, IsWithout, IsNumbered}
use Rattle.uss_dss.proofs.Changed.{extents_put}
use Rattle.uss_dss.proofs.Standing.{alike, undone, moved}
use Rattle.uss_dss.proofs.changes.place_reference.Goals as goal

pub returns-in_err-earlier-clause-located : goal.returns-in_err-earlier-clause-located
returns-in_err-earlier-clause-located c =
    alike (extents_in c.args.references.now) c.args.number c.args.boxes.now c.enter.new.self c.requires.located c.requires.free c.in_err-earlier.ensures.err

pub returns-in-Ok-clause-located : goal.returns-in-Ok-clause-located
returns-in-Ok-clause-located c =
    moved (extents_in c.args.references.now) (extents_in c.put.new.self) c.args.number c.key_of-flight.result c.args.new.extents c.bounds_of-bounds.result c.args.boxes.now c.enter.new.self c.forget.new.self
    c.requires.located c.requires.free c.bounds_of-bounds.ensures.least c.bounds_of-bounds.ensures.value c.in_ok-earlier.ensures.ok
    (subst (λ (p : Option ℕ). IsWithout p c.enter.new.self c.forget.new.self) c.in_ok-earlier.ensures.previous c.forget.ensures.without) c.forget.ensures.kept
    (λ k. ap (λ ts. extents_in ts k) c.in-Ok.ensures.ok ∙ extents_put c.args.new c.args.references.now k
    ∙ ap (λ i. cond (nat_eq k i) (Some c.args.new.extents) (extents_in c.args.references.now k)) (sym c.key_of-flight.ensures))

pub returns-in-Err-clause-located : goal.returns-in-Err-clause-located
returns-in-Err-clause-located c =
    rw c.in-Err.ensures.err
    (alike (extents_in c.args.references.now) c.args.number c.args.boxes.now c.undo.new.self c.requires.located c.requires.free
    (undone c.args.number c.key_of-flight.result c.bounds_of-bounds.result c.args.boxes.now c.enter.new.self c.undo.new.self c.requires.free c.in_ok-earlier.ensures.ok c.undo.ensures.without
    (subst (λ (p : Option ℕ). IsNumbered c.key_of-flight.result p c.enter.new.self c.undo.new.self) c.in_ok-earlier.ensures.previous c.undo.ensures.numbered)))
