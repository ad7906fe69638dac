use Rattle.std.proofs.Common.{◌≡◌, true, arith}
use Rattle.uss_event.specs.Plans.{extents_of, is_least_start}
use Rattle.uss_wire_uss.proofs.Timed.{timed_found, timed_none}
use Rattle.uss_wire_uss.proofs.intents.timed.Goals as goal

pub returns-in-Some : goal.returns-in-Some
returns-in-Some c =
    let start : is_least_start c.args.reference.start (extents_of c.args.details) ≡ true = grind (arith, c.starts_at.ensures, c.if-not-starts_at.false) in
    timed_found c.args.reference c.args.details c.in-Some.pair (record { shown = c.requires.shown; plan = c.requires.plan; start = start }) c.in-Some.ensures

pub returns-in-None : goal.returns-in-None
returns-in-None c =
    let start : is_least_start c.args.reference.start (extents_of c.args.details) ≡ true = grind (arith, c.starts_at.ensures, c.if-not-starts_at.false) in
    timed_none c.args.reference c.args.details (record { shown = c.requires.shown; plan = c.requires.plan; start = start }) c.in-None.ensures
