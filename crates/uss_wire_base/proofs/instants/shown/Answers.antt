use Rattle.std.proofs.Common.{ap, ◌∙◌}
use Rattle.std.specs.Prelude.{is_some}
use Rattle.std.proofs.lemmas.Int.{to_z-of_z}
use Rattle.uss_wire_base.specs.Instants.{is_civil}
use Rattle.uss_wire_base.proofs.CivilDates.{shows_civil, civil_shows, decided, made, fits}
use Rattle.uss_wire_base.proofs.instants.shown.Goals as goal

pub returns-clause-there : goal.returns-clause-there
returns-clause-there c =
    let f = fits c.args.civil c.requires in
    let y = f.year in let m = f.month in let d = f.day in let h = f.hour in let i = f.minute in let s = f.second in let n = f.nanosecond in
    ap is_some c.ok.ensures.value ∙ decided c.new.result _ (is_civil c.args.civil) (simp to_z-of_z at c.new.ensures.succeeds) (shows_civil c.args.civil) (civil_shows c.args.civil c.requires)

pub returns-clause-value : goal.returns-clause-value
returns-clause-value c =
    let f = fits c.args.civil c.requires in
    let y = f.year in let m = f.month in let d = f.day in let h = f.hour in let i = f.minute in let s = f.second in let n = f.nanosecond in
    rw c.ok.ensures.value (made c.args.civil c.new.result (simp to_z-of_z at c.new.ensures.value))
