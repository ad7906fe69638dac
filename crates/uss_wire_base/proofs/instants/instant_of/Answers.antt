use Rattle.std.proofs.Common.{◌∙◌, subst, sym, refl}
use Rattle.std.proofs.lemmas.Int.{to_z-of_z}
use Rattle.jiff_core.specs.DateTime.{civil_nanos}
use Rattle.jiff_core.specs.Timestamp.{IsTimestampNanos}
use Rattle.jiff_core.specs.declared.offset.Offset.{Offset}
use Rattle.jiff_core.specs.declared.timestamp.Timestamp.{Timestamp}
use Rattle.uss_wire_base.proofs.CivilDates.{fits, answer_there, answer_far, offset_in, never_err, moment_at}
use Rattle.uss_wire_base.proofs.instants.instant_of.Goals as goal

pub returns-in_default-from_seconds : goal.returns-in_default-from_seconds
returns-in_default-from_seconds c =
    let e = (fits c.args.civil c.requires).east in
    absurd (never_err Offset c.in_default-from_seconds.field-0 _ (simp to_z-of_z at c.in_default-from_seconds.ensures.succeeds) (offset_in c.args.civil.east c.requires.east))

pub returns-in-Ok-to_timestamp : goal.returns-in-Ok-to_timestamp
returns-in-Ok-to_timestamp c =
    let e = (fits c.args.civil c.requires).east in
    c.in_range.ensures ∙ answer_there c.args.civil _ c.in-Some.ensures.there (moment_at c.args.civil (civil_nanos c.in-Some.shown) _ c.in-Ok.offset.seconds c.in-Ok-to_timestamp.ensures.value c.in-Some.ensures.value (simp to_z-of_z at c.in-Ok.ensures.value))

pub returns-in-Err : goal.returns-in-Err
returns-in-Err c =
    let e = (fits c.args.civil c.requires).east in
    answer_far c.args.civil c.in-Some.ensures.there (λ there. never_err Timestamp c.in-Err.field-0 _ c.in-Err.ensures.succeeds (subst IsTimestampNanos (sym (moment_at c.args.civil (civil_nanos c.in-Some.shown) _ c.in-Ok.offset.seconds refl c.in-Some.ensures.value (simp to_z-of_z at c.in-Ok.ensures.value))) there))
