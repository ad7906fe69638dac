use Rattle.std.proofs.Common.{sym}
use Rattle.std.proofs.lemmas.Int.{to_z-of_z}
use Rattle.uss_wire_words.proofs.Made.{volume_refused, volume_made_of}
use Rattle.uss_wire_words.proofs.volumes.made.Goals as goal

pub returns-in-Ok : goal.returns-in-Ok
returns-in-Ok c =
    let low = c.ranges.low in
    let high = c.ranges.high in
    let start = c.ranges.start in
    let end = c.ranges.end in
    let made = sym (volume_made_of _ _ _ _ c.in-Ok.ensures.volume c.in-Ok.ensures.accepted) in
    simp to_z-of_z at made

pub returns-in-Err : goal.returns-in-Err
returns-in-Err c =
    let low = c.ranges.low in
    let high = c.ranges.high in
    let start = c.ranges.start in
    let end = c.ranges.end in
    let why = simp to_z-of_z at c.in-Err.ensures.refused in
    rw c.volume_refusal.ensures (sym (volume_refused (record { outline = c.args.outline; low = c.args.low; high = c.args.high }) c.args.start c.args.end c.in-Err.refusal why))
