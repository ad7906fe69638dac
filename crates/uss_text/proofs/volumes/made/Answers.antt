use Rattle.std.proofs.Common.{sym, refl}
use Rattle.std.proofs.lemmas.Int.{to_z-of_z}
use Rattle.uss_text.proofs.Made.{outline_refused, volume_refused, volume_made_of}
use Rattle.uss_text.proofs.volumes.made.Goals as goal

pub returns-in-Err : goal.returns-in-Err
returns-in-Err c = rw c.outline_refusal.ensures (sym (outline_refused _ _ _ _ _ _ c.in-Err.ensures.refused))

pub returns-in-Ok-of : goal.returns-in-Ok-of
returns-in-Ok-of c =
    let low = c.ranges.low in
    let high = c.ranges.high in
    let start = c.ranges.start in
    let end = c.ranges.end in
    let made = volume_made_of _ _ _ _ _ _ _ c.in-Ok.ensures.outline c.in-Ok-of.ensures.volume c.in-Ok-of.ensures.accepted in
    simp to_z-of_z at made

pub returns-in-Err-of : goal.returns-in-Err-of
returns-in-Err-of c =
    let low = c.ranges.low in
    let high = c.ranges.high in
    let start = c.ranges.start in
    let end = c.ranges.end in
    let refused = sym (volume_refused _ _ _ _ _ _ (c.in-Ok.ensures.accepted.0 refl) c.in-Err-of.ensures.refused) in
    rw c.volume_refusal.ensures (simp to_z-of_z at refused)
