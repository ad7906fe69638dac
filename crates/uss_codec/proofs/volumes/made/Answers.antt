use Rattle.std.proofs.lemmas.Int.{to_z-of_z}
use Rattle.uss_codec.proofs.Made.{not_outline, not_volume, is_made}
use Rattle.uss_codec.proofs.volumes.made.Goals as goal

pub returns-in-Err : goal.returns-in-Err
returns-in-Err c = not_outline c.args.vertices.items c.args.low c.args.high c.args.start c.args.end (λ o. let k = c.in-Err.ensures.accepted.1 o in cc)

pub returns-in-Ok-of : goal.returns-in-Ok-of
returns-in-Ok-of c =
    let low = c.ranges.low in
    let high = c.ranges.high in
    let start = c.ranges.start in
    let end = c.ranges.end in
    let made = is_made _ _ _ _ _ _ _ c.in-Ok.ensures.outline c.in-Ok-of.ensures.volume c.in-Ok-of.ensures.accepted in
    simp to_z-of_z at made

pub returns-in-Err-of : goal.returns-in-Err-of
returns-in-Err-of c =
    let low = c.ranges.low in
    let high = c.ranges.high in
    let start = c.ranges.start in
    let end = c.ranges.end in
    let refused = not_volume c.args.vertices.items _ _ _ _ _ c.in-Err-of.ensures.refused in
    simp to_z-of_z at refused
