use Rattle.std.proofs.Common.{◌≡◌, rules, SFits, w64}
use Rattle.std.proofs.lemmas.Int.{to_z-of_z}
use Rattle.uss_vol4.specs.Volume.{IsVolume}
use Rattle.uss_vol4.specs.Gaps.{later}
use Rattle.uss_vol4.proofs.Gapped.{later_is_volume}
use Rattle.uss_vol4.proofs.Volume4.later.Goals as goal

pub made_of-requires : goal.made_of-requires
made_of-requires c =
    let f1 : SFits w64 c.low.result = search rules in
    let f2 : SFits w64 c.high.result = search rules in
    let f3 : SFits w64 c.start.result = search rules in
    let f4 : SFits w64 c.later_end-end.result = search rules in
    let e : c.in-Ok.outline ≡ c.args.self.now.outline = search rules in
    let v : IsVolume (later c.args.gap c.args.self.now) = later_is_volume c.args.gap c.args.self.now c.later_end-end.ensures.volume in
    simp to_z-of_z (rw (e, c.low.ensures, c.high.ensures, c.start.ensures, c.later_end-end.ensures.end) v)
