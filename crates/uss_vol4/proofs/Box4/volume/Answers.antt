use Rattle.std.proofs.Common.{rules, SFits, w64}
use Rattle.std.proofs.lemmas.Int.{to_z-of_z}
use Rattle.uss_vol4.proofs.Round.{ranges_of, only_memory}
use Rattle.uss_vol4.proofs.Box4.volume.Goals as goal

pub returns-in-Ok-clause-volume : goal.returns-in-Ok-clause-volume
returns-in-Ok-clause-volume c =
    let f1 : SFits w64 c.args.self.now.low = search rules in
    let f2 : SFits w64 c.args.self.now.high = search rules in
    let f3 : SFits w64 c.args.self.now.start = search rules in
    let f4 : SFits w64 c.args.self.now.end = search rules in
    let h = simp to_z-of_z at c.of.ensures.volume in
    rw c.in-Ok.ensures.corners at h

pub returns-in-Ok-clause-refused : goal.returns-in-Ok-clause-refused
returns-in-Ok-clause-refused c =
    let f1 : SFits w64 c.args.self.now.low = search rules in
    let f2 : SFits w64 c.args.self.now.high = search rules in
    let f3 : SFits w64 c.args.self.now.start = search rules in
    let f4 : SFits w64 c.args.self.now.end = search rules in
    only_memory c.args.self.now c.of.result (ranges_of c.args.self.now c.requires) (simp to_z-of_z at c.of.ensures.refused)
