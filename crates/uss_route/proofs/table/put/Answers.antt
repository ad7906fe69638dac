use Rattle.uss_route.proofs.PatternTable.{inserted}
use Rattle.uss_route.proofs.table.put.Goals.{in-Ok, in-Err-OutOfMemory}
use Rattle.uss_route.proofs.table.put.Goals as goal

pub returns : goal.returns
returns c =
    let h = inserted c.args.pattern.now c.args.path c.args.router.now c.insert.new.self c.insert.result c.insert.ensures in
    elim c.match-insert.branch [
      | in-Ok w ↦ rw w.result-is (rw w.in-Ok.is at h)
      | in-Err-OutOfMemory w ↦ rw w.result-is tt
    ]
