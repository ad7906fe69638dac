use Rattle.std.proofs.Common.{◌≡◌, ◌∙◌, inr, arith}
use Rattle.std.proofs.lemmas.Grind.{common_steps}
use Rattle.uss_disk.proofs.record.Record.note.Goals as goal

pub returns-then-is_err : goal.returns-then-is_err
returns-then-is_err c = λ first.
    let none = c.no_room.ensures first in
    let same : c.push.new.self.items ≡ c.args.self.now.calls.items = grind (arith, common_steps) in
    inr (record { first = none.first; calls = none.calls ∙ same; failing = none.failing; counted = none.counted })
