use Rattle.std.proofs.Common.{List, ℕ, length, sym, subst}
use Rattle.uss_disk.specs.Disk.{bytes_of, Torn, CrashLeaves}
use Rattle.uss_disk.specs.Left.{Torn-same}
use Rattle.uss_disk.specs.Crash.{crash_begins, crash_goes_on, sync_leaves}
use Rattle.uss_journal.proofs.staged.write_through.Goals as goal

pub returns-clause-crash : goal.returns-clause-crash
returns-clause-crash g c = λ honest only.
    let D = g.D.Disk in
    let old = c.args.disk.now in
    let mid = c.write_at.new.self in
    let file = bytes_of (D.reads old) in
    let P = Torn c.args.at (length c.args.bytes.now) file in
    let still = c.write_at.ensures.honest.1 honest in
    let torn : (image : List ℕ) → D.may_leave mid image → P image = λ image left.
    let was = c.write_at.ensures.crash honest image left in
    subst (λ (f : List ℕ). Torn c.args.at (length c.args.bytes.now) f image) (only was.0 was.1) was.2 in
    let begun = crash_begins D.may_leave D.moment D.left_since old P (λ image. g.met.D.Disk.only_now old image honest) (λ image now. subst P (sym (only image now)) (Torn-same _ _ file)) in
    let wrote : CrashLeaves D.moment D.left_since P old mid = crash_goes_on D.may_leave D.moment D.left_since old old mid P begun (c.write_at.ensures.time honest) torn in
    crash_goes_on D.may_leave D.moment D.left_since old mid c.sync.new.self P wrote (c.sync.ensures.time still)
    (λ image left. torn image (sync_leaves D.reads D.may_leave D.moment D.left_since mid c.sync.new.self _ c.sync.result (g.met.D.Disk.as_it_reads mid still) (c.sync.ensures.durable still) (c.sync.ensures.refused still) image left))
