use Rattle.std.proofs.Common.{rules, ◌≡◌, ℕ, List, Option, ap, sym, subst}
use Rattle.uss_disk.specs.Disk.{bytes_of, CrashLeaves}
use Rattle.uss_journal.specs.Gates.{records_between, tried_of}
use Rattle.uss_journal.specs.Journal.{JournalView, WithOrWithout}
use Rattle.uss_journal.proofs.Remount.{crash_known, sound_untouched, sound_mounted, ready}
use Rattle.uss_journal.proofs.journal.Journal.find.Goals as goal

pub invariant_of-self : goal.invariant_of-self
invariant_of-self g c =
    let D = g.D.Disk in
    let old = c.self.inside in
    let e = c.in-Ok.ensures in (
      sound_mounted D.reads D.may_leave D.is_honest old.disk c.load.new.disk old.known.bytes.items old.known.gates.items old.known.last old.spent c.self.invariant.0 e.honest.0
          (g.met.D.Disk.as_it_reads old.disk) e.file e.kept (λ honest. (e.synced honest).durable),
      ready D.reads D.may_leave D.is_honest old.disk c.load.new.disk c.in-Ok.found e.honest.0 e.gated e.whole e.found e.kept e.synced,
    )

pub invariant_of-self-else-eq : goal.invariant_of-self-else-eq
invariant_of-self-else-eq g c =
    let D = g.D.Disk in
    let old = c.self.inside in
    (sound_untouched D.reads D.may_leave D.is_honest old.disk c.load.new.disk old.known.bytes.items old.known.gates.items old.known.last old.spent c.self.invariant.0 c.in-Err.ensures.honest.0 (search rules), tt)

pub returns-in-Ok-clause-kept : goal.returns-in-Ok-clause-kept
returns-in-Ok-clause-kept g c = λ honest.
    let D = g.D.Disk in
    let old = c.self.inside in
    let is_disk : old.disk ≡ c.args.self.now.disk = ap (λ (v : JournalView g.row.D.Denot). v.disk) c.self.view_is in
    let still : D.is_honest old.disk = subst D.is_honest (sym is_disk) honest in
    subst (λ (v : JournalView g.row.D.Denot). WithOrWithout v.records v.tried (bytes_of (D.reads v.disk))) c.self.view_is
    (c.self.invariant.0.left still (bytes_of (D.reads old.disk)) (g.met.D.Disk.as_it_reads old.disk still))

pub returns-in-Ok-clause-crash : goal.returns-in-Ok-clause-crash
returns-in-Ok-clause-crash g c = λ honest.
    let D = g.D.Disk in
    let old = c.self.inside in
    let is_disk : old.disk ≡ c.args.self.now.disk = ap (λ (v : JournalView g.row.D.Denot). v.disk) c.self.view_is in
    let is_records : records_between old.known.bytes.items 8 old.known.gates.items ≡ c.args.self.now.records = ap (λ (v : JournalView g.row.D.Denot). v.records) c.self.view_is in
    let is_tried : tried_of old.known.bytes.items old.known.last ≡ c.args.self.now.tried = ap (λ (v : JournalView g.row.D.Denot). v.tried) c.self.view_is in
    let still : D.is_honest old.disk = subst D.is_honest (sym is_disk) honest in
    let leaves = crash_known D.moment D.left_since old.disk c.load.new.disk (D.may_leave old.disk) (records_between old.known.bytes.items 8 old.known.gates.items) (tried_of old.known.bytes.items old.known.last)
    (bytes_of (D.reads old.disk)) (c.self.invariant.0.left still) (g.met.D.Disk.as_it_reads old.disk still) (c.load.ensures.crash still) in
    subst (λ (d : g.row.D.Denot). CrashLeaves D.moment D.left_since (WithOrWithout c.args.self.now.records c.args.self.now.tried) d c.load.new.disk) is_disk
    (subst (λ (rs : List (List ℕ)). CrashLeaves D.moment D.left_since (WithOrWithout rs c.args.self.now.tried) old.disk c.load.new.disk) is_records
    (subst (λ (t : Option (List ℕ)). CrashLeaves D.moment D.left_since (WithOrWithout (records_between old.known.bytes.items 8 old.known.gates.items) t) old.disk c.load.new.disk) is_tried leaves))

pub returns-then-eq-clause-crash : goal.returns-then-eq-clause-crash
returns-then-eq-clause-crash g c = λ honest.
    let D = g.D.Disk in
    let old = c.self.inside in
    let is_disk : old.disk ≡ c.args.self.now.disk = ap (λ (v : JournalView g.row.D.Denot). v.disk) c.self.view_is in
    let is_records : records_between old.known.bytes.items 8 old.known.gates.items ≡ c.args.self.now.records = ap (λ (v : JournalView g.row.D.Denot). v.records) c.self.view_is in
    let is_tried : tried_of old.known.bytes.items old.known.last ≡ c.args.self.now.tried = ap (λ (v : JournalView g.row.D.Denot). v.tried) c.self.view_is in
    let still : D.is_honest old.disk = subst D.is_honest (sym is_disk) honest in
    let leaves = crash_known D.moment D.left_since old.disk c.load.new.disk (D.may_leave old.disk) (records_between old.known.bytes.items 8 old.known.gates.items) (tried_of old.known.bytes.items old.known.last)
    (bytes_of (D.reads old.disk)) (c.self.invariant.0.left still) (g.met.D.Disk.as_it_reads old.disk still) (c.load.ensures.crash still) in
    subst (λ (d : g.row.D.Denot). CrashLeaves D.moment D.left_since (WithOrWithout c.args.self.now.records c.args.self.now.tried) d c.load.new.disk) is_disk
    (subst (λ (rs : List (List ℕ)). CrashLeaves D.moment D.left_since (WithOrWithout rs c.args.self.now.tried) old.disk c.load.new.disk) is_records
    (subst (λ (t : Option (List ℕ)). CrashLeaves D.moment D.left_since (WithOrWithout (records_between old.known.bytes.items 8 old.known.gates.items) t) old.disk c.load.new.disk) is_tried leaves))

pub returns-else-eq-clause-crash : goal.returns-else-eq-clause-crash
returns-else-eq-clause-crash g c = λ honest.
    let D = g.D.Disk in
    let old = c.self.inside in
    let is_disk : old.disk ≡ c.args.self.now.disk = ap (λ (v : JournalView g.row.D.Denot). v.disk) c.self.view_is in
    let is_records : records_between old.known.bytes.items 8 old.known.gates.items ≡ c.args.self.now.records = ap (λ (v : JournalView g.row.D.Denot). v.records) c.self.view_is in
    let is_tried : tried_of old.known.bytes.items old.known.last ≡ c.args.self.now.tried = ap (λ (v : JournalView g.row.D.Denot). v.tried) c.self.view_is in
    let still : D.is_honest old.disk = subst D.is_honest (sym is_disk) honest in
    let leaves = crash_known D.moment D.left_since old.disk c.load.new.disk (D.may_leave old.disk) (records_between old.known.bytes.items 8 old.known.gates.items) (tried_of old.known.bytes.items old.known.last)
    (bytes_of (D.reads old.disk)) (c.self.invariant.0.left still) (g.met.D.Disk.as_it_reads old.disk still) (c.load.ensures.crash still) in
    subst (λ (d : g.row.D.Denot). CrashLeaves D.moment D.left_since (WithOrWithout c.args.self.now.records c.args.self.now.tried) d c.load.new.disk) is_disk
    (subst (λ (rs : List (List ℕ)). CrashLeaves D.moment D.left_since (WithOrWithout rs c.args.self.now.tried) old.disk c.load.new.disk) is_records
    (subst (λ (t : Option (List ℕ)). CrashLeaves D.moment D.left_since (WithOrWithout (records_between old.known.bytes.items 8 old.known.gates.items) t) old.disk c.load.new.disk) is_tried leaves))
