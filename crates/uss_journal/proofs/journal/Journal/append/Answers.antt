use Rattle.std.proofs.Common.{◌≡◌, ◌∙◌, ◌+◌, ◌-◌, ◌<◌, ◌≤◌, ◌^◌, ℕ, [], ◌∷◌, ◌++◌, List, length, set, refl, sym, ap, subst, arith, Some}
use Rattle.uss_disk.specs.Disk.{bytes_of, CrashLeaves}
use Rattle.uss_cause.specs.Cause.{Rose}
use Rattle.uss_journal.specs.declared.known.Known.{Known}
use Rattle.uss_journal.specs.Format.{used_of}
use Rattle.uss_journal.specs.Gates.{records_between}
use Rattle.uss_journal.specs.Journal.{JournalView, WithOrWithout, staged_of, with_appended}
use Rattle.uss_journal.specs.Sound.{IsSynced}
use Rattle.uss_journal.proofs.Append.{sound_tried, sound_appended, crash_appended, none_from_not, room_is, synced_appended, now_known, known_records, stands_known, staged_records, used_is, file_appended}
use Rattle.uss_journal.proofs.journal.Journal.append.Goals as goal

pub invariant_of-self-in-Ok : goal.invariant_of-self-in-Ok
invariant_of-self-in-Ok g c =
    let D = g.D.Disk in
    let old = c.self.inside in
    let inv = c.self.invariant.0 in
    let unspent = none_from_not old.spent c.in_default.not-Some in
    let whole = inv.whole unspent in
    let entry = c.args.bytes.now in
    let small : length entry < 2 ^ 32 = omega (arith, c.if-bytes-saturating_sub.false, c.saturating_sub.ensures) in
    let now = now_known old.known.bytes.items old.known.gates.items old.known.last inv.gated whole entry small c.stage.new.self c.commit.new.known c.in_ok-stage.ensures.ok c.stage.ensures.gates c.stage.ensures.last c.in-Ok.ensures.ok in
    let synced_new : D.is_honest c.commit.new.disk → IsSynced (set (old.known.bytes.items ++ staged_of entry) old.known.last 1) (bytes_of (D.reads c.commit.new.disk)) (D.may_leave c.commit.new.disk) = λ honest.
    let still = c.commit.ensures.honest.0 honest in
    synced_appended old.known.bytes.items old.known.gates.items old.known.last inv.gated whole entry small (bytes_of (D.reads old.disk)) (inv.synced still unspent).front
    c.stage.new.self.bytes.items c.stage.new.self.last c.in_ok-stage.ensures.ok c.stage.ensures.last (bytes_of (D.reads c.commit.new.disk)) (D.may_leave c.commit.new.disk)
    (c.in-Ok.ensures.reading still) (c.in-Ok.ensures.durable still) in (
      sound_appended D.reads D.may_leave D.is_honest c.commit.new.disk old.known.bytes.items old.known.gates.items old.known.last inv.gated whole entry small
          c.commit.new.known.bytes.items c.commit.new.known.gates.items c.commit.new.known.last old.spent now.is_bytes now.is_gates now.is_last synced_new,
      tt,
    )

pub returns-in-Ok-clause-crash : goal.returns-in-Ok-clause-crash
returns-in-Ok-clause-crash g c = λ honest none.
    let D = g.D.Disk in
    let old = c.self.inside in
    let inv = c.self.invariant.0 in
    let unspent = none_from_not old.spent c.in_default.not-Some in
    let whole = inv.whole unspent in
    let entry = c.args.bytes.now in
    let small : length entry < 2 ^ 32 = omega (arith, c.if-bytes-saturating_sub.false, c.saturating_sub.ensures) in
    let is_disk : old.disk ≡ c.args.self.now.disk = ap (λ (v : JournalView g.row.D.Denot). v.disk) c.self.view_is in
    let is_records : records_between old.known.bytes.items 8 old.known.gates.items ≡ c.args.self.now.records = ap (λ (v : JournalView g.row.D.Denot). v.records) c.self.view_is in
    let is_spent : old.spent ≡ c.args.self.now.spent = ap (λ (v : JournalView g.row.D.Denot). v.spent) c.self.view_is in
    let still : D.is_honest old.disk = subst D.is_honest (sym is_disk) honest in
    let synced = inv.synced still unspent in
    let leaves = crash_appended D.moment D.left_since old.disk c.commit.new.disk old.known.bytes.items old.known.gates.items old.known.last inv.gated whole entry small
    (bytes_of (D.reads old.disk)) synced.front c.stage.new.self.bytes.items c.stage.new.self.last c.in_ok-stage.ensures.ok c.stage.ensures.last (c.commit.ensures.crash still synced.durable) in
    subst (λ (d : g.row.D.Denot). CrashLeaves D.moment D.left_since (WithOrWithout c.args.self.now.records (Some entry)) d c.commit.new.disk) is_disk
    (subst (λ (rs : List (List ℕ)). CrashLeaves D.moment D.left_since (WithOrWithout rs (Some entry)) old.disk c.commit.new.disk) is_records leaves)

pub returns-in-Err-clause-crash : goal.returns-in-Err-clause-crash
returns-in-Err-clause-crash g c = λ honest none.
    let D = g.D.Disk in
    let old = c.self.inside in
    let inv = c.self.invariant.0 in
    let unspent = none_from_not old.spent c.in_default.not-Some in
    let whole = inv.whole unspent in
    let entry = c.args.bytes.now in
    let small : length entry < 2 ^ 32 = omega (arith, c.if-bytes-saturating_sub.false, c.saturating_sub.ensures) in
    let is_disk : old.disk ≡ c.args.self.now.disk = ap (λ (v : JournalView g.row.D.Denot). v.disk) c.self.view_is in
    let is_records : records_between old.known.bytes.items 8 old.known.gates.items ≡ c.args.self.now.records = ap (λ (v : JournalView g.row.D.Denot). v.records) c.self.view_is in
    let is_spent : old.spent ≡ c.args.self.now.spent = ap (λ (v : JournalView g.row.D.Denot). v.spent) c.self.view_is in
    let still : D.is_honest old.disk = subst D.is_honest (sym is_disk) honest in
    let synced = inv.synced still unspent in
    let leaves = crash_appended D.moment D.left_since old.disk c.commit.new.disk old.known.bytes.items old.known.gates.items old.known.last inv.gated whole entry small
    (bytes_of (D.reads old.disk)) synced.front c.stage.new.self.bytes.items c.stage.new.self.last c.in_ok-stage.ensures.ok c.stage.ensures.last (c.commit.ensures.crash still synced.durable) in
    subst (λ (d : g.row.D.Denot). CrashLeaves D.moment D.left_since (WithOrWithout c.args.self.now.records (Some entry)) d c.commit.new.disk) is_disk
    (subst (λ (rs : List (List ℕ)). CrashLeaves D.moment D.left_since (WithOrWithout rs (Some entry)) old.disk c.commit.new.disk) is_records leaves)

pub returns-in-Ok-clause-answer : goal.returns-in-Ok-clause-answer
returns-in-Ok-clause-answer g c =
    let D = g.D.Disk in
    let old = c.self.inside in
    let inv = c.self.invariant.0 in
    let unspent = none_from_not old.spent c.in_default.not-Some in
    let whole = inv.whole unspent in
    let entry = c.args.bytes.now in
    let small : length entry < 2 ^ 32 = omega (arith, c.if-bytes-saturating_sub.false, c.saturating_sub.ensures) in
    let is_disk : old.disk ≡ c.args.self.now.disk = ap (λ (v : JournalView g.row.D.Denot). v.disk) c.self.view_is in
    let is_records : records_between old.known.bytes.items 8 old.known.gates.items ≡ c.args.self.now.records = ap (λ (v : JournalView g.row.D.Denot). v.records) c.self.view_is in
    let is_spent : old.spent ≡ c.args.self.now.spent = ap (λ (v : JournalView g.row.D.Denot). v.spent) c.self.view_is in
    let now = now_known old.known.bytes.items old.known.gates.items old.known.last inv.gated whole entry small c.stage.new.self c.commit.new.known c.in_ok-stage.ensures.ok c.stage.ensures.gates c.stage.ensures.last c.in-Ok.ensures.ok in
    let room = room_is (used_of (records_between old.known.bytes.items 8 old.known.gates.items)) (length entry) c.saturating_sub.result c.if-bytes-saturating_sub.false (c.saturating_sub.ensures ∙ ap (λ (n : ℕ). 536870912 - n) c.used.ensures) in
    let fits = subst (λ (rs : List (List ℕ)). used_of rs + 5 + length entry ≤ 536870912) is_records room in
    let both = known_records old.known.bytes.items old.known.gates.items old.known.last inv.gated whole entry small c.commit.new.known.bytes.items c.commit.new.known.gates.items c.commit.new.known.last now in
    record {
      unspent = sym is_spent ∙ unspent;
      fits = fits;
      last = both.0 ∙ ap (λ (rs : List (List ℕ)). rs ++ entry ∷ []) is_records;
      reopened = unspent;
      untried = both.1;
      forgotten = refl;
    }

pub returns-in-Ok-clause-durable : goal.returns-in-Ok-clause-durable
returns-in-Ok-clause-durable g c = λ honest image may.
    let D = g.D.Disk in
    let old = c.self.inside in
    let inv = c.self.invariant.0 in
    let unspent = none_from_not old.spent c.in_default.not-Some in
    let whole = inv.whole unspent in
    let entry = c.args.bytes.now in
    let small : length entry < 2 ^ 32 = omega (arith, c.if-bytes-saturating_sub.false, c.saturating_sub.ensures) in
    let now = now_known old.known.bytes.items old.known.gates.items old.known.last inv.gated whole entry small c.stage.new.self c.commit.new.known c.in_ok-stage.ensures.ok c.stage.ensures.gates c.stage.ensures.last c.in-Ok.ensures.ok in
    let synced_new : D.is_honest c.commit.new.disk → IsSynced (set (old.known.bytes.items ++ staged_of entry) old.known.last 1) (bytes_of (D.reads c.commit.new.disk)) (D.may_leave c.commit.new.disk) = λ honest.
    let still = c.commit.ensures.honest.0 honest in
    synced_appended old.known.bytes.items old.known.gates.items old.known.last inv.gated whole entry small (bytes_of (D.reads old.disk)) (inv.synced still unspent).front
    c.stage.new.self.bytes.items c.stage.new.self.last c.in_ok-stage.ensures.ok c.stage.ensures.last (bytes_of (D.reads c.commit.new.disk)) (D.may_leave c.commit.new.disk)
    (c.in-Ok.ensures.reading still) (c.in-Ok.ensures.durable still) in
    let is_disk : old.disk ≡ c.args.self.now.disk = ap (λ (v : JournalView g.row.D.Denot). v.disk) c.self.view_is in
    let still : D.is_honest c.commit.new.disk = c.commit.ensures.honest.1 (subst D.is_honest (sym is_disk) honest) in
    stands_known old.known.bytes.items old.known.gates.items old.known.last inv.gated whole entry small c.commit.new.known.bytes.items c.commit.new.known.gates.items c.commit.new.known.last now
    (bytes_of (D.reads c.commit.new.disk)) (D.may_leave c.commit.new.disk) (synced_new still) image may

pub returns-in-Err-clause-answer : goal.returns-in-Err-clause-answer
returns-in-Err-clause-answer g c =
    let D = g.D.Disk in
    let old = c.self.inside in
    let inv = c.self.invariant.0 in
    let unspent = none_from_not old.spent c.in_default.not-Some in
    let whole = inv.whole unspent in
    let entry = c.args.bytes.now in
    let small : length entry < 2 ^ 32 = omega (arith, c.if-bytes-saturating_sub.false, c.saturating_sub.ensures) in
    let is_disk : old.disk ≡ c.args.self.now.disk = ap (λ (v : JournalView g.row.D.Denot). v.disk) c.self.view_is in
    let is_records : records_between old.known.bytes.items 8 old.known.gates.items ≡ c.args.self.now.records = ap (λ (v : JournalView g.row.D.Denot). v.records) c.self.view_is in
    let is_spent : old.spent ≡ c.args.self.now.spent = ap (λ (v : JournalView g.row.D.Denot). v.spent) c.self.view_is in
    let room = room_is (used_of (records_between old.known.bytes.items 8 old.known.gates.items)) (length entry) c.saturating_sub.result c.if-bytes-saturating_sub.false (c.saturating_sub.ensures ∙ ap (λ (n : ℕ). 536870912 - n) c.used.ensures) in
    let fits = subst (λ (rs : List (List ℕ)). used_of rs + 5 + length entry ≤ 536870912) is_records room in
    let err = c.in-Err.ensures.err in
    let is_bytes = ap (λ (k : Known). k.bytes.items) err ∙ c.in_ok-stage.ensures.ok in
    let is_gates = ap (λ (k : Known). k.gates.items) err ∙ c.stage.ensures.gates in
    let is_last = ap (λ (k : Known). k.last) err ∙ c.stage.ensures.last in
    let both = staged_records old.known.bytes.items old.known.gates.items old.known.last inv.gated whole entry small c.commit.new.known.bytes.items c.commit.new.known.gates.items c.commit.new.known.last is_bytes is_gates is_last in
    record {
      unspent = sym is_spent ∙ unspent;
      fits = fits;
      cause = subst (λ (d : g.row.D.Denot). Rose (D.fault_count d) (D.fault_count c.commit.new.disk)) is_disk c.in-Err.ensures.count.cause;
      records = both.0 ∙ is_records;
      spent = ap (λ (n : ℕ). Some n) c.faults.ensures;
      tried = both.1;
      forgotten = refl;
    }

pub invariant_of-self-in-Err : goal.invariant_of-self-in-Err
invariant_of-self-in-Err g c =
    let D = g.D.Disk in
    let old = c.self.inside in
    let inv = c.self.invariant.0 in
    let unspent = none_from_not old.spent c.in_default.not-Some in
    let whole = inv.whole unspent in
    let entry = c.args.bytes.now in
    let small : length entry < 2 ^ 32 = omega (arith, c.if-bytes-saturating_sub.false, c.saturating_sub.ensures) in
    let err = c.in-Err.ensures.err in
    let is_bytes = ap (λ (k : Known). k.bytes.items) err ∙ c.in_ok-stage.ensures.ok in
    let is_gates = ap (λ (k : Known). k.gates.items) err ∙ c.stage.ensures.gates in
    let is_last = ap (λ (k : Known). k.last) err ∙ c.stage.ensures.last in (
      sound_tried D.reads D.may_leave D.is_honest c.commit.new.disk old.known.bytes.items old.known.gates.items old.known.last inv.gated whole entry small
          c.commit.new.known.bytes.items c.commit.new.known.gates.items c.commit.new.known.last c.faults.result is_bytes is_gates is_last
          (λ honest image may.
          let still = c.commit.ensures.honest.0 honest in
          let synced = inv.synced still unspent in
          let leaves = crash_appended D.moment D.left_since old.disk c.commit.new.disk old.known.bytes.items old.known.gates.items old.known.last inv.gated whole entry small
          (bytes_of (D.reads old.disk)) synced.front c.stage.new.self.bytes.items c.stage.new.self.last c.in_ok-stage.ensures.ok c.stage.ensures.last (c.commit.ensures.crash still synced.durable) in
          leaves.each image (g.met.D.Disk.counts_now c.commit.new.disk (D.moment old.disk) image honest leaves.later may)),
      tt,
    )

pub returns-in-Ok-clause-file : goal.returns-in-Ok-clause-file
returns-in-Ok-clause-file g c = λ honest.
    let D = g.D.Disk in
    let old = c.self.inside in
    let inv = c.self.invariant.0 in
    let unspent = none_from_not old.spent c.in_default.not-Some in
    let whole = inv.whole unspent in
    let entry = c.args.bytes.now in
    let small : length entry < 2 ^ 32 = omega (arith, c.if-bytes-saturating_sub.false, c.saturating_sub.ensures) in
    let is_disk : old.disk ≡ c.args.self.now.disk = ap (λ (v : JournalView g.row.D.Denot). v.disk) c.self.view_is in
    let is_records : records_between old.known.bytes.items 8 old.known.gates.items ≡ c.args.self.now.records = ap (λ (v : JournalView g.row.D.Denot). v.records) c.self.view_is in
    let still : D.is_honest old.disk = subst D.is_honest (sym is_disk) honest in
    let used : old.known.last + 1 ≡ used_of c.args.self.now.records = used_is old.known.bytes.items old.known.gates.items old.known.last inv.gated ∙ ap used_of is_records in
    c.in-Ok.ensures.reading still
    ∙ file_appended old.known.bytes.items old.known.gates.items old.known.last inv.gated whole entry small c.stage.new.self.bytes.items c.stage.new.self.last c.in_ok-stage.ensures.ok c.stage.ensures.last (bytes_of (D.reads old.disk)) (used_of c.args.self.now.records) used
    ∙ ap (λ (d : g.row.D.Denot). with_appended (used_of c.args.self.now.records) entry (bytes_of (D.reads d))) is_disk
