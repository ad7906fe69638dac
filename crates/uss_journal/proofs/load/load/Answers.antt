use Rattle.std.proofs.Common.{◌≡◌, ◌∙◌, ◌≤◌, ℕ, List, [], length, ap, subst, sym, arith, Result, Ok, Err, IfOk, IfErr, MatchResult}
use Rattle.uss_disk.specs.Disk.{bytes_of}
use Rattle.uss_journal.specs.Format.{new_journal}
use Rattle.uss_journal.specs.Gates.{Gated, records_between}
use Rattle.uss_journal.specs.Journal.{StandsFor}
use Rattle.uss_journal.specs.Refusal.{RefusedBy}
use Rattle.uss_journal.specs.Sound.{IsFront}
use Rattle.uss_journal.specs.declared.known.Known.{Known}
use Rattle.uss_journal.specs.declared.refusal.JournalRefusal.{JournalRefusal}
use Rattle.uss_journal.proofs.Stands.{stands_short, stands_front}
use Rattle.uss_journal.proofs.load.load.Goals as goal

-- a new journal is what a short file stands for
made_found : (file : List ℕ) (result : Result Known JournalRefusal) → length file ≤ 9 → IfOk result (λ k. (k.bytes.items ≡ new_journal) × (k.gates.items ≡ []) × (k.last ≡ 8)) → IfErr result (RefusedBy file)
    → MatchResult result (λ k. StandsFor (records_between k.bytes.items 8 k.gates.items) file) (RefusedBy file)
made_found file (Ok k) short made refused = stands_short file short ∙ ap (λ (gs : List ℕ). Ok (records_between k.bytes.items 8 gs)) (sym made.1)
made_found file (Err e) short made refused = refused

scanned_found : (file : List ℕ) (result : Result Known JournalRefusal) → IfOk result (λ k. Gated k.bytes.items k.gates.items k.last) → IfOk result (λ k. IsFront k.bytes.items file) → IfErr result (RefusedBy file)
    → MatchResult result (λ k. StandsFor (records_between k.bytes.items 8 k.gates.items) file) (RefusedBy file)
scanned_found file (Ok k) gated front refused = stands_front k.bytes.items file k.gates.items k.last gated front
scanned_found file (Err e) gated front refused = refused

pub returns-clause-found : goal.returns-clause-found
returns-clause-found g c = λ honest.
    let file = bytes_of (g.D.Disk.reads c.args.disk.now) in
    let still = c.sync.ensures.honest.1 honest in
    let same : bytes_of (g.D.Disk.reads c.sync.new.self) ≡ file = ap bytes_of (c.sync.ensures.reading honest) in
    made_found file c.make.result (omega (arith, c.if-len-gt9.false, c.in_ok-len.ensures.length still, ap length same)) c.make.ensures.made (c.make.ensures.refused_by file)

pub returns-then-len-gt9-clause-found : goal.returns-then-len-gt9-clause-found
returns-then-len-gt9-clause-found g c = λ honest.
    let file = bytes_of (g.D.Disk.reads c.args.disk.now) in
    let still = c.sync.ensures.honest.1 honest in
    let now = c.len.ensures.honest.1 still in
    let same : bytes_of (g.D.Disk.reads c.len.new.self) ≡ file = ap bytes_of ((c.len.ensures.same still).reading ∙ c.sync.ensures.reading honest) in
    subst (λ (f : List ℕ). MatchResult c.scan.result (λ k. StandsFor (records_between k.bytes.items 8 k.gates.items) f) (RefusedBy f)) same
    (scanned_found (bytes_of (g.D.Disk.reads c.len.new.self)) c.scan.result c.scan.ensures.gated (c.scan.ensures.front now) (c.scan.ensures.refused_by now))
