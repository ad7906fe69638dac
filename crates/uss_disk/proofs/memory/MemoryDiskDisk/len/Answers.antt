use Rattle.std.proofs.Common.{◌∙◌, true, false, ap, length}
use Rattle.uss_disk.specs.Memory.{MemoryView, reading}
use Rattle.uss_disk.proofs.Calls.{same_meaning, idled, idled_reading}
use Rattle.uss_disk.proofs.memory.MemoryDiskDisk.len.Goals as goal

pub returns-in_err-note-clause-same : goal.returns-in_err-note-clause-same
returns-in_err-note-clause-same c = λ honest. same_meaning _ _ (idled _ _ false _ tt c.in_err-note.ensures)

pub returns-clause-same : goal.returns-clause-same
returns-clause-same c = λ honest. same_meaning _ _ (idled _ _ true _ tt c.in_ok-note.ensures)

pub returns-clause-length : goal.returns-clause-length
returns-clause-length c = λ honest.
    c.len.ensures ∙ c.self.inside.bytes.ok.0
    ∙ ap length (c.self.invariant ∙ ap (λ (v : MemoryView). reading v.first v.calls) c.self.view_is ∙ idled_reading _ _ (idled _ _ true _ tt c.in_ok-note.ensures))
