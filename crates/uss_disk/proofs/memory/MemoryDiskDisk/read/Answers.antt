use Rattle.std.proofs.Common.{◌≡◌, ◌∙◌, ◌+◌, ◌≤◌, true, false, ap, length, arith, List, ℕ, slice_range, rules}
use Rattle.uss_disk.specs.Memory.{MemoryView, reading}
use Rattle.uss_disk.proofs.Calls.{same_meaning, idled, idled_reading}
use Rattle.uss_disk.proofs.memory.MemoryDiskDisk.read.Goals as goal

-- the bytes that are kept are those that a read gave before the call
bytes_are : (c : goal.After-deref) → c.self.inside.bytes.items ≡ reading c.args.self.now.first c.args.self.now.calls
bytes_are c = c.self.invariant ∙ ap (λ (v : MemoryView). reading v.first v.calls) c.self.view_is ∙ idled_reading _ _ (idled _ _ true _ tt c.in_ok-note.ensures)

fits : (c : goal.After-deref) → c.args.at + length c.args.buf.now ≤ length c.self.inside.bytes.items
fits c = omega (arith, c.requires tt, ap length (bytes_are c))

pub returns-in_err-note-clause-same : goal.returns-in_err-note-clause-same
returns-in_err-note-clause-same c = λ honest. same_meaning _ _ (idled _ _ false _ tt c.in_err-note.ensures)

pub returns-clause-same : goal.returns-clause-same
returns-clause-same c = λ honest. same_meaning _ _ (idled _ _ true _ tt c.in_ok-note.ensures)

pub overflow_add-at : goal.overflow_add-at
overflow_add-at c = let within = fits c in search rules

pub slice_bounds-copy_from_slice-end : goal.slice_bounds-copy_from_slice-end
slice_bounds-copy_from_slice-end c = let within = fits c in search rules

pub returns-clause-bytes : goal.returns-clause-bytes
returns-clause-bytes c = λ honest.
    c.copy_from_slice.ensures.after
    ∙ ap (λ (file : List ℕ). slice_range file c.args.at (c.args.at + length c.args.buf.now))
    (c.deref.ensures.value ∙ c.self.invariant ∙ ap (λ (v : MemoryView). reading v.first v.calls) c.self.view_is ∙ idled_reading _ _ (idled _ _ true _ tt c.in_ok-note.ensures))
