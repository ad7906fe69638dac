use Rattle.std.proofs.Common.{◌∙◌, sym, ap, true, false, List, ℕ, take}
use Rattle.uss_disk.proofs.Calls.{reading_after}
use Rattle.uss_disk.proofs.memory.MemoryDisk.shorten.Goals as goal

pub invariant_of-self : goal.invariant_of-self
invariant_of-self c = c.self.invariant ∙ sym (reading_after _ _ false _ (c.in_err-note.ensures c.self.inside.first.items))

pub invariant_of-self-2 : goal.invariant_of-self-2
invariant_of-self-2 c =
    c.truncate.ensures.items
    ∙ ap (λ (file : List ℕ). take c.args.len file) c.self.invariant
    ∙ sym (reading_after _ _ true _ (c.in_ok-note.ensures c.self.inside.first.items))
