use Rattle.std.proofs.Common.{◌∙◌, sym, ap, true, false, List, ℕ}
use Rattle.uss_disk.specs.Disk.{written}
use Rattle.uss_disk.proofs.Calls.{reading_after}
use Rattle.uss_disk.proofs.memory.MemoryDisk.put.Goals as goal

pub invariant_of-self-in_err-note : goal.invariant_of-self-in_err-note
invariant_of-self-in_err-note c = c.reserve.ensures.items ∙ c.self.invariant ∙ sym (reading_after _ _ false _ (c.in_err-note.ensures c.self.inside.first.items))

pub invariant_of-self-2 : goal.invariant_of-self-2
invariant_of-self-2 c =
    c.overwrite.ensures
    ∙ ap (λ (b : List ℕ). written c.args.at b c.reserve.new.self.items) (sym (c.new.ensures ∙ c.in-Ok.ensures.items))
    ∙ ap (λ (file : List ℕ). written c.args.at c.new.result file) (c.reserve.ensures.items ∙ c.self.invariant)
    ∙ sym (reading_after _ _ true _ (c.in_ok-note.ensures c.self.inside.first.items))
