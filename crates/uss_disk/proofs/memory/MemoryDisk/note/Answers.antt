use Rattle.std.proofs.Common.{◌≡◌, ◌∙◌, sym, Bool, true, false, refl, List, ℕ, cond}
use Rattle.uss_disk.specs.Memory.{after_act}
use Rattle.uss_disk.specs.declared.act.Act.{Act}
use Rattle.uss_disk.proofs.Calls.{reading_after}
use Rattle.uss_disk.proofs.memory.MemoryDisk.note.Goals as goal

unchanged : (answer : Bool) (act : Act) (file : List ℕ) → after_act act file ≡ file → file ≡ cond answer (after_act act file) file
unchanged true act file same = sym same
unchanged false act file same = refl

pub invariant_of-self : goal.invariant_of-self
invariant_of-self c =
    c.self.invariant ∙ unchanged _ c.args.act _ (c.requires _) ∙ sym (reading_after _ c.args.act _ _ (c.note.ensures c.self.inside.first.items))
