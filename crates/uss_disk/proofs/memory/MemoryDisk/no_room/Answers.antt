use Rattle.std.proofs.Common.{◌∙◌, sym, ap}
use Rattle.uss_disk.specs.declared.act.Call.{Call}
use Rattle.std.specs.Prelude.{List}
use Rattle.uss_disk.specs.Memory.{reading}
use Rattle.uss_disk.proofs.memory.MemoryDisk.no_room.Goals as goal

pub invariant_of-self : goal.invariant_of-self
invariant_of-self c = c.self.invariant ∙ ap (λ (cs : List Call). reading c.self.inside.first.items cs) (sym (c.no_room.ensures c.self.inside.first.items).calls)

pub returns : goal.returns
returns c = rw (← c.self.view_is) (c.no_room.ensures c.self.inside.first.items)
