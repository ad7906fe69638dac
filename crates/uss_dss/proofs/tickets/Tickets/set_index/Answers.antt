-- The ticket has another index.
use Rattle.std.proofs.Common.{sym}
use Rattle.uss_law_dss.specs.Orderly.{id_of}
use Rattle.uss_dss.proofs.Maps.{found_number, indexed, indexed_by, not_indexed}
use Rattle.uss_dss.proofs.tickets.Tickets.set_index.Goals.{in-Some, in-None}
use Rattle.uss_dss.proofs.tickets.Tickets.set_index.Goals as goal

pub invariant_of-self : goal.invariant_of-self
invariant_of-self c = elim c.match-get_mut.branch [
  | in-Some w ↦ rw (w.self-inside-is, (c.get_mut.follows.holds _).0)
      (indexed_by c.number.result _ _ (found_number id_of c.number.result w.in-Some.t.now _ c.self.invariant (sym w.in-Some.ensures.value)) c.self.invariant)
  | in-None w ↦ rw (w.self-inside-is, c.get_mut.follows.holds-at-none) c.self.invariant
]

pub returns : goal.returns
returns c = elim c.match-get_mut.branch [
  | in-Some w ↦ rw (w.self-inside-is, (c.get_mut.follows.holds _).0, ← c.self.view_is, ← c.number.ensures)
      (indexed c.number.result c.args.index w.in-Some.t.now _ c.self.invariant (sym w.in-Some.ensures.value))
  | in-None w ↦ rw (w.self-inside-is, c.get_mut.follows.holds-at-none, ← c.self.view_is, ← c.number.ensures)
      (not_indexed c.number.result c.args.index _ c.self.invariant (sym w.in-None.ensures.value))
]
