-- Everything was looked up.
use Rattle.std.proofs.Common.{rules, ◌≡◌, []}
use Rattle.uss_law_dss.specs.Orderly.{id_of}
use Rattle.uss_dss.proofs.Those.{ended}
use Rattle.uss_dss.proofs.tickets.Tickets.those.Goals as goal

pub returns : goal.returns
returns c =
    let none : c.loop-id.id-iterator ≡ [] = search rules in
    ended id_of _ c.args.self.now c.loop-id.id-iterator c.args.ids.now.keys c.loop-id.invariant none c.into_iter-id-iterator.ensures.into_iter_gives.4 c.requires
