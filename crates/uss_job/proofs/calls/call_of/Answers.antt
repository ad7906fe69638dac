use Rattle.std.proofs.Common.{◌≡◌, true}
use Rattle.uss_law_book.specs.Contents.{is_put}
use Rattle.uss_job.proofs.Planned.{has_extents}
use Rattle.uss_job.proofs.calls.call_of.Goals as goal

pub ticket_put-requires : goal.ticket_put-requires
ticket_put-requires c =
    let put : is_put c.args.opening.now.ask.wish ≡ true = rw c.in-TicketPut.is at c.requires.area in
    rw c.proposals_of-proposals.ensures (has_extents c.args.entries.now.entries c.args.opening.now c.are_legal.ensures c.requires.opened put)

pub area_round-requires : goal.area_round-requires
area_round-requires c =
    let put : is_put c.args.opening.now.ask.wish ≡ true = rw c.in-Query.is at c.requires.area in
    rw c.proposals_of-proposals.ensures (has_extents c.args.entries.now.entries c.args.opening.now c.are_legal.ensures c.requires.opened put)
