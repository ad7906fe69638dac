-- The state after the call is orderly, and the new ticket's box is with the others.
use Rattle.std.proofs.Common.{◌+◌, length, ◌∙◌, ap, sym, refl}
use Rattle.uss_intent.specs.declared.calls.DssAsk.TheVariants.{TicketPut}
use Rattle.uss_law_dss.specs.Service.{Service}
use Rattle.uss_dss.proofs.Orderly.{closed}
use Rattle.uss_dss.proofs.Keeping.{free_ticket, located_as, kept_same, kept_put}
use Rattle.uss_dss.proofs.Dss.ticket_put.Goals as goal

pub place-requires-clause-free : goal.place-requires-clause-free
place-requires-clause-free c =
    free_ticket _ c.self.inside.reference_boxes c.self.inside.ticket_boxes c.next_ticket-number.result c.self.invariant
    (c.next_ticket-number.ensures ∙ ap (λ (s : Service). length s.tickets + length s.retired_tickets) (sym c.self.view_is))

pub invariant_of-self : goal.invariant_of-self
invariant_of-self c =
    rw c.in_err-place.ensures.err
    (kept_same _ c.self.inside.reference_boxes c.self.inside.ticket_boxes c.place.new.boxes c.self.invariant (located_as _ _ _ c.in_err-place.ensures.err c.in_err-place.ensures.located) c.in_err-place.ensures.kept)

pub invariant_of-self-2 : goal.invariant_of-self-2
invariant_of-self-2 c =
    kept_put _ _ c.in_ok-new.new c.next_ticket-number.result c.self.inside.reference_boxes c.self.inside.ticket_boxes c.place.new.boxes c.self.invariant refl refl c.in_ok-place.ensures.ok refl
    (rw (c.in_ok-place.ensures.ok, c.in_ok-new.ensures)
    (closed _ c.args.self.now c.args.client.now (TicketPut c.args.ticket c.args.area.now c.args.base.now) c.self.view_is c.self.invariant.orderly c.requires))
    (located_as _ _ _ c.in_ok-place.ensures.ok c.in_ok-place.ensures.located)
    (c.next_ticket-number.ensures ∙ ap (λ (s : Service). length s.tickets + length s.retired_tickets) (sym c.self.view_is))
    c.in_ok-place.ensures.numbered
