-- The state after the call is orderly, and the ticket's box is out.
use Rattle.std.proofs.Common.{ℕ, None, [], ◌∷◌, ◌++◌, ◌∙◌, ap, refl, subst}
use Rattle.uss_dss.specs.Located.{number_of, IsWithout, IsNumbered}
use Rattle.uss_dss.proofs.Orderly.{ticket_taken_out}
use Rattle.uss_dss.proofs.Keeping.{kept_removed}
use Rattle.uss_dss.proofs.Dss.ticket_remove.Goals as goal

pub remove-requires : goal.remove-requires
remove-requires c = c.self.invariant.orderly.tickets_ascend

pub invariant_of-self-2 : goal.invariant_of-self-2
invariant_of-self-2 c =
    kept_removed _ _ c.in_ok-reply-in-Some.reply.id c.self.inside.reference_boxes c.self.inside.ticket_boxes c.leave.new.self c.self.invariant refl refl c.remove.ensures
    (c.in_ok-push.ensures.ok ∙ ap (λ (i : ℕ). c.self.inside.retired_tickets ++ i ∷ []) c.number.ensures)
    (rw (c.remove.ensures, c.in_ok-push.ensures.ok, c.number.ensures)
    (ticket_taken_out _ c.args.self.now c.args.client.now c.args.ticket c.args.version c.in-Some.t.now c.in_ok-reply-in-Some.reply
    c.self.view_is c.self.invariant.orderly c.requires c.in-Some.ensures c.in_ok-reply-in-Some.ensures.cases))
    (subst (λ (i : ℕ). IsWithout (number_of i c.self.inside.ticket_boxes) c.self.inside.ticket_boxes c.leave.new.self) c.number-2.ensures c.leave.ensures.without)
    (subst (λ (i : ℕ). IsNumbered i None c.self.inside.ticket_boxes c.leave.new.self) c.number-2.ensures c.leave.ensures.numbered)
