-- The state and the reply are the definition's, and the state is orderly.
use Rattle.std.proofs.Common.{ℕ, None, sym, ap, refl, ◌∙◌, subst}
use Rattle.uss_intent.specs.declared.calls.DssReply.{DssReply}
use Rattle.uss_law_dss.specs.Service.{Service}
use Rattle.uss_law_dss.specs.Orderly.{IsOrderly}
use Rattle.uss_dss.specs.Effects.{with_indices}
use Rattle.uss_dss.specs.Located.{number_of, IsWithout, IsNumbered}
use Rattle.uss_dss.proofs.Keeping.{kept_ended}
use Rattle.uss_dss.proofs.Orderly.{removed, removed_is, removed_done}
use Rattle.uss_dss.proofs.Dss.remove.Goals as goal

pub remove-requires : goal.remove-requires
remove-requires c = c.self.invariant.orderly.references_ascend

pub invariant_of-self-2 : goal.invariant_of-self-2
invariant_of-self-2 c =
    kept_ended _ _ c.in_ok-reply.reply.flight c.in_ok-notified.notified.items c.self.inside.reference_boxes c.leave.new.self c.self.inside.ticket_boxes c.self.invariant c.remove.ensures refl
    (subst (λ (i : ℕ). IsWithout (number_of i c.self.inside.reference_boxes) c.self.inside.reference_boxes c.leave.new.self) c.number-2.ensures c.leave.ensures.without)
    (subst (λ (i : ℕ). IsNumbered i None c.self.inside.reference_boxes c.leave.new.self) c.number-2.ensures c.leave.ensures.numbered)
    (c.set_indices.ensures ∙ ap (λ ns. with_indices ns c.self.inside.tickets) c.deref.ensures.value) refl
    (rw (c.set_indices.ensures, c.deref.ensures.value, c.remove.ensures, c.in_ok-push.ensures.ok, c.number.ensures)
    (subst (λ (x : DssReply × Service). IsOrderly x.1)
    (sym (removed_is _ c.args.self.now c.args.client.now c.in-Some.r.now c.in_ok-reply.reply c.in_ok-notified.notified.items
    c.self.view_is (subst IsOrderly c.self.view_is c.self.invariant.orderly) c.in_ok-reply.ensures.cases c.in_ok-notified.ensures))
    (removed _ c.args.self.now c.args.client.now c.args.flight c.args.ovn.now c.in-Some.r.now c.self.view_is c.self.invariant.orderly c.requires c.in-Some.ensures)))

pub returns-clause-done : goal.returns-clause-done
returns-clause-done c =
    rw (c.set_indices.ensures, c.deref.ensures.value, c.remove.ensures, c.in_ok-push.ensures.ok, c.number.ensures, c.from_vec.ensures)
    (removed_done c.args.self.now c.args.client.now c.args.flight c.in-Some.r.now _ c.in-Some.ensures
    (removed_is _ c.args.self.now c.args.client.now c.in-Some.r.now c.in_ok-reply.reply c.in_ok-notified.notified.items
    c.self.view_is (subst IsOrderly c.self.view_is c.self.invariant.orderly) c.in_ok-reply.ensures.cases c.in_ok-notified.ensures))
