-- The state and the reply are the definition's, the state is orderly, and the reference's box is with the others.
use Rattle.std.proofs.Common.{sym, ap, refl, ◌∙◌, subst}
use Rattle.uss_intent.specs.declared.calls.DssReply.{DssReply}
use Rattle.uss_intent.specs.declared.records.Landing.{Landing}
use Rattle.uss_intent.specs.declared.records.Recorded.{Recorded}
use Rattle.uss_law_dss.specs.Service.{Service}
use Rattle.uss_law_dss.specs.Orderly.{IsOrderly}
use Rattle.uss_dss.specs.Effects.{with_indices}
use Rattle.uss_dss.proofs.Keeping.{free_landing, extents_as, kept_same_references, kept_landed}
use Rattle.uss_dss.proofs.Orderly.{landed_is}
use Rattle.uss_dss.proofs.Dss.put.Goals as goal

pub record-requires-clause-free : goal.record-requires-clause-free
record-requires-clause-free c = free_landing _ c.self.inside.reference_boxes c.self.inside.ticket_boxes c.self.invariant

pub invariant_of-self : goal.invariant_of-self
invariant_of-self c =
    rw (c.in_err-record.ensures.err.0, c.in_err-record.ensures.err.1)
    (kept_same_references _ c.self.inside.reference_boxes c.record.new.boxes c.self.inside.ticket_boxes c.self.invariant
    (extents_as _ _ _ c.in_err-record.ensures.err.0 c.in_err-record.ensures.located) c.in_err-record.ensures.kept)

pub invariant_of-self-2 : goal.invariant_of-self-2
invariant_of-self-2 c =
    kept_landed _ _ c.in_ok-recorded.recorded.reference.flight c.in_ok-landing.landing c.in_ok-notified.notified.items c.self.inside.reference_boxes c.record.new.boxes c.self.inside.ticket_boxes c.self.invariant
    c.in_ok-record.ensures.located c.in_ok-record.ensures.ok.1
    (ap (λ (l : Landing). l.flight) c.in_ok-landing.ensures ∙ sym (ap (λ (r : Recorded). r.reference.flight) c.in_ok-recorded.ensures))
    c.in_ok-record.ensures.numbered
    (c.set_indices.ensures ∙ ap (λ ns. with_indices ns c.self.inside.tickets) c.deref.ensures.value) refl
    (rw (c.set_indices.ensures, c.deref.ensures.value, c.in_ok-record.ensures.ok.0, c.in_ok-record.ensures.ok.1)
    (subst (λ (x : DssReply × Service). IsOrderly x.1)
    (sym (landed_is _ c.args.self.now c.args.client.now c.args.flight c.args.ovn.now c.args.extents.now c.args.state c.args.base.now c.args.ticket
    c.in_ok-recorded.recorded c.in_ok-landing.landing c.in_ok-reply.reply c.in_ok-notified.notified.items
    c.self.view_is (subst IsOrderly c.self.view_is c.self.invariant.orderly) c.in_ok-recorded.ensures c.in_ok-landing.ensures c.in_ok-reply.ensures.cases c.in_ok-notified.ensures))
    c.requires.orderly))

pub returns-clause-done : goal.returns-clause-done
returns-clause-done c =
    rw (c.set_indices.ensures, c.deref.ensures.value, c.in_ok-record.ensures.ok.0, c.in_ok-record.ensures.ok.1, c.from_vec.ensures)
    (landed_is _ c.args.self.now c.args.client.now c.args.flight c.args.ovn.now c.args.extents.now c.args.state c.args.base.now c.args.ticket
    c.in_ok-recorded.recorded c.in_ok-landing.landing c.in_ok-reply.reply c.in_ok-notified.notified.items
    c.self.view_is (subst IsOrderly c.self.view_is c.self.invariant.orderly) c.in_ok-recorded.ensures c.in_ok-landing.ensures c.in_ok-reply.ensures.cases c.in_ok-notified.ensures)
