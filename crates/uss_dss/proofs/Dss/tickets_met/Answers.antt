-- Whoever has to be told is met.
use Rattle.std.proofs.Common.{◌∙◌, ap, sym, subst, ◌++◌}
use Rattle.std.specs.List.{list_any}
use Rattle.std.specs.BTreeMap.{is_at}
use Rattle.std.specs.Ordering.{nat_cmp}
use Rattle.std.proofs.lemmas.Result.{IfOk-weaker}
use Rattle.uss_law_dss.specs.Step.{subscribers}
use Rattle.uss_dss.specs.Effects.{CanRise}
use Rattle.uss_dss.specs.Located.{area_in}
use Rattle.uss_dss.proofs.Meeting.{met_tickets, all_told, met_rise}
use Rattle.uss_dss.proofs.Dss.tickets_met.Goals as goal

pub returns-clause-found : goal.returns-clause-found
returns-clause-found c =
    rw (← c.self.view_is)
    (IfOk-weaker c.those.result _ _
    (λ v h. h ∙ met_tickets _ c.self.invariant.orderly c.self.inside.ticket_boxes c.self.invariant.tickets c.args.old.now c.args.new.now c.new-near.result c.add_meeting.new.near c.add_meeting-2.new.near
    (λ id. ap (list_any (is_at (nat_cmp id))) c.new-near.ensures.empty)
    (c.in_ok-add_meeting.ensures.near (area_in c.self.inside.tickets) c.self.invariant.tickets) (c.in_ok-add_meeting-2.ensures.near (area_in c.self.inside.tickets) c.self.invariant.tickets))
    c.those.ensures)

pub returns-clause-told : goal.returns-clause-told
returns-clause-told c =
    rw (← c.self.view_is)
    (IfOk-weaker c.those.result _ _
    (λ v h client. ap (subscribers client (c.args.old.now ++ c.args.new.now))
    (h ∙ met_tickets _ c.self.invariant.orderly c.self.inside.ticket_boxes c.self.invariant.tickets c.args.old.now c.args.new.now c.new-near.result c.add_meeting.new.near c.add_meeting-2.new.near
    (λ id. ap (list_any (is_at (nat_cmp id))) c.new-near.ensures.empty)
    (c.in_ok-add_meeting.ensures.near (area_in c.self.inside.tickets) c.self.invariant.tickets) (c.in_ok-add_meeting-2.ensures.near (area_in c.self.inside.tickets) c.self.invariant.tickets))
    ∙ all_told _ c.self.invariant.orderly c.self.inside.ticket_boxes c.self.invariant.tickets c.args.old.now c.args.new.now c.in_ok-add_meeting.ensures.bounded c.in_ok-add_meeting-2.ensures.bounded client)
    c.those.ensures)

pub returns-clause-rise : goal.returns-clause-rise
returns-clause-rise c =
    IfOk-weaker c.those.result _ _
    (λ v h. subst CanRise
    (sym (h ∙ met_tickets _ c.self.invariant.orderly c.self.inside.ticket_boxes c.self.invariant.tickets c.args.old.now c.args.new.now c.new-near.result c.add_meeting.new.near c.add_meeting-2.new.near
    (λ id. ap (list_any (is_at (nat_cmp id))) c.new-near.ensures.empty)
    (c.in_ok-add_meeting.ensures.near (area_in c.self.inside.tickets) c.self.invariant.tickets) (c.in_ok-add_meeting-2.ensures.near (area_in c.self.inside.tickets) c.self.invariant.tickets)))
    (met_rise _ c.self.invariant.orderly c.self.inside.ticket_boxes c.self.invariant.tickets c.args.old.now c.args.new.now))
    c.those.ensures
