-- Whatever shares with the volumes is met.
use Rattle.std.proofs.Common.{filter, ◌∙◌, ap}
use Rattle.std.specs.List.{list_any}
use Rattle.std.specs.BTreeMap.{is_at}
use Rattle.std.specs.Ordering.{nat_cmp}
use Rattle.std.proofs.lemmas.Result.{IfOk-weaker}
use Rattle.uss_dss.specs.Located.{extents_in}
use Rattle.uss_dss.proofs.Meeting.{met_references, all_met}
use Rattle.uss_dss.proofs.Dss.references_met.Goals as goal

pub returns-clause-found : goal.returns-clause-found
returns-clause-found c =
    rw (← c.self.view_is)
    (IfOk-weaker c.those.result _ _
    (λ v h. h ∙ met_references _ c.self.invariant.orderly c.self.inside.reference_boxes c.self.invariant.references c.args.volumes.now c.new-near.result c.add_meeting.new.near
    (λ id. ap (list_any (is_at (nat_cmp id))) c.new-near.ensures.empty)
    (c.in_ok-add_meeting.ensures.near (extents_in c.self.inside.references) c.self.invariant.references))
    c.those.ensures)

pub returns-clause-all : goal.returns-clause-all
returns-clause-all c =
    rw (← c.self.view_is)
    (IfOk-weaker c.those.result _ _
    (λ v h p shares. ap (filter p)
    (h ∙ met_references _ c.self.invariant.orderly c.self.inside.reference_boxes c.self.invariant.references c.args.volumes.now c.new-near.result c.add_meeting.new.near
    (λ id. ap (list_any (is_at (nat_cmp id))) c.new-near.ensures.empty)
    (c.in_ok-add_meeting.ensures.near (extents_in c.self.inside.references) c.self.invariant.references))
    ∙ all_met _ c.self.invariant.orderly c.self.inside.reference_boxes c.self.invariant.references c.args.volumes.now c.in_ok-add_meeting.ensures.bounded p shares)
    c.those.ensures)
