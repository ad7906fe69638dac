-- What is found is met.
use Rattle.std.proofs.Common.{◌≡◌, true, List, Bor, map, filter, ◌∙◌, ap, sym, subst}
use Rattle.std.proofs.lemmas.Result.{IfOk-weaker}
use Rattle.uss_vol4.specs.Volume.{Volume4D}
use Rattle.uss_vol4.specs.Sharing.{any_shares}
use Rattle.uss_intent.specs.declared.records.Recorded.{Recorded}
use Rattle.uss_law_dss.specs.Service.{reach}
use Rattle.uss_law_dss.specs.Refusals.{shown_all}
use Rattle.uss_dss.proofs.Meeting.{reach_shares}
use Rattle.uss_dss.proofs.Dss.found.Goals as goal

pub returns : goal.returns
returns c =
    IfOk-weaker c.found.result _ _
    (λ v h. h
    ∙ ap (λ (rs : List (Bor Recorded)). shown_all c.args.client.now (filter (λ r. reach r.extents c.args.area.now) (map (λ (x : Bor Recorded). x.now) rs))) c.deref.ensures.value
    ∙ ap (shown_all c.args.client.now)
    (c.in_ok-met.ensures.all (λ r. reach r.extents c.args.area.now)
    (λ r e. subst (λ (vs : List Volume4D). any_shares r.extents vs ≡ true) (sym c.from_ref.ensures.value) (reach_shares r.extents c.args.area.now e))))
    c.found.ensures
