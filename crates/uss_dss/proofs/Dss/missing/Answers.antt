-- What is missing is met.
use Rattle.std.proofs.Common.{◌≡◌, true, not, ◌&&◌, ◌==◌, List, Bor, map, filter, ◌∙◌, ap, sym, subst}
use Rattle.std.proofs.lemmas.Result.{IfOk-weaker}
use Rattle.uss_vol4.specs.Volume.{Volume4D}
use Rattle.uss_vol4.specs.Sharing.{any_shares}
use Rattle.uss_intent.specs.declared.records.Recorded.{Recorded}
use Rattle.uss_law_dss.specs.Service.{in_key}
use Rattle.uss_law_dss.specs.Refusals.{shown_all}
use Rattle.uss_law_dss.proofs.Tests.{both}
use Rattle.uss_dss.specs.Parts.{is_missing}
use Rattle.uss_dss.proofs.Dss.missing.Goals as goal

pub returns : goal.returns
returns c =
    IfOk-weaker c.missing.result _ _
    (λ v h. h
    ∙ ap (λ (rs : List (Bor Recorded)). shown_all c.args.client.now (filter (is_missing c.args.flight c.args.extents.now c.args.key.now) (map (λ (x : Bor Recorded). x.now) rs))) c.deref.ensures.value
    ∙ ap (shown_all c.args.client.now)
    (c.in_ok-met.ensures.all (is_missing c.args.flight c.args.extents.now c.args.key.now)
    (λ r e. subst (λ (vs : List Volume4D). any_shares r.extents vs ≡ true) (sym c.as_slice.ensures)
    (both (not (r.reference.flight == c.args.flight)) (any_shares r.extents c.args.extents.now)
    (both (not (r.reference.flight == c.args.flight) && any_shares r.extents c.args.extents.now) (not (in_key c.args.key.now r.reference)) e).0).1)))
    c.missing.ensures
