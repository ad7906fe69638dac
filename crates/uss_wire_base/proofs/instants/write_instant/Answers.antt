use Rattle.std.proofs.Common.{◌≡◌, ap, ◌∙◌, subst, sym}
use Rattle.std.proofs.lemmas.Int.{to_z-of_z}
use Rattle.std.proofs.lemmas.Result.{IfOk-weaker}
use Rattle.std.specs.Str.{IsUtf8}
use Rattle.jiff_core.specs.DateTime.{civil_nanos}
use Rattle.uss_wire_base.specs.InstantText.{read_instant, instant_text}
use Rattle.uss_wire_base.proofs.InstantAgain.{instant_again}
use Rattle.uss_wire_base.proofs.InstantTexts.{instant_utf8}
use Rattle.uss_wire_base.proofs.instants.write_instant.Goals as goal

pub returns-clause-again : goal.returns-clause-again
returns-clause-again c = λ h.
    let fits = c.ranges.moment in
    let same : civil_nanos c.utc.result ≡ c.args.moment = simp to_z-of_z at c.utc.ensures in
    IfOk-weaker c.shown_text.result _ _ (λ t e. ap read_instant (e ∙ ap instant_text same) ∙ instant_again c.args.moment h) c.shown_text.ensures

pub returns-clause-utf8 : goal.returns-clause-utf8
returns-clause-utf8 c = IfOk-weaker c.shown_text.result _ _ (λ t e. subst IsUtf8 (sym e) (instant_utf8 (civil_nanos c.utc.result))) c.shown_text.ensures
