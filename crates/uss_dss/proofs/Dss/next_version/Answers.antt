-- What is recorded isn't at the greatest version.
use Rattle.std.proofs.Common.{◌≡◌, false, Option, subst, sym}
use Rattle.uss_intent.specs.declared.records.Recorded.{Recorded}
use Rattle.uss_law_dss.specs.Refusals.{is_at_last_version}
use Rattle.uss_dss.proofs.Dss.next_version.Goals as goal

pub version_after-requires : goal.version_after-requires
version_after-requires c = subst (λ (o : Option Recorded). is_at_last_version o ≡ false) (sym c.in-Some.ensures) c.requires
