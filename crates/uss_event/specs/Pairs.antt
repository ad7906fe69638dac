-- A reference with its details: the OperationalIntent of the OpenAPI annex of ASTM F3548-21. When the two fit is this project's own.
use Rattle.std.specs.Prelude.{Bool, ◌&&◌, Option, Some, None, is_some, if◌then◌else◌}
use Rattle.uss_intent.specs.declared.records.Reference.{Reference}
use Rattle.uss_event.specs.declared.details.Details.{Details}
use Rattle.uss_event.specs.Plans.{is_plan, extents_of, is_least_start, is_greatest_end}

pub record OperationalIntent : Type 0 where
  pub reference : Reference
  pub details : Details

-- the reference shows its OVN, its state allows the details, and its times are those of the extents
unfoldable pub is_pair : Reference → Details → Bool
is_pair r d =
    is_some r.ovn && (is_plan r.state d.volumes d.off_nominal d.priority && (is_least_start r.start (extents_of d) && is_greatest_end r.end (extents_of d)))

-- the pair of the two, where they fit
abbrev pub pair_from : Reference → Details → Option OperationalIntent
pair_from r d = if is_pair r d then Some (record { reference = r; details = d }) else None
