-- What an operational intent may be: its volumes, its off-nominal volumes, its state and its priority. After the operational
-- intent details of ASTM F3548-21; the limits are this project's own.
use Rattle.std.specs.Prelude.{ℕ, ◌+◌, Bool, true, false, ◌&&◌, ◌||◌, nat_lt, nat_le, ℤ, int_le, List, ◌++◌, length, sum_by}
use Rattle.std.specs.List.{list_all, list_any}
use Rattle.std.specs.Ordering.{int_eq}
use Rattle.uss_vol4.specs.Volume.{Volume4D}
use Rattle.uss_intent.specs.Limits.{most_extents, most_vertices}
use Rattle.uss_intent.specs.declared.records.State.{State}
use Rattle.uss_intent.specs.declared.records.State.TheVariants.{Accepted, Activated, Nonconforming, Contingent}
use Rattle.uss_event.specs.Rules.{greatest_priority}
use Rattle.uss_event.specs.declared.details.Details.{Details}

-- how many vertices the volumes have together
abbrev pub vertex_count : List Volume4D → ℕ
vertex_count volumes = sum_by (λ v. length v.outline) volumes

-- in these states an intent may have off-nominal volumes
abbrev pub may_be_off_nominal : State → Bool
may_be_off_nominal Accepted = false
may_be_off_nominal Activated = false
may_be_off_nominal Nonconforming = true
may_be_off_nominal Contingent = true

-- there are at most 64 volumes and 10,000 vertices, both lists together; at least one volume; off-nominal ones only in
-- Nonconforming and Contingent; and a priority from 0 to 1000
unfoldable pub is_plan : State → List Volume4D → List Volume4D → ℕ → Bool
is_plan state volumes off_nominal priority =
    nat_le (length volumes + length off_nominal) most_extents && (nat_le (vertex_count volumes + vertex_count off_nominal) most_vertices
    && ((may_be_off_nominal state || nat_le (length off_nominal) 0) && (nat_lt 0 (length volumes + length off_nominal) && nat_le priority greatest_priority)))

-- the extents of an intent: its volumes followed by its off-nominal volumes
abbrev pub extents_of : Details → List Volume4D
extents_of d = d.volumes ++ d.off_nominal

-- none of the volumes starts earlier, and one starts then
abbrev pub is_least_start : ℤ → List Volume4D → Bool
is_least_start moment volumes = list_all (λ v. int_le moment v.start) volumes && list_any (λ v. int_eq v.start moment) volumes

-- none of the volumes ends later, and one ends then
abbrev pub is_greatest_end : ℤ → List Volume4D → Bool
is_greatest_end moment volumes = list_all (λ v. int_le v.end moment) volumes && list_any (λ v. int_eq v.end moment) volumes
