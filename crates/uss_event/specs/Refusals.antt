-- Why volumes, a state and a priority are no details, and the numbers under which this is printed. This project's own.
use Rattle.std.specs.Prelude.{◌≡◌, ◌⊎◌, ℕ, ◌+◌, ◌==◌, not, ◌&&◌, nat_lt, List, length, Option, Some, None, Result, Ok, Err, if◌then◌else◌}
use Rattle.uss_vol4.specs.Volume.{Volume4D}
use Rattle.uss_intent.specs.Limits.{most_extents, most_vertices}
use Rattle.uss_intent.specs.declared.records.State.{State}
use Rattle.uss_event.specs.declared.details.Details.{Details}
use Rattle.uss_event.specs.Plans.{vertex_count, may_be_off_nominal}
use Rattle.uss_event.specs.Rules.{is_too_great}
use Rattle.uss_event.specs.declared.refusals.DetailsRefusal.{DetailsRefusal}
use Rattle.uss_event.specs.declared.refusals.DetailsRefusal.TheVariants.{TooManyVolumes, TooManyVerticesTogether, OffNominalNotAllowed, NoVolume, PriorityRange, Memory}

abbrev pub number_of : DetailsRefusal → Option ℕ
number_of TooManyVolumes = Some 121
number_of TooManyVerticesTogether = Some 122
number_of OffNominalNotAllowed = Some 123
number_of NoVolume = Some 124
number_of PriorityRange = Some 125
number_of Memory = None

-- a table of rules is refused for a priority, or as out of memory
abbrev pub IsPriorityRefusal : DetailsRefusal → Type 0
IsPriorityRefusal refusal = (refusal ≡ PriorityRange) ⊎ (refusal ≡ Memory)

-- the first reason why these are no details, in the order of the numbers; none where they are
unfoldable pub refusal_of : State → List Volume4D → List Volume4D → ℕ → Option DetailsRefusal
refusal_of state volumes off_nominal priority =
    if nat_lt most_extents (length volumes + length off_nominal) then Some TooManyVolumes
    else if nat_lt most_vertices (vertex_count volumes + vertex_count off_nominal) then Some TooManyVerticesTogether
    else if not (may_be_off_nominal state) && nat_lt 0 (length off_nominal) then Some OffNominalNotAllowed
    else if length volumes + length off_nominal == 0 then Some NoVolume
    else if is_too_great priority then Some PriorityRange
    else None

abbrev pub unless_refused : Option DetailsRefusal → Details → Result Details DetailsRefusal
unless_refused None details = Ok details
unless_refused (Some refusal) details = Err refusal

-- the details of these, or the first reason why they are none
abbrev pub details_from : State → List Volume4D → List Volume4D → ℕ → Result Details DetailsRefusal
details_from state volumes off_nominal priority =
    unless_refused (refusal_of state volumes off_nominal priority) (record { volumes = volumes; off_nominal = off_nominal; priority = priority })
