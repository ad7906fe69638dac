-- Ranges of time, and when they hold volumes. This project's own.
use Rattle.std.specs.Prelude.{Bool, ◌&&◌, int_le, List}
use Rattle.std.specs.List.{fold, list_all}
use Rattle.std.specs.Int.{int_min, int_max}
use Rattle.uss_vol4.specs.Volume.{Volume4D}
use Rattle.uss_plan.specs.declared.times.Times.{Times}

-- the least range that holds this one and the volume's time
abbrev pub joined : Times → Volume4D → Times
joined t v = record { start = int_min t.start v.start; end = int_max t.end v.end }

abbrev pub all_joined : Times → List Volume4D → Times
all_joined t volumes = fold joined t volumes

-- the volume's time lies within the range
abbrev pub is_within : Times → Volume4D → Bool
is_within t v = int_le t.start v.start && int_le v.end t.end

abbrev pub are_within : Times → List Volume4D → Bool
are_within t volumes = list_all (is_within t) volumes
