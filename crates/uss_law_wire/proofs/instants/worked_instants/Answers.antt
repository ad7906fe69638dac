use Rattle.std.proofs.Common.{refl}
use Rattle.jiff_core.specs.Calendar.{days_from_civil, day_count, days_of_years, days_of_months}
use Rattle.uss_wire_base.specs.Instants.{instant_of, clock_of}
use Rattle.uss_wire_base.specs.InstantText.{civil_at, date_at, time_at, zone_at, end_at, ahead_at, behind_at, clock_at, fraction_at, decimals_at, scaled_at, mark_at, digits_at}
use Rattle.uss_law_wire.proofs.instants.worked_instants.Goals as goal

pub returns-clause-ahead : goal.returns-clause-ahead
unfolding civil_at date_at time_at zone_at end_at ahead_at behind_at clock_at fraction_at decimals_at scaled_at mark_at digits_at instant_of clock_of days_from_civil day_count days_of_years days_of_months
returns-clause-ahead c = refl

pub returns-clause-behind : goal.returns-clause-behind
unfolding civil_at date_at time_at zone_at end_at ahead_at behind_at clock_at fraction_at decimals_at scaled_at mark_at digits_at instant_of clock_of days_from_civil day_count days_of_years days_of_months
returns-clause-behind c = refl

pub returns-clause-leap_day : goal.returns-clause-leap_day
unfolding civil_at date_at time_at zone_at end_at ahead_at behind_at clock_at fraction_at decimals_at scaled_at mark_at digits_at instant_of clock_of days_from_civil day_count days_of_years days_of_months
returns-clause-leap_day c = refl

pub returns-clause-too_early : goal.returns-clause-too_early
unfolding civil_at date_at time_at zone_at end_at ahead_at behind_at clock_at fraction_at decimals_at scaled_at mark_at digits_at instant_of clock_of days_from_civil day_count days_of_years days_of_months
returns-clause-too_early c = refl

pub returns-clause-no_leap_day : goal.returns-clause-no_leap_day
unfolding civil_at date_at time_at zone_at end_at ahead_at behind_at clock_at fraction_at decimals_at scaled_at mark_at digits_at instant_of clock_of days_from_civil day_count days_of_years days_of_months
returns-clause-no_leap_day c = refl

pub returns-clause-day_31_of_april : goal.returns-clause-day_31_of_april
unfolding civil_at date_at time_at zone_at end_at ahead_at behind_at clock_at fraction_at decimals_at scaled_at mark_at digits_at instant_of clock_of days_from_civil day_count days_of_years days_of_months
returns-clause-day_31_of_april c = refl

pub returns-clause-second_60 : goal.returns-clause-second_60
unfolding civil_at date_at time_at zone_at end_at ahead_at behind_at clock_at fraction_at decimals_at scaled_at mark_at digits_at instant_of clock_of days_from_civil day_count days_of_years days_of_months
returns-clause-second_60 c = refl

pub returns-clause-ten_decimals : goal.returns-clause-ten_decimals
unfolding civil_at date_at time_at zone_at end_at ahead_at behind_at clock_at fraction_at decimals_at scaled_at mark_at digits_at instant_of clock_of days_from_civil day_count days_of_years days_of_months
returns-clause-ten_decimals c = refl

pub returns-clause-no_offset : goal.returns-clause-no_offset
unfolding civil_at date_at time_at zone_at end_at ahead_at behind_at clock_at fraction_at decimals_at scaled_at mark_at digits_at instant_of clock_of days_from_civil day_count days_of_years days_of_months
returns-clause-no_offset c = refl
