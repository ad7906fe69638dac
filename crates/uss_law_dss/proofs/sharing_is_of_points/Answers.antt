use Rattle.uss_law_dss.proofs.Points.{relevant_by_points, found_by_points, notified_by_points}
use Rattle.uss_law_dss.proofs.sharing_is_of_points.Goals as goal

pub returns : goal.returns
returns c = record { relevant = relevant_by_points; found = found_by_points; notified = notified_by_points }
