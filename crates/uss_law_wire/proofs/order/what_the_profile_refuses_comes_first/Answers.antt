use Rattle.std.proofs.Common.{◌∙◌}
use Rattle.uss_wire_dss.specs.Calls.{query_at, put_reference_at, put_subscription_at}
use Rattle.uss_law_wire.proofs.Deciding.{of_data, new_subscription_first, constraints_first, circle_in_space, circle_first, altitude_first, latitude_first, longitude_first}
use Rattle.uss_law_wire.proofs.order.what_the_profile_refuses_comes_first.Goals as goal

pub returns-clause-new_subscription : goal.returns-clause-new_subscription
returns-clause-new_subscription c = λ f o b d x is has. of_data (put_reference_at f o) b d is ∙ new_subscription_first f o d x has

pub returns-clause-constraints : goal.returns-clause-constraints
returns-clause-constraints c = λ t b d is has. of_data (put_subscription_at t) b d is ∙ constraints_first t d has

pub returns-clause-circle : goal.returns-clause-circle
returns-clause-circle c = λ b d area space x is has volume circle. of_data query_at b d is ∙ circle_first d area space x has volume circle

pub returns-clause-circle_of_a_space : goal.returns-clause-circle_of_a_space
returns-clause-circle_of_a_space c = λ m d x has. circle_in_space m d x has

pub returns-clause-altitude_in_metres : goal.returns-clause-altitude_in_metres
returns-clause-altitude_in_metres c = λ m d x has. altitude_first m d x has

pub returns-clause-latitude_in_degrees : goal.returns-clause-latitude_in_degrees
returns-clause-latitude_in_degrees c = λ m d x has. latitude_first m d x has

pub returns-clause-longitude_in_degrees : goal.returns-clause-longitude_in_degrees
returns-clause-longitude_in_degrees c = λ m d x none has. longitude_first m d x none has
