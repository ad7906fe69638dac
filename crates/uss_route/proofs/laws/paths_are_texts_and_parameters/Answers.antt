use Rattle.uss_route.proofs.Spelled.{fits_spelled, spelled_fits, parameters_are}
use Rattle.uss_route.proofs.laws.paths_are_texts_and_parameters.Goals as goal

pub returns-clause-fits : goal.returns-clause-fits
returns-clause-fits c = λ row path. (λ e. spelled_fits row path e, λ s. fits_spelled row path s.0 s.1)

pub returns-clause-parameters : goal.returns-clause-parameters
returns-clause-parameters c = λ row path parameters is. parameters_are row path parameters is
