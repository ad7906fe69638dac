use Rattle.uss_event.specs.Heard.{kept_pairs}
use Rattle.uss_key.proofs.cache.Cache.new.Goals as goal

pub returns-clause-heard : goal.returns-clause-heard
unfolding kept_pairs
returns-clause-heard c = rw c.new.ensures
