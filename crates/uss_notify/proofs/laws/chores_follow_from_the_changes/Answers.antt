use Rattle.uss_notify.proofs.Changed.{one_more}
use Rattle.uss_notify.proofs.Listed.{chores_are}
use Rattle.uss_notify.proofs.laws.chores_follow_from_the_changes.Goals as goal

pub returns-clause-chores : goal.returns-clause-chores
returns-clause-chores c = chores_are

pub returns-clause-one_more : goal.returns-clause-one_more
returns-clause-one_more c = one_more
