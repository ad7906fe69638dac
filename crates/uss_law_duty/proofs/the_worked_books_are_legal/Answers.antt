use Rattle.uss_law_duty.proofs.Books as Books
use Rattle.uss_law_duty.proofs.Changes as Changes
use Rattle.uss_law_duty.proofs.the_worked_books_are_legal.Goals as goal

pub returns-clause-cancelled : goal.returns-clause-cancelled
returns-clause-cancelled c = Books.cancelled_is_legal

pub returns-clause-ended : goal.returns-clause-ended
returns-clause-ended c = Books.ended_is_legal

pub returns-clause-keyed : goal.returns-clause-keyed
returns-clause-keyed c = Books.keyed_is_legal

pub returns-clause-notified : goal.returns-clause-notified
returns-clause-notified c = Books.notified_is_legal

pub returns-clause-strayed : goal.returns-clause-strayed
returns-clause-strayed c = Changes.strayed_is_legal

pub returns-clause-stayed : goal.returns-clause-stayed
returns-clause-stayed c = Changes.stayed_is_legal

pub returns-clause-gone : goal.returns-clause-gone
returns-clause-gone c = Changes.gone_is_legal
