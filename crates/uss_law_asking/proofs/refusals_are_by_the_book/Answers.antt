use Rattle.uss_law_asking.proofs.Final as Final
use Rattle.uss_law_asking.proofs.refusals_are_by_the_book.Goals as goal

pub returns-clause-refused : goal.returns-clause-refused
returns-clause-refused c = Final.refusals_are_by_book

pub returns-clause-first : goal.returns-clause-first
returns-clause-first c = Final.refusals_come_first
