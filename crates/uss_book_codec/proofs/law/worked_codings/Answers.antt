use Rattle.std.proofs.Common.{refl}
use Rattle.uss_book_codec.specs.Coding.{coding_of}
use Rattle.uss_codec.specs.Spelling.{number}
use Rattle.uss_book_codec.proofs.law.worked_codings.Goals as goal

pub returns-clause-ticket_open : goal.returns-clause-ticket_open
unfolding coding_of number
returns-clause-ticket_open c = refl

pub returns-clause-accepted : goal.returns-clause-accepted
unfolding coding_of number
returns-clause-accepted c = refl

pub returns-clause-activated : goal.returns-clause-activated
unfolding coding_of number
returns-clause-activated c = refl

pub returns-clause-nonconforming : goal.returns-clause-nonconforming
unfolding coding_of number
returns-clause-nonconforming c = refl

pub returns-clause-contingent : goal.returns-clause-contingent
unfolding coding_of number
returns-clause-contingent c = refl

pub returns-clause-held : goal.returns-clause-held
unfolding coding_of number
returns-clause-held c = refl

pub returns-clause-equal_forbidden : goal.returns-clause-equal_forbidden
unfolding coding_of number
returns-clause-equal_forbidden c = refl

pub returns-clause-higher_stands : goal.returns-clause-higher_stands
unfolding coding_of number
returns-clause-higher_stands c = refl
