use Rattle.std.proofs.Common.{refl}
use Rattle.uss_book_codec.specs.Coding.{coding_of}
use Rattle.uss_codec.specs.Spelling.{number}
use Rattle.uss_book_codec.proofs.law.further_worked_codings.Goals as goal

pub returns-clause-owner : goal.returns-clause-owner
unfolding coding_of number
returns-clause-owner c = refl

pub returns-clause-opened_to_end : goal.returns-clause-opened_to_end
unfolding coding_of number
returns-clause-opened_to_end c = refl

pub returns-clause-opened_to_put : goal.returns-clause-opened_to_put
unfolding coding_of number
returns-clause-opened_to_put c = refl

pub returns-clause-pending : goal.returns-clause-pending
unfolding coding_of number
returns-clause-pending c = refl

pub returns-clause-creating : goal.returns-clause-creating
unfolding coding_of number
returns-clause-creating c = refl

pub returns-clause-deciding : goal.returns-clause-deciding
unfolding coding_of number
returns-clause-deciding c = refl

pub returns-clause-cancelled : goal.returns-clause-cancelled
unfolding coding_of number
returns-clause-cancelled c = refl

pub returns-clause-ended : goal.returns-clause-ended
unfolding coding_of number
returns-clause-ended c = refl

pub returns-clause-ticket_gone : goal.returns-clause-ticket_gone
unfolding coding_of number
returns-clause-ticket_gone c = refl

pub returns-clause-sent : goal.returns-clause-sent
unfolding coding_of number
returns-clause-sent c = refl
