use Rattle.uss_intent.specs.Limits.{most_references}
use Rattle.uss_wire_base.specs.Reading.{message_of}
use Rattle.uss_wire_dss.specs.Replies.{query_answer_at, get_answer_at}
use Rattle.uss_wire_dss.specs.ChangesAndErrors.{change_answer_at, error_at}
use Rattle.uss_wire_dss.specs.ReplyWriting.{IsReadable, IsReadableError}
use Rattle.uss_law_wire.proofs.Yields.{FewOf, given}
use Rattle.uss_law_wire.proofs.Given.{message_given, found_given, got_given, IsGivenChange, change_given, error_given}
use Rattle.uss_law_wire.proofs.laws.answers_show_own_ovns_alone.Goals as goal

pub returns-clause-query_answer : goal.returns-clause-query_answer
returns-clause-query_answer c = λ client b rs is.
    given (FewOf (IsReadable client) most_references) (message_of (query_answer_at client) b) rs (message_given (FewOf (IsReadable client) most_references) (query_answer_at client) (found_given client) b) is

pub returns-clause-get_answer : goal.returns-clause-get_answer
returns-clause-get_answer c = λ client b r is.
    given (IsReadable client) (message_of (get_answer_at client) b) r (message_given (IsReadable client) (get_answer_at client) (got_given client) b) is

pub returns-clause-change_answer : goal.returns-clause-change_answer
returns-clause-change_answer c = λ client b r ss is.
    (given (IsGivenChange client) (message_of (change_answer_at client) b) (r, ss) (message_given (IsGivenChange client) (change_answer_at client) (change_given client) b) is).0

pub returns-clause-error : goal.returns-clause-error
returns-clause-error c = λ client b e is.
    given (IsReadableError client) (message_of (error_at client) b) e (message_given (IsReadableError client) (error_at client) (error_given client) b) is
