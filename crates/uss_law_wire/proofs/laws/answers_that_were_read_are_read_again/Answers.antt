use Rattle.uss_intent.specs.Limits.{most_references}
use Rattle.uss_wire_dss.specs.Replies.{query_answer_at, get_answer_at, subscription_answer_at}
use Rattle.uss_wire_dss.specs.ReplyWriting.{subscription_answer_json}
use Rattle.uss_wire_dss.specs.ChangesAndErrors.{change_answer_at, error_at}
use Rattle.uss_wire_dss.specs.ReplyWriting.{query_answer_json, get_answer_json, change_answer_json, error_json, IsReadable, IsReadableError}
use Rattle.uss_wire_dss.proofs.RepliesAgain.{change_again, error_again}
use Rattle.uss_law_wire.proofs.Again.{query_answer_again, get_answer_again}
use Rattle.uss_law_wire.proofs.Yields.{FewOf}
use Rattle.uss_law_wire.proofs.Given.{given_again, found_given, got_given, IsTicketOf, ticket_given, ticket_again, IsGivenChange, change_given, error_given}
use Rattle.uss_law_wire.proofs.laws.answers_that_were_read_are_read_again.Goals as goal

pub returns-clause-query_answer : goal.returns-clause-query_answer
returns-clause-query_answer c = λ client rs a b was is.
    given_again (FewOf (IsReadable client) most_references) (query_answer_at client) (found_given client) rs (query_answer_json rs) (λ h. query_answer_again client rs h.0 h.1) a b was is

pub returns-clause-get_answer : goal.returns-clause-get_answer
returns-clause-get_answer c = λ client r a b was is.
    given_again (IsReadable client) (get_answer_at client) (got_given client) r (get_answer_json r) (get_answer_again client r) a b was is

pub returns-clause-change_answer : goal.returns-clause-change_answer
returns-clause-change_answer c = λ client r ss a b was is.
    given_again (IsGivenChange client) (change_answer_at client) (change_given client) (r, ss) (change_answer_json r ss) (λ h. change_again client r ss h.0 h.1.0 h.1.1) a b was is

pub returns-clause-subscription_answer : goal.returns-clause-subscription_answer
returns-clause-subscription_answer c = λ client area t a b volume was is.
    given_again (IsTicketOf client area) (subscription_answer_at client area) (ticket_given client area volume) t (subscription_answer_json t) (ticket_again client area t) a b was is

pub returns-clause-error : goal.returns-clause-error
returns-clause-error c = λ client e a b was is.
    given_again (IsReadableError client) (error_at client) (error_given client) e (error_json e) (error_again client e) a b was is
