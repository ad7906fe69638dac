use Rattle.uss_book_rules.proofs.Tested.{open_from, open_true, open_ticket_from, open_ticket_true, try_from, try_true, hold_from, hold_true, decide_from, decide_true, retire_from, retire_true, send_from, send_true}
use Rattle.uss_book_rules.proofs.Ended.{end_from, end_true}
use Rattle.uss_book_rules.proofs.AnyEntry.{due_from, due_true}
use Rattle.uss_book_rules.proofs.law.tests_are_exact.Goals as goal

pub returns-clause-opening : goal.returns-clause-opening
returns-clause-opening c = λ es job ask. (open_from es job ask, open_true es job ask)

pub returns-clause-ticket : goal.returns-clause-ticket
returns-clause-ticket c = λ es job. (open_ticket_from es job, open_ticket_true es job)

pub returns-clause-attempt : goal.returns-clause-attempt
returns-clause-attempt c = λ es job tag alternative previous key. (try_from es job tag alternative previous key, try_true es job tag alternative previous key)

pub returns-clause-record_of : goal.returns-clause-record_of
returns-clause-record_of c = λ es job tag. (hold_from es job tag, hold_true es job tag)

pub returns-clause-decision : goal.returns-clause-decision
returns-clause-decision c = λ es job end. (decide_from es job end, decide_true es job end)

pub returns-clause-retirement : goal.returns-clause-retirement
returns-clause-retirement c = λ es job. (retire_from es job, retire_true es job)

pub returns-clause-answer : goal.returns-clause-answer
returns-clause-answer c = λ es job index. (send_from es job index, send_true es job index)

pub returns-clause-end_of : goal.returns-clause-end_of
returns-clause-end_of c = λ es job end. (end_from es job end, end_true es job end)

pub returns-clause-any_entry : goal.returns-clause-any_entry
returns-clause-any_entry c = λ es e. (due_from es e, due_true es e)
