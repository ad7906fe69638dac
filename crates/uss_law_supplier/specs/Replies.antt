-- What comes of a reply to a call of a job. A pair that fits its call is heard, whatever the job is. Then a reply to a job that was never
-- opened comes to nothing; one to an open job is acted on, or resumes the job; one to a closed job may settle a chore, and else brings the
-- answer again that the book keeps. This project's own.
use Rattle.std.specs.Prelude.{ℕ, Bool, true, false, ◌&&◌, List, [], Option, Some, None, if◌then◌else◌}
use Rattle.uss_intent.specs.Same.{same_ask}
use Rattle.uss_intent.specs.declared.calls.DssAsk.{DssAsk}
use Rattle.uss_intent.specs.declared.calls.DssReply.{DssReply}
use Rattle.uss_intent.specs.declared.calls.DssReply.TheVariants as Replies
use Rattle.uss_intent.specs.declared.calls.DssRefusal.{DssRefusal}
use Rattle.uss_intent.specs.declared.calls.DssRefusal.TheVariants as Refuses
use Rattle.uss_event.specs.Fits.{peer_fits}
use Rattle.uss_event.specs.declared.entries.Entry.TheVariants as Enters
use Rattle.uss_event.specs.declared.calls.DssCall.{DssCall}
use Rattle.uss_event.specs.declared.calls.PeerCall.{PeerCall}
use Rattle.uss_event.specs.declared.calls.PeerCall.TheVariants as Calls
use Rattle.uss_event.specs.declared.calls.PeerReply.{PeerReply}
use Rattle.uss_event.specs.declared.calls.PeerReply.TheVariants as Peers
use Rattle.uss_event.specs.declared.calls.Outgoing.TheVariants as Goes
use Rattle.uss_event.specs.declared.events.Said.TheVariants as Says
use Rattle.uss_law_dss.specs.Fits.{fits}
use Rattle.uss_event.specs.declared.entries.Opening.{Opening}
use Rattle.uss_law_book.specs.Contents.{opening_of, is_closed, is_ticket_due}
use Rattle.uss_event.specs.Heard.{News, by_reply}
use Rattle.uss_law_duty.specs.Answers.{job_of_call}
use Rattle.uss_law_duty.specs.Sends.{ticket_remove}
use Rattle.uss_law_supplier.specs.Values.{hearing, awaited_of}
use Rattle.uss_law_supplier.specs.Calls.{is_it}
use Rattle.uss_law_supplier.specs.Turns.{Standing, Turn, saying, entering}
use Rattle.uss_law_supplier.specs.Chores.{is_unsent}
use Rattle.uss_law_supplier.specs.Jobs.{with_values, open_by_dss, open_by_peer}
use Rattle.uss_law_supplier.specs.Asks.{answered_again}

-- the reply says that the ticket is gone: now, or that it was removed before
abbrev pub is_retired : DssRefusal → Bool
is_retired Refuses.Retired = true
is_retired _ = false

abbrev pub takes_out : DssReply → Bool
takes_out (Replies.TicketRemoved ticket) = true
takes_out (Replies.Refused refusal) = is_retired refusal
takes_out _ = false

-- the call took out the job's ticket, which is still to be taken out
unfoldable pub retires : Standing → Opening → DssAsk → DssReply → Bool
retires s o ask reply = same_ask ask (ticket_remove s.owner o.job) && (fits ask reply && (takes_out reply && is_ticket_due o.job s.book))

-- the call told who is still to be notified. The index decides and not the note, since what is held may have changed meanwhile
unfoldable pub is_sent_now : Standing → Opening → PeerCall → PeerReply → Bool
is_sent_now s o (Calls.Notify job index base note) Peers.Noted = is_unsent o.job index s.book
is_sent_now s o _ _ = false

abbrev pub saying_nothing : Standing → Turn
saying_nothing after = saying after.values Says.Nothing

abbrev pub closed_by_dss : Standing → Opening → Bool → Turn
closed_by_dss s o true = entering s (Enters.TicketGone o.job) saying_nothing
closed_by_dss s o false = answered_again s o

abbrev pub place_of : PeerCall → ℕ
place_of (Calls.Details job flight manager base) = 0
place_of (Calls.Notify job index base note) = index

abbrev pub closed_by_peer : Standing → Opening → PeerCall → Bool → Turn
closed_by_peer s o call true = entering s (Enters.Sent (record { job = o.job; index = place_of call })) saying_nothing
closed_by_peer s o call false = answered_again s o

-- the call is the one that the job waits for
abbrev pub waits_for_dss : Standing → Opening → DssCall → Bool
waits_for_dss s o call = is_it (Goes.Dss call) (awaited_of o.job s.values)

abbrev pub waits_for_peer : Standing → Opening → PeerCall → Bool
waits_for_peer s o call = is_it (Goes.Peer call) (awaited_of o.job s.values)

-- by whether the job is closed
abbrev pub of_job_by_dss : Standing → Opening → DssCall → DssReply → Bool → Turn
of_job_by_dss s o call reply true = closed_by_dss s o (retires s o call.ask reply)
of_job_by_dss s o call reply false = open_by_dss s o reply (fits call.ask reply && waits_for_dss s o call)

abbrev pub of_job_by_peer : Standing → Opening → PeerCall → PeerReply → Bool → Turn
of_job_by_peer s o call reply true = closed_by_peer s o call (is_sent_now s o call reply)
of_job_by_peer s o call reply false = open_by_peer s o call reply (peer_fits call reply && waits_for_peer s o call)

abbrev pub replied_to : Standing → DssCall → DssReply → Option Opening → Turn
replied_to s call reply None = saying s.values Says.Nothing
replied_to s call reply (Some o) = of_job_by_dss s o call reply (is_closed o.job s.book)

abbrev pub replied : Standing → DssCall → DssReply → Turn
replied s call reply = replied_to s call reply (opening_of call.job s.book)

abbrev pub replied_to_peer : Standing → PeerCall → PeerReply → Option Opening → Turn
replied_to_peer s call reply None = saying s.values Says.Nothing
replied_to_peer s call reply (Some o) = of_job_by_peer s o call reply (is_closed o.job s.book)

-- a pair that fits the call is heard before all else
abbrev pub heard_by : PeerCall → PeerReply → List News
heard_by call reply = if peer_fits call reply then by_reply reply else []

abbrev pub hearing_it : Standing → PeerCall → PeerReply → Standing
hearing_it s call reply = with_values s (hearing (heard_by call reply) s.values)

abbrev pub replied_by_peer : Standing → PeerCall → PeerReply → Turn
replied_by_peer s call reply = replied_to_peer (hearing_it s call reply) call reply (opening_of (job_of_call call) s.book)
