-- When two values of a supplier are the same: the parts of a request, and calls, in their content.
use Rattle.std.specs.Prelude.{Bool, false, not, ◌&&◌, ◌==◌, Option, Some, None, if◌then◌else◌}
use Rattle.std.specs.Cmp.Lexicographic.{pointwise}
use Rattle.uss_vol4.specs.Same.{same_volume}
use Rattle.uss_intent.specs.States.{same_state}
use Rattle.uss_intent.specs.Same.{same_text, same_ask}
use Rattle.uss_event.specs.declared.details.Proposal.{Proposal}
use Rattle.uss_event.specs.declared.asks.Wish.{Wish}
use Rattle.uss_event.specs.declared.asks.Wish.TheVariants.{Put, End}
use Rattle.uss_event.specs.declared.asks.AskField.{AskField}
use Rattle.uss_event.specs.declared.asks.AskField.TheVariants as Fields
use Rattle.uss_event.specs.declared.calls.PeerCall.{PeerCall}
use Rattle.uss_event.specs.declared.calls.PeerCall.TheVariants as Calls
use Rattle.uss_event.specs.declared.calls.Outgoing.{Outgoing}
use Rattle.uss_event.specs.declared.calls.Outgoing.TheVariants as Goes

abbrev pub same_proposal : Proposal → Proposal → Bool
same_proposal p q = pointwise same_volume p.volumes q.volumes && pointwise same_volume p.off_nominal q.off_nominal

-- the first field in which a repeated request's wish differs, and none where it is the same
abbrev pub differing : Wish → Wish → Option AskField
differing (Put to priority rounds proposals) (Put to' priority' rounds' proposals') =
    if not (same_state to to') then Some Fields.To
    else if not (priority == priority') then Some Fields.Priority
    else if not (rounds == rounds') then Some Fields.Rounds
    else if not (pointwise same_proposal proposals proposals') then Some Fields.Proposals
    else None
differing End End = None
differing _ _ = Some Fields.Kind

-- two calls of another supplier have the same content; notifications are never compared
abbrev pub same_peer_call : PeerCall → PeerCall → Bool
same_peer_call (Calls.Details job flight manager base) (Calls.Details job' flight' manager' base') =
    (job == job') && ((flight == flight') && (same_text manager manager' && same_text base base'))
same_peer_call _ _ = false

abbrev pub same_call : Outgoing → Outgoing → Bool
same_call (Goes.Dss call) (Goes.Dss other) = (call.job == other.job) && same_ask call.ask other.ask
same_call (Goes.Peer call) (Goes.Peer other) = same_peer_call call other
same_call _ _ = false
