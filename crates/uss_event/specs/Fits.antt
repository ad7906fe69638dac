-- When the reply of another supplier fits the call that it answers. This project's own.
use Rattle.std.specs.Prelude.{Bool, true, false, ◌&&◌, ◌==◌}
use Rattle.uss_intent.specs.Same.{same_text}
use Rattle.uss_event.specs.declared.calls.PeerCall.{PeerCall}
use Rattle.uss_event.specs.declared.calls.PeerCall.TheVariants as Calls
use Rattle.uss_event.specs.declared.calls.PeerReply.{PeerReply}
use Rattle.uss_event.specs.declared.calls.PeerReply.TheVariants as Peers

-- the reply is of the call's kind, and a pair is of the flight and of the manager that the call names; any other status fits every call
abbrev pub peer_fits : PeerCall → PeerReply → Bool
peer_fits (Calls.Details job flight manager base) (Peers.Served pair) = (pair.reference.flight == flight) && same_text pair.reference.manager manager
peer_fits (Calls.Details job flight manager base) Peers.Gone = true
peer_fits (Calls.Notify job index base note) Peers.Noted = true
peer_fits _ (Peers.Status status) = true
peer_fits _ _ = false
