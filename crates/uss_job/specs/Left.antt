-- Whether a reference is left to be asked for, where a reply makes that matter to a job. This project's own.
use Rattle.std.specs.Prelude.{◌≡◌, Bool}
use Rattle.uss_intent.specs.declared.calls.DssReply.{DssReply}
use Rattle.uss_intent.specs.declared.calls.DssReply.TheVariants as Replies
use Rattle.uss_event.specs.declared.calls.PeerReply.{PeerReply}
use Rattle.uss_event.specs.declared.calls.PeerReply.TheVariants as Peers
use Rattle.uss_event.specs.declared.entries.Opening.{Opening}
use Rattle.uss_law_supplier.specs.Airspace.{is_left}
use Rattle.uss_law_supplier.specs.Turns.{Standing}
use Rattle.uss_law_supplier.specs.Values.{round_of}

-- after a query: whether one is left in the round that its reply began
abbrev pub IsLeftBy : Standing → Opening → DssReply → Bool → Type 0
IsLeftBy s o (Replies.Found references) left = is_left s.owner s.values.heard (round_of o.job s.values) ≡ left
IsLeftBy s o _ left = Unit {0}

-- after the answer of another supplier, likewise; a status stops the job
abbrev pub IsLeftByPeer : Standing → Opening → PeerReply → Bool → Type 0
IsLeftByPeer s o (Peers.Status status) left = Unit {0}
IsLeftByPeer s o _ left = is_left s.owner s.values.heard (round_of o.job s.values) ≡ left
