-- What a supplier heard of the intents of others since it last started, and which pairs it keeps of it. This project's own.
use Rattle.std.specs.Prelude.{ℕ, Bool, not, ◌==◌, nat_lt, nat_le, List, [], ◌∷◌, ◌++◌, length, filter, find, Option, Some, None, if◌then◌else◌}
use Rattle.uss_intent.specs.Limits.{most_references}
use Rattle.uss_event.specs.Pairs.{OperationalIntent}
use Rattle.uss_event.specs.declared.calls.PeerReply.{PeerReply}
use Rattle.uss_event.specs.declared.calls.PeerReply.TheVariants as Replies
use Rattle.uss_event.specs.declared.events.Event.{Event}
use Rattle.uss_event.specs.declared.events.Event.TheVariants as Comes

-- a pair was heard, or a flight was forgotten
pub data News : Type 0 where
  Heard : (pair : OperationalIntent) → News
  Forgotten : (flight : ℕ) → News

abbrev pub by_pair : ℕ → Option OperationalIntent → List News
by_pair flight None = Forgotten flight ∷ []
by_pair flight (Some pair) = Heard pair ∷ []

abbrev pub by_reply : PeerReply → List News
by_reply (Replies.Served pair) = Heard pair ∷ []
by_reply Replies.Gone = []
by_reply Replies.Noted = []
by_reply (Replies.Status status) = []

-- what an event brings: the pair that another supplier serves, or the pair of a note; a note without a pair makes its flight forgotten
abbrev pub brought : Event → List News
brought (Comes.Peer call reply) = by_reply reply
brought (Comes.Notified client note) = by_pair note.flight note.pair
brought _ = []

-- the pairs that are kept, in the order in which they were last heard: no more than the discovery service has references
abbrev pub most_kept : ℕ
most_kept = most_references

abbrev pub is_of : ℕ → OperationalIntent → Bool
is_of flight p = p.reference.flight == flight

abbrev pub without : ℕ → List OperationalIntent → List OperationalIntent
without flight kept = filter (λ p. not (is_of flight p)) kept

-- room for one more, where what was heard longest ago is forgotten
abbrev pub with_room : List OperationalIntent → List OperationalIntent
with_room [] = []
with_room (p ∷ ps) = if nat_le most_kept (length (p ∷ ps)) then ps else p ∷ ps

-- a pair takes the place of the flight's kept pair, unless that has a greater version
abbrev pub in_place : OperationalIntent → List OperationalIntent → Option OperationalIntent → List OperationalIntent
in_place p kept None = with_room kept ++ p ∷ []
in_place p kept (Some old) = if nat_lt p.reference.version old.reference.version then kept else without p.reference.flight kept ++ p ∷ []

abbrev pub after_news : List OperationalIntent → News → List OperationalIntent
after_news kept (Heard p) = in_place p kept (find (is_of p.reference.flight) kept)
after_news kept (Forgotten flight) = without flight kept

abbrev pub kept_from : List OperationalIntent → List News → List OperationalIntent
kept_from kept [] = kept
kept_from kept (n ∷ ns) = kept_from (after_news kept n) ns

-- the kept pairs, and that of a flight
unfoldable pub kept_pairs : List News → List OperationalIntent
kept_pairs heard = kept_from [] heard

abbrev pub kept_pair : ℕ → List News → Option OperationalIntent
kept_pair flight heard = find (is_of flight) (kept_pairs heard)
