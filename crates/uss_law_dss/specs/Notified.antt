-- Which subscribers a landing and a removal notify, in points that volumes share. A subscriber's ticket is the Subscription of the
-- OpenAPI annex of ASTM F3548-21, and its index the notification_index. This project's own: a change notifies those near the old extents too.
use Rattle.std.specs.Prelude.{ℕ, ◌+◌, ◌≡◌, ◌≢◌, ◌⊎◌, ◌↔◌, List, [], ◌∷◌, Any}
use Rattle.uss_vol4.specs.Volume.{Volume4D, Shares}
use Rattle.uss_intent.specs.declared.records.Recorded.{Recorded}
use Rattle.uss_intent.specs.declared.records.Ticket.{Ticket}
use Rattle.uss_intent.specs.declared.records.Subscriber.{Subscriber}
use Rattle.uss_intent.specs.declared.calls.DssAsk.{DssAsk}
use Rattle.uss_intent.specs.declared.calls.DssAsk.TheVariants.{Put, Remove}
use Rattle.uss_intent.specs.declared.calls.DssReply.{DssReply}
use Rattle.uss_intent.specs.declared.calls.DssReply.TheVariants.{Landed, Removed, TicketMade, TicketRemoved}
use Rattle.uss_law_dss.specs.Lists.{Has}
use Rattle.uss_law_dss.specs.Service.{Service}
use Rattle.uss_law_dss.specs.Orderly.{Ascend}

-- some of the extents share a point with the area
abbrev pub Reach : List Volume4D → Volume4D → Type 0
Reach extents area = Any (λ v. Shares v area) extents

-- the flight is recorded with extents of which some share a point with the area
abbrev pub RecordedReach : Service → ℕ → Volume4D → Type 0
RecordedReach s flight area = (r : Recorded) × Has s.references r × (r.reference.flight ≡ flight) × Reach r.extents area

-- the ticket is another client's, and its area shares with the old extents or the new ones
abbrev pub IsNotifiedOfPut : Service → List ℕ → ℕ → List Volume4D → Ticket → Type 0
IsNotifiedOfPut s client flight extents t = (t.manager ≢ client) × (RecordedReach s flight t.area ⊎ Reach extents t.area)

-- the ticket is another client's, and its area shares with the extents that are taken out
abbrev pub IsNotifiedOfRemove : Service → List ℕ → ℕ → Ticket → Type 0
IsNotifiedOfRemove s client flight t = (t.manager ≢ client) × RecordedReach s flight t.area

-- the ticket is one whose manager the call notifies, where the call lands or removes
abbrev pub IsNotifiedOf : Service → List ℕ → DssAsk → Ticket → Type 0
IsNotifiedOf s client (Put flight ovn extents key state base ticket) t = IsNotifiedOfPut s client flight extents t
IsNotifiedOf s client (Remove flight ovn) t = IsNotifiedOfRemove s client flight t
IsNotifiedOf s client _ t = ⊥

-- how a subscriber is named: by its ticket, with the index that the ticket has after this change
abbrev pub named : Ticket → Subscriber
named t = record { base = t.base; ticket = t.id; index = t.index + 1 }

abbrev pub ticket_named : Subscriber → ℕ
ticket_named u = u.ticket

-- the ticket becomes that with the next index where it is notified, and stays as it is where not
abbrev pub Becomes : (Ticket → Type 0) → Ticket → Ticket → Type 0
Becomes IsNotified t u = (IsNotified t × (u ≡ record t { index = t.index + 1 })) ⊎ ((IsNotified t → ⊥) × (u ≡ t))

-- the lists are of one length, and what has one place in both is related
abbrev pub InPlace : {X : Type 0} → (X → X → Type 0) → List X → List X → Type 0
InPlace R [] [] = Unit {0}
InPlace R (x ∷ xs) (y ∷ ys) = R x y × InPlace R xs ys
InPlace R _ _ = ⊥

-- These subscribers are notified: exactly the tickets that are meant are named, ascending by identifier, each with its next index; and
-- exactly their indexes rise. No other ticket changes.
pub record Notifies (IsNotified : Ticket → Type 0) (before after : List Ticket) (notified : List Subscriber) : Type 0 where
  pub those : (u : Subscriber) → Has notified u ↔ ((t : Ticket) × Has before t × IsNotified t × (named t ≡ u))
  pub ascending : Ascend ticket_named notified
  pub tickets : InPlace (Becomes IsNotified) before after

-- the reply is of no landing and no removal
abbrev pub NotifiesNobody : DssReply → Type 0
NotifiesNobody (Landed reference notified) = ⊥
NotifiesNobody (Removed reference notified) = ⊥
NotifiesNobody _ = Unit {0}

-- no ticket changes: what is new was made, and what is gone was taken out
pub record Keeps (before after : List Ticket) (reply : DssReply) : Type 0 where
  pub new : (t : Ticket) → Has after t → Has before t ⊎ (reply ≡ TicketMade t)
  pub gone : (t : Ticket) → Has before t → Has after t ⊎ (reply ≡ TicketRemoved t)
