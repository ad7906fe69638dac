-- Why the discovery service refuses a call: the cause of each refusal, in what is there and in points that volumes share, whatever else
-- holds. Where several causes hold, the refusal with the least number is given. This project's own.
use Rattle.std.specs.Prelude.{ℕ, ◌<◌, ◌≤◌, ◌≡◌, ◌≢◌, ◌⊎◌, ◌≤ℤ◌, true, List, length, Option, Some, None}
use Rattle.uss_vol4.specs.declared.Box4.{Box4}
use Rattle.uss_vol4.specs.Volume.{Volume4D, ListsShare}
use Rattle.uss_vol4.specs.Bounding.{bounding_box, box_of}
use Rattle.uss_intent.specs.Limits.{most_ovns, most_extents, most_vertices, most_references, most_tickets, last_version, most_landings}
use Rattle.uss_intent.specs.declared.records.Recorded.{Recorded}
use Rattle.uss_intent.specs.declared.records.Ticket.{Ticket}
use Rattle.uss_intent.specs.declared.records.State.{State}
use Rattle.uss_intent.specs.declared.calls.DssAsk.{DssAsk}
use Rattle.uss_intent.specs.declared.calls.DssAsk.TheVariants.{Query, Get, Put, Remove, TicketPut, TicketGet, TicketRemove}
use Rattle.uss_intent.specs.declared.calls.DssRefusal.{DssRefusal}
use Rattle.uss_intent.specs.declared.calls.DssRefusal.TheVariants.{BadCall, NotYours, Exists, Retired, Absent, StaleOvn, NoTicket, NotCovered, MissingKey, TicketInUse, Full}
use Rattle.uss_intent.specs.States.{is_strategic}
use Rattle.uss_law_dss.specs.Lists.{Has}
use Rattle.uss_law_dss.specs.Service.{Service}
use Rattle.uss_law_dss.specs.Refusals.{vertex_count}
use Rattle.uss_law_dss.specs.Carried.{Lists}

-- a reference of the flight is recorded, and it is such
abbrev pub IsRecorded : Service → ℕ → (Recorded → Type 0) → Type 0
IsRecorded s flight IsSuch = (r : Recorded) × Has s.references r × (r.reference.flight ≡ flight) × IsSuch r

-- the ticket is there, and it is such
abbrev pub IsThere : Service → ℕ → (Ticket → Type 0) → Type 0
IsThere s id IsSuch = (t : Ticket) × Has s.tickets t × (t.id ≡ id) × IsSuch t

abbrev pub Whatever : {X : Type 0} → X → Type 0
Whatever x = Unit {0}

-- the first box lies in the second
pub record LiesIn (a b : Box4) : Type 0 where
  pub x1 : b.rect.x1 ≤ℤ a.rect.x1
  pub x2 : a.rect.x2 ≤ℤ b.rect.x2
  pub y1 : b.rect.y1 ≤ℤ a.rect.y1
  pub y2 : a.rect.y2 ≤ℤ b.rect.y2
  pub low : b.low ≤ℤ a.low
  pub high : a.high ≤ℤ b.high
  pub start : b.start ≤ℤ a.start
  pub end : a.end ≤ℤ b.end

-- the reference is another flight's, some of its extents share with some of these, and the key lacks its OVN
pub record IsMissing (flight : ℕ) (extents : List Volume4D) (key : List (List ℕ)) (r : Recorded) : Type 0 where
  pub other : r.reference.flight ≢ flight
  pub shares : ListsShare r.extents extents
  pub lacked : (o : List ℕ) → Has key o → r.reference.ovn ≢ Some o

-- a limit that a Put meets: of references at a creation, of versions at a change, and of landings
abbrev pub MeetsLimit : Service → ℕ → Option (List ℕ) → ℕ → Type 0
MeetsLimit s flight ovn limit =
    ((limit ≡ most_references) × (ovn ≡ None) × (most_references ≤ length s.references))
    ⊎ (((limit ≡ last_version) × IsRecorded s flight (λ r. r.reference.version ≡ last_version))
    ⊎ ((limit ≡ most_landings) × (most_landings ≤ length s.landings)))

abbrev pub GetCause : Service → ℕ → DssRefusal → Type 0
GetCause s flight Retired = Has s.retired_flights flight
GetCause s flight Absent = IsRecorded s flight Whatever → ⊥
GetCause s flight _ = ⊥

abbrev pub PutCause : Service → List ℕ → ℕ → Option (List ℕ) → List Volume4D → List (List ℕ) → State → ℕ → DssRefusal → Type 0
PutCause s client flight ovn extents key state ticket BadCall =
    (length extents ≡ 0) ⊎ ((most_extents < length extents) ⊎ ((most_vertices < vertex_count extents) ⊎ (most_ovns < length key)))
PutCause s client flight ovn extents key state ticket NotYours = IsRecorded s flight (λ r. r.reference.manager ≢ client)
PutCause s client flight ovn extents key state ticket Exists = (ovn ≡ None) × IsRecorded s flight Whatever
PutCause s client flight ovn extents key state ticket Retired = Has s.retired_flights flight
PutCause s client flight ovn extents key state ticket Absent = (ovn ≢ None) × (IsRecorded s flight Whatever → ⊥)
PutCause s client flight ovn extents key state ticket StaleOvn = (ovn ≢ None) × IsRecorded s flight (λ r. r.reference.ovn ≢ ovn)
PutCause s client flight ovn extents key state ticket NoTicket = IsThere s ticket (λ t. t.manager ≡ client) → ⊥
PutCause s client flight ovn extents key state ticket NotCovered = IsThere s ticket (λ t. LiesIn (bounding_box extents) (box_of t.area) → ⊥)
PutCause s client flight ovn extents key state ticket (MissingKey listed) =
    (is_strategic state ≡ true)
    × ((r : Recorded) × Has s.references r × IsMissing flight extents key r)
    × Lists s client (IsMissing flight extents key) listed
PutCause s client flight ovn extents key state ticket TicketInUse = ⊥
PutCause s client flight ovn extents key state ticket (Full limit) = MeetsLimit s flight ovn limit

abbrev pub RemoveCause : Service → List ℕ → ℕ → List ℕ → DssRefusal → Type 0
RemoveCause s client flight ovn NotYours = IsRecorded s flight (λ r. r.reference.manager ≢ client)
RemoveCause s client flight ovn Retired = Has s.retired_flights flight
RemoveCause s client flight ovn Absent = IsRecorded s flight Whatever → ⊥
RemoveCause s client flight ovn StaleOvn = IsRecorded s flight (λ r. r.reference.ovn ≢ Some ovn)
RemoveCause s client flight ovn _ = ⊥

abbrev pub TicketPutCause : Service → List ℕ → ℕ → DssRefusal → Type 0
TicketPutCause s client ticket NotYours = IsThere s ticket (λ t. t.manager ≢ client)
TicketPutCause s client ticket Exists = IsThere s ticket Whatever
TicketPutCause s client ticket Retired = Has s.retired_tickets ticket
TicketPutCause s client ticket (Full limit) = (limit ≡ most_tickets) × (most_tickets ≤ length s.tickets)
TicketPutCause s client ticket _ = ⊥

abbrev pub TicketGetCause : Service → List ℕ → ℕ → DssRefusal → Type 0
TicketGetCause s client ticket NotYours = IsThere s ticket (λ t. t.manager ≢ client)
TicketGetCause s client ticket Retired = Has s.retired_tickets ticket
TicketGetCause s client ticket Absent = IsThere s ticket Whatever → ⊥
TicketGetCause s client ticket _ = ⊥

abbrev pub TicketRemoveCause : Service → List ℕ → ℕ → ℕ → DssRefusal → Type 0
TicketRemoveCause s client ticket version NotYours = IsThere s ticket (λ t. t.manager ≢ client)
TicketRemoveCause s client ticket version Retired = Has s.retired_tickets ticket
TicketRemoveCause s client ticket version Absent = IsThere s ticket Whatever → ⊥
TicketRemoveCause s client ticket version StaleOvn = version ≢ 1
TicketRemoveCause s client ticket version TicketInUse = (r : Recorded) × Has s.references r × (r.reference.ticket ≡ ticket)
TicketRemoveCause s client ticket version _ = ⊥

-- a Query has none
abbrev pub Cause : Service → List ℕ → DssAsk → DssRefusal → Type 0
Cause s client (Query area) refusal = ⊥
Cause s client (Get flight) refusal = GetCause s flight refusal
Cause s client (Put flight ovn extents key state base ticket) refusal = PutCause s client flight ovn extents key state ticket refusal
Cause s client (Remove flight ovn) refusal = RemoveCause s client flight ovn refusal
Cause s client (TicketPut ticket area base) refusal = TicketPutCause s client ticket refusal
Cause s client (TicketGet ticket) refusal = TicketGetCause s client ticket refusal
Cause s client (TicketRemove ticket version) refusal = TicketRemoveCause s client ticket version refusal
