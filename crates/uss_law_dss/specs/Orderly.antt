-- What holds of every state of the discovery service, from a new service on, after any calls.
use Rattle.std.specs.Prelude.{ℕ, ◌+◌, ◌<◌, ◌≤◌, ◌≡◌, ◌⊎◌, true, false, ◌==◌, List, [], ◌∷◌, length, count_by, Option, Some, None, unwrap_or, if◌then◌else◌}
use Rattle.uss_vol4.specs.Bounding.{bounding_box}
use Rattle.uss_intent.specs.Limits.{most_references, most_tickets, last_version, most_landings}
use Rattle.uss_intent.specs.declared.records.Recorded.{Recorded}
use Rattle.uss_intent.specs.declared.records.Reference.{Reference}
use Rattle.uss_intent.specs.declared.records.Ticket.{Ticket}
use Rattle.uss_intent.specs.declared.records.Landing.{Landing}
use Rattle.uss_intent.specs.Tags.{tag_of}
use Rattle.uss_intent.specs.Numbers.{is_one_of}
use Rattle.uss_law_dss.specs.Lists.{Has}
use Rattle.uss_law_dss.specs.Service.{Service, ovn_of}

-- all have a greater number than n
abbrev pub AllAbove : {X : Type 0} → (X → ℕ) → ℕ → List X → Type 0
AllAbove number n [] = Unit {0}
AllAbove number n (x ∷ xs) = (n < number x) × AllAbove number n xs

-- each has a greater number than those before it
abbrev pub Ascend : {X : Type 0} → (X → ℕ) → List X → Type 0
Ascend number [] = Unit {0}
Ascend number (x ∷ xs) = AllAbove number (number x) xs × Ascend number xs

abbrev pub flight_recorded : Recorded → ℕ
flight_recorded r = r.reference.flight

abbrev pub id_of : Ticket → ℕ
id_of t = t.id

-- the landings have the OVNs of their places in the history, from the one after n on
abbrev pub AreNumbered : ℕ → List Landing → Type 0
AreNumbered n [] = Unit {0}
AreNumbered n (l ∷ ls) = (l.ovn ≡ ovn_of (n + 1)) × AreNumbered (n + 1) ls

abbrev pub later : Option Landing → Landing → ℕ → Option Landing
later (Some m) l flight = Some m
later None l flight = if l.flight == flight then Some l else None

-- the last landing of a flight
abbrev pub last_of : ℕ → List Landing → Option Landing
last_of flight [] = None
last_of flight (l ∷ ls) = later (last_of flight ls) l flight

-- the reference is as the landing left it
pub record IsAsLanded (l : Landing) (r : Reference) : Type 0 where
  pub ovn : r.ovn ≡ Some l.ovn
  pub manager : r.manager ≡ l.manager
  pub flight : r.flight ≡ l.flight
  pub tag : l.tag ≡ unwrap_or (tag_of r.base) 0
  pub ticket : r.ticket ≡ l.ticket

-- the ticket that a recorded reference cites is there, and it is its manager's
pub record IsCovered (s : Service) (r : Reference) : Type 0 where
  pub ticket : Ticket
  pub there : Has s.tickets ticket
  pub cited : ticket.id ≡ r.ticket
  pub manager : ticket.manager ≡ r.manager

pub record IsOrderly (s : Service) : Type 0 where
  pub references_ascend : Ascend flight_recorded s.references
  pub tickets_ascend : Ascend id_of s.tickets
  pub few_references : length s.references ≤ most_references
  pub few_tickets : length s.tickets ≤ most_tickets
  pub few_landings : length s.landings ≤ most_landings
  -- what was removed isn't there
  pub flights_stay_retired : (r : Recorded) → Has s.references r → is_one_of r.reference.flight s.retired_flights ≡ false
  pub tickets_stay_retired : (t : Ticket) → Has s.tickets t → is_one_of t.id s.retired_tickets ≡ false
  pub covered : (r : Recorded) → Has s.references r → IsCovered s r.reference
  -- the times of a reference are the least start and the greatest end of its extents
  pub extents : (r : Recorded) → Has s.references r → 0 < length r.extents
  pub start : (r : Recorded) → Has s.references r → r.reference.start ≡ (bounding_box r.extents).start
  pub end : (r : Recorded) → Has s.references r → r.reference.end ≡ (bounding_box r.extents).end
  -- a recorded reference is its flight's last landing, and its version counts the flight's landings
  pub landed : (r : Recorded) → Has s.references r → (l : Landing) × (last_of r.reference.flight s.landings ≡ Some l) × IsAsLanded l r.reference
  pub versions : (r : Recorded) → Has s.references r → r.reference.version ≡ count_by (λ l. l.flight == r.reference.flight) s.landings
  pub versions_fit : (r : Recorded) → Has s.references r → r.reference.version ≤ last_version
  -- an OVN belongs to one landing
  pub numbered : AreNumbered 0 s.landings
  -- a landing's flight is recorded or was removed
  pub there : (l : Landing) → Has s.landings l → (is_one_of l.flight s.retired_flights ≡ true) ⊎ ((r : Recorded) × Has s.references r × (r.reference.flight ≡ l.flight))
  -- a change took the place of a landing of its flight, which is no more recorded
  pub previous : (l : Landing) (o : List ℕ) → Has s.landings l → l.previous ≡ Some o → (m : Landing) × Has s.landings m × (m.ovn ≡ o) × (m.flight ≡ l.flight)
  pub passed : (l : Landing) (o : List ℕ) (r : Recorded) → Has s.landings l → l.previous ≡ Some o → Has s.references r → r.reference.ovn ≡ Some o → ⊥
  -- no two landings of a flight have one previous OVN, and no two are creations
  pub once : (l m : Landing) → Has s.landings l → Has s.landings m → l.flight ≡ m.flight → l.previous ≡ m.previous → l ≡ m
  -- a ticket's index rises with landings and removals
  pub indexes : (t : Ticket) → Has s.tickets t → t.index ≤ length s.landings + length s.retired_flights
  pub ends : length s.retired_flights + length s.references ≤ length s.landings
