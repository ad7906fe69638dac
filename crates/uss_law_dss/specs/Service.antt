-- The state of the discovery service, and what is looked up in it.
-- The service is the DSS of ASTM F3548-21 in the small: references of operational intents, subscriptions (one for each job of a
-- supplier, here called tickets) and opaque version numbers (OVNs). Its rules are this project's own.
use Rattle.std.specs.Prelude.{ℕ, zero, suc, ◌+◌, ◌/◌, ◌%◌, Bool, false, not, ◌&&◌, ◌==◌, List, [], ◌∷◌, ◌++◌, find, filter, codes, Option, Some, None, int_le, if◌then◌else◌}
use Rattle.std.specs.List.{list_any}
use Rattle.uss_vol4.specs.declared.Box4.{Box4}
use Rattle.uss_vol4.specs.Volume.{Volume4D}
use Rattle.uss_vol4.specs.Sharing.{shares, any_shares}
use Rattle.uss_intent.specs.declared.records.Recorded.{Recorded}
use Rattle.uss_intent.specs.declared.records.Reference.{Reference}
use Rattle.uss_intent.specs.declared.records.Ticket.{Ticket}
use Rattle.uss_intent.specs.declared.records.Landing.{Landing}
use Rattle.uss_intent.specs.Same.{same_text}

-- the recorded references with their extents, ascending by flight; the tickets, ascending by identifier; the identifiers that
-- were removed, in the order of their removal; and the landings, oldest first
pub record Service : Type 0 where
  pub references : List Recorded
  pub tickets : List Ticket
  pub retired_flights : List ℕ
  pub retired_tickets : List ℕ
  pub landings : List Landing

-- a new service
abbrev pub empty : Service
empty = record { references = []; tickets = []; retired_flights = []; retired_tickets = []; landings = [] }

-- the recorded reference of a flight
abbrev pub recorded_of : ℕ → Service → Option Recorded
recorded_of flight s = find (λ r. r.reference.flight == flight) s.references

-- the ticket with an identifier
abbrev pub ticket_of : ℕ → Service → Option Ticket
ticket_of id s = find (λ t. t.id == id) s.tickets

-- the last digits of a number in decimal, so many
abbrev pub digits : ℕ → ℕ → List ℕ
digits zero n = []
digits (suc k) n = digits k (n / 10) ++ (48 + n % 10) ∷ []

-- the OVN of the n-th landing
unfoldable pub ovn_of : ℕ → List ℕ
ovn_of n = codes "ovn-" ++ digits 16 n

-- the reference has this OVN
abbrev pub has_ovn : Option (List ℕ) → List ℕ → Bool
has_ovn None ovn = false
has_ovn (Some o) ovn = same_text o ovn

-- the reference as it is shown to a client: its OVN is shown to its manager alone
abbrev pub shown_to : List ℕ → Reference → Reference
shown_to client r = if same_text r.manager client then r else record r { ovn = None }

-- some of the extents share a point with the area
abbrev pub reach : List Volume4D → Volume4D → Bool
reach extents area = list_any (λ v. shares v area) extents

-- the recorded references of other flights of which some extent shares a point with some of these extents
abbrev pub relevant : ℕ → List Volume4D → Service → List Recorded
relevant flight extents s = filter (λ r. not (r.reference.flight == flight) && any_shares r.extents extents) s.references

-- the key has the reference's OVN
abbrev pub in_key : List (List ℕ) → Reference → Bool
in_key key r = list_any (λ o. has_ovn r.ovn o) key

-- those of which the key lacks the OVN
abbrev pub lacking : List (List ℕ) → List Recorded → List Recorded
lacking key rs = filter (λ r. not (in_key key r.reference)) rs

-- the first box lies in the second
unfoldable pub lies_in : Box4 → Box4 → Bool
lies_in a b =
    (int_le b.rect.x1 a.rect.x1 && int_le a.rect.x2 b.rect.x2) && ((int_le b.rect.y1 a.rect.y1 && int_le a.rect.y2 b.rect.y2)
    && ((int_le b.low a.low && int_le a.high b.high) && (int_le b.start a.start && int_le a.end b.end)))
