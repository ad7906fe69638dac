-- The limits of the calls and lists of the discovery service. This project's own; each is said here alone, and whoever has to keep to one
-- cites it.
use Rattle.std.specs.Prelude.{ℕ}

-- the OVNs of one key: a plan looks at no more references of other flights
abbrev pub most_ovns : ℕ
most_ovns = 1024

-- the extents of one intent, volumes and off-nominal volumes together
abbrev pub most_extents : ℕ
most_extents = 64

-- the vertices of all extents of one intent together
abbrev pub most_vertices : ℕ
most_vertices = 10000

-- the references that the service keeps at one moment
abbrev pub most_references : ℕ
most_references = 4096

-- the subscriptions, called tickets, that the service keeps at one moment; no change notifies more
abbrev pub most_tickets : ℕ
most_tickets = 8192

-- the last version of a reference: it has 32 bits
abbrev pub last_version : ℕ
last_version = 4294967295

-- the landings of a service in all, so that each one's number is written in at most 16 digits
abbrev pub most_landings : ℕ
most_landings = 9999999999999999
