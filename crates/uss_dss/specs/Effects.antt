-- How the service writes the new indices of tickets.
use Rattle.std.specs.Prelude.{ℕ, ◌+◌, ◌<◌, ◌^◌, ◌==◌, List, [], ◌∷◌, if◌then◌else◌}
use Rattle.std.specs.List.{fold}
use Rattle.uss_intent.specs.declared.records.Subscriber.{Subscriber}
use Rattle.uss_intent.specs.declared.records.Ticket.{Ticket}
use Rattle.uss_law_dss.specs.Lists.{Has}

-- each ticket's index can rise
abbrev pub CanRise : List Ticket → Type 0
CanRise ts = (t : Ticket) → Has ts t → t.index + 1 < 2 ^ 64

-- the tickets, the first one with this identifier with this index
abbrev pub with_index : ℕ → ℕ → List Ticket → List Ticket
with_index id n [] = []
with_index id n (t ∷ ts) = if t.id == id then record t { index = n } ∷ ts else t ∷ with_index id n ts

-- the tickets with the indices that these subscribers have
abbrev pub with_indices : List Subscriber → List Ticket → List Ticket
with_indices notified ts = fold (λ us s. with_index s.ticket s.index us) ts notified
