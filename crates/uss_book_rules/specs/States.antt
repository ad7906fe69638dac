-- The state of what is held of a flight, by the entries alone: that of the wish for which the attempt that was recorded last was made.
-- This project's own.
use Rattle.std.specs.Prelude.{ℕ, nat_lt, List, length, Option, Some, None, if◌then◌else◌}
use Rattle.uss_intent.specs.declared.records.State.{State}
use Rattle.uss_event.specs.declared.asks.Wish.{Wish}
use Rattle.uss_event.specs.declared.asks.Wish.TheVariants.{Put, End}
use Rattle.uss_event.specs.declared.entries.Owner.{Owner}
use Rattle.uss_event.specs.declared.entries.Entry.{Entry}
use Rattle.uss_event.specs.declared.entries.Opening.{Opening}
use Rattle.uss_event.specs.declared.entries.Trial.{Trial}
use Rattle.uss_event.specs.declared.entries.Holding.{Holding}
use Rattle.uss_law_book.specs.Lists.{owner_of}
use Rattle.uss_law_book.specs.Contents.{opening_of, trial_of}

-- where the alternative is one of the wish's
abbrev pub state_by_wish : ℕ → Wish → Option State
state_by_wish alternative (Put to priority rounds proposals) = if nat_lt alternative (length proposals) then Some to else None
state_by_wish alternative End = None

abbrev pub state_by_opening : ℕ → Option Opening → Option State
state_by_opening alternative None = None
state_by_opening alternative (Some o) = state_by_wish alternative o.ask.wish

-- where it is known whose book it is
abbrev pub state_by_owner : Option Owner → ℕ → Option Opening → Option State
state_by_owner None alternative opening = None
state_by_owner (Some owner) alternative opening = state_by_opening alternative opening

abbrev pub state_by_trial : List Entry → Option Trial → Option State
state_by_trial es None = None
state_by_trial es (Some t) = state_by_owner (owner_of es) t.alternative (opening_of t.job es)

abbrev pub state_by_holding : List Entry → Option Holding → Option State
state_by_holding es None = None
state_by_holding es (Some h) = state_by_trial es (trial_of h.tag es)
