-- Why a request, a cancel and a position is refused: by the event, the book, what is kept beside the book, and the moment. The refusals
-- are tried in the order of these lists. This project's own.
use Rattle.std.specs.Prelude.{ℕ, ℤ, Bool, false, ◌==◌, nat_lt, List, [], ◌∷◌, Option, Some, None, option_map, if◌then◌else◌}
use Rattle.uss_event.specs.Same.{differing}
use Rattle.uss_event.specs.Pairs.{OperationalIntent}
use Rattle.uss_event.specs.declared.asks.Wish.{Wish}
use Rattle.uss_event.specs.declared.asks.Conform.{Conform}
use Rattle.uss_event.specs.declared.asks.FlightAsk.{FlightAsk}
use Rattle.uss_event.specs.declared.asks.PositionAsk.{PositionAsk}
use Rattle.uss_event.specs.declared.asks.AskRefusal.{AskRefusal}
use Rattle.uss_event.specs.declared.asks.AskRefusal.TheVariants as Refuses
use Rattle.uss_event.specs.declared.entries.Entry.{Entry}
use Rattle.uss_event.specs.declared.events.Event.{Event}
use Rattle.uss_event.specs.declared.events.Event.TheVariants as Comes
use Rattle.uss_event.specs.declared.entries.Opening.{Opening}
use Rattle.uss_law_book.specs.Contents.{last_of, open_job_of}
use Rattle.uss_law_book.specs.Attempts.{held}
use Rattle.uss_law_supplier.specs.Monitor.{later_position}
use Rattle.uss_law_supplier.specs.Values.{sightings_of}
use Rattle.uss_law_supplier.specs.Turns.{Standing}
use Rattle.uss_law_supplier.specs.Asks.{first_some, plan_refusal, new_refusal}
use Rattle.uss_law_supplier.specs.Positions.{sighting_of, found_with, wished, is_numbered}

-- a request

-- 301: the plan is none
abbrev pub bad_plan : FlightAsk → Option AskRefusal
bad_plan ask = option_map (λ number. Refuses.BadPlan number) (plan_refusal ask.wish)

-- 306: the flight's last request has a greater number
abbrev pub old_number : FlightAsk → Option Opening → Option AskRefusal
old_number ask None = None
old_number ask (Some last) = if nat_lt ask.number last.ask.number then Some (Refuses.OldNumber last.ask.number) else None

-- it repeats the flight's last request: its number is the same
abbrev pub is_repeat : FlightAsk → Option Opening → Bool
is_repeat ask None = false
is_repeat ask (Some last) = ask.number == last.ask.number

-- 307: but its wish is another; the first part that differs is named
abbrev pub other_wish : FlightAsk → Option Opening → Option AskRefusal
other_wish ask None = None
other_wish ask (Some last) = if ask.number == last.ask.number then option_map (λ field. Refuses.DifferentRepeat field) (differing last.ask.wish ask.wish) else None

-- 305, 309, 308, 302, 304, 303 and 310 come to a request that repeats none
abbrev pub new_or_none : List Entry → ℤ → FlightAsk → Option Opening → Option AskRefusal
new_or_none book moment ask last = if is_repeat ask last then None else new_refusal book moment ask

abbrev pub ask_refusal_after : List Entry → ℤ → FlightAsk → Option Opening → Option AskRefusal
ask_refusal_after book moment ask last = first_some (bad_plan ask ∷ old_number ask last ∷ other_wish ask last ∷ new_or_none book moment ask last ∷ [])

abbrev pub ask_refusal : List Entry → ℤ → FlightAsk → Option AskRefusal
ask_refusal book moment ask = ask_refusal_after book moment ask (last_of ask.flight book)

-- a cancel

-- 308: the flight has no request; 312: its last request has another number
abbrev pub cancel_refusal_after : ℕ → Option Opening → Option AskRefusal
cancel_refusal_after number None = Some Refuses.NoSuchFlight
cancel_refusal_after number (Some last) = if number == last.ask.number then None else Some (Refuses.NotAsked last.ask.number)

abbrev pub cancel_refusal : List Entry → ℕ → ℕ → Option AskRefusal
cancel_refusal book flight number = cancel_refusal_after number (last_of flight book)

-- a position

-- it acts as a request, which may be refused, or asks for no change
abbrev pub change_refusal : List Entry → ℤ → PositionAsk → Option Wish → Option AskRefusal
change_refusal book moment p None = None
change_refusal book moment p (Some wish) = ask_refusal book moment (record { flight = p.flight; number = p.number; wish = wish })

-- what the monitor finds with it
abbrev pub finding_at : Standing → ℤ → PositionAsk → OperationalIntent → Conform
finding_at s moment p pair = found_with (sightings_of p.flight s.values) (sighting_of pair p moment)

-- the change that it asks for, if it does
abbrev pub change_at : Standing → ℤ → PositionAsk → OperationalIntent → Option Wish
change_at s moment p pair = wished pair p pair.reference.state (finding_at s moment p pair)

-- 313: a later position was counted
abbrev pub old_position : Option ℤ → Option AskRefusal
old_position = option_map (λ last. Refuses.OldPosition last)

-- an open job of its number is resumed
abbrev pub position_refusal_beside : Standing → ℤ → PositionAsk → OperationalIntent → Option Opening → Option AskRefusal
position_refusal_beside s moment p pair (Some o) = None
position_refusal_beside s moment p pair None =
    first_some (old_position (later_position (sightings_of p.flight s.values) moment) ∷ change_refusal s.book moment p (change_at s moment p pair) ∷ [])

-- 308: nothing is held of the flight
abbrev pub position_refusal_with : Standing → ℤ → PositionAsk → Option OperationalIntent → Option AskRefusal
position_refusal_with s moment p None = Some Refuses.NoSuchFlight
position_refusal_with s moment p (Some pair) = position_refusal_beside s moment p pair (is_numbered p.number (open_job_of p.flight s.book))

abbrev pub position_refusal : Standing → ℤ → PositionAsk → Option AskRefusal
position_refusal s moment p = position_refusal_with s moment p (held p.flight s.book)

-- whichever it is; the moment is one in the range of instants
abbrev pub refusal_at : Standing → ℤ → Event → Option AskRefusal
refusal_at s moment (Comes.Ask ask) = ask_refusal s.book moment ask
refusal_at s moment (Comes.Cancel flight number) = cancel_refusal s.book flight number
refusal_at s moment (Comes.Position p) = position_refusal s moment p
refusal_at s moment _ = None
