-- An exchange: a supplier's steps from a first event to the first that says something, each next event being the reply to the call of the
-- step before. This project's own.
use Rattle.std.specs.Prelude.{ℕ, ◌+◌, ◌*◌, ◌≤◌, ◌≡◌, ◌⊎◌, max, ℤ, Bool, true, false, List, [], ◌∷◌, ◌++◌, map, length, Option, Some, None}
use Rattle.uss_intent.specs.declared.calls.DssReply.{DssReply}
use Rattle.uss_event.specs.Fits.{peer_fits}
use Rattle.uss_event.specs.declared.asks.FlightAsk.{FlightAsk}
use Rattle.uss_event.specs.declared.calls.DssCall.{DssCall}
use Rattle.uss_event.specs.declared.calls.PeerCall.{PeerCall}
use Rattle.uss_event.specs.declared.calls.PeerReply.{PeerReply}
use Rattle.uss_event.specs.declared.calls.Outgoing.{Outgoing}
use Rattle.uss_event.specs.declared.calls.Outgoing.TheVariants as Goes
use Rattle.uss_event.specs.declared.events.Said.TheVariants as Says
use Rattle.uss_event.specs.declared.events.Event.{Event}
use Rattle.uss_event.specs.declared.events.Event.TheVariants as Comes
use Rattle.uss_law_dss.specs.Fits.{fits}
use Rattle.uss_event.specs.declared.entries.Opening.{Opening}
use Rattle.uss_law_book.specs.Contents.{open_job_of, rounds_of}
use Rattle.uss_law_duty.specs.Duties.{book_after, says_something, clamped}
use Rattle.uss_law_duty.specs.Answers.{job_named}
use Rattle.uss_law_supplier.specs.Values.{Values, round_of}
use Rattle.uss_law_supplier.specs.Turns.{Standing, Turn}
use Rattle.uss_law_supplier.specs.Jobs.{found_by}
use Rattle.uss_law_supplier.specs.Step.{stepped}
use Rattle.uss_law_supplier.specs.Typed.{IsEvent}
use Rattle.uss_law_supplier.specs.Laws.{IsSound}

-- an operator sends requests, cancels and positions
abbrev pub is_operators : Event → Bool
is_operators (Comes.Ask ask) = true
is_operators (Comes.Cancel flight number) = true
is_operators (Comes.Position p) = true
is_operators _ = false

-- a call that was made, and its reply
pub data Exchanged : Type 0 where
  OfDss : (call : DssCall) (reply : DssReply) → Exchanged
  OfPeer : (call : PeerCall) (reply : PeerReply) → Exchanged

abbrev pub call_in : Exchanged → Outgoing
call_in (OfDss call reply) = Goes.Dss call
call_in (OfPeer call reply) = Goes.Peer call

abbrev pub event_in : Exchanged → Event
event_in (OfDss call reply) = Comes.Dss call reply
event_in (OfPeer call reply) = Comes.Peer call reply

-- the supplier's step at a moment, and what the supplier stands on then
abbrev pub turn_of : Standing → ℤ → Event → Turn
turn_of s moment event = stepped s (clamped moment) event

abbrev pub stands_then : Standing → Turn → Standing
stands_then s t = record { owner = s.owner; book = book_after s.book t.entry; values = t.values }

-- so far nothing was said, and each call was that of the step before
abbrev pub IsBegun : Standing → ℤ → Event → List Exchanged → Type 0
IsBegun s moment event [] = Unit {0}
IsBegun s moment event (x ∷ xs) =
    ((turn_of s moment event).said ≡ Says.Nothing) × ((turn_of s moment event).sends ≡ call_in x ∷ []) × IsBegun (stands_then s (turn_of s moment event)) moment (event_in x) xs

-- the last step
abbrev pub last_turn : Standing → ℤ → Event → List Exchanged → Turn
last_turn s moment event [] = turn_of s moment event
last_turn s moment event (x ∷ xs) = last_turn (stands_then s (turn_of s moment event)) moment (event_in x) xs

-- where the supplier stands before the last step, and after it
abbrev pub stands_last : Standing → ℤ → Event → List Exchanged → Standing
stands_last s moment event [] = s
stands_last s moment event (x ∷ xs) = stands_last (stands_then s (turn_of s moment event)) moment (event_in x) xs

abbrev pub stands_after : Standing → ℤ → Event → List Exchanged → Standing
stands_after s moment event xs = stands_then (stands_last s moment event xs) (last_turn s moment event xs)

-- the exchange is whole: its last step says something
abbrev pub IsExchange : Standing → ℤ → Event → List Exchanged → Type 0
IsExchange s moment event xs = IsBegun s moment event xs × (says_something (last_turn s moment event xs).said ≡ true)

-- a reply without its call
pub data Reply : Type 0 where
  ByDss : (reply : DssReply) → Reply
  ByPeer : (reply : PeerReply) → Reply

abbrev pub reply_in : Exchanged → Reply
reply_in (OfDss call reply) = ByDss reply
reply_in (OfPeer call reply) = ByPeer reply

-- for one supplier, first event and list of replies there is at most one whole exchange, and none that takes more of these replies
abbrev pub ExchangesAreOne : Type 0
ExchangesAreOne =
    (s : Standing) (moment : ℤ) (event : Event) (xs ys : List Exchanged) (more : List Reply) → IsExchange s moment event xs → IsExchange s moment event ys → map reply_in ys ≡ map reply_in xs ++ more → xs ≡ ys

-- how many calls were made, that of the last step too
abbrev pub calls_made : Standing → ℤ → Event → List Exchanged → ℕ
calls_made s moment event xs = length xs + length (last_turn s moment event xs).sends

-- each reply fits its call
abbrev pub AllFit : List Exchanged → Type 0
AllFit [] = Unit {0}
AllFit (OfDss call reply ∷ xs) = (fits call.ask reply ≡ true) × AllFit xs
AllFit (OfPeer call reply ∷ xs) = (peer_fits call reply ≡ true) × AllFit xs

-- each reply is of its types
abbrev pub AllTyped : List Exchanged → Type 0
AllTyped [] = Unit {0}
AllTyped (x ∷ xs) = IsEvent (event_in x) × AllTyped xs

-- nobody is left without an answer or a next call: as far as an exchange has gone, its last step says something, or makes exactly one call
abbrev pub ExchangesGoOn : Type 0
ExchangesGoOn =
    (s : Standing) (moment : ℤ) (event : Event) (xs : List Exchanged) → is_operators event ≡ true → IsSound s.owner s.book s.values → IsEvent event → IsBegun s moment event xs → AllFit xs → AllTyped xs
    → (says_something (last_turn s moment event xs).said ≡ true) ⊎ (length (last_turn s moment event xs).sends ≡ 1)

-- somebody replies to each call, whatever was called and replied before: so that the reply fits and is of its types
pub record AlwaysReplies (reply_to : List Exchanged → Outgoing → Exchanged) : Type 0 where
  pub its_call : (before : List Exchanged) (call : Outgoing) → call_in (reply_to before call) ≡ call
  pub fits : (before : List Exchanged) (call : Outgoing) → AllFit (reply_to before call ∷ [])
  pub typed : (before : List Exchanged) (call : Outgoing) → IsEvent (event_in (reply_to before call))

-- the replies are those
abbrev pub AreRepliesOf : (List Exchanged → Outgoing → Exchanged) → List Exchanged → List Exchanged → Type 0
AreRepliesOf reply_to before [] = Unit {0}
AreRepliesOf reply_to before (x ∷ xs) = (x ≡ reply_to before (call_in x)) × AreRepliesOf reply_to (before ++ x ∷ []) xs

-- whoever replies so, the exchange comes to an end
abbrev pub ExchangesEnd : Type 0
ExchangesEnd =
    (s : Standing) (moment : ℤ) (event : Event) (reply_to : List Exchanged → Outgoing → Exchanged) → is_operators event ≡ true → IsSound s.owner s.book s.values → IsEvent event → AlwaysReplies reply_to
    → (xs : List Exchanged) × IsExchange s moment event xs × AreRepliesOf reply_to [] xs

-- the greatest number of references that a query of these gave
abbrev pub most_found : List Exchanged → ℕ
most_found [] = 0
most_found (OfDss call reply ∷ xs) = max (length (found_by reply)) (most_found xs)
most_found (OfPeer call reply ∷ xs) = most_found xs

-- the number of references that the flight's open job had found before
abbrev pub found_before : Values → Option Opening → ℕ
found_before values None = 0
found_before values (Some o) = length (round_of o.job values).found

-- so many calls suffice for rounds in which so many references were found
abbrev pub call_bound : ℕ → ℕ → ℕ
call_bound rounds found = 4 + rounds * (2 + found)

-- a request makes at most 4 calls, and in each of its rounds one for each reference that was found, and 2; an End has no rounds
abbrev pub CallsAreBounded : Type 0
CallsAreBounded =
    (s : Standing) (moment : ℤ) (ask : FlightAsk) (xs : List Exchanged) → IsSound s.owner s.book s.values → IsBegun s moment (Comes.Ask ask) xs → AllFit xs
    → calls_made s moment (Comes.Ask ask) xs ≤ call_bound (rounds_of ask.wish) (max (found_before s.values (open_job_of ask.flight s.book)) (most_found xs))

-- likewise whatever an operator sends, by the rounds of the job of its request
abbrev pub CallsOfJobsAreBounded : Type 0
CallsOfJobsAreBounded =
    (s : Standing) (moment : ℤ) (event : Event) (xs : List Exchanged) (o : Opening) → is_operators event ≡ true → IsSound s.owner s.book s.values → IsBegun s moment event xs → AllFit xs
    → job_named event (stands_after s moment event xs).book ≡ Some o
    → calls_made s moment event xs ≤ call_bound (rounds_of o.ask.wish) (max (found_before s.values (open_job_of o.ask.flight s.book)) (most_found xs))
