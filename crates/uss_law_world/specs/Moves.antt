-- What may happen in the world, step by step, and what comes of it. This project's own.
use Rattle.std.specs.Prelude.{ℕ, ℤ, Bool, true, false, not, ◌&&◌, ◌==◌, List, [], ◌∷◌, ◌++◌, length, map, take, find, Option, Some, None, if◌then◌else◌}
use Rattle.std.specs.List.{range_with_len}
use Rattle.uss_intent.specs.declared.calls.DssReply.{DssReply}
use Rattle.uss_intent.specs.Numbers.{is_one_of}
use Rattle.uss_event.specs.Pairs.{OperationalIntent}
use Rattle.uss_event.specs.declared.entries.Entry.{Entry}
use Rattle.uss_event.specs.declared.calls.DssCall.{DssCall}
use Rattle.uss_event.specs.declared.calls.PeerCall.{PeerCall}
use Rattle.uss_event.specs.declared.calls.PeerCall.TheVariants as Calls
use Rattle.uss_event.specs.declared.calls.PeerReply.{PeerReply}
use Rattle.uss_event.specs.declared.calls.PeerReply.TheVariants as Peers
use Rattle.uss_event.specs.declared.events.Said.{Said}
use Rattle.uss_event.specs.declared.events.Said.TheVariants as Says
use Rattle.uss_event.specs.declared.events.Event.{Event}
use Rattle.uss_event.specs.declared.events.Event.TheVariants as Comes
use Rattle.uss_event.specs.declared.steps.Step.{Step}
use Rattle.uss_event.specs.declared.steps.Step.TheVariants as Steps
use Rattle.uss_event.specs.declared.steps.Stopped.{Stopped}
use Rattle.uss_event.specs.declared.steps.Stopped.TheVariants as Turns
use Rattle.uss_law_dss.specs.Service.{Service}
use Rattle.uss_law_dss.specs.Step.{service_step}
use Rattle.uss_event.specs.declared.entries.Opening.{Opening}
use Rattle.uss_law_duty.specs.Answers.{job_of_call, job_named}
use Rattle.uss_law_duty.specs.Duties.{book_after, Choice}
use Rattle.uss_law_world.specs.World.{Supplier, Post, Saying, World, supplier_in, book_of, name_of, post_at, post_of}
use Rattle.uss_law_world.specs.World.Post.{Called, Replied, Asked, Answered}

-- what may happen, each step of a supplier with what the supplier chose
pub data Move : Type 0 where
  -- it is this moment
  Now : (moment : ℤ) → Move
  -- an operator asks something of a supplier, a supplier is told to send what it owes, or a message comes, for the first time or again
  Takes : (step : Stopped) (choice : Choice) → Move
  -- the message is passed over from now on; nothing changes where it was never sent
  Lose : (message : ℕ) → Move
  -- so many times, the least message comes that was never delivered and isn't passed over
  Drain : (choices : List Choice) → Move
  -- a supplier is told that its call failed
  Fault : (message : ℕ) (choice : Choice) → Move
  -- a supplier keeps its book alone
  Restart : (supplier : ℕ) → Move
  -- a supplier stops within a step and restarts: before its entry is kept, or after that, when so many of its messages have left
  Stop : (kept : Bool) (sent : ℕ) (step : Stopped) (choice : Choice) → Move

-- the step of a script that a move is, without what the supplier chose
abbrev pub taken_step : Stopped → Step
taken_step (Turns.Ask s ask) = Steps.Ask s ask
taken_step (Turns.Cancel s flight number) = Steps.Cancel s flight number
taken_step (Turns.Position s ask) = Steps.Position s ask
taken_step (Turns.Sweep s skip) = Steps.Sweep s skip
taken_step (Turns.Deliver k) = Steps.Deliver k

abbrev pub step_of : Move → Step
step_of (Now moment) = Steps.Now moment
step_of (Takes step c) = taken_step step
step_of (Lose k) = Steps.Lose k
step_of (Drain cs) = Steps.Drain (length cs)
step_of (Fault k c) = Steps.Fault k
step_of (Restart s) = Steps.Restart s
step_of (Stop kept sent step c) = Steps.Stop kept sent step

-- a call of another supplier that waits for its answer: the message's number, who sent it, and the call
pub record Asker : Type 0 where
  pub number : ℕ
  pub from : ℕ
  pub call : PeerCall

-- an event that comes to a supplier, with the call that what is said answers, if there is one
pub record Arrival : Type 0 where
  pub supplier : ℕ
  pub event : Event
  pub asker : Option Asker

-- what a call of a client is to the supplier that it comes to
abbrev pub event_by : List ℕ → PeerCall → Event
event_by client (Calls.Details job flight manager base) = Comes.Details client flight
event_by client (Calls.Notify job index base note) = Comes.Notified client note

-- what is for a supplier that isn't there comes to nobody
abbrev pub if_there : Option Supplier → Arrival → Option Arrival
if_there None a = None
if_there (Some x) a = Some a

abbrev pub to_one : World → Arrival → Option Arrival
to_one w a = if_there (supplier_in a.supplier w.suppliers) a

-- what a message with this number brings to a supplier; a call of the discovery service, or of a supplier that doesn't exist, brings
-- nothing, and neither does a message that was never sent
abbrev pub arrival_by : World → ℕ → Option Post → Option Arrival
arrival_by w k None = None
arrival_by w k (Some (Called from call)) = None
arrival_by w k (Some (Replied to answered call reply)) = to_one w (record { supplier = to; event = Comes.Dss call reply; asker = None })
arrival_by w k (Some (Asked from None call)) = None
arrival_by w k (Some (Asked from (Some to) call)) =
    to_one w (record { supplier = to; event = event_by (name_of from w) call; asker = Some (record { number = k; from = from; call = call }) })
arrival_by w k (Some (Answered to answered call reply)) = to_one w (record { supplier = to; event = Comes.Peer call reply; asker = None })

-- what a step brings to a supplier
abbrev pub arrival_of : World → Stopped → Option Arrival
arrival_of w (Turns.Ask s ask) = to_one w (record { supplier = s; event = Comes.Ask ask; asker = None })
arrival_of w (Turns.Cancel s flight number) = to_one w (record { supplier = s; event = Comes.Cancel flight number; asker = None })
arrival_of w (Turns.Position s ask) = to_one w (record { supplier = s; event = Comes.Position ask; asker = None })
arrival_of w (Turns.Sweep s skip) = to_one w (record { supplier = s; event = Comes.Sweep skip; asker = None })
arrival_of w (Turns.Deliver k) = arrival_by w k (post_at k w)

-- who is told that a call failed; a reply is no call, and neither is a message that was never sent
abbrev pub fault_by : World → Option Post → Option Arrival
fault_by w None = None
fault_by w (Some (Called from call)) = to_one w (record { supplier = from; event = Comes.Failed call.job; asker = None })
fault_by w (Some (Replied to answered call reply)) = None
fault_by w (Some (Asked from to call)) = to_one w (record { supplier = from; event = Comes.Failed (job_of_call call); asker = None })
fault_by w (Some (Answered to answered call reply)) = None

abbrev pub fault_of : World → ℕ → Option Arrival
fault_of w k = fault_by w (post_at k w)

-- the reply to a call of another supplier, by what was said to it
abbrev pub pair_reply : Option OperationalIntent → PeerReply
pair_reply None = Peers.Gone
pair_reply (Some pair) = Peers.Served pair

abbrev pub reply_by : Said → Option PeerReply
reply_by (Says.Pair pair) = Some (pair_reply pair)
reply_by Says.Noted = Some Peers.Noted
reply_by Says.NotManager = Some (Peers.Status 403)
reply_by _ = None

abbrev pub answer_with : Asker → Option PeerReply → List Post
answer_with asker None = []
answer_with asker (Some reply) = Answered asker.from asker.number asker.call reply ∷ []

abbrev pub answer_to : Option Asker → Said → List Post
answer_to None said = []
answer_to (Some asker) said = answer_with asker (reply_by said)

-- the messages of a supplier's step: its calls, and its answer
abbrev pub posts_of : World → Arrival → Choice → List Post
posts_of w a c = map (post_of w.suppliers a.supplier) c.sends ++ answer_to a.asker c.said

-- the request that an event is about
abbrev pub request_of : Option Opening → ℕ × ℕ
request_of None = (0, 0)
request_of (Some o) = (o.ask.flight, o.ask.number)

abbrev pub request_named : Event → List Entry → ℕ × ℕ
request_named (Comes.Ask ask) book = (ask.flight, ask.number)
request_named (Comes.Cancel flight number) book = (flight, number)
request_named (Comes.Position ask) book = (ask.flight, ask.number)
request_named event book = request_of (job_named event book)

abbrev pub saying_of : Arrival → Choice → List Entry → Saying
saying_of a c after = record { supplier = a.supplier; flight = (request_named a.event after).0; number = (request_named a.event after).1; said = c.said }

-- the supplier with a number is so, after it was changed so
abbrev pub changed : ℕ → (Supplier → Supplier) → Supplier → Supplier
changed s f x = if x.owner.number == s then f x else x

abbrev pub with_supplier : ℕ → (Supplier → Supplier) → List Supplier → List Supplier
with_supplier s f suppliers = map (changed s f) suppliers

-- a supplier after its step, and after a restart
abbrev pub stepped : Choice → Supplier → Supplier
stepped c x = record { owner = x.owner; book = book_after x.book c.entry; heard = c.heard }

abbrev pub restarted : Supplier → Supplier
restarted x = record { owner = x.owner; book = x.book; heard = [] }

-- the world after a step of a supplier of which these messages leave
abbrev pub after_step : World → Arrival → Choice → List Post → World
after_step w a c posts =
    record w {
      suppliers = with_supplier a.supplier (stepped c) w.suppliers;
      posts = w.posts ++ posts;
      sayings = w.sayings ++ saying_of a c (book_after (book_of a.supplier w) c.entry) ∷ [];
    }

abbrev pub after_restart : World → ℕ → World
after_restart w s = record w { suppliers = with_supplier s restarted w.suppliers }

-- the world after the discovery service took a call and replied
abbrev pub after_call : World → ℕ → ℕ → DssCall → DssReply × Service → World
after_call w k from call out = record w { service = out.1; posts = w.posts ++ Replied from k call out.0 ∷ [] }

abbrev pub arrives : World → Choice → Option Arrival → World
arrives w c None = w
arrives w c (Some a) = after_step w a c (posts_of w a c)

-- a message comes
abbrev pub brings : World → ℕ → Choice → Post → World
brings w k c (Called from call) = after_call w k from call (service_step w.service (name_of from w) call.ask)
brings w k c post = arrives w c (arrival_by w k (Some post))

abbrev pub marked : ℕ → World → World
marked k w = record w { delivered = w.delivered ++ k ∷ [] }

abbrev pub comes : World → ℕ → Choice → Option Post → World
comes w k c None = w
comes w k c (Some post) = marked k (brings w k c post)

abbrev pub delivers : World → ℕ → Choice → World
delivers w k c = comes w k c (post_at k w)

abbrev pub takes : World → Stopped → Choice → World
takes w (Turns.Ask s ask) c = arrives w c (arrival_of w (Turns.Ask s ask))
takes w (Turns.Cancel s flight number) c = arrives w c (arrival_of w (Turns.Cancel s flight number))
takes w (Turns.Position s ask) c = arrives w c (arrival_of w (Turns.Position s ask))
takes w (Turns.Sweep s skip) c = arrives w c (arrival_of w (Turns.Sweep s skip))
takes w (Turns.Deliver k) c = delivers w k c

-- the least message that was never delivered and isn't passed over
abbrev pub next_message : World → Option ℕ
next_message w = find (λ k. not (is_one_of k w.delivered) && not (is_one_of k w.lost)) (range_with_len 1 (length w.posts))

abbrev pub delivers_next : World → Choice → Option ℕ → World
delivers_next w c None = w
delivers_next w c (Some k) = delivers w k c

abbrev pub drains : World → List Choice → World
drains w [] = w
drains w (c ∷ cs) = drains (delivers_next w c (next_message w)) cs

-- the message that a step delivers is marked
abbrev pub marked_by : Stopped → World → World
marked_by (Turns.Deliver k) w = marked k w
marked_by _ w = w

-- a supplier stops within its step; a step that is none of a supplier changes nothing
abbrev pub stops : World → Bool → ℕ → Stopped → Choice → Option Arrival → World
stops w kept sent step c None = w
stops w true sent step c (Some a) = marked_by step (after_restart (after_step w a c (take sent (posts_of w a c))) a.supplier)
stops w false sent step c (Some a) = after_restart w a.supplier

-- a message is passed over from now on; one that was never sent isn't
abbrev pub loses : World → ℕ → Option Post → World
loses w k None = w
loses w k (Some post) = record w { lost = w.lost ++ k ∷ [] }

-- The world after a move. A delivery, a loss, a fault or a stop that names a message which was never sent changes nothing: nothing is
-- marked, and nobody restarts; a drain finds sent messages alone. Only a delivery marks a message as delivered, be it one of a drain or
-- one within which a supplier stops once its entry is kept; a fault marks nothing. A message that is passed over still comes where a
-- step names it.
abbrev pub happens : World → Move → World
happens w (Now moment) = record w { moment = moment }
happens w (Takes step c) = takes w step c
happens w (Lose k) = loses w k (post_at k w)
happens w (Drain cs) = drains w cs
happens w (Fault k c) = arrives w c (fault_of w k)
happens w (Restart s) = after_restart w s
happens w (Stop kept sent step c) = stops w kept sent step c (arrival_of w step)

-- and after a list of them
abbrev pub run : World → List Move → World
run w [] = w
run w (m ∷ ms) = run (happens w m) ms
