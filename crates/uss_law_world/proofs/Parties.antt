-- Whatever happens, who sent a message and who is to get it is there; so a step that isn't refused comes to a supplier.
use Rattle.std.proofs.Common.{ℕ, ◌≡◌, ◌==◌, inl, inr, Bool, true, false, cond, List, [], ◌∷◌, refl, ap, subst, map, find, take, Option, Some, None, IfSome}
use Rattle.std.specs.Option.{option_map}
use Rattle.uss_intent.specs.Same.{same_text}
use Rattle.uss_event.specs.declared.entries.Owner.{Owner}
use Rattle.uss_event.specs.declared.calls.DssCall.{DssCall}
use Rattle.uss_event.specs.declared.calls.PeerCall.{PeerCall}
use Rattle.uss_event.specs.declared.calls.PeerCall.TheVariants as Calls
use Rattle.uss_event.specs.declared.calls.PeerReply.{PeerReply}
use Rattle.uss_event.specs.declared.events.Said.{Said}
use Rattle.uss_event.specs.declared.calls.Outgoing.{Outgoing}
use Rattle.uss_event.specs.declared.calls.Outgoing.TheVariants as Goes
use Rattle.uss_event.specs.declared.steps.Stopped.{Stopped}
use Rattle.uss_event.specs.declared.steps.Stopped.TheVariants as Turns
use Rattle.uss_law_dss.specs.Lists.{Has}
use Rattle.uss_law_dss.specs.Step.{service_step}
use Rattle.uss_law_dss.proofs.Lists.{has_append, has_push, has_map, find_has}
use Rattle.uss_law_dss.proofs.Tests.{equal_number, some_same}
use Rattle.uss_law_duty.specs.Duties.{Choice}
use Rattle.uss_law_world.specs.World.{Supplier, Post, World, supplier_in, number_of, addressee, name_of, post_at, post_of, start}
use Rattle.uss_law_world.specs.World.Post.{Called, Replied, Asked, Answered}
use Rattle.uss_law_world.specs.Moves.{Move, Asker, Arrival, to_one, if_there, arrival_by, arrival_of, fault_by, fault_of, reply_by, answer_with, answer_to, posts_of, restarted, stepped, with_supplier, after_step, after_restart, after_call, arrives, brings, comes, delivers, takes, next_message, delivers_next, drains, marked_by, stops, loses, happens, run}
use Rattle.uss_law_world.specs.Moves.{Move as Moves}
use Rattle.uss_law_world.specs.Refused.{unless_there, unless_call, unless_received, stop_refusal}
use Rattle.uss_law_world.specs.Parties.{IsThere, HasParties}
use Rattle.uss_law_world.proofs.Lookups.{KeepsOwner, at_any, came}
use Rattle.uss_law_world.proofs.Runs.{has_taken, post_has}

-- suppliers stay
there_still : (s : ℕ) (f : Supplier → Supplier) (xs : List Supplier) → KeepsOwner f → (k : ℕ) → IsThere xs k → IsThere (with_supplier s f xs) k
there_still s f xs o k h = at_any s f xs o k (λ y. (x : Supplier) × (y ≡ Some x)) (λ x e g. (f x, refl)) h

parties_still : (s : ℕ) (f : Supplier → Supplier) (xs : List Supplier) → KeepsOwner f → (p : Post) → HasParties xs p → HasParties (with_supplier s f xs) p
parties_still s f xs o (Called from call) h = there_still s f xs o from h
parties_still s f xs o (Replied to answered call reply) h = there_still s f xs o to h
parties_still s f xs o (Asked from None call) h = (there_still s f xs o from h.0, tt)
parties_still s f xs o (Asked from (Some to) call) h = (there_still s f xs o from h.0, there_still s f xs o to h.1)
parties_still s f xs o (Answered to answered call reply) h = there_still s f xs o to h

-- whom a call goes to is there
has_there : (xs : List Supplier) (x : Supplier) → Has xs x → IsThere xs x.owner.number
unfolding supplier_in
has_there [] x h = absurd h
has_there (y ∷ xs) x (inl e) = (y, rw (equal_number y.owner.number x.owner.number (ap (λ (z : Supplier). z.owner.number) e)) refl)
has_there (y ∷ xs) x (inr h) = go (y.owner.number == x.owner.number) (has_there xs x h)
  where
    go : (b : Bool) → IsThere xs x.owner.number → (z : Supplier) × (cond b (Some y) (find (λ (z : Supplier). z.owner.number == x.owner.number) xs) ≡ Some z)
    go true rec = (y, refl)
    go false rec = rec

found_there : (xs : List Supplier) (p : Supplier → Bool) → IfSome (option_map number_of (find p xs)) (IsThere xs)
found_there xs p = go (find p xs) refl
  where
    go : (x : Option Supplier) → find p xs ≡ x → IfSome (option_map number_of x) (IsThere xs)
    go None e = tt
    go (Some x) e = has_there xs x (find_has p xs x e).0

addressed : (xs : List Supplier) (call : PeerCall) → IfSome (addressee xs call) (IsThere xs)
addressed xs (Calls.Details job flight manager base) = found_there xs (λ (x : Supplier). same_text x.owner.name manager)
addressed xs (Calls.Notify job index base note) = found_there xs (λ (x : Supplier). same_text x.owner.base base)

-- so the messages of a step are of suppliers that are there
abbrev pub ArrivesThere : World → Arrival → Type 0
ArrivesThere w a = IsThere w.suppliers a.supplier × IfSome a.asker (λ (k : Asker). IsThere w.suppliers k.from)

sent_parties : (xs : List Supplier) (s : ℕ) → IsThere xs s → (x : Outgoing) → HasParties xs (post_of xs s x)
sent_parties xs s h (Goes.Dss call) = h
sent_parties xs s h (Goes.Peer call) = (h, addressed xs call)

answer_parties : (xs : List Supplier) (k : Asker) (x : Option PeerReply) → IsThere xs k.from → (p : Post) → Has (answer_with k x) p → HasParties xs p
answer_parties xs k None i p h = absurd h
answer_parties xs k (Some reply) i p (inl e) = subst (HasParties xs) e i
answer_parties xs k (Some reply) i p (inr n) = absurd n

answered_parties : (xs : List Supplier) (asker : Option Asker) (said : Said) → IfSome asker (λ (k : Asker). IsThere xs k.from) → (p : Post) → Has (answer_to asker said) p → HasParties xs p
answered_parties xs None said i p h = absurd h
answered_parties xs (Some k) said i p h = answer_parties xs k (reply_by said) i p h

step_parties : (w : World) (a : Arrival) (c : Choice) → ArrivesThere w a → (p : Post) → Has (posts_of w a c) p → HasParties w.suppliers p
step_parties w a c t p h =
    elim (has_append (map (post_of w.suppliers a.supplier) c.sends) (answer_to a.asker c.said) p h) [
      | inl sent ↦ (let x = has_map (post_of w.suppliers a.supplier) c.sends p sent in subst (HasParties w.suppliers) x.2 (sent_parties w.suppliers a.supplier t.0 x.0))
      | inr answer ↦ answered_parties w.suppliers a.asker c.said t.1 p answer
    ]

-- every message has its parties
abbrev pub ArePlaced : World → Type 0
ArePlaced w = (p : Post) → Has w.posts p → HasParties w.suppliers p

-- what comes, comes to one that is there
came_there : (w : World) (b a : Arrival) → IfSome b.asker (λ (k : Asker). IsThere w.suppliers k.from) → to_one w b ≡ Some a → ArrivesThere w a
came_there w b a i e = let c = came w b a e in ((c.supplier, c.there), subst (λ (z : Arrival). IfSome z.asker (λ (k : Asker). IsThere w.suppliers k.from)) c.is i)

message_there : (w : World) (k : ℕ) (o : Option Post) → ((p : Post) → o ≡ Some p → HasParties w.suppliers p) → (a : Arrival) → arrival_by w k o ≡ Some a → ArrivesThere w a
message_there w k None i a e = cc
message_there w k (Some (Called from call)) i a e = cc
message_there w k (Some (Replied to answered call reply)) i a e = came_there w _ a tt e
message_there w k (Some (Asked from None call)) i a e = cc
message_there w k (Some (Asked from (Some to) call)) i a e = came_there w _ a (i (Asked from (Some to) call) refl).0 e
message_there w k (Some (Answered to answered call reply)) i a e = came_there w _ a tt e

step_there : (w : World) → ArePlaced w → (step : Stopped) (a : Arrival) → arrival_of w step ≡ Some a → ArrivesThere w a
step_there w i (Turns.Ask s ask) a e = came_there w _ a tt e
step_there w i (Turns.Cancel s flight number) a e = came_there w _ a tt e
step_there w i (Turns.Position s ask) a e = came_there w _ a tt e
step_there w i (Turns.Sweep s skip) a e = came_there w _ a tt e
step_there w i (Turns.Deliver k) a e = message_there w k (post_at k w) (λ p f. i p (post_has k w p f)) a e

fault_there : (w : World) (o : Option Post) (a : Arrival) → fault_by w o ≡ Some a → ArrivesThere w a
fault_there w None a e = cc
fault_there w (Some (Called from call)) a e = came_there w _ a tt e
fault_there w (Some (Replied to answered call reply)) a e = cc
fault_there w (Some (Asked from to call)) a e = came_there w _ a tt e
fault_there w (Some (Answered to answered call reply)) a e = cc

-- and each move keeps that
act_placed : (w : World) (a : Arrival) (c : Choice) (posts : List Post) → ((p : Post) → Has posts p → Has (posts_of w a c) p) → ArrivesThere w a → ArePlaced w → ArePlaced (after_step w a c posts)
act_placed w a c posts sub t i p h = parties_still a.supplier (stepped c) w.suppliers (λ x. refl) p (elim (has_append w.posts posts p h) [ inl old ↦ i p old | inr new ↦ step_parties w a c t p (sub p new) ])

restart_placed : (w : World) (s : ℕ) → ArePlaced w → ArePlaced (after_restart w s)
restart_placed w s i p h = parties_still s restarted w.suppliers (λ x. refl) p (i p h)

arrives_placed : (w : World) (c : Choice) (o : Option Arrival) → ((a : Arrival) → o ≡ Some a → ArrivesThere w a) → ArePlaced w → ArePlaced (arrives w c o)
arrives_placed w c None t i = i
arrives_placed w c (Some a) t i = act_placed w a c (posts_of w a c) (λ p h. h) (t a refl) i

-- the discovery service replies to one that is there
call_placed : (w : World) (k from : ℕ) (call : DssCall) → Has w.posts (Called from call) → ArePlaced w → ArePlaced (after_call w k from call (service_step w.service (name_of from w) call.ask))
call_placed w k from call n i p h =
    elim (has_push w.posts (Replied from k call (service_step w.service (name_of from w) call.ask).0) p h) [ inl old ↦ i p old | inr e ↦ subst (HasParties w.suppliers) e (i (Called from call) n) ]

message_placed : (w : World) (k : ℕ) (c : Choice) (p : Post) → Has w.posts p → ArePlaced w → ArePlaced (arrives w c (arrival_by w k (Some p)))
message_placed w k c p n i = arrives_placed w c (arrival_by w k (Some p)) (message_there w k (Some p) (λ q e. subst (HasParties w.suppliers) (some_same p q e) (i p n))) i

brings_placed : (w : World) (k : ℕ) (c : Choice) (p : Post) → Has w.posts p → ArePlaced w → ArePlaced (brings w k c p)
brings_placed w k c (Called from call) n i = call_placed w k from call n i
brings_placed w k c (Replied to answered call reply) n i = message_placed w k c (Replied to answered call reply) n i
brings_placed w k c (Asked from to call) n i = message_placed w k c (Asked from to call) n i
brings_placed w k c (Answered to answered call reply) n i = message_placed w k c (Answered to answered call reply) n i

comes_placed : (w : World) (k : ℕ) (c : Choice) (o : Option Post) → ((p : Post) → o ≡ Some p → Has w.posts p) → ArePlaced w → ArePlaced (comes w k c o)
comes_placed w k c None f i = i
comes_placed w k c (Some p) f i = brings_placed w k c p (f p refl) i

delivers_placed : (w : World) (k : ℕ) (c : Choice) → ArePlaced w → ArePlaced (delivers w k c)
delivers_placed w k c i = comes_placed w k c (post_at k w) (post_has k w) i

takes_placed : (w : World) (step : Stopped) (c : Choice) → ArePlaced w → ArePlaced (takes w step c)
takes_placed w (Turns.Ask s ask) c i = arrives_placed w c (arrival_of w (Turns.Ask s ask)) (step_there w i (Turns.Ask s ask)) i
takes_placed w (Turns.Cancel s flight number) c i = arrives_placed w c (arrival_of w (Turns.Cancel s flight number)) (step_there w i (Turns.Cancel s flight number)) i
takes_placed w (Turns.Position s ask) c i = arrives_placed w c (arrival_of w (Turns.Position s ask)) (step_there w i (Turns.Position s ask)) i
takes_placed w (Turns.Sweep s skip) c i = arrives_placed w c (arrival_of w (Turns.Sweep s skip)) (step_there w i (Turns.Sweep s skip)) i
takes_placed w (Turns.Deliver k) c i = delivers_placed w k c i

next_placed : (w : World) (c : Choice) (o : Option ℕ) → ArePlaced w → ArePlaced (delivers_next w c o)
next_placed w c None i = i
next_placed w c (Some k) i = delivers_placed w k c i

drains_placed : (cs : List Choice) (w : World) → ArePlaced w → ArePlaced (drains w cs)
drains_placed [] w i = i
drains_placed (c ∷ cs) w i = drains_placed cs (delivers_next w c (next_message w)) (next_placed w c (next_message w) i)

marked_placed : (step : Stopped) (w : World) → ArePlaced w → ArePlaced (marked_by step w)
marked_placed (Turns.Deliver k) w i = i
marked_placed (Turns.Ask s ask) w i = i
marked_placed (Turns.Cancel s flight number) w i = i
marked_placed (Turns.Position s ask) w i = i
marked_placed (Turns.Sweep s skip) w i = i

stops_placed : (w : World) (kept : Bool) (sent : ℕ) (step : Stopped) (c : Choice) (o : Option Arrival) → ((a : Arrival) → o ≡ Some a → ArrivesThere w a) → ArePlaced w → ArePlaced (stops w kept sent step c o)
stops_placed w kept sent step c None t i = i
stops_placed w true sent step c (Some a) t i =
    let posts = take sent (posts_of w a c) in
    let after = after_step w a c posts in
    marked_placed step (after_restart after a.supplier) (restart_placed after a.supplier (act_placed w a c posts (λ p h. has_taken sent (posts_of w a c) p h) (t a refl) i))
stops_placed w false sent step c (Some a) t i = restart_placed w a.supplier i

loses_placed : (w : World) (k : ℕ) (o : Option Post) → ArePlaced w → ArePlaced (loses w k o)
loses_placed w k None i = i
loses_placed w k (Some p) i = i

move_placed : (w : World) (m : Move) → ArePlaced w → ArePlaced (happens w m)
move_placed w (Moves.Now moment) i = i
move_placed w (Moves.Takes step c) i = takes_placed w step c i
move_placed w (Moves.Lose k) i = loses_placed w k (post_at k w) i
move_placed w (Moves.Drain cs) i = drains_placed cs w i
move_placed w (Moves.Fault k c) i = arrives_placed w c (fault_of w k) (fault_there w (post_at k w)) i
move_placed w (Moves.Restart s) i = restart_placed w s i
move_placed w (Moves.Stop kept sent step c) i = stops_placed w kept sent step c (arrival_of w step) (step_there w i step) i

run_placed : (ms : List Move) (w : World) → ArePlaced w → ArePlaced (run w ms)
run_placed [] w i = i
run_placed (m ∷ ms) w i = run_placed ms (happens w m) (move_placed w m i)

pub reached_placed : (owners : List Owner) (ms : List Move) → ArePlaced (run (start owners) ms)
reached_placed owners ms = run_placed ms (start owners) (λ p h. absurd h)

-- what isn't refused comes to a supplier
abbrev Comes : Option Arrival → Type 0
Comes o = (a : Arrival) × (o ≡ Some a)

to_somebody : (w : World) (a : Arrival) → IsThere w.suppliers a.supplier → Comes (to_one w a)
to_somebody w a t = (a, ap (λ o. if_there o a) t.1)

present : (w : World) (a : Arrival) → unless_there (supplier_in a.supplier w.suppliers) ≡ None → Comes (to_one w a)
present w a e = go (supplier_in a.supplier w.suppliers) e
  where
    go : (o : Option Supplier) → unless_there o ≡ None → Comes (if_there o a)
    go None e = cc
    go (Some x) e = (a, refl)

received : (w : World) (k : ℕ) (o : Option Post) → unless_received w o ≡ None → Comes (arrival_by w k o)
received w k None e = cc
received w k (Some (Called from call)) e = cc
received w k (Some (Replied to answered call reply)) e = present w _ e
received w k (Some (Asked from None call)) e = cc
received w k (Some (Asked from (Some to) call)) e = present w _ e
received w k (Some (Answered to answered call reply)) e = present w _ e

pub step_comes : (w : World) (step : Stopped) → stop_refusal w step ≡ None → Comes (arrival_of w step)
step_comes w (Turns.Ask s ask) e = present w _ e
step_comes w (Turns.Cancel s flight number) e = present w _ e
step_comes w (Turns.Position s ask) e = present w _ e
step_comes w (Turns.Sweep s skip) e = present w _ e
step_comes w (Turns.Deliver k) e = received w k (post_at k w) e

fault_by_comes : (w : World) (o : Option Post) → ((p : Post) → o ≡ Some p → HasParties w.suppliers p) → unless_call o ≡ None → Comes (fault_by w o)
fault_by_comes w None i e = cc
fault_by_comes w (Some (Called from call)) i e = to_somebody w _ (i (Called from call) refl)
fault_by_comes w (Some (Replied to answered call reply)) i e = cc
fault_by_comes w (Some (Asked from to call)) i e = to_somebody w _ (i (Asked from to call) refl).0
fault_by_comes w (Some (Answered to answered call reply)) i e = cc

pub fault_comes : (owners : List Owner) (ms : List Move) (k : ℕ) → unless_call (post_at k (run (start owners) ms)) ≡ None → Comes (fault_of (run (start owners) ms) k)
fault_comes owners ms k e =
    let w : World = run (start owners) ms in
    fault_by_comes w (post_at k w) (λ p f. reached_placed owners ms p (post_has k w p f)) e
