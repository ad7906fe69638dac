-- Each job of a run comes of a request.
use Rattle.std.proofs.Common.{ℕ, ℤ, ◌≡◌, ◌⊎◌, ◌==◌, Bool, true, false, List, [], ◌∷◌, ◌++◌, inl, inr, refl, ap, sym, subst, ◌∙◌, zero, suc, Option, Some, None, take}
use Rattle.uss_event.specs.declared.asks.FlightAsk.{FlightAsk}
use Rattle.uss_event.specs.declared.entries.Owner.{Owner}
use Rattle.uss_event.specs.declared.entries.Entry.{Entry}
use Rattle.uss_event.specs.declared.entries.Entry.TheVariants as Enters
use Rattle.uss_event.specs.declared.calls.PeerCall.{PeerCall}
use Rattle.uss_event.specs.declared.calls.PeerCall.TheVariants as Calls
use Rattle.uss_event.specs.declared.steps.Step.{Step}
use Rattle.uss_event.specs.declared.steps.Step.TheVariants as Steps
use Rattle.uss_event.specs.declared.steps.Stopped.{Stopped}
use Rattle.uss_event.specs.declared.steps.Stopped.TheVariants as Turns
use Rattle.uss_law_dss.specs.Lists.{Has}
use Rattle.uss_law_dss.proofs.Lists.{has_map, has_push}
use Rattle.uss_law_dss.proofs.Tests.{same_number, other_number}
use Rattle.uss_law_duty.specs.Duties.{book_after, Choice, clamped}
use Rattle.uss_law_supplier.specs.Turns.{Standing, Turn}
use Rattle.uss_law_world.specs.World.{Supplier, Post, World, supplier_in, new_supplier, book_in, book_of, name_of, post_at, start}
use Rattle.uss_law_world.specs.World.Post.{Called, Replied, Asked, Answered}
use Rattle.uss_law_world.specs.Moves.{Arrival, event_by, to_one, arrival_by, arrival_of, fault_by, fault_of, posts_of, stepped, restarted, after_step, after_restart, arrives, comes, marked_by, next_message, stops, loses}
use Rattle.uss_law_world.proofs.Lookups.{came, at_any, has_found, same_supplier, other_supplier}
use Rattle.uss_law_world.proofs.EachStep.{message_there, step_there, fault_there}
use Rattle.uss_law_exact.specs.Exact.{Exact, exact_start, choice_by, turn_by, chosen_by, choice_for, exact_step, exact_run}
use Rattle.uss_law_exact.specs.Drains.{delivery, next_delivery}
use Rattle.uss_law_exact.specs.Requests.{ActsAs, AsksBy, Asks, ComesOfRequest}
use Rattle.uss_law_exact.proofs.Drains.{drain_is_next}
use Rattle.uss_law_exact.proofs.Opening.{Opens, IsAskedBy, step_opens}

-- what a supplier stands on in a world
abbrev standing_of : Exact → Supplier → ℕ → Standing
standing_of e x s = record { owner = x.owner; book = x.book; values = e.kept s }

module _ (s job : ℕ) (moment : ℤ) (ask : FlightAsk) where
  abbrev opened : Entry
  opened = Enters.Opened (record { job = job; moment = moment; ask = ask })

  abbrev IsIn : World → Type 0
  IsIn w = Has (book_of s w) opened

  -- what comes to the supplier asks so, and this is entered
  record IsNew (e : Exact) (v : World) (a : Arrival) : Type 0 where
    pub to : a.supplier ≡ s
    pub moment_is : moment ≡ clamped e.world.moment
    pub supplier : Supplier
    pub there : supplier_in a.supplier e.world.suppliers ≡ Some supplier
    pub asked : IsAskedBy (standing_of e supplier a.supplier) (clamped e.world.moment) a.event ask
    pub enters : book_of s v ≡ book_of s e.world ++ opened ∷ []

  -- by an arrival
  module _ (e : Exact) (a : Arrival) (x : Supplier) (is : supplier_in a.supplier e.world.suppliers ≡ Some x) (posts : List Post) where
    abbrev t : Turn
    t = turn_by e a x

    abbrev v : World
    v = after_step e.world a (choice_by t) posts

    book_then : book_of a.supplier v ≡ book_after x.book t.entry
    book_then = ap book_in (same_supplier a.supplier (stepped (choice_by t)) e.world.suppliers x (λ z. refl) is)

    opens : Opens (λ at k. (at ≡ clamped e.world.moment) × IsAskedBy (standing_of e x a.supplier) (clamped e.world.moment) a.event k) t.entry
    opens = step_opens (standing_of e x a.supplier) (clamped e.world.moment) a.event

    new_entry : (y : Option Entry) → t.entry ≡ y → a.supplier ≡ s → Has (book_after x.book y) opened → Has x.book opened ⊎ IsNew e v a
    new_entry None q to h = inl h
    new_entry (Some n) q to h = elim (has_push x.book n opened h) [
      | inl old ↦ inl old
      | inr same ↦ (
          let o = subst (Opens (λ at k. (at ≡ clamped e.world.moment) × IsAskedBy (standing_of e x a.supplier) (clamped e.world.moment) a.event k)) (q ∙ ap Some same) opens in
          let enters : book_of a.supplier v ≡ book_of a.supplier e.world ++ opened ∷ [] = book_then ∙ (ap (book_after x.book) (q ∙ ap Some same) ∙ ap (λ b. b ++ opened ∷ []) (sym (ap book_in is))) in
          inr (record {
            to = to;
            moment_is = o.0;
            supplier = x;
            there = is;
            asked = o.1;
            enters = subst (λ k. book_of k v ≡ book_of k e.world ++ opened ∷ []) to enters;
          }))
    ]

    step_adds : IsIn v → IsIn e.world ⊎ IsNew e v a
    step_adds h = go (s == a.supplier) refl
      where
        go : (b : Bool) → (s == a.supplier) ≡ b → IsIn e.world ⊎ IsNew e v a
        go true q =
            let k : s ≡ a.supplier = same_number s a.supplier q in
            elim (new_entry t.entry refl (sym k) (subst (λ b. Has b opened) (subst (λ z. book_of z v ≡ book_after x.book t.entry) (sym k) book_then) h)) [
              | inl old ↦ inl (subst (λ b. Has b opened) (sym (ap (λ z. book_of z e.world) k ∙ ap book_in is)) old)
              | inr new ↦ inr new
            ]
        go false q = inl (subst (λ o. Has (book_in o) opened) (other_supplier a.supplier s (stepped (choice_by t)) e.world.suppliers (λ z. refl) (other_number s a.supplier q)) h)

  arrival_adds : (e : Exact) (a : Arrival) → (x : Supplier) × (supplier_in a.supplier e.world.suppliers ≡ Some x) → (posts : Choice → List Post)
      → IsIn (after_step e.world a (choice_for e (Some a)) (posts (choice_for e (Some a))))
      → IsIn e.world ⊎ IsNew e (after_step e.world a (choice_for e (Some a)) (posts (choice_for e (Some a)))) a
  arrival_adds e a x posts =
      subst (λ y. IsIn (after_step e.world a (chosen_by e a y) (posts (chosen_by e a y))) → IsIn e.world ⊎ IsNew e (after_step e.world a (chosen_by e a y) (posts (chosen_by e a y))) a) (sym x.1)
      (step_adds e a x.0 x.1 (posts (choice_by (turn_by e a x.0))))

  -- a message asks nothing
  event_asks : (z : Standing) (at : ℤ) (client : List ℕ) (call : PeerCall) → IsAskedBy z at (event_by client call) ask → ⊥
  event_asks z at client (Calls.Details k flight manager base) h = h
  event_asks z at client (Calls.Notify k index base note) h = h

  abbrev AsksNothing : Arrival → Type 0
  AsksNothing a = (z : Standing) (at : ℤ) → IsAskedBy z at a.event ask → ⊥

  came_asks : (w : World) (b a : Arrival) → to_one w b ≡ Some a → AsksNothing b → AsksNothing a
  came_asks w b a q h = subst AsksNothing (came w b a q).is h

  message_asks : (w : World) (k : ℕ) (o : Option Post) (a : Arrival) → arrival_by w k o ≡ Some a → AsksNothing a
  message_asks w k None a q = cc
  message_asks w k (Some (Called from call)) a q = cc
  message_asks w k (Some (Replied to answered call reply)) a q = came_asks w _ a q (λ z at h. h)
  message_asks w k (Some (Asked from None call)) a q = cc
  message_asks w k (Some (Asked from (Some to) call)) a q = came_asks w _ a q (λ z at h. event_asks z at (name_of from w) call h)
  message_asks w k (Some (Answered to answered call reply)) a q = came_asks w _ a q (λ z at h. h)

  fault_asks : (w : World) (o : Option Post) (a : Arrival) → fault_by w o ≡ Some a → AsksNothing a
  fault_asks w None a q = cc
  fault_asks w (Some (Called from call)) a q = came_asks w _ a q (λ z at h. h)
  fault_asks w (Some (Replied to answered call reply)) a q = cc
  fault_asks w (Some (Asked from to call)) a q = came_asks w _ a q (λ z at h. h)
  fault_asks w (Some (Answered to answered call reply)) a q = cc

  -- so nothing is opened where a message comes, or a call fails
  only_old : (e : Exact) (v : World) (a : Arrival) → AsksNothing a → IsIn e.world ⊎ IsNew e v a → IsIn e.world
  only_old e v a f (inl old) = old
  only_old e v a f (inr new) = absurd (f (standing_of e new.supplier a.supplier) (clamped e.world.moment) new.asked)

  arrives_adds_none : (e : Exact) (o : Option Arrival)
      → ((a : Arrival) → o ≡ Some a → AsksNothing a × ((x : Supplier) × (supplier_in a.supplier e.world.suppliers ≡ Some x)))
      → IsIn (arrives e.world (choice_for e o) o) → IsIn e.world
  arrives_adds_none e None f h = h
  arrives_adds_none e (Some a) f h = only_old e (arrives e.world (choice_for e (Some a)) (Some a)) a (f a refl).0 (arrival_adds e a (f a refl).1 (λ c. posts_of e.world a c) h)

  message_adds_none : (e : Exact) (k : ℕ) (o : Option Post) → IsIn (arrives e.world (choice_for e (arrival_by e.world k o)) (arrival_by e.world k o))
      → IsIn e.world
  message_adds_none e k o = arrives_adds_none e (arrival_by e.world k o) (λ a q. (message_asks e.world k o a q, message_there e.world k o a q))

  deliver_adds_none : (e : Exact) (k : ℕ) → IsIn (exact_step e (Steps.Deliver k)).world → IsIn e.world
  deliver_adds_none e k = go (post_at k e.world)
    where
      go : (o : Option Post) → IsIn (comes e.world k (choice_for e (arrival_by e.world k o)) o) → IsIn e.world
      go None h = h
      go (Some (Called from call)) h = h
      go (Some (Replied to answered call reply)) h = message_adds_none e k (Some (Replied to answered call reply)) h
      go (Some (Asked from to call)) h = message_adds_none e k (Some (Asked from to call)) h
      go (Some (Answered to answered call reply)) h = message_adds_none e k (Some (Answered to answered call reply)) h

  next_adds_none : (e : Exact) (o : Option ℕ) → IsIn (exact_run e (delivery o)).world → IsIn e.world
  next_adds_none e None h = h
  next_adds_none e (Some k) h = deliver_adds_none e k h

  drain_adds_none : (n : ℕ) (e : Exact) → IsIn (exact_step e (Steps.Drain n)).world → IsIn e.world
  drain_adds_none zero e h = h
  drain_adds_none (suc n) e h =
      next_adds_none e (next_message e.world) (drain_adds_none n (exact_run e (next_delivery e)) (subst (λ (z : Exact). IsIn z.world) (drain_is_next e n) h))

  -- a restart leaves the books
  restart_leaves : (w : World) (k : ℕ) → book_of s (after_restart w k) ≡ book_of s w
  restart_leaves w k = at_any k restarted w.suppliers (λ x. refl) s (λ o. book_in o ≡ book_of s w) (λ x e f. sym (ap book_in f)) refl

  marks_leave : (step : Stopped) (w : World) → book_of s (marked_by step w) ≡ book_of s w
  marks_leave (Turns.Deliver k) w = refl
  marks_leave (Turns.Ask t a) w = refl
  marks_leave (Turns.Cancel t flight number) w = refl
  marks_leave (Turns.Position t p) w = refl
  marks_leave (Turns.Sweep t skip) w = refl

  -- a step of the script asks so, and this is entered
  record IsAdded (e : Exact) (v : World) (A : Type 0) : Type 0 where
    pub asks : A
    pub moment_is : moment ≡ clamped e.world.moment
    pub enters : book_of s v ≡ book_of s e.world ++ opened ∷ []

  from_first : (e : Exact) (v : World) (b a : Arrival) → to_one e.world b ≡ Some a → IsNew e v a → IsNew e v b
  from_first e v b a q n = subst (IsNew e v) (sym (came e.world b a q).is) n

  asks_by : (e : Exact) (v : World) (step : Stopped) (a : Arrival) → arrival_of e.world step ≡ Some a → IsNew e v a → AsksBy e s ask step
  asks_by e v (Turns.Ask to asked) a q n = let m = from_first e v _ a q n in (m.to, m.asked)
  asks_by e v (Turns.Position to p) a q n =
      let m = from_first e v _ a q n in
      let b : m.supplier.book ≡ book_of to e.world = sym (ap book_in m.there) in
      (m.to, subst (λ k. ActsAs (book_of k e.world) (e.kept k) (clamped e.world.moment) p ask) m.to (subst (λ z. ActsAs z (e.kept to) (clamped e.world.moment) p ask) b m.asked))
  asks_by e v (Turns.Cancel to flight number) a q n = let m = from_first e v _ a q n in m.asked
  asks_by e v (Turns.Sweep to skip) a q n = let m = from_first e v _ a q n in m.asked
  asks_by e v (Turns.Deliver k) a q n = absurd (message_asks e.world k (post_at k e.world) a q (standing_of e n.supplier a.supplier) (clamped e.world.moment) n.asked)

  -- an operator's step, or a message
  turn_adds : (e : Exact) (step : Stopped) (o : Option Arrival) → arrival_of e.world step ≡ o → IsIn (arrives e.world (choice_for e o) o)
      → IsIn e.world ⊎ IsAdded e (arrives e.world (choice_for e o) o) (AsksBy e s ask step)
  turn_adds e step None q h = inl h
  turn_adds e step (Some a) q h = elim (arrival_adds e a (step_there e.world step a q) (λ c. posts_of e.world a c) h) [
    | inl old ↦ inl old
    | inr n ↦ inr (record { asks = asks_by e (arrives e.world (choice_for e (Some a)) (Some a)) step a q n; moment_is = n.moment_is; enters = n.enters })
  ]

  -- a supplier stops
  stop_leaves : (w : World) (step : Stopped) (k : ℕ) → book_of s (marked_by step (after_restart w k)) ≡ book_of s w
  stop_leaves w step k = marks_leave step (after_restart w k) ∙ restart_leaves w k

  stop_adds : (e : Exact) (sent : ℕ) (step : Stopped) (o : Option Arrival) → arrival_of e.world step ≡ o
      → IsIn (stops e.world true sent step (choice_for e o) o)
      → IsIn e.world ⊎ IsAdded e (stops e.world true sent step (choice_for e o) o) (AsksBy e s ask step)
  stop_adds e sent step None q h = inl h
  stop_adds e sent step (Some a) q h =
      let v = after_step e.world a (choice_for e (Some a)) (take sent (posts_of e.world a (choice_for e (Some a)))) in
      let l : book_of s (marked_by step (after_restart v a.supplier)) ≡ book_of s v = stop_leaves v step a.supplier in
      elim (arrival_adds e a (step_there e.world step a q) (λ c. take sent (posts_of e.world a c)) (subst (λ b. Has b opened) l h)) [
        | inl old ↦ inl old
        | inr n ↦ inr (record { asks = asks_by e v step a q n; moment_is = n.moment_is; enters = l ∙ n.enters })
      ]

  unkept_adds_none : (e : Exact) (sent : ℕ) (step : Stopped) (o : Option Arrival) → IsIn (stops e.world false sent step (choice_for e o) o)
      → IsIn e.world
  unkept_adds_none e sent step None h = h
  unkept_adds_none e sent step (Some a) h = subst (λ b. Has b opened) (restart_leaves e.world a.supplier) h

  loses_adds_none : (w : World) (k : ℕ) (o : Option Post) → IsIn (loses w k o) → IsIn w
  loses_adds_none w k None h = h
  loses_adds_none w k (Some p) h = h

  -- each step of a script
  each_adds : (e : Exact) (step : Step) → IsIn (exact_step e step).world → IsIn e.world ⊎ IsAdded e (exact_step e step).world (Asks e s ask step)
  each_adds e (Steps.Now at) h = inl h
  each_adds e (Steps.Ask to asked) h = turn_adds e (Turns.Ask to asked) (arrival_of e.world (Turns.Ask to asked)) refl h
  each_adds e (Steps.Cancel to flight number) h = elim (turn_adds e (Turns.Cancel to flight number) (arrival_of e.world (Turns.Cancel to flight number)) refl h) [
    | inl old ↦ inl old
    | inr n ↦ absurd n.asks
  ]
  each_adds e (Steps.Position to p) h = turn_adds e (Turns.Position to p) (arrival_of e.world (Turns.Position to p)) refl h
  each_adds e (Steps.Sweep to skip) h = elim (turn_adds e (Turns.Sweep to skip) (arrival_of e.world (Turns.Sweep to skip)) refl h) [
    | inl old ↦ inl old
    | inr n ↦ absurd n.asks
  ]
  each_adds e (Steps.Deliver k) h = inl (deliver_adds_none e k h)
  each_adds e (Steps.Lose k) h = inl (loses_adds_none e.world k (post_at k e.world) h)
  each_adds e (Steps.Drain n) h = inl (drain_adds_none n e h)
  each_adds e (Steps.Fault k) h =
      inl (arrives_adds_none e (fault_of e.world k) (λ a q. (fault_asks e.world (post_at k e.world) a q, fault_there e.world (post_at k e.world) a q)) h)
  each_adds e (Steps.Restart k) h = inl (subst (λ b. Has b opened) (restart_leaves e.world k) h)
  each_adds e (Steps.Stop true sent step) h = stop_adds e sent step (arrival_of e.world step) refl h
  each_adds e (Steps.Stop false sent step) h = inl (unkept_adds_none e sent step (arrival_of e.world step) h)

  -- and each script
  run_adds : (steps : List Step) (e : Exact) → IsIn (exact_run e steps).world → IsIn e.world ⊎ ComesOfRequest e steps s job moment ask
  run_adds [] e h = inl h
  run_adds (x ∷ xs) e h = elim (run_adds xs (exact_step e x) h) [
    | inl there ↦ elim (each_adds e x there) [
      | inl old ↦ inl old
      | inr n ↦ inr (record { before = []; step = x; after = xs; script = refl; asks = n.asks; moment_is = n.moment_is; enters = n.enters })
    ]
    | inr c ↦ inr (record { before = x ∷ c.before; step = c.step; after = c.after; script = ap (λ l. x ∷ l) c.script; asks = c.asks; moment_is = c.moment_is; enters = c.enters })
  ]

  -- at first there is none
  new_opens_none : (o : Owner) → Has (new_supplier o).book opened → ⊥
  new_opens_none o (inl q) = cc
  new_opens_none o (inr n) = n

  start_has_none : (owners : List Owner) → IsIn (start owners) → ⊥
  start_has_none owners = go (supplier_in s (start owners).suppliers) refl
    where
      go : (x : Option Supplier) → supplier_in s (start owners).suppliers ≡ x → Has (book_in x) opened → ⊥
      go None q h = h
      go (Some x) q h =
          let m = has_map new_supplier owners x (has_found s (start owners).suppliers x q).0 in
          new_opens_none m.0 (subst (λ (z : Supplier). Has z.book opened) (sym m.2) h)

  pub comes_of_request : (owners : List Owner) (steps : List Step) → IsIn (exact_run (exact_start owners) steps).world
      → ComesOfRequest (exact_start owners) steps s job moment ask
  comes_of_request owners steps h = elim (run_adds steps (exact_start owners) h) [ inl old ↦ absurd (start_has_none owners old) | inr c ↦ c ]
