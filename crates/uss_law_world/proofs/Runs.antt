-- What holds is kept by every free list of moves.
use Rattle.std.proofs.Common.{ℕ, ℤ, ◌≡◌, inl, inr, Bool, true, false, List, [], ◌∷◌, ◌++◌, refl, ap, sym, subst, ◌∙◌, Option, Some, None, slice_get, take, zero, suc}
use Rattle.std.proofs.lemmas.List.{append-nil}
use Rattle.uss_event.specs.Pairs.{OperationalIntent}
use Rattle.uss_event.specs.declared.entries.Owner.{Owner}
use Rattle.uss_event.specs.declared.calls.PeerCall.{PeerCall}
use Rattle.uss_event.specs.declared.calls.PeerCall.TheVariants as Calls
use Rattle.uss_event.specs.declared.calls.PeerReply.TheVariants as Peers
use Rattle.uss_event.specs.declared.steps.Stopped.{Stopped}
use Rattle.uss_event.specs.declared.steps.Stopped.TheVariants as Turns
use Rattle.uss_intent.specs.declared.records.Landing.{Landing}
use Rattle.uss_intent.specs.Numbers.{is_one_of}
use Rattle.uss_law_duty.specs.Duties.{Choice}
use Rattle.uss_law_dss.specs.Lists.{Has}
use Rattle.uss_law_dss.specs.Service.{Service}
use Rattle.uss_law_dss.specs.Orderly.{IsOrderly}
use Rattle.uss_law_dss.proofs.Tests.{some_same}
use Rattle.uss_law_book.specs.Lists.{trials, holdings, endings}
use Rattle.uss_law_book.specs.Attempts.{attempt_of}
use Rattle.uss_event.specs.Heard.News.{Heard}
use Rattle.uss_law_world.specs.World.{Supplier, Post, World, supplier_in, book_in, heard_in, name_in, book_of, heard_of, name_of, post_at, start}
use Rattle.uss_law_world.specs.World.Post.{Called, Replied, Asked, Answered}
use Rattle.uss_law_world.specs.Moves.{Move, Arrival, to_one, event_by, arrival_by, arrival_of, fault_by, fault_of, posts_of, restarted, after_step, after_restart, arrives, brings, marked, comes, delivers, takes, next_message, delivers_next, drains, marked_by, stops, loses, happens, run}
use Rattle.uss_law_world.specs.Moves.{Move as Moves}
use Rattle.uss_law_world.specs.Free.{AreSuppliers, MayTake, MayDrain, arrival_of_next, MayStop, IsAllowed, IsFree}
use Rattle.uss_law_world.specs.Claims.{rank_of}
use Rattle.uss_law_world.specs.Invariants.{HasLegalBook}
use Rattle.uss_law_world.proofs.Lookups.{at_any, came}
use Rattle.uss_law_world.proofs.Facts.{IsStanding, Facts}
use Rattle.uss_law_world.proofs.Grows.{Grows, News, kept, entered_still}
use Rattle.uss_law_world.proofs.Calls.{call_facts}
use Rattle.uss_law_world.proofs.Acts.{Comes, act_facts}
use Rattle.uss_law_world.proofs.Start.{start_facts}

-- a world with the same service, messages, sayings and books
pub record IsSame (owners : List Owner) (w v : World) : Type 0 where
  pub service : v.service ≡ w.service
  pub posts : v.posts ≡ w.posts
  pub sayings : v.sayings ≡ w.sayings
  pub books : (k : ℕ) → book_of k v ≡ book_of k w
  pub names : (k : ℕ) → name_of k v ≡ name_of k w
  pub heard : (k : ℕ) (p : OperationalIntent) → Has (heard_of k v) (Heard p) → Has (heard_of k w) (Heard p)
  pub suppliers : (k : ℕ) (x : Supplier) → supplier_in k v.suppliers ≡ Some x → HasLegalBook owners x

pub same_facts : (table : List ℕ) (owners : List Owner) (w v : World) → IsSame owners w v → Facts table owners w → Facts table owners v
same_facts table owners w v q j = kept table owners w v news j
  where
    grows : Grows w v
    grows =
        record {
          names = q.names;
          books = λ k. ([], q.books k ∙ sym (append-nil (book_of k w)));
          untried = λ k d h t n e. subst (λ b. Has (trials b) t) (q.books k) n;
          landings = λ l h. subst (λ (z : Service). Has z.landings l) (sym q.service) h;
          ranks = λ flight l h. ap (λ (z : Service). rank_of flight l.ovn z.landings) q.service;
          flights = λ n h. subst (λ (z : Service). is_one_of n z.retired_flights ≡ true) (sym q.service) h;
          tickets = λ n h. subst (λ (z : Service). is_one_of n z.retired_tickets ≡ true) (sym q.service) h;
          there = λ t h. inl (record { found = t; there = subst (λ (z : Service). Has z.tickets t) (sym q.service) h; id = refl; manager = refl });
        }

    standing : (l : Landing) → Has v.service.landings l → IsStanding v l
    standing l h = elim (j.standing l (subst (λ (z : Service). Has z.landings l) q.service h)) [
      | inl e ↦ inl (entered_still grows l e)
      | inr r ↦ inr (record { recorded = r.recorded; there = subst (λ (z : Service). Has z.references r.recorded) (sym q.service) r.there; ovn_is = r.ovn_is })
    ]

    news : News table owners w v
    news =
        record {
          grows = grows;
          service = subst IsOrderly (sym q.service) j.service;
          suppliers = q.suppliers;
          calls = λ k call h. inl (subst (λ z. Has z (Called k call)) q.posts h);
          due = λ k call h. inl (subst (λ z. Has z (Called k call)) q.posts h);
          replies = λ k n call reply h. inl (subst (λ z. Has z (Replied k n call reply)) q.posts h);
          said = λ x p h e. inl (subst (λ z. Has z x) q.sayings h);
          served = λ k n call p h. inl (subst (λ z. Has z (Answered k n call (Peers.Served p))) q.posts h);
          notes = λ k to job index base note p h e. inl (subst (λ z. Has z (Asked k to (Calls.Notify job index base note))) q.posts h);
          heard = λ k p h. inl (q.heard k p h);
          entered = λ k h n. inl (subst (λ b. Has (holdings b) h) (q.books k) n);
          keys = λ k tag a h. inl (subst (λ b. attempt_of tag b ≡ Some a) (q.books k) h);
          landings = λ l h. inl (subst (λ (z : Service). Has z.landings l) q.service h);
          recorded = λ r h. inl (subst (λ (z : Service). Has z.references r) q.service h);
          apart = λ r z h i. inl (subst (λ (y : Service). Has y.references r) q.service h, subst (λ (y : Service). Has y.references z) q.service i);
          standing = standing;
          retired = λ n h. inl (subst (λ (z : Service). is_one_of n z.retired_flights ≡ true) q.service h);
          closed = λ k d h. inl (subst (λ b. Has (endings b) d) (q.books k) h);
          sayings = λ x h. inl (subst (λ z. Has z x) q.sayings h);
        }

has_at : {X : Type 0} (xs : List X) (k : ℕ) (x : X) → slice_get xs k ≡ Some x → Has xs x
has_at [] k x h = cc
has_at (y ∷ xs) zero x h = inl (cc)
has_at (y ∷ xs) (suc k) x h = inr (has_at xs k x h)

pub has_taken : {X : Type 0} (n : ℕ) (xs : List X) (x : X) → Has (take n xs) x → Has xs x
has_taken zero [] x h = absurd h
has_taken zero (y ∷ xs) x h = absurd h
has_taken (suc n) [] x h = absurd h
has_taken (suc n) (y ∷ xs) x (inl e) = inl e
has_taken (suc n) (y ∷ xs) x (inr h) = inr (has_taken n xs x h)

pub post_has : (k : ℕ) (w : World) (p : Post) → post_at k w ≡ Some p → Has w.posts p
post_has zero w p h = cc
post_has (suc k) w p h = has_at w.posts k p h

-- what comes to a supplier was sent
event_comes : (w : World) (s from : ℕ) (client : List ℕ) (call : PeerCall) → Has w.posts (Asked from (Some s) call) → Comes w s (event_by client call)
event_comes w s from client (Calls.Details job flight manager base) h = tt
event_comes w s from client (Calls.Notify job index base note) h = record { from = from; to = Some s; job = job; index = index; base = base; sent = h }

came_comes : (w : World) (b a : Arrival) → Comes w b.supplier b.event → to_one w b ≡ Some a → Comes w a.supplier a.event
came_comes w b a h e = subst (λ (z : Arrival). Comes w z.supplier z.event) (came w b a e).is h

arrival_comes : (w : World) (k : ℕ) (o : Option Post) → ((p : Post) → o ≡ Some p → Has w.posts p) → (a : Arrival) → arrival_by w k o ≡ Some a → Comes w a.supplier a.event
arrival_comes w k None f a e = cc
arrival_comes w k (Some (Called from call)) f a e = cc
arrival_comes w k (Some (Replied to answered call reply)) f a e = came_comes w _ a (answered, f (Replied to answered call reply) refl) e
arrival_comes w k (Some (Asked from None call)) f a e = cc
arrival_comes w k (Some (Asked from (Some to) call)) f a e = came_comes w _ a (event_comes w to from (name_of from w) call (f (Asked from (Some to) call) refl)) e
arrival_comes w k (Some (Answered to answered call reply)) f a e = came_comes w _ a (answered, f (Answered to answered call reply) refl) e

step_comes : (w : World) (step : Stopped) (a : Arrival) → arrival_of w step ≡ Some a → Comes w a.supplier a.event
step_comes w (Turns.Ask s ask) a e = came_comes w _ a tt e
step_comes w (Turns.Cancel s flight number) a e = came_comes w _ a tt e
step_comes w (Turns.Position s ask) a e = came_comes w _ a tt e
step_comes w (Turns.Sweep s skip) a e = came_comes w _ a tt e
step_comes w (Turns.Deliver k) a e = arrival_comes w k (post_at k w) (post_has k w) a e

fault_comes : (w : World) (o : Option Post) (a : Arrival) → fault_by w o ≡ Some a → Comes w a.supplier a.event
fault_comes w None a e = cc
fault_comes w (Some (Called from call)) a e = came_comes w _ a tt e
fault_comes w (Some (Replied to answered call reply)) a e = cc
fault_comes w (Some (Asked from to call)) a e = came_comes w _ a tt e
fault_comes w (Some (Answered to answered call reply)) a e = cc

module _ (table : List ℕ) (owners : List Owner) (names : AreSuppliers table owners) where
  -- marks and the moment change nothing else
  mark_facts : (w : World) (delivered lost : List ℕ) (moment : ℤ) → Facts table owners w → Facts table owners (record w { delivered = delivered; lost = lost; moment = moment })
  mark_facts w delivered lost moment j =
      same_facts table owners w (record w { delivered = delivered; lost = lost; moment = moment })
      (record { service = refl; posts = refl; sayings = refl; books = λ k. refl; names = λ k. refl; heard = λ k p h. h; suppliers = j.suppliers }) j

  restart_facts : (w : World) (s : ℕ) → Facts table owners w → Facts table owners (after_restart w s)
  restart_facts w s j =
      same_facts table owners w (after_restart w s)
      (record {
        service = refl;
        posts = refl;
        sayings = refl;
        books = λ k. at_any s restarted w.suppliers (λ x. refl) k (λ o. book_in o ≡ book_of k w) (λ x e f. sym (ap book_in f)) refl;
        names = λ k. at_any s restarted w.suppliers (λ x. refl) k (λ o. name_in o ≡ name_of k w) (λ x e f. sym (ap name_in f)) refl;
        heard = λ k p. at_any s restarted w.suppliers (λ x. refl) k (λ o. Has (heard_in o) (Heard p) → Has (heard_of k w) (Heard p)) (λ x e f h. absurd h) (λ h. h);
        suppliers = λ k. at_any s restarted w.suppliers (λ x. refl) k (λ o. (x : Supplier) → o ≡ Some x → HasLegalBook owners x) (λ x e f y g. again x (j.suppliers k x f) y g) (j.suppliers k);
      }) j
    where
      again : (x : Supplier) → HasLegalBook owners x → (y : Supplier) → Some (restarted x) ≡ Some y → HasLegalBook owners y
      again x i y g = subst (HasLegalBook owners) (some_same (restarted x) y g) (record { legal = i.legal; own = i.own; one = i.one })

  arrives_facts : (w : World) (c : Choice) (o : Option Arrival) → MayTake w c o → ((a : Arrival) → o ≡ Some a → Comes w a.supplier a.event) → Facts table owners w → Facts table owners (arrives w c o)
  arrives_facts w c None m f j = j
  arrives_facts w c (Some a) m f j = act_facts table owners w names j a c (posts_of w a c) (λ p h. h) m (f a refl)

  brings_facts : (w : World) (k : ℕ) (c : Choice) (p : Post) → Has w.posts p → MayTake w c (arrival_by w k (Some p)) → ((a : Arrival) → arrival_by w k (Some p) ≡ Some a → Comes w a.supplier a.event) → Facts table owners w
      → Facts table owners (brings w k c p)
  brings_facts w k c (Called from call) h m f j = call_facts table owners w names k from call h j
  brings_facts w k c (Replied to answered call reply) h m f j = arrives_facts w c (arrival_by w k (Some (Replied to answered call reply))) m f j
  brings_facts w k c (Asked from to call) h m f j = arrives_facts w c (arrival_by w k (Some (Asked from to call))) m f j
  brings_facts w k c (Answered to answered call reply) h m f j = arrives_facts w c (arrival_by w k (Some (Answered to answered call reply))) m f j

  marked_facts : (w : World) (k : ℕ) → Facts table owners w → Facts table owners (marked k w)
  marked_facts w k j = mark_facts w (w.delivered ++ k ∷ []) w.lost w.moment j

  comes_facts : (w : World) (k : ℕ) (c : Choice) (o : Option Post) → ((p : Post) → o ≡ Some p → Has w.posts p) → MayTake w c (arrival_by w k o) → Facts table owners w → Facts table owners (comes w k c o)
  comes_facts w k c None f m j = j
  comes_facts w k c (Some p) f m j = marked_facts (brings w k c p) k (brings_facts w k c p (f p refl) m (arrival_comes w k (Some p) f) j)

  delivers_facts : (w : World) (k : ℕ) (c : Choice) → MayTake w c (arrival_of w (Turns.Deliver k)) → Facts table owners w → Facts table owners (delivers w k c)
  delivers_facts w k c m j = comes_facts w k c (post_at k w) (post_has k w) m j

  takes_facts : (w : World) (step : Stopped) (c : Choice) → MayTake w c (arrival_of w step) → Facts table owners w → Facts table owners (takes w step c)
  takes_facts w (Turns.Ask s ask) c m j = arrives_facts w c (arrival_of w (Turns.Ask s ask)) m (step_comes w (Turns.Ask s ask)) j
  takes_facts w (Turns.Cancel s flight number) c m j = arrives_facts w c (arrival_of w (Turns.Cancel s flight number)) m (step_comes w (Turns.Cancel s flight number)) j
  takes_facts w (Turns.Position s ask) c m j = arrives_facts w c (arrival_of w (Turns.Position s ask)) m (step_comes w (Turns.Position s ask)) j
  takes_facts w (Turns.Sweep s skip) c m j = arrives_facts w c (arrival_of w (Turns.Sweep s skip)) m (step_comes w (Turns.Sweep s skip)) j
  takes_facts w (Turns.Deliver k) c m j = delivers_facts w k c m j

  pub next_facts : (w : World) (c : Choice) (o : Option ℕ) → MayTake w c (arrival_of_next w o) → Facts table owners w → Facts table owners (delivers_next w c o)
  next_facts w c None m j = j
  next_facts w c (Some k) m j = delivers_facts w k c m j

  drains_facts : (cs : List Choice) (w : World) → MayDrain w cs → Facts table owners w → Facts table owners (drains w cs)
  drains_facts [] w m j = j
  drains_facts (c ∷ cs) w m j = drains_facts cs (delivers_next w c (next_message w)) m.1 (next_facts w c (next_message w) m.0 j)

  marked_by_facts : (step : Stopped) (w : World) → Facts table owners w → Facts table owners (marked_by step w)
  marked_by_facts (Turns.Deliver k) w j = marked_facts w k j
  marked_by_facts (Turns.Ask s ask) w j = j
  marked_by_facts (Turns.Cancel s flight number) w j = j
  marked_by_facts (Turns.Position s ask) w j = j
  marked_by_facts (Turns.Sweep s skip) w j = j

  stops_facts : (w : World) (kept : Bool) (sent : ℕ) (step : Stopped) (c : Choice) (o : Option Arrival) → (kept ≡ true → MayTake w c o) → ((a : Arrival) → o ≡ Some a → Comes w a.supplier a.event) → Facts table owners w
      → Facts table owners (stops w kept sent step c o)
  stops_facts w kept sent step c None m f j = j
  stops_facts w true sent step c (Some a) m f j =
      let posts = take sent (posts_of w a c) in
      let after = after_step w a c posts in
      marked_by_facts step (after_restart after a.supplier)
      (restart_facts after a.supplier (act_facts table owners w names j a c posts (λ p h. has_taken sent (posts_of w a c) p h) (m refl) (f a refl)))
  stops_facts w false sent step c (Some a) m f j = restart_facts w a.supplier j

  loses_facts : (w : World) (k : ℕ) (o : Option Post) → Facts table owners w → Facts table owners (loses w k o)
  loses_facts w k None j = j
  loses_facts w k (Some p) j = mark_facts w w.delivered (w.lost ++ k ∷ []) w.moment j

  may_stop : (w : World) (kept : Bool) (step : Stopped) (c : Choice) → MayStop w kept step c → kept ≡ true → MayTake w c (arrival_of w step)
  may_stop w true step c m e = m
  may_stop w false step c m e = cc

  pub move_facts : (w : World) (m : Move) → IsAllowed w m → Facts table owners w → Facts table owners (happens w m)
  move_facts w (Moves.Now moment) h j = mark_facts w w.delivered w.lost moment j
  move_facts w (Moves.Takes step c) h j = takes_facts w step c h j
  move_facts w (Moves.Lose k) h j = loses_facts w k (post_at k w) j
  move_facts w (Moves.Drain cs) h j = drains_facts cs w h j
  move_facts w (Moves.Fault k c) h j = arrives_facts w c (fault_of w k) h (fault_comes w (post_at k w)) j
  move_facts w (Moves.Restart s) h j = restart_facts w s j
  move_facts w (Moves.Stop kept sent step c) h j = stops_facts w kept sent step c (arrival_of w step) (may_stop w kept step c h) (step_comes w step) j

  pub run_facts : (ms : List Move) (w : World) → IsFree w ms → Facts table owners w → Facts table owners (run w ms)
  run_facts [] w f j = j
  run_facts (m ∷ ms) w f j = run_facts ms (happens w m) f.1 (move_facts w m f.0 j)

  pub reached_facts : (ms : List Move) → IsFree (start owners) ms → Facts table owners (run (start owners) ms)
  reached_facts ms f = run_facts ms (start owners) f (start_facts table owners names)

-- a run goes on
pub run_append : (ms more : List Move) (w : World) → run w (ms ++ more) ≡ run (run w ms) more
run_append [] more w = refl
run_append (m ∷ ms) more w = run_append ms more (happens w m)

pub free_append : (ms more : List Move) (w : World) → IsFree w (ms ++ more) → IsFree w ms × IsFree (run w ms) more
free_append [] more w f = (tt, f)
free_append (m ∷ ms) more w f = let r = free_append ms more (happens w m) f.1 in ((f.0, r.0), r.1)
