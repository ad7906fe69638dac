-- What was sent stays sent.
use Rattle.std.proofs.Common.{ℕ, Bool, true, false, List, [], ◌∷◌, Option, Some, None}
use Rattle.uss_event.specs.declared.steps.Stopped.{Stopped}
use Rattle.uss_event.specs.declared.steps.Stopped.TheVariants as Turns
use Rattle.uss_law_dss.specs.Lists.{Has}
use Rattle.uss_law_dss.proofs.Lists.{has_left}
use Rattle.uss_law_duty.specs.Duties.{Choice}
use Rattle.uss_law_world.specs.World.{Post, World, post_at}
use Rattle.uss_law_world.specs.World.Post.{Called, Replied, Asked, Answered}
use Rattle.uss_law_world.specs.Moves.{Move, Arrival, arrival_by, arrival_of, arrives, brings, comes, takes, next_message, delivers_next, drains, marked_by, after_restart, after_step, stops, loses, happens, run, fault_of}
use Rattle.uss_law_world.specs.Moves.{Move as Moves}

arrives_sends : (w : World) (c : Choice) (o : Option Arrival) (p : Post) → Has w.posts p → Has (arrives w c o).posts p
arrives_sends w c None p h = h
arrives_sends w c (Some a) p h = has_left w.posts _ p h

brings_sends : (w : World) (k : ℕ) (c : Choice) (x p : Post) → Has w.posts p → Has (brings w k c x).posts p
brings_sends w k c (Called from call) p h = has_left w.posts _ p h
brings_sends w k c (Replied to answered call reply) p h = arrives_sends w c (arrival_by w k (Some (Replied to answered call reply))) p h
brings_sends w k c (Asked from to call) p h = arrives_sends w c (arrival_by w k (Some (Asked from to call))) p h
brings_sends w k c (Answered to answered call reply) p h = arrives_sends w c (arrival_by w k (Some (Answered to answered call reply))) p h

comes_sends : (w : World) (k : ℕ) (c : Choice) (o : Option Post) (p : Post) → Has w.posts p → Has (comes w k c o).posts p
comes_sends w k c None p h = h
comes_sends w k c (Some x) p h = brings_sends w k c x p h

takes_sends : (w : World) (step : Stopped) (c : Choice) (p : Post) → Has w.posts p → Has (takes w step c).posts p
takes_sends w (Turns.Ask s ask) c p h = arrives_sends w c (arrival_of w (Turns.Ask s ask)) p h
takes_sends w (Turns.Cancel s flight number) c p h = arrives_sends w c (arrival_of w (Turns.Cancel s flight number)) p h
takes_sends w (Turns.Position s ask) c p h = arrives_sends w c (arrival_of w (Turns.Position s ask)) p h
takes_sends w (Turns.Sweep s skip) c p h = arrives_sends w c (arrival_of w (Turns.Sweep s skip)) p h
takes_sends w (Turns.Deliver k) c p h = comes_sends w k c (post_at k w) p h

next_sends : (w : World) (c : Choice) (o : Option ℕ) (p : Post) → Has w.posts p → Has (delivers_next w c o).posts p
next_sends w c None p h = h
next_sends w c (Some k) p h = comes_sends w k c (post_at k w) p h

drains_sends : (cs : List Choice) (w : World) (p : Post) → Has w.posts p → Has (drains w cs).posts p
drains_sends [] w p h = h
drains_sends (c ∷ cs) w p h = drains_sends cs (delivers_next w c (next_message w)) p (next_sends w c (next_message w) p h)

marked_sends : (step : Stopped) (w : World) (p : Post) → Has w.posts p → Has (marked_by step w).posts p
marked_sends (Turns.Deliver k) w p h = h
marked_sends (Turns.Ask s ask) w p h = h
marked_sends (Turns.Cancel s flight number) w p h = h
marked_sends (Turns.Position s ask) w p h = h
marked_sends (Turns.Sweep s skip) w p h = h

stops_sends : (w : World) (kept : Bool) (sent : ℕ) (step : Stopped) (c : Choice) (o : Option Arrival) (p : Post) → Has w.posts p → Has (stops w kept sent step c o).posts p
stops_sends w kept sent step c None p h = h
stops_sends w true sent step c (Some a) p h = marked_sends step (after_restart (after_step w a c _) a.supplier) p (has_left w.posts _ p h)
stops_sends w false sent step c (Some a) p h = h

loses_sends : (w : World) (k : ℕ) (o : Option Post) (p : Post) → Has w.posts p → Has (loses w k o).posts p
loses_sends w k None p h = h
loses_sends w k (Some x) p h = h

move_sends : (w : World) (m : Move) (p : Post) → Has w.posts p → Has (happens w m).posts p
move_sends w (Moves.Now moment) p h = h
move_sends w (Moves.Takes step c) p h = takes_sends w step c p h
move_sends w (Moves.Lose k) p h = loses_sends w k (post_at k w) p h
move_sends w (Moves.Drain cs) p h = drains_sends cs w p h
move_sends w (Moves.Fault k c) p h = arrives_sends w c (fault_of w k) p h
move_sends w (Moves.Restart s) p h = h
move_sends w (Moves.Stop kept sent step c) p h = stops_sends w kept sent step c (arrival_of w step) p h

pub run_sends : (ms : List Move) (w : World) (p : Post) → Has w.posts p → Has (run w ms).posts p
run_sends [] w p h = h
run_sends (m ∷ ms) w p h = run_sends ms (happens w m) p (move_sends w m p h)
