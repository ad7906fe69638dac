-- Which steps of a script the world refuses, and by which number: 221, there is no such supplier; 222, there is no such message; 223, the
-- message is no call. This project's own.
use Rattle.std.specs.Prelude.{ℕ, Option, Some, None}
use Rattle.uss_event.specs.declared.steps.Step.{Step}
use Rattle.uss_event.specs.declared.steps.Step.TheVariants as Steps
use Rattle.uss_event.specs.declared.steps.Stopped.{Stopped}
use Rattle.uss_event.specs.declared.steps.Stopped.TheVariants as Turns
use Rattle.uss_law_world.specs.World.{Supplier, Post, World, supplier_in, post_at}
use Rattle.uss_law_world.specs.World.Post.{Called, Replied, Asked, Answered}

-- a step names a supplier that isn't there
abbrev pub unless_there : Option Supplier → Option ℕ
unless_there None = Some 221
unless_there (Some x) = None

-- or a message that was never sent
abbrev pub unless_sent : Option Post → Option ℕ
unless_sent None = Some 222
unless_sent (Some post) = None

-- a call may fail, and a reply may not
abbrev pub unless_call : Option Post → Option ℕ
unless_call None = Some 222
unless_call (Some (Called from call)) = None
unless_call (Some (Replied to answered call reply)) = Some 223
unless_call (Some (Asked from to call)) = None
unless_call (Some (Answered to answered call reply)) = Some 223

-- a supplier stops while a message comes to it, but no supplier stops while one comes to the discovery service, or to nobody
abbrev pub unless_received : World → Option Post → Option ℕ
unless_received w None = Some 222
unless_received w (Some (Called from call)) = Some 221
unless_received w (Some (Replied to answered call reply)) = unless_there (supplier_in to w.suppliers)
unless_received w (Some (Asked from None call)) = Some 221
unless_received w (Some (Asked from (Some to) call)) = unless_there (supplier_in to w.suppliers)
unless_received w (Some (Answered to answered call reply)) = unless_there (supplier_in to w.suppliers)

-- whatever of its step would be kept
abbrev pub stop_refusal : World → Stopped → Option ℕ
stop_refusal w (Turns.Ask s ask) = unless_there (supplier_in s w.suppliers)
stop_refusal w (Turns.Cancel s flight number) = unless_there (supplier_in s w.suppliers)
stop_refusal w (Turns.Position s ask) = unless_there (supplier_in s w.suppliers)
stop_refusal w (Turns.Sweep s skip) = unless_there (supplier_in s w.suppliers)
stop_refusal w (Turns.Deliver k) = unless_received w (post_at k w)

-- the number by which a step is refused; none where the world takes it
abbrev pub step_refusal : World → Step → Option ℕ
step_refusal w (Steps.Now moment) = None
step_refusal w (Steps.Ask s ask) = unless_there (supplier_in s w.suppliers)
step_refusal w (Steps.Cancel s flight number) = unless_there (supplier_in s w.suppliers)
step_refusal w (Steps.Position s ask) = unless_there (supplier_in s w.suppliers)
step_refusal w (Steps.Sweep s skip) = unless_there (supplier_in s w.suppliers)
step_refusal w (Steps.Deliver k) = unless_sent (post_at k w)
step_refusal w (Steps.Lose k) = unless_sent (post_at k w)
step_refusal w (Steps.Drain n) = None
step_refusal w (Steps.Fault k) = unless_call (post_at k w)
step_refusal w (Steps.Restart s) = unless_there (supplier_in s w.suppliers)
step_refusal w (Steps.Stop kept sent step) = stop_refusal w step
