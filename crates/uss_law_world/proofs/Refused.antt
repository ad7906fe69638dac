-- A step that the world refuses changes nothing, whatever is chosen.
use Rattle.std.proofs.Common.{ℕ, ◌≡◌, ◌==◌, Bool, true, false, cond, List, [], ◌∷◌, refl, ap, sym, subst, find, Option, Some, None}
use Rattle.uss_event.specs.declared.steps.Stopped.{Stopped}
use Rattle.uss_event.specs.declared.steps.Stopped.TheVariants as Turns
use Rattle.uss_law_duty.specs.Duties.{Choice}
use Rattle.uss_law_world.specs.World.{Supplier, Post, World, supplier_in, post_at}
use Rattle.uss_law_world.specs.World.Post.{Called, Replied, Asked, Answered}
use Rattle.uss_law_world.specs.Moves.{Move, step_of, Arrival, if_there, to_one, arrival_by, arrival_of, fault_by, restarted, with_supplier, arrives, comes, stops, loses, happens}
use Rattle.uss_law_world.specs.Moves.{Move as Moves}
use Rattle.uss_law_world.specs.Free.{MayTake, MayStop, IsAllowed}
use Rattle.uss_law_world.specs.Refused.{unless_there, unless_sent, unless_call, unless_received, stop_refusal, step_refusal}

-- nobody is there
pub absent : (o : Option Supplier) (n : ℕ) → unless_there o ≡ Some n → o ≡ None
absent None n e = refl
absent (Some x) n e = cc

pub unsent : (o : Option Post) (n : ℕ) → unless_sent o ≡ Some n → o ≡ None
unsent None n e = refl
unsent (Some p) n e = cc

pub nobody : (w : World) (a : Arrival) (n : ℕ) → unless_there (supplier_in a.supplier w.suppliers) ≡ Some n → to_one w a ≡ None
nobody w a n e = ap (λ o. if_there o a) (absent (supplier_in a.supplier w.suppliers) n e)

received_by_none : (w : World) (k : ℕ) (o : Option Post) (n : ℕ) → unless_received w o ≡ Some n → arrival_by w k o ≡ None
received_by_none w k None n e = refl
received_by_none w k (Some (Called from call)) n e = refl
received_by_none w k (Some (Replied to answered call reply)) n e = nobody w _ n e
received_by_none w k (Some (Asked from None call)) n e = refl
received_by_none w k (Some (Asked from (Some to) call)) n e = nobody w _ n e
received_by_none w k (Some (Answered to answered call reply)) n e = nobody w _ n e

pub stops_nobody : (w : World) (step : Stopped) (n : ℕ) → stop_refusal w step ≡ Some n → arrival_of w step ≡ None
stops_nobody w (Turns.Ask s ask) n e = nobody w _ n e
stops_nobody w (Turns.Cancel s flight number) n e = nobody w _ n e
stops_nobody w (Turns.Position s ask) n e = nobody w _ n e
stops_nobody w (Turns.Sweep s skip) n e = nobody w _ n e
stops_nobody w (Turns.Deliver k) n e = received_by_none w k (post_at k w) n e

pub fails_nobody : (w : World) (o : Option Post) (n : ℕ) → unless_call o ≡ Some n → fault_by w o ≡ None
fails_nobody w None n e = refl
fails_nobody w (Some (Called from call)) n e = cc
fails_nobody w (Some (Replied to answered call reply)) n e = refl
fails_nobody w (Some (Asked from to call)) n e = cc
fails_nobody w (Some (Answered to answered call reply)) n e = refl

-- where no supplier has the number, none is changed
pub none_changed : (s : ℕ) (f : Supplier → Supplier) (xs : List Supplier) → supplier_in s xs ≡ None → with_supplier s f xs ≡ xs
unfolding supplier_in
none_changed s f [] e = refl
none_changed s f (x ∷ xs) e = go (x.owner.number == s) (none_changed s f xs) e
  where
    go : (b : Bool) → (find (λ (y : Supplier). y.owner.number == s) xs ≡ None → with_supplier s f xs ≡ xs) → cond b (Some x) (find (λ (y : Supplier). y.owner.number == s) xs) ≡ None
        → cond b (f x) x ∷ with_supplier s f xs ≡ x ∷ xs
    go true rec h = cc
    go false rec h = ap (λ (ys : List Supplier). x ∷ ys) (rec h)

-- nothing comes to a supplier, so nothing changes, and nothing is asked of what was chosen
stays : (w : World) (c : Choice) (o : Option Arrival) → o ≡ None → arrives w c o ≡ w
stays w c o e = ap (arrives w c) e

may : (w : World) (c : Choice) (o : Option Arrival) → o ≡ None → MayTake w c o
may w c o e = subst (MayTake w c) (sym e) tt

pub unchanged : (w : World) (m : Move) (n : ℕ) → step_refusal w (step_of m) ≡ Some n → happens w m ≡ w
unchanged w (Moves.Now moment) n e = cc
unchanged w (Moves.Takes (Turns.Ask s ask) c) n e = stays w c (arrival_of w (Turns.Ask s ask)) (nobody w _ n e)
unchanged w (Moves.Takes (Turns.Cancel s flight number) c) n e = stays w c (arrival_of w (Turns.Cancel s flight number)) (nobody w _ n e)
unchanged w (Moves.Takes (Turns.Position s ask) c) n e = stays w c (arrival_of w (Turns.Position s ask)) (nobody w _ n e)
unchanged w (Moves.Takes (Turns.Sweep s skip) c) n e = stays w c (arrival_of w (Turns.Sweep s skip)) (nobody w _ n e)
unchanged w (Moves.Takes (Turns.Deliver k) c) n e = ap (comes w k c) (unsent (post_at k w) n e)
unchanged w (Moves.Lose k) n e = ap (loses w k) (unsent (post_at k w) n e)
unchanged w (Moves.Drain cs) n e = cc
unchanged w (Moves.Fault k c) n e = stays w c (fault_by w (post_at k w)) (fails_nobody w (post_at k w) n e)
unchanged w (Moves.Restart s) n e = ap (λ (xs : List Supplier). record w { suppliers = xs }) (none_changed s restarted w.suppliers (absent (supplier_in s w.suppliers) n e))
unchanged w (Moves.Stop kept sent step c) n e = ap (stops w kept sent step c) (stops_nobody w step n e)

may_stop : (w : World) (kept : Bool) (step : Stopped) (c : Choice) → arrival_of w step ≡ None → MayStop w kept step c
may_stop w true step c e = may w c (arrival_of w step) e
may_stop w false step c e = tt

pub allowed : (w : World) (m : Move) (n : ℕ) → step_refusal w (step_of m) ≡ Some n → IsAllowed w m
allowed w (Moves.Now moment) n e = tt
allowed w (Moves.Takes (Turns.Ask s ask) c) n e = may w c (arrival_of w (Turns.Ask s ask)) (nobody w _ n e)
allowed w (Moves.Takes (Turns.Cancel s flight number) c) n e = may w c (arrival_of w (Turns.Cancel s flight number)) (nobody w _ n e)
allowed w (Moves.Takes (Turns.Position s ask) c) n e = may w c (arrival_of w (Turns.Position s ask)) (nobody w _ n e)
allowed w (Moves.Takes (Turns.Sweep s skip) c) n e = may w c (arrival_of w (Turns.Sweep s skip)) (nobody w _ n e)
allowed w (Moves.Takes (Turns.Deliver k) c) n e = may w c (arrival_of w (Turns.Deliver k)) (ap (arrival_by w k) (unsent (post_at k w) n e))
allowed w (Moves.Lose k) n e = tt
allowed w (Moves.Drain cs) n e = cc
allowed w (Moves.Fault k c) n e = may w c (fault_by w (post_at k w)) (fails_nobody w (post_at k w) n e)
allowed w (Moves.Restart s) n e = tt
allowed w (Moves.Stop kept sent step c) n e = may_stop w kept step c (stops_nobody w step n e)
