-- The flight's last request has the greatest number, and the flight's open job is found.
use Rattle.std.proofs.Common.{ℕ, ◌≤◌, ◌<◌, ◌==◌, Bool, true, false, not, cond, nat_lt, List, [], ◌∷◌, ◌≡◌, inl, inr, refl, sym, subst, arith, Option, Some, None, IfSome}
use Rattle.uss_event.specs.declared.asks.FlightAsk.{FlightAsk}
use Rattle.uss_event.specs.declared.entries.Entry.{Entry}
use Rattle.uss_law_dss.specs.Lists.{Has}
use Rattle.uss_law_dss.proofs.Lists.{has_filtered, find_none}
use Rattle.uss_law_dss.proofs.Tests.{less_is, not_less, equal_number, not_false}
use Rattle.uss_event.specs.declared.entries.Opening.{Opening}
use Rattle.uss_law_book.specs.Lists.{openings}
use Rattle.uss_law_book.specs.Contents.{greater, greatest, jobs_of, last_of, open_job_of, is_closed}
use Rattle.uss_law_book.specs.Legal.{IsAfter}

-- at least so great
pub record IsAtLeast (o : Opening) (found : Option Opening) : Type 0 where
  pub last : Opening
  pub is : found ≡ Some last
  pub number : o.ask.number ≤ last.ask.number

greater_first : (o : Opening) (p : Option Opening) → IsAtLeast o (greater o p)
greater_first o None = record { last = o; is = refl; number = omega arith }
greater_first o (Some p) = go (nat_lt o.ask.number p.ask.number) refl
  where
    go : (b : Bool) → nat_lt o.ask.number p.ask.number ≡ b → IsAtLeast o (cond b (Some p) (Some o))
    go true e = let l : o.ask.number < p.ask.number = less_is o.ask.number p.ask.number e in record { last = p; is = refl; number = omega arith }
    go false e = record { last = o; is = refl; number = omega arith }

greater_rest : (q o : Opening) (p : Option Opening) → IsAtLeast q p → IsAtLeast q (greater o p)
greater_rest q o None h = let none : None ≡ Some h.last = h.is in cc
greater_rest q o (Some p) h = go (nat_lt o.ask.number p.ask.number) refl
  where
    same : p ≡ h.last
    same = let e : Some p ≡ Some h.last = h.is in cc

    at_p : q.ask.number ≤ p.ask.number
    at_p = subst (λ (x : Opening). q.ask.number ≤ x.ask.number) (sym same) h.number

    go : (b : Bool) → nat_lt o.ask.number p.ask.number ≡ b → IsAtLeast q (cond b (Some p) (Some o))
    go true e = record { last = p; is = refl; number = at_p }
    go false e = let l : p.ask.number ≤ o.ask.number = not_less o.ask.number p.ask.number e in record { last = o; is = refl; number = omega (arith, at_p) }

at_least : (os : List Opening) (o : Opening) → Has os o → IsAtLeast o (greatest os)
at_least [] o h = absurd h
at_least (p ∷ os) o (inl q) = subst (λ (x : Opening). IsAtLeast x (greater p (greatest os))) q (greater_first p (greatest os))
at_least (p ∷ os) o (inr h) = greater_rest o p (greatest os) (at_least os o h)

pub in_jobs : (book : List Entry) (o : Opening) (flight : ℕ) → Has (openings book) o → o.ask.flight ≡ flight → Has (jobs_of flight book) o
unfolding jobs_of
in_jobs book o flight h e = has_filtered (λ (p : Opening). p.ask.flight == flight) (openings book) o h (equal_number o.ask.flight flight e)

-- a request after the last has a greater number than each of the flight
pub number_is_greater : (book : List Entry) (ask : FlightAsk) (o : Opening) → IfSome (last_of ask.flight book) (IsAfter ask) → Has (openings book) o → o.ask.flight ≡ ask.flight
    → o.ask.number < ask.number
unfolding last_of
number_is_greater book ask o later h e =
    let m = at_least (jobs_of ask.flight book) o (in_jobs book o ask.flight h e) in
    let l : m.last.ask.number < ask.number = subst (λ (x : Option Opening). IfSome x (IsAfter ask)) m.is later in
    let g : o.ask.number ≤ m.last.ask.number = m.number in
    omega (arith, l, g)

-- where no open job is found, each job of the flight is closed
pub each_is_closed : (book : List Entry) (flight : ℕ) (o : Opening) → open_job_of flight book ≡ None → Has (openings book) o → o.ask.flight ≡ flight → is_closed o.job book ≡ true
unfolding open_job_of
each_is_closed book flight o free h e =
    not_false (is_closed o.job book) (find_none (λ (p : Opening). not (is_closed p.job book)) (jobs_of flight book) o free (in_jobs book o flight h e))
