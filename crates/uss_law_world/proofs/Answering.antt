-- A final answer that a book keeps is so by what a job recorded, or by how it ended.
use Rattle.std.proofs.Common.{ℕ, ◌≡◌, ◌⊎◌, inl, inr, ◌==◌, ◌&&◌, List, refl, ap, sym, subst, Option, Some, None}
use Rattle.uss_intent.specs.Identifiers.{flight_number}
use Rattle.uss_event.specs.declared.entries.Owner.{Owner}
use Rattle.uss_event.specs.declared.entries.Entry.{Entry}
use Rattle.uss_event.specs.declared.events.Answer.{Answer}
use Rattle.uss_event.specs.declared.events.Said.{Said}
use Rattle.uss_event.specs.declared.events.Said.TheVariants as Says
use Rattle.uss_event.specs.declared.events.Event.{Event}
use Rattle.uss_event.specs.declared.events.Event.TheVariants as Events
use Rattle.uss_law_dss.specs.Lists.{Has}
use Rattle.uss_law_dss.proofs.Lists.{find_has}
use Rattle.uss_law_dss.proofs.Tests.{some_same, same_number, both}
use Rattle.uss_event.specs.declared.entries.Opening.{Opening}
use Rattle.uss_event.specs.declared.entries.Trial.{Trial}
use Rattle.uss_event.specs.declared.entries.Holding.{Holding}
use Rattle.uss_event.specs.declared.entries.Closing.{Closing}
use Rattle.uss_law_book.specs.Lists.{openings, holdings, endings}
use Rattle.uss_law_book.specs.Contents.{opening_of, trial_of, holding_of, ending_of}
use Rattle.uss_law_book.proofs.Kept.{opening_has}
use Rattle.uss_law_duty.specs.Answers.{by_trial, by_end, by_close, kept_answer, job_of_request, job_of_call, job_named}
use Rattle.uss_law_duty.specs.Sayings.{FinalIsKept}
use Rattle.uss_law_world.specs.Moves.{request_of, request_named}
use Rattle.uss_law_world.proofs.Facts.{IsByHolding, IsByClosing, SaidIsKept}

module _ (owner : Owner) (s : ℕ) (its_number : owner.number ≡ s) (after : List Entry) where
  keeps_answer : (o : Opening) (answer : Answer) → kept_answer owner o after ≡ Some answer → IsByHolding after s o answer ⊎ IsByClosing after s o answer
  unfolding kept_answer holding_of ending_of
  keeps_answer o answer h = go (holding_of o.job after) refl (ending_of o.job after) refl (subst (λ n. by_close after (flight_number n o.ask.flight) (holding_of o.job after) (ending_of o.job after) ≡ Some answer) its_number h)
    where
      at_trial : (k : Holding) → Has (holdings after) k → k.job ≡ o.job → (t : Option Trial) → trial_of k.tag after ≡ t → by_trial (flight_number s o.ask.flight) k t ≡ Some answer → IsByHolding after s o answer
      at_trial k i e None q f = cc
      at_trial k i e (Some t) q f = record { holding = k; trial = t; entered = i; job = e; tried = q; is = f }

      go : (x : Option Holding) → holding_of o.job after ≡ x → (y : Option Closing) → ending_of o.job after ≡ y → by_close after (flight_number s o.ask.flight) x y ≡ Some answer
          → IsByHolding after s o answer ⊎ IsByClosing after s o answer
      go (Some k) e y f q =
          let i = find_has (λ (z : Holding). z.job == o.job) (holdings after) k e in
          inl (at_trial k i.0 (same_number k.job o.job i.1) (trial_of k.tag after) refl q)
      go None e (Some d) f q =
          let i = find_has (λ (z : Closing). z.job == o.job) (endings after) d f in
          inr (record { closing = d; entered = i.0; job = same_number d.job o.job i.1; is = some_same (by_end (flight_number s o.ask.flight) d.end) answer q })
      go None e None f q = cc

  -- the opening that an event names
  record IsNamed (flight number : ℕ) (o : Opening) : Type 0 where
    there : Has (openings after) o
    flight_is : o.ask.flight ≡ flight
    number_is : o.ask.number ≡ number

  requested : (flight number : ℕ) (o : Opening) → job_of_request flight number after ≡ Some o → IsNamed flight number o
  unfolding job_of_request
  requested flight number o h =
      let f = find_has (λ (z : Opening). (z.ask.flight == flight) && (z.ask.number == number)) (openings after) o h in
      let b = both (o.ask.flight == flight) (o.ask.number == number) f.1 in
      record { there = f.0; flight_is = same_number o.ask.flight flight b.0; number_is = same_number o.ask.number number b.1 }

  opened_as : (job : ℕ) (o : Opening) → opening_of job after ≡ Some o → IsNamed (request_of (opening_of job after)).0 (request_of (opening_of job after)).1 o
  opened_as job o h =
      let i = opening_has after job o h in
      let e : request_of (opening_of job after) ≡ (o.ask.flight, o.ask.number) = ap request_of h in
      record { there = i.0; flight_is = ap (λ (z : ℕ × ℕ). z.0) (sym e); number_is = ap (λ (z : ℕ × ℕ). z.1) (sym e) }

  named : (event : Event) (o : Opening) → job_named event after ≡ Some o → IsNamed (request_named event after).0 (request_named event after).1 o
  named (Events.Ask ask) o h = requested ask.flight ask.number o h
  named (Events.Cancel flight number) o h = requested flight number o h
  named (Events.Position ask) o h = requested ask.flight ask.number o h
  named (Events.Sweep skip) o h = cc
  named (Events.Dss call reply) o h = opened_as call.job o h
  named (Events.Peer call reply) o h = opened_as (job_of_call call) o h
  named (Events.Failed job) o h = opened_as job o h
  named (Events.Details client flight) o h = cc
  named (Events.Notified client note) o h = cc

  pub says : (event : Event) (said : Said) → FinalIsKept owner after event said → SaidIsKept after s (request_named event after).0 (request_named event after).1 said
  says event (Says.Answer answer) f = λ final. (let k = f final in let n = named event k.opening k.named in record {
    opening = k.opening;
    opened = n.there;
    flight_is = n.flight_is;
    number_is = n.number_is;
    keeps = keeps_answer k.opening answer k.kept;
  })
  says event _ f = tt
