-- What an accepted call leaves is orderly.
use Rattle.std.proofs.Common.{◌≡◌, ℕ, List, ◌<◌, ◌==◌, [], ◌∷◌, ◌++◌, length, false, Option, Some, None, subst, sym, ap, ◌∙◌, arith}
use Rattle.uss_intent.specs.declared.calls.DssAsk.{DssAsk}
use Rattle.uss_intent.specs.declared.calls.DssAsk.TheVariants.{TicketRemove, Remove, Put}
use Rattle.uss_intent.specs.declared.calls.DssReply.{DssReply}
use Rattle.uss_intent.specs.declared.calls.DssReply.TheVariants.{Removed, Landed}
use Rattle.uss_vol4.specs.Volume.{Volume4D}
use Rattle.uss_intent.specs.declared.records.State.{State}
use Rattle.uss_intent.specs.declared.records.Reference.{Reference}
use Rattle.uss_intent.specs.declared.records.Landing.{Landing}
use Rattle.uss_intent.specs.declared.records.Subscriber.{Subscriber}
use Rattle.uss_intent.specs.declared.records.Ticket.{Ticket}
use Rattle.uss_intent.specs.declared.records.Recorded.{Recorded}
use Rattle.uss_law_dss.specs.Service.{Service, ticket_of, recorded_of}
use Rattle.uss_law_dss.specs.Refusals.{refusal_of, tests_of, is_at_last_version}
use Rattle.uss_law_dss.specs.Step.{accepted, service_step, unless_refused, after_ticket_remove, after_remove, with_ticket, with_recorded, after_put, landed, landing_of, old_extents, subscribers, put_recorded, without_flight}
use Rattle.uss_dss.specs.Effects.{with_indices}
use Rattle.uss_dss.proofs.Places.{raised_by_notified}
use Rattle.uss_law_dss.proofs.EachEffect.{none_holds}
use Rattle.uss_law_dss.proofs.Tests.{other_number, neither}
use Rattle.uss_law_dss.specs.Orderly.{IsOrderly}
use Rattle.uss_law_dss.proofs.EachOrderly.{step_orderly}

-- a call that isn't refused is accepted
pub step_accepted : (s : Service) (client : List ℕ) (ask : DssAsk) → refusal_of s client ask ≡ None → service_step s client ask ≡ accepted s client ask
step_accepted s client ask h = λ i. unless_refused s (accepted s client ask) (h i)

pub accepted_orderly : (s : Service) (client : List ℕ) (ask : DssAsk) → IsOrderly s → refusal_of s client ask ≡ None → IsOrderly (accepted s client ask).1
accepted_orderly s client ask j h = subst (λ (x : DssReply × Service). IsOrderly x.1) (step_accepted s client ask h) (step_orderly s client ask j)

-- the same for the fields' view of the state
pub closed : (v s : Service) (client : List ℕ) (ask : DssAsk) → v ≡ s → IsOrderly v → refusal_of s client ask ≡ None → IsOrderly (accepted v client ask).1
closed v s client ask e j h = accepted_orderly v client ask j (subst (λ (x : Service). refusal_of x client ask ≡ None) (sym e) h)

pub ticket_taken_out : (v s : Service) (client : List ℕ) (id version : ℕ) (t u : Ticket) → v ≡ s → IsOrderly v → refusal_of s client (TicketRemove id version) ≡ None
    → Some t ≡ ticket_of id s → u ≡ t → IsOrderly (after_ticket_remove v u).1
ticket_taken_out v s client id version t u e j h f g =
    let k = closed v s client (TicketRemove id version) e j h in
    let f' : ticket_of id v ≡ Some u = ap (ticket_of id) e ∙ sym f ∙ ap Some (sym g) in
    subst (λ (o : Option Ticket). IsOrderly (with_ticket v o (λ x. after_ticket_remove v x)).1) f' k

pub removed : (v s : Service) (client : List ℕ) (flight : ℕ) (ovn : List ℕ) (r : Recorded) → v ≡ s → IsOrderly v → refusal_of s client (Remove flight ovn) ≡ None
    → Some r ≡ recorded_of flight s → IsOrderly (after_remove s client r).1
removed v s client flight ovn r e j h f =
    let k = accepted_orderly s client (Remove flight ovn) (subst IsOrderly e j) h in
    subst (λ (o : Option Recorded). IsOrderly (with_recorded s o (λ x. after_remove s client x)).1) (sym f) k

-- the state and the reply that a removal makes are the definition's
pub removed_is : (v s : Service) (client : List ℕ) (r : Recorded) (reply : Reference) (notified : List Subscriber) → v ≡ s → IsOrderly s → reply ≡ r.reference
    → notified ≡ subscribers client r.extents s.tickets
    → (Removed reply notified, record v { references = without_flight reply.flight v.references; tickets = with_indices notified v.tickets; retired_flights = v.retired_flights ++ reply.flight ∷ [] }) ≡ after_remove s client r
removed_is v s client r reply notified e j g u =
    let q = raised_by_notified client r.extents s.tickets j.tickets_ascend in
    (λ i. (Removed (g i) (u i), record (e i) { references = without_flight (g i).flight (e i).references; tickets = with_indices (u i) (e i).tickets; retired_flights = (e i).retired_flights ++ (g i).flight ∷ [] }))
    ∙ (λ i. (Removed r.reference (subscribers client r.extents s.tickets), record s { references = without_flight r.reference.flight s.references; tickets = q i; retired_flights = s.retired_flights ++ r.reference.flight ∷ [] }))

pub removed_done : (s : Service) (client : List ℕ) (flight : ℕ) (r : Recorded) (out : DssReply × Service) → Some r ≡ recorded_of flight s → out ≡ after_remove s client r
    → out ≡ with_recorded s (recorded_of flight s) (λ x. after_remove s client x)
removed_done s client flight r out f o = o ∙ (λ i. with_recorded s (f i) (λ x. after_remove s client x))

-- those that a Put makes are the definition's
pub landed_is : (v s : Service) (client : List ℕ) (flight : ℕ) (ovn : Option (List ℕ)) (extents : List Volume4D) (state : State) (base : List ℕ) (ticket : ℕ)
    (new : Recorded) (l : Landing) (reply : Reference) (notified : List Subscriber)
    → v ≡ s → IsOrderly s → new ≡ landed s client flight extents state base ticket → l ≡ landing_of s client flight ovn base ticket → reply ≡ new.reference
    → notified ≡ subscribers client (old_extents (recorded_of flight s) ++ extents) s.tickets
    → (Landed reply notified, record v { references = put_recorded new v.references; tickets = with_indices notified v.tickets; landings = v.landings ++ l ∷ [] })
    ≡ after_put s client flight ovn extents state base ticket
landed_is v s client flight ovn extents state base ticket new l reply notified e j n p r u =
    let touched = old_extents (recorded_of flight s) ++ extents in
    let q = raised_by_notified client touched s.tickets j.tickets_ascend in
    let g = r ∙ ap (λ (x : Recorded). x.reference) n in
    (λ i. (Landed (g i) (u i), record (e i) { references = put_recorded (n i) (e i).references; tickets = with_indices (u i) (e i).tickets; landings = (e i).landings ++ (p i) ∷ [] }))
    ∙ (λ i. (Landed (landed s client flight extents state base ticket).reference (subscribers client touched s.tickets), record s { references = put_recorded (landed s client flight extents state base ticket) s.references; tickets = q i; landings = s.landings ++ (landing_of s client flight ovn base ticket) ∷ [] }))

-- what a Put that isn't refused may rest on
pub put_last : (s : Service) (client : List ℕ) (flight : ℕ) (ovn : Option (List ℕ)) (extents : List Volume4D) (key : List (List ℕ)) (state : State) (base : List ℕ) (ticket : ℕ)
    → refusal_of s client (Put flight ovn extents key state base ticket) ≡ None → is_at_last_version (recorded_of flight s) ≡ false
put_last s client flight ovn extents key state base ticket h =
    let all = none_holds (tests_of s client (Put flight ovn extents key state base ticket)) h in all.1.1.1.1.1.1.1.1.1.1.0

pub put_some : (s : Service) (client : List ℕ) (flight : ℕ) (ovn : Option (List ℕ)) (extents : List Volume4D) (key : List (List ℕ)) (state : State) (base : List ℕ) (ticket : ℕ)
    → refusal_of s client (Put flight ovn extents key state base ticket) ≡ None → 0 < length extents
put_some s client flight ovn extents key state base ticket h =
    let all = none_holds (tests_of s client (Put flight ovn extents key state base ticket)) h in
    let n = other_number (length extents) 0 (neither (length extents == 0) _ all.0).0 in omega (arith, n)
