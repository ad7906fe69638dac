-- Each reply of the service fits its call.
use Rattle.std.proofs.Common.{ℕ, ◌≤◌, ◌≡◌, Bool, true, false, cond, not, ◌&&◌, ◌==◌, nat_lt, nat_le, List, [], ◌∷◌, ◌++◌, length, filter, refl, ap, ◌∙◌, subst, arith, Option, Some, None, if◌then◌else◌}
use Rattle.uss_vol4.specs.Volume.{Volume4D}
use Rattle.uss_vol4.specs.Sharing.{any_shares}
use Rattle.uss_intent.specs.declared.records.Recorded.{Recorded}
use Rattle.uss_intent.specs.declared.records.Reference.{Reference}
use Rattle.uss_intent.specs.declared.records.Ticket.{Ticket}
use Rattle.uss_intent.specs.declared.records.State.{State}
use Rattle.uss_intent.specs.declared.calls.DssAsk.{DssAsk}
use Rattle.uss_intent.specs.declared.calls.DssAsk.TheVariants.{Query, Get, Put, Remove, TicketPut, TicketGet, TicketRemove}
use Rattle.uss_intent.specs.declared.calls.DssReply.{DssReply}
use Rattle.uss_intent.specs.declared.calls.DssReply.TheVariants.{Got, TicketGot, Refused}
use Rattle.uss_intent.specs.declared.calls.DssRefusal.{DssRefusal}
use Rattle.uss_intent.specs.Same.{same_text}
use Rattle.uss_intent.specs.SameLaws.{state_is_same}
use Rattle.uss_intent.specs.States.{same_state}
use Rattle.uss_law_dss.specs.Service.{Service, recorded_of, ticket_of, shown_to, reach, relevant, lacking, in_key}
use Rattle.uss_law_dss.specs.Refusals.{shown_all, tests_of, first_of, refusal_of}
use Rattle.uss_law_dss.specs.Step.{subscribers, found_in, after_put, after_remove, after_ticket_remove, with_recorded, with_ticket, accepted, unless_refused, service_step, old_extents}
use Rattle.uss_law_dss.specs.Orderly.{AllAbove, Ascend, IsOrderly, flight_recorded}
use Rattle.uss_law_dss.specs.Fits.{is_before, ascend, is_list, are_few, refusal_fits, fits}
use Rattle.uss_law_dss.proofs.Lists.{find_has, length-map, length-filter_le}
use Rattle.uss_law_dss.proofs.Tests.{and_true, equal_number, equal_bytes, le_test, less_test}
use Rattle.uss_law_dss.proofs.Placed.{ascend_filter}
use Rattle.uss_law_dss.proofs.Raised.{length-subscribers}

shown_flight : (client : List ℕ) (r : Reference) → (shown_to client r).flight ≡ r.flight
shown_flight client r = go (same_text r.manager client)
  where
    go : (b : Bool) → (if b then r else record r { ovn = None }).flight ≡ r.flight
    go true = refl
    go false = refl

before_shown : (client : List ℕ) (n : ℕ) (rs : List Recorded) → AllAbove flight_recorded n rs → is_before n (shown_all client rs) ≡ true
before_shown client n [] a = refl
before_shown client n (r ∷ rs) a = ap (nat_lt n) (shown_flight client r.reference) ∙ less_test n r.reference.flight a.0

ascend_shown : (client : List ℕ) (rs : List Recorded) → Ascend flight_recorded rs → ascend (shown_all client rs) ≡ true
ascend_shown client [] a = refl
ascend_shown client (r ∷ rs) a =
    and_true (is_before (shown_to client r.reference).flight (shown_all client rs)) (ascend (shown_all client rs))
    (ap (λ n. is_before n (shown_all client rs)) (shown_flight client r.reference) ∙ before_shown client r.reference.flight rs a.0)
    (ascend_shown client rs a.1)

list_shown : (client : List ℕ) (rs : List Recorded) → Ascend flight_recorded rs → length rs ≤ 4096 → is_list (shown_all client rs) ≡ true
list_shown client rs a few =
    and_true (nat_le (length (shown_all client rs)) 4096) (ascend (shown_all client rs))
    (ap (λ n. nat_le n 4096) (length-map (λ r. shown_to client r.reference) rs) ∙ le_test (length rs) 4096 few)
    (ascend_shown client rs a)

filtered : (client : List ℕ) (p : Recorded → Bool) (rs : List Recorded) → Ascend flight_recorded rs → length rs ≤ 4096 → (Ascend flight_recorded (filter p rs)) × (length (filter p rs) ≤ 4096)
filtered client p rs a few = (ascend_filter flight_recorded p rs a, (let len = length-filter_le p rs in omega arith))

few_notified : (client : List ℕ) (extents : List Volume4D) (ts : List Ticket) → length ts ≤ 8192 → are_few (subscribers client extents ts) ≡ true
few_notified client extents ts few = let len = length-subscribers client extents ts in le_test (length (subscribers client extents ts)) 8192 (omega arith)

-- each refusal of the tests fits
AllFit : List (Bool × DssRefusal) → Type 0
AllFit [] = Unit {0}
AllFit (t ∷ ts) = (refusal_fits t.1 ≡ true) × AllFit ts

first_fits : (ts : List (Bool × DssRefusal)) (r : DssRefusal) → AllFit ts → first_of ts ≡ Some r → refusal_fits r ≡ true
unfolding AllFit
first_fits [] r f e = cc
first_fits (t ∷ ts) r f e = go t.0 (first_fits ts r f.1) e
  where
    go : (b : Bool) → (first_of ts ≡ Some r → refusal_fits r ≡ true) → cond b (Some t.1) (first_of ts) ≡ Some r → refusal_fits r ≡ true
    go true rec k = subst (λ (x : DssRefusal). refusal_fits x ≡ true) (same t.1 r k) f.0
      where
        same : (x y : DssRefusal) → Some x ≡ Some y → x ≡ y
        same x y q = cc
    go false rec k = rec k

all_fit : (s : Service) (client : List ℕ) (ask : DssAsk) → IsOrderly s → AllFit (tests_of s client ask)
unfolding AllFit
all_fit s client (Query area) j = tt
all_fit s client (Get flight) j = (refl, (refl, tt))
all_fit s client (Put flight ovn extents key state base ticket) j =
    let some = filtered client (λ r. not (r.reference.flight == flight) && any_shares r.extents extents) s.references j.references_ascend j.few_references in
    let missing = filtered client (λ r. not (in_key key r.reference)) (relevant flight extents s) some.0 some.1 in
    (refl, (refl, (refl, (refl, (refl, (refl, (refl, (refl, (list_shown client (lacking key (relevant flight extents s)) missing.0 missing.1, (refl, (refl, (refl, tt))))))))))))
all_fit s client (Remove flight ovn) j = (refl, (refl, (refl, (refl, tt))))
all_fit s client (TicketPut ticket area base) j = (refl, (refl, (refl, (refl, tt))))
all_fit s client (TicketGet ticket) j = (refl, (refl, (refl, tt)))
all_fit s client (TicketRemove ticket version) j = (refl, (refl, (refl, (refl, (refl, tt)))))

-- any call but a Query takes a refusal that fits
MayBeRefused : DssAsk → Type 0
MayBeRefused ask = (r : DssRefusal) → refusal_fits r ≡ true → fits ask (Refused r) ≡ true

by_refusal : (s : Service) (client : List ℕ) (ask : DssAsk) (out : DssReply × Service) (o : Option DssRefusal) → refusal_of s client ask ≡ o → IsOrderly s → MayBeRefused ask → fits ask out.0 ≡ true
    → fits ask (unless_refused s out o).0 ≡ true
unfolding MayBeRefused
by_refusal s client ask out None e j may f = f
by_refusal s client ask out (Some r) e j may f = may r (first_fits (tests_of s client ask) r (all_fit s client ask j) e)

got_fits : (s : Service) (client : List ℕ) (flight : ℕ) (r : Option Recorded) → recorded_of flight s ≡ r → fits (Get flight) (with_recorded s r (λ r. (Got (shown_to client r.reference), s))).0 ≡ true
got_fits s client flight None e = refl
got_fits s client flight (Some r) e =
    ap (λ n. n == flight) (shown_flight client r.reference) ∙ (find_has (λ r. r.reference.flight == flight) s.references r e).1

removed_fits : (s : Service) (client : List ℕ) (flight : ℕ) (ovn : List ℕ) (r : Option Recorded) → recorded_of flight s ≡ r → IsOrderly s → fits (Remove flight ovn) (with_recorded s r (λ r. after_remove s client r)).0 ≡ true
removed_fits s client flight ovn None e j = refl
removed_fits s client flight ovn (Some r) e j =
    and_true (r.reference.flight == flight) (are_few (subscribers client r.extents s.tickets)) (find_has (λ r. r.reference.flight == flight) s.references r e).1 (few_notified client r.extents s.tickets j.few_tickets)

ticket_got_fits : (s : Service) (ticket : ℕ) (t : Option Ticket) → ticket_of ticket s ≡ t → fits (TicketGet ticket) (with_ticket s t (λ t. (TicketGot t, s))).0 ≡ true
ticket_got_fits s ticket None e = refl
ticket_got_fits s ticket (Some t) e = (find_has (λ t. t.id == ticket) s.tickets t e).1

ticket_removed_fits : (s : Service) (ticket version : ℕ) (t : Option Ticket) → ticket_of ticket s ≡ t → fits (TicketRemove ticket version) (with_ticket s t (λ t. after_ticket_remove s t)).0 ≡ true
ticket_removed_fits s ticket version None e = refl
ticket_removed_fits s ticket version (Some t) e = (find_has (λ t. t.id == ticket) s.tickets t e).1

put_fits : (s : Service) (client : List ℕ) (flight : ℕ) (ovn : Option (List ℕ)) (extents : List Volume4D) (key : List (List ℕ)) (state : State) (base : List ℕ) (ticket : ℕ) → IsOrderly s
    → fits (Put flight ovn extents key state base ticket) (after_put s client flight ovn extents state base ticket).0 ≡ true
put_fits s client flight ovn extents key state base ticket j =
    let notified = few_notified client (old_extents (recorded_of flight s) ++ extents) s.tickets j.few_tickets in
    and_true (flight == flight) _ (equal_number flight flight refl)
    (and_true (same_state state state) _ ((state_is_same state state).1 refl)
    (and_true (same_text base base) _ (equal_bytes base base refl) notified))

pub step_fits : (s : Service) (client : List ℕ) (ask : DssAsk) → IsOrderly s → fits ask (service_step s client ask).0 ≡ true
unfolding MayBeRefused
step_fits s client (Query area) j =
    let some = filtered client (λ r. reach r.extents area) s.references j.references_ascend j.few_references in
    list_shown client (found_in area s.references) some.0 some.1
step_fits s client (Get flight) j =
    by_refusal s client (Get flight) (accepted s client (Get flight)) (refusal_of s client (Get flight)) refl j (λ r f. f) (got_fits s client flight (recorded_of flight s) refl)
step_fits s client (Put flight ovn extents key state base ticket) j =
    let ask = Put flight ovn extents key state base ticket in
    by_refusal s client ask (accepted s client ask) (refusal_of s client ask) refl j (λ r f. f) (put_fits s client flight ovn extents key state base ticket j)
step_fits s client (Remove flight ovn) j =
    by_refusal s client (Remove flight ovn) (accepted s client (Remove flight ovn)) (refusal_of s client (Remove flight ovn)) refl j (λ r f. f) (removed_fits s client flight ovn (recorded_of flight s) refl j)
step_fits s client (TicketPut ticket area base) j =
    by_refusal s client (TicketPut ticket area base) (accepted s client (TicketPut ticket area base)) (refusal_of s client (TicketPut ticket area base)) refl j (λ r f. f) (equal_number ticket ticket refl)
step_fits s client (TicketGet ticket) j =
    by_refusal s client (TicketGet ticket) (accepted s client (TicketGet ticket)) (refusal_of s client (TicketGet ticket)) refl j (λ r f. f) (ticket_got_fits s ticket (ticket_of ticket s) refl)
step_fits s client (TicketRemove ticket version) j =
    by_refusal s client (TicketRemove ticket version) (accepted s client (TicketRemove ticket version)) (refusal_of s client (TicketRemove ticket version)) refl j (λ r f. f) (ticket_removed_fits s ticket version (ticket_of ticket s) refl)
