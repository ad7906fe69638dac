-- No call takes anything out of the history, and what was removed stays removed.
use Rattle.std.proofs.Common.{ℕ, ◌≡◌, ◌≢◌, true, false, List, [], ◌∷◌, ◌++◌, refl, ap, sym, subst, ◌∙◌, append_assoc, append-nil}
use Rattle.uss_intent.specs.declared.records.Recorded.{Recorded}
use Rattle.uss_intent.specs.declared.records.Ticket.{Ticket}
use Rattle.uss_intent.specs.declared.calls.DssAsk.{DssAsk}
use Rattle.uss_intent.specs.declared.calls.DssReply.{DssReply}
use Rattle.uss_intent.specs.Numbers.{is_one_of}
use Rattle.uss_law_dss.specs.Lists.{Has}
use Rattle.uss_law_dss.specs.Service.{Service}
use Rattle.uss_law_dss.specs.Step.{landing_of, service_step, state_after}
use Rattle.uss_law_dss.specs.Orderly.{IsOrderly}
use Rattle.uss_law_dss.specs.Effects.{Effect, lands, removes, makes_ticket, takes_ticket_out, stays}
use Rattle.uss_law_dss.specs.Grows.{GoesOn, Grows}
use Rattle.uss_law_dss.proofs.Lists.{has_left}
use Rattle.uss_law_dss.proofs.Tests.{not_both}
use Rattle.uss_law_dss.proofs.Means.{says_one_of}
use Rattle.uss_law_dss.proofs.EachEffect.{effect}
use Rattle.uss_law_dss.proofs.EachOrderly.{after_orderly}

same : {X : Type 0} (xs : List X) → GoesOn xs xs
same xs = ([], sym (append-nil xs))

further : {X : Type 0} (xs ys zs : List X) → GoesOn xs ys → GoesOn ys zs → GoesOn xs zs
further xs ys zs g h = (g.0 ++ h.0, h.1 ∙ ap (λ (l : List _). l ++ h.0) g.1 ∙ append_assoc xs g.0 h.0)

grows_same : (s : Service) → Grows s s
grows_same s = record { landings = same s.landings; retired_flights = same s.retired_flights; retired_tickets = same s.retired_tickets }

grows_further : (s w v : Service) → Grows s w → Grows w v → Grows s v
grows_further s w v g h =
    record {
      landings = further s.landings w.landings v.landings g.landings h.landings;
      retired_flights = further s.retired_flights w.retired_flights v.retired_flights g.retired_flights h.retired_flights;
      retired_tickets = further s.retired_tickets w.retired_tickets v.retired_tickets g.retired_tickets h.retired_tickets;
    }

by_effect : (s : Service) (client : List ℕ) (ask : DssAsk) (out : DssReply × Service) → Effect s client ask out → Grows s out.1
by_effect s client ask out (lands h) =
    subst (λ (o : DssReply × Service). Grows s o.1) (sym h.out_is)
    (record { landings = (landing_of s client h.flight h.ovn h.base h.ticket ∷ [], refl); retired_flights = same s.retired_flights; retired_tickets = same s.retired_tickets })
by_effect s client ask out (removes h) =
    subst (λ (o : DssReply × Service). Grows s o.1) (sym h.out_is)
    (record { landings = same s.landings; retired_flights = (h.recorded.reference.flight ∷ [], refl); retired_tickets = same s.retired_tickets })
by_effect s client ask out (makes_ticket h) =
    subst (λ (o : DssReply × Service). Grows s o.1) (sym h.out_is) (record { landings = same s.landings; retired_flights = same s.retired_flights; retired_tickets = same s.retired_tickets })
by_effect s client ask out (takes_ticket_out h) =
    subst (λ (o : DssReply × Service). Grows s o.1) (sym h.out_is)
    (record { landings = same s.landings; retired_flights = same s.retired_flights; retired_tickets = (h.ticket.id ∷ [], refl) })
by_effect s client ask out (stays h) = subst (Grows s) (sym h.same) (grows_same s)

pub grows : (s : Service) (calls : List (List ℕ × DssAsk)) → Grows s (state_after s calls)
grows s [] = grows_same s
grows s (c ∷ cs) =
    let next = (service_step s c.0 c.1).1 in
    grows_further s next (state_after next cs) (by_effect s c.0 c.1 (service_step s c.0 c.1) (effect s c.0 c.1)) (grows next cs)

still_has : (ns ms : List ℕ) (n : ℕ) → GoesOn ns ms → Has ns n → is_one_of n ms ≡ true
still_has ns ms n g h = (says_one_of n ms).1 (subst (λ (l : List ℕ). Has l n) (sym g.1) (has_left ns g.0 n h))

pub flights_stay_removed : (s : Service) (calls : List (List ℕ × DssAsk)) (flight : ℕ) → IsOrderly s → Has s.retired_flights flight → (r : Recorded) → Has (state_after s calls).references r → r.reference.flight ≢ flight
flights_stay_removed s calls flight j h r i e =
    let after = state_after s calls in
    let retired = still_has s.retired_flights after.retired_flights flight (grows s calls).retired_flights h in
    let not_retired = (after_orderly s calls j).flights_stay_retired r i in
    not_both (is_one_of flight after.retired_flights) retired (subst (λ (f : ℕ). is_one_of f after.retired_flights ≡ false) e not_retired)

pub tickets_stay_removed : (s : Service) (calls : List (List ℕ × DssAsk)) (ticket : ℕ) → IsOrderly s → Has s.retired_tickets ticket → (t : Ticket) → Has (state_after s calls).tickets t → t.id ≢ ticket
tickets_stay_removed s calls ticket j h t i e =
    let after = state_after s calls in
    let retired = still_has s.retired_tickets after.retired_tickets ticket (grows s calls).retired_tickets h in
    let not_retired = (after_orderly s calls j).tickets_stay_retired t i in
    not_both (is_one_of ticket after.retired_tickets) retired (subst (λ (n : ℕ). is_one_of n after.retired_tickets ≡ false) e not_retired)
