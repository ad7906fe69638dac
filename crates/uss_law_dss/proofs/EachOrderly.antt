-- Every state of the service is orderly.
use Rattle.std.proofs.Common.{ℕ, ◌≡◌, ◌<◌, ◌+◌, ◌^◌, ◌==◌, List, [], ◌∷◌, length, sym, subst, arith, Some}
use Rattle.uss_intent.specs.declared.records.Ticket.{Ticket}
use Rattle.uss_intent.specs.declared.records.Landing.{Landing}
use Rattle.uss_intent.specs.declared.calls.DssAsk.{DssAsk}
use Rattle.uss_intent.specs.declared.calls.DssReply.{DssReply}
use Rattle.uss_law_dss.specs.Lists.{Has}
use Rattle.uss_law_dss.specs.Service.{Service, empty, recorded_of}
use Rattle.uss_law_dss.specs.Step.{service_step, state_after}
use Rattle.uss_law_dss.specs.Effects.{Effect, lands, removes, makes_ticket, takes_ticket_out, stays}
use Rattle.uss_law_dss.specs.Orderly.{IsOrderly}
use Rattle.uss_law_dss.proofs.EachEffect.{effect}
use Rattle.uss_law_dss.proofs.Lists.{find_has}
use Rattle.uss_law_dss.proofs.Tests.{same_number}
use Rattle.uss_law_dss.proofs.History.{numbered_once}
use Rattle.uss_law_dss.proofs.AfterPut.{put_orderly}
use Rattle.uss_law_dss.proofs.AfterOthers.{remove_orderly, ticket_put_orderly, ticket_remove_orderly}

pub empty_orderly : IsOrderly empty
empty_orderly =
    record {
      references_ascend = tt;
      tickets_ascend = tt;
      few_references = omega arith;
      few_tickets = omega arith;
      few_landings = omega arith;
      flights_stay_retired = λ r h. absurd h;
      tickets_stay_retired = λ t h. absurd h;
      covered = λ r h. absurd h;
      extents = λ r h. absurd h;
      start = λ r h. absurd h;
      end = λ r h. absurd h;
      landed = λ r h. absurd h;
      versions = λ r h. absurd h;
      versions_fit = λ r h. absurd h;
      numbered = tt;
      there = λ l h. absurd h;
      previous = λ l o h e. absurd h;
      passed = λ l o r h e i g. absurd h;
      once = λ l m h i e f. absurd h;
      indexes = λ t h. absurd h;
      ends = omega arith;
    }

by_effect : (s : Service) (client : List ℕ) (ask : DssAsk) (out : DssReply × Service) → Effect s client ask out → IsOrderly s → IsOrderly out.1
by_effect s client ask out (lands l) j =
    subst (λ (x : DssReply × Service). IsOrderly x.1) (sym l.out_is)
    (put_orderly s client l.flight l.ovn l.extents l.state l.base l.ticket
    (record {
      some_extents = l.some_extents;
      not_retired = l.not_retired;
      creates = l.creates;
      changes = λ o e. (let c = l.changes o e in (c.0, c.1, c.3, c.4));
      cites = (l.cites.0, l.cites.1, l.cites.2);
      room = l.room;
    }) j)
by_effect s client ask out (removes l) j =
    let h = find_has (λ q. q.reference.flight == l.flight) s.references l.recorded l.found in
    let same = same_number l.recorded.reference.flight l.flight h.1 in
    subst (λ (x : DssReply × Service). IsOrderly x.1) (sym l.out_is)
    (remove_orderly s client l.recorded (subst (λ (f : ℕ). recorded_of f s ≡ Some l.recorded) (sym same) l.found) j)
by_effect s client ask out (makes_ticket l) j =
    subst (λ (x : DssReply × Service). IsOrderly x.1) (sym l.out_is) (ticket_put_orderly s client l.ticket l.area l.base l.absent l.not_retired l.room j)
by_effect s client ask out (takes_ticket_out l) j =
    subst (λ (x : DssReply × Service). IsOrderly x.1) (sym l.out_is) (ticket_remove_orderly s l.id l.ticket l.found l.uncited j)
by_effect s client ask out (stays l) j = subst IsOrderly (sym l.same) j

pub step_orderly : (s : Service) (client : List ℕ) (ask : DssAsk) → IsOrderly s → IsOrderly (service_step s client ask).1
step_orderly s client ask j = by_effect s client ask (service_step s client ask) (effect s client ask) j

pub after_orderly : (s : Service) (calls : List (List ℕ × DssAsk)) → IsOrderly s → IsOrderly (state_after s calls)
after_orderly s [] j = j
after_orderly s (c ∷ cs) j = after_orderly (service_step s c.0 c.1).1 cs (step_orderly s c.0 c.1 j)

pub one_landing : (s : Service) → IsOrderly s → (l m : Landing) → Has s.landings l → Has s.landings m → l.ovn ≡ m.ovn → l ≡ m
one_landing s j l m h i e = let k = j.few_landings in numbered_once 0 s.landings l m j.numbered (omega arith) h i e

pub index_fits : (s : Service) → IsOrderly s → (t : Ticket) → Has s.tickets t → t.index + 1 < 2 ^ 64
index_fits s j t h = let k = j.indexes t h in let e = j.ends in let l = j.few_landings in omega arith

pub landing_fits : (s : Service) → IsOrderly s → length s.landings + 1 < 2 ^ 64
landing_fits s j = let l = j.few_landings in omega arith
