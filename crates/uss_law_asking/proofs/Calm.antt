-- What the premises on a request that nobody disturbs say at once; and that the replies to it fit.
use Rattle.std.proofs.Common.{ℕ, ℤ, ◌≡◌, Bool, true, false, cond, ◌&&◌, List, [], ◌∷◌, refl, ap, sym, subst, ◌∙◌, arith, Option, Some, None, IfSome}
use Rattle.std.specs.Option.{option_map}
use Rattle.uss_intent.specs.Same.{same_text}
use Rattle.uss_intent.specs.declared.calls.DssReply.{DssReply}
use Rattle.uss_event.specs.Fits.{peer_fits}
use Rattle.uss_event.specs.Pairs.{OperationalIntent}
use Rattle.uss_event.specs.declared.asks.FlightAsk.{FlightAsk}
use Rattle.uss_event.specs.declared.asks.AskRefusal.{AskRefusal}
use Rattle.uss_event.specs.declared.asks.AskRefusal.TheVariants as Refuses
use Rattle.uss_event.specs.declared.calls.PeerCall.TheVariants as Calls
use Rattle.uss_event.specs.declared.calls.PeerReply.{PeerReply}
use Rattle.uss_law_dss.specs.Fits.{fits}
use Rattle.uss_law_dss.specs.Service.{Service}
use Rattle.uss_law_dss.specs.Step.{service_step}
use Rattle.uss_law_dss.proofs.EachFits.{step_fits}
use Rattle.uss_law_dss.proofs.EachOrderly.{step_orderly}
use Rattle.uss_law_dss.proofs.Lists.{find_has}
use Rattle.uss_law_dss.proofs.Tests.{unequal_number}
use Rattle.uss_event.specs.declared.entries.Opening.{Opening}
use Rattle.uss_law_book.specs.Legal.{IsAfter}
use Rattle.uss_law_book.specs.Contents.{last_of}
use Rattle.uss_law_duty.specs.Duties.{clamped}
use Rattle.uss_event.specs.Heard.{is_of}
use Rattle.uss_law_supplier.specs.Turns.{Standing}
use Rattle.uss_law_supplier.specs.Asks.{first_some, plan_refusal, new_refusal}
use Rattle.uss_law_supplier.proofs.Asking.{parts_none}
use Rattle.uss_law_asking.specs.Exchange.Exchanged.{OfDss, OfPeer}
use Rattle.uss_law_asking.specs.Refused.{bad_plan, old_number, is_repeat, other_wish, new_or_none}
use Rattle.uss_law_asking.specs.Complete.{IsUndisturbed, served_of, served_reply, TheirRepliesFit}

-- the request is a plan, and a new one that isn't refused

none_of : (x : Option ℕ) → option_map (λ number. Refuses.BadPlan number) x ≡ None → x ≡ None
none_of None h = refl
none_of (Some n) h = cc

no_repeat : (ask : FlightAsk) (last : Option Opening) → IfSome last (IsAfter ask) → is_repeat ask last ≡ false
no_repeat ask None h = refl
no_repeat ask (Some last) h = unequal_number ask.number last.ask.number (λ q. omega (arith, h, q))

pub only_none : (x : Option AskRefusal) → first_some (x ∷ []) ≡ None → x ≡ None
only_none None h = refl
only_none (Some r) h = cc

pub plan_of : (s : Standing) (moment : ℤ) (ask : FlightAsk) (service : Service) (served : List OperationalIntent) → IsUndisturbed s moment ask service served → plan_refusal ask.wish ≡ None
plan_of s moment ask service served calm = none_of (plan_refusal ask.wish) (parts_none (bad_plan ask) _ calm.accepted).0

pub accepted_of : (s : Standing) (moment : ℤ) (ask : FlightAsk) (service : Service) (served : List OperationalIntent) → IsUndisturbed s moment ask service served → new_refusal s.book (clamped moment) ask ≡ None
accepted_of s moment ask service served calm =
    let last = last_of ask.flight s.book in
    let a = parts_none (bad_plan ask) _ calm.accepted in
    let b = parts_none (old_number ask last) _ a.1 in
    let c = parts_none (other_wish ask last) _ b.1 in
    let d = only_none (new_or_none s.book (clamped moment) ask last) c.1 in
    ap (λ (x : Bool). cond x None (new_refusal s.book (clamped moment) ask)) (sym (no_repeat ask last calm.new)) ∙ d

-- the replies fit

served_fits : (job flight : ℕ) (manager base : List ℕ) (served : List OperationalIntent) → peer_fits (Calls.Details job flight manager base) (served_reply (served_of flight manager served)) ≡ true
served_fits job flight manager base served = go (served_of flight manager served) refl
  where
    go : (x : Option OperationalIntent) → served_of flight manager served ≡ x → peer_fits (Calls.Details job flight manager base) (served_reply x) ≡ true
    go None e = refl
    go (Some p) e = (find_has (λ (p : OperationalIntent). is_of flight p && same_text p.reference.manager manager) served p e).1

pub their_replies_fit : TheirRepliesFit
their_replies_fit client served service [] orderly by = tt
their_replies_fit client served service (OfDss call reply ∷ xs) orderly by =
    (subst (λ (r : DssReply). fits call.ask r ≡ true) (sym by.0) (step_fits service client call.ask orderly), their_replies_fit client served (service_step service client call.ask).1 xs (step_orderly service client call.ask orderly) by.1)
their_replies_fit client served service (OfPeer (Calls.Details job flight manager base) reply ∷ xs) orderly by =
    (subst (λ (r : PeerReply). peer_fits (Calls.Details job flight manager base) r ≡ true) (sym by.0) (served_fits job flight manager base served), their_replies_fit client served service xs orderly by.1)
their_replies_fit client served service (OfPeer (Calls.Notify job index base note) reply ∷ xs) orderly by = absurd by
