-- The service keeps the words of an answer, and they leave no other.
use Rattle.std.proofs.Common.{ℕ, ◌≤◌, ◌≡◌, inl, inr, List, Option, Some, None, refl, ap, sym, subst, ◌∙◌, arith}
use Rattle.uss_intent.specs.declared.records.Reference.{Reference}
use Rattle.uss_intent.specs.declared.calls.DssAsk.{DssAsk}
use Rattle.uss_intent.specs.declared.calls.DssAsk.TheVariants.{Query, Get, Put, Remove, TicketPut, TicketGet, TicketRemove}
use Rattle.uss_intent.specs.declared.calls.DssReply.{DssReply}
use Rattle.uss_intent.specs.declared.calls.DssReply.TheVariants.{Refused}
use Rattle.uss_intent.specs.declared.calls.DssRefusal.{DssRefusal}
use Rattle.uss_intent.specs.declared.calls.DssRefusal.TheVariants.{BadCall, NotYours, Exists, Retired, Absent, StaleOvn, NoTicket, NotCovered, MissingKey, TicketInUse, Full}
use Rattle.uss_intent.specs.Refusals.{refusal_number}
use Rattle.uss_law_dss.specs.Service.{Service}
use Rattle.uss_law_dss.specs.Refusals.{tests_of, refusal_of}
use Rattle.uss_law_dss.specs.Step.{accepted, unless_refused, service_step}
use Rattle.uss_law_dss.specs.Orderly.{IsOrderly}
use Rattle.uss_law_dss.specs.Causes.{Cause, IsMissing}
use Rattle.uss_law_dss.specs.Answered.{Answers, SameAnswers}
use Rattle.uss_law_dss.proofs.EachEffect.{none_holds}
use Rattle.uss_law_dss.proofs.EachOrderly.{step_orderly}
use Rattle.uss_law_dss.proofs.EachCarried.{done}
use Rattle.uss_law_dss.proofs.EachCause.{reply_refused, caused, least, refused_for}
use Rattle.uss_law_dss.proofs.Determined.{done_same, list_same}

pub answered : (s : Service) (client : List ℕ) (ask : DssAsk) → IsOrderly s → Answers s client ask (service_step s client ask)
answered s client ask j = go (refusal_of s client ask) refl
  where
    go : (o : Option DssRefusal) → refusal_of s client ask ≡ o → Answers s client ask (service_step s client ask)
    go None e = inr (record {
      no_cause = λ r c. (let f = refused_for s client ask r j c in let g = (reply_refused s client ask f.0).0 f.1 in cc);
      carried_out = done s client ask j (none_holds (tests_of s client ask) e);
      orderly = step_orderly s client ask j;
    })
    go (Some r) e =
        let f = (reply_refused s client ask r).1 e in
        inl (record { refusal = r; caused = caused s client ask r j f; least = λ q c. least s client ask r q j f c; is = ap (unless_refused s (accepted s client ask)) e })

-- two causes of one number
data Alike (r q : DssRefusal) : Type 0 where
  same : r ≡ q → Alike r q
  lists : (l m : List Reference) → r ≡ MissingKey l → q ≡ MissingKey m → Alike r q
  limits : (l m : ℕ) → r ≡ Full l → q ≡ Full m → Alike r q

alike : (r q : DssRefusal) → refusal_number r ≡ refusal_number q → Alike r q
alike BadCall BadCall e = same refl
alike NotYours NotYours e = same refl
alike Exists Exists e = same refl
alike Retired Retired e = same refl
alike Absent Absent e = same refl
alike StaleOvn StaleOvn e = same refl
alike NoTicket NoTicket e = same refl
alike NotCovered NotCovered e = same refl
alike (MissingKey l) (MissingKey m) e = lists l m refl refl
alike TicketInUse TicketInUse e = same refl
alike (Full l) (Full m) e = limits l m refl refl
alike _ _ e = absurd (omega arith)

lists_same : (s : Service) (client : List ℕ) (ask : DssAsk) (l m : List Reference) → Cause s client ask (MissingKey l) → Cause s client ask (MissingKey m) → l ≡ m
lists_same s client (Put flight ovn extents key state base ticket) l m c d = list_same s client (IsMissing flight extents key) l m c.2 d.2
lists_same s client (Query area) l m c d = absurd c
lists_same s client (Get flight) l m c d = absurd c
lists_same s client (Remove flight ovn) l m c d = absurd c
lists_same s client (TicketPut ticket area base) l m c d = absurd c
lists_same s client (TicketGet ticket) l m c d = absurd c
lists_same s client (TicketRemove ticket version) l m c d = absurd c

refused_same : (s : Service) (client : List ℕ) (ask : DssAsk) (a b : DssReply × Service) (r q : DssRefusal) → Cause s client ask r → Cause s client ask q → a ≡ (Refused r, s) → b ≡ (Refused q, s) → Alike r q → SameAnswers s client ask a b
refused_same s client ask a b r q c d e f (same h) = inl (e ∙ ap (λ (x : DssRefusal). (Refused x, s)) h ∙ sym f)
refused_same s client ask a b r q c d e f (lists l m h i) =
    let k : l ≡ m = lists_same s client ask l m (subst (Cause s client ask) h c) (subst (Cause s client ask) i d) in
    inl (e ∙ ap (λ (x : DssRefusal). (Refused x, s)) (h ∙ ap MissingKey k ∙ sym i) ∙ sym f)
refused_same s client ask a b r q c d e f (limits l m h i) = inr (
  l,
  m,
  subst (Cause s client ask) h c,
  subst (Cause s client ask) i d,
  e ∙ ap (λ (x : DssRefusal). (Refused x, s)) h,
  f ∙ ap (λ (x : DssRefusal). (Refused x, s)) i,
)

one_number : (m n : ℕ) → m ≤ n → n ≤ m → m ≡ n
one_number m n h k = omega arith

pub only_one : (s : Service) (client : List ℕ) (ask : DssAsk) (a b : DssReply × Service) → IsOrderly s → Answers s client ask a → Answers s client ask b → SameAnswers s client ask a b
only_one s client ask a b j (inl c) (inl d) =
    refused_same s client ask a b c.refusal d.refusal c.caused d.caused c.is d.is (alike c.refusal d.refusal (one_number (refusal_number c.refusal) (refusal_number d.refusal) (c.least d.refusal d.caused) (d.least c.refusal c.caused)))
only_one s client ask a b j (inl c) (inr d) = absurd (d.no_cause c.refusal c.caused)
only_one s client ask a b j (inr c) (inl d) = absurd (c.no_cause d.refusal d.caused)
only_one s client ask a b j (inr c) (inr d) = inl (done_same s client ask a b j c.carried_out d.carried_out c.orderly d.orderly)
