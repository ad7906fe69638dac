-- Who is notified, by the reply of a call.
use Rattle.std.proofs.Common.{ℕ, ◌≡◌, ◌⊎◌, inl, inr, Bool, true, false, ◌==◌, List, Option, Some, None, refl, ap, sym, subst, ◌∙◌}
use Rattle.uss_intent.specs.declared.records.Reference.{Reference}
use Rattle.uss_intent.specs.declared.records.Ticket.{Ticket}
use Rattle.uss_intent.specs.declared.records.Subscriber.{Subscriber}
use Rattle.uss_intent.specs.declared.calls.DssAsk.{DssAsk}
use Rattle.uss_intent.specs.declared.calls.DssAsk.TheVariants.{Query, Get, Put, Remove, TicketPut, TicketGet, TicketRemove}
use Rattle.uss_intent.specs.declared.calls.DssReply.{DssReply}
use Rattle.uss_intent.specs.declared.calls.DssReply.TheVariants.{Landed, Removed, TicketMade, TicketRemoved, Refused}
use Rattle.uss_intent.specs.declared.calls.DssRefusal.{DssRefusal}
use Rattle.uss_law_dss.specs.Lists.{Has}
use Rattle.uss_law_dss.specs.Service.{Service}
use Rattle.uss_law_dss.specs.Refusals.{tests_of, refusal_of}
use Rattle.uss_law_dss.specs.Step.{accepted, unless_refused, service_step}
use Rattle.uss_law_dss.specs.Orderly.{IsOrderly}
use Rattle.uss_law_dss.specs.Notified.{IsNotifiedOf, Notifies, NotifiesNobody, Keeps}
use Rattle.uss_law_dss.specs.Carried.{CarriedOut}
use Rattle.uss_law_dss.proofs.Tests.{same_number, other_number, some_same}
use Rattle.uss_law_dss.proofs.Founds.{ticket_is}
use Rattle.uss_law_dss.proofs.EachEffect.{none_holds}
use Rattle.uss_law_dss.proofs.EachCarried.{done}

-- the call is refused and nothing changes, or it is carried out
pub refused_or_done : (s : Service) (client : List ℕ) (ask : DssAsk) → IsOrderly s → ((r : DssRefusal) × (service_step s client ask ≡ (Refused r, s))) ⊎ CarriedOut s client ask (service_step s client ask)
refused_or_done s client ask j = go (refusal_of s client ask) refl
  where
    go : (o : Option DssRefusal) → refusal_of s client ask ≡ o → ((r : DssRefusal) × (service_step s client ask ≡ (Refused r, s))) ⊎ CarriedOut s client ask (service_step s client ask)
    go None e = inr (done s client ask j (none_holds (tests_of s client ask) e))
    go (Some r) e = inl (r, ap (unless_refused s (accepted s client ask)) e)

same_notified : (a b : Reference) (l m : List Subscriber) → Landed a l ≡ Landed b m → l ≡ m
same_notified a b l m e = cc

same_notified_removed : (a b : Reference) (l m : List Subscriber) → Removed a l ≡ Removed b m → l ≡ m
same_notified_removed a b l m e = cc

landed_tells : (s : Service) (client : List ℕ) (ask : DssAsk) (out : DssReply × Service) (r : Reference) (notified : List Subscriber) → CarriedOut s client ask out → out.0 ≡ Landed r notified → Notifies (IsNotifiedOf s client ask) s.tickets out.1.tickets notified
landed_tells s client (Query area) out r notified c e = let h = c.reply in cc
landed_tells s client (Get flight) out r notified c e = let h = c.reply in cc
landed_tells s client (Put flight ovn extents key state base ticket) out r notified c e =
    subst (λ (l : List Subscriber). Notifies (IsNotifiedOf s client (Put flight ovn extents key state base ticket)) s.tickets out.1.tickets l) (same_notified c.new.reference r c.notified notified (sym c.reply ∙ e)) c.tickets
landed_tells s client (Remove flight ovn) out r notified c e = let h = c.reply in cc
landed_tells s client (TicketPut ticket area base) out r notified c e = let h = c.reply in cc
landed_tells s client (TicketGet ticket) out r notified c e = let h = c.reply in cc
landed_tells s client (TicketRemove ticket version) out r notified c e = let h = c.reply in cc

removed_tells : (s : Service) (client : List ℕ) (ask : DssAsk) (out : DssReply × Service) (r : Reference) (notified : List Subscriber) → CarriedOut s client ask out → out.0 ≡ Removed r notified → Notifies (IsNotifiedOf s client ask) s.tickets out.1.tickets notified
removed_tells s client (Query area) out r notified c e = let h = c.reply in cc
removed_tells s client (Get flight) out r notified c e = let h = c.reply in cc
removed_tells s client (Put flight ovn extents key state base ticket) out r notified c e = let h = c.reply in cc
removed_tells s client (Remove flight ovn) out r notified c e =
    subst (λ (l : List Subscriber). Notifies (IsNotifiedOf s client (Remove flight ovn)) s.tickets out.1.tickets l) (same_notified_removed c.recorded.reference r c.notified notified (sym c.reply ∙ e)) c.tickets
removed_tells s client (TicketPut ticket area base) out r notified c e = let h = c.reply in cc
removed_tells s client (TicketGet ticket) out r notified c e = let h = c.reply in cc
removed_tells s client (TicketRemove ticket version) out r notified c e = let h = c.reply in cc

unchanged : (s : Service) (out : DssReply × Service) → out.1 ≡ s → Keeps s.tickets out.1.tickets out.0
unchanged s out e = record {
  new = λ t h. inl (subst (λ (w : Service). Has w.tickets t) e h);
  gone = λ t h. inl (subst (λ (w : Service). Has w.tickets t) (sym e) h);
}

others_keep : (s : Service) (client : List ℕ) (ask : DssAsk) (out : DssReply × Service) → IsOrderly s → CarriedOut s client ask out → NotifiesNobody out.0 → Keeps s.tickets out.1.tickets out.0
others_keep s client (Query area) out j c n = unchanged s out c.same
others_keep s client (Get flight) out j c n = unchanged s out c.same
others_keep s client (Put flight ovn extents key state base ticket) out j c n = absurd (subst NotifiesNobody c.reply n)
others_keep s client (Remove flight ovn) out j c n = absurd (subst NotifiesNobody c.reply n)
others_keep s client (TicketPut ticket area base) out j c n = record {
  new = λ t h. elim ((c.tickets t).0 h) [ inl e ↦ inr (c.reply ∙ ap TicketMade e) | inr k ↦ inl k ];
  gone = λ t h. inl ((c.tickets t).1 (inr h));
}
others_keep s client (TicketGet ticket) out j c n = unchanged s out c.same
others_keep s client (TicketRemove ticket version) out j c n = record {
  new = λ t h. inl ((c.tickets t).0 h).0;
  gone = λ t h. go t h (t.id == ticket) refl;
}
  where
    go : (t : Ticket) → Has s.tickets t → (b : Bool) → (t.id == ticket) ≡ b → Has out.1.tickets t ⊎ (out.0 ≡ TicketRemoved t)
    go t h true e = inr (c.reply ∙ ap TicketRemoved (some_same c.gone t (sym (ticket_is s ticket c.gone j c.there c.id_is) ∙ ticket_is s ticket t j h (same_number t.id ticket e))))
    go t h false e = inl ((c.tickets t).1 (h, other_number t.id ticket e))

pub landing_tells : (s : Service) (client : List ℕ) (ask : DssAsk) (r : Reference) (notified : List Subscriber) → IsOrderly s → (service_step s client ask).0 ≡ Landed r notified → Notifies (IsNotifiedOf s client ask) s.tickets (service_step s client ask).1.tickets notified
landing_tells s client ask r notified j e = elim (refused_or_done s client ask j) [
  | inl f ↦ let g = ap (λ (o : DssReply × Service). o.0) f.1 in cc
  | inr c ↦ landed_tells s client ask (service_step s client ask) r notified c e
]

pub removal_tells : (s : Service) (client : List ℕ) (ask : DssAsk) (r : Reference) (notified : List Subscriber) → IsOrderly s → (service_step s client ask).0 ≡ Removed r notified → Notifies (IsNotifiedOf s client ask) s.tickets (service_step s client ask).1.tickets notified
removal_tells s client ask r notified j e = elim (refused_or_done s client ask j) [
  | inl f ↦ let g = ap (λ (o : DssReply × Service). o.0) f.1 in cc
  | inr c ↦ removed_tells s client ask (service_step s client ask) r notified c e
]

pub other_calls_keep : (s : Service) (client : List ℕ) (ask : DssAsk) → IsOrderly s → NotifiesNobody (service_step s client ask).0 → Keeps s.tickets (service_step s client ask).1.tickets (service_step s client ask).0
other_calls_keep s client ask j n = elim (refused_or_done s client ask j) [
  | inl f ↦ unchanged s (service_step s client ask) (ap (λ (o : DssReply × Service). o.1) f.1)
  | inr c ↦ others_keep s client ask (service_step s client ask) j c n
]
