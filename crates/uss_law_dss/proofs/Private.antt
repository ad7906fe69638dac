-- A reply shows a reference's OVN to its manager, and to nobody else.
use Rattle.std.proofs.Common.{ℕ, ◌≡◌, ◌≢◌, inl, inr, Bool, true, false, List, [], ◌∷◌, None, is_some, refl, ap, sym, subst, ◌∙◌}
use Rattle.uss_intent.specs.declared.records.Recorded.{Recorded}
use Rattle.uss_intent.specs.declared.records.Reference.{Reference}
use Rattle.uss_intent.specs.declared.calls.DssAsk.{DssAsk}
use Rattle.uss_intent.specs.declared.calls.DssAsk.TheVariants.{Query, Get, Put, Remove, TicketPut, TicketGet, TicketRemove}
use Rattle.uss_intent.specs.declared.calls.DssReply.{DssReply}
use Rattle.uss_intent.specs.declared.calls.DssRefusal.{DssRefusal}
use Rattle.uss_intent.specs.declared.calls.DssRefusal.TheVariants.{BadCall, NotYours, Exists, Retired, Absent, StaleOvn, NoTicket, NotCovered, MissingKey, TicketInUse, Full}
use Rattle.uss_intent.specs.Same.{same_text}
use Rattle.uss_law_dss.specs.Lists.{Has}
use Rattle.uss_law_dss.specs.Service.{Service}
use Rattle.uss_law_dss.specs.Step.{service_step}
use Rattle.uss_law_dss.specs.Orderly.{IsOrderly}
use Rattle.uss_law_dss.specs.Carried.{IsShown, Lists, CarriedOut}
use Rattle.uss_law_dss.specs.Causes.{Cause}
use Rattle.uss_law_dss.specs.Shown.{listed_in, shown_in}
use Rattle.uss_law_dss.proofs.Tests.{same_bytes, equal_bytes}
use Rattle.uss_law_dss.proofs.WhoIsNotified.{refused_or_done}
use Rattle.uss_law_dss.proofs.EachCause.{caused}

-- the OVN is there for the manager alone
record IsPrivate (client : List ℕ) (x : Reference) : Type 0 where
  own : x.manager ≡ client → is_some x.ovn ≡ true
  others : x.manager ≢ client → x.ovn ≡ None

recorded_ovn : (s : Service) (r : Recorded) → IsOrderly s → Has s.references r → is_some r.reference.ovn ≡ true
recorded_ovn s r j h = ap is_some (j.landed r h).2.ovn

shown_private : (s : Service) (client : List ℕ) (r : Recorded) (x : Reference) → IsOrderly s → Has s.references r → IsShown client r.reference x → IsPrivate client x
shown_private s client r x j h i = go (same_text r.reference.manager client) refl
  where
    go : (b : Bool) → same_text r.reference.manager client ≡ b → IsPrivate client x
    go true e = let q = i.own (same_bytes r.reference.manager client e) in record {
      own = λ m. ap (λ (y : Reference). is_some y.ovn) q ∙ recorded_ovn s r j h;
      others = λ d. absurd (d (ap (λ (y : Reference). y.manager) q ∙ same_bytes r.reference.manager client e));
    }
    go false e =
        let d : r.reference.manager ≢ client = λ m. (let t = equal_bytes r.reference.manager client m in cc) in
        let q = i.others d in record {
          own = λ m. absurd (d (sym (ap (λ (y : Reference). y.manager) q) ∙ m));
          others = λ n. ap (λ (y : Reference). y.ovn) q;
        }

listed_private : (s : Service) (client : List ℕ) (IsSuch : Recorded → Type 0) (list : List Reference) (x : Reference) → IsOrderly s → Lists s client IsSuch list → Has list x → IsPrivate client x
listed_private s client IsSuch list x j l h = let k = (l.those x).0 h in shown_private s client k.0 x j k.1 k.3

-- a reference of the client's own with an OVN
own_private : (client : List ℕ) (x : Reference) → x.manager ≡ client → is_some x.ovn ≡ true → IsPrivate client x
own_private client x m o = record { own = λ e. o; others = λ d. absurd (d m) }

only : (P : Reference → Type 0) (y x : Reference) → P y → Has (y ∷ []) x → P x
only P y x p (inl e) = subst P e p
only P y x p (inr n) = absurd n

refused_private : (s : Service) (client : List ℕ) (ask : DssAsk) (r : DssRefusal) (x : Reference) → IsOrderly s → Cause s client ask r → Has (listed_in r) x → IsPrivate client x
refused_private s client (Put flight ovn extents key state base ticket) (MissingKey listed) x j c h = listed_private s client _ listed x j c.2 h
refused_private s client (Query area) (MissingKey listed) x j c h = absurd c
refused_private s client (Get flight) (MissingKey listed) x j c h = absurd c
refused_private s client (Remove flight ovn) (MissingKey listed) x j c h = absurd c
refused_private s client (TicketPut ticket area base) (MissingKey listed) x j c h = absurd c
refused_private s client (TicketGet ticket) (MissingKey listed) x j c h = absurd c
refused_private s client (TicketRemove ticket version) (MissingKey listed) x j c h = absurd c
refused_private s client ask BadCall x j c h = absurd h
refused_private s client ask NotYours x j c h = absurd h
refused_private s client ask Exists x j c h = absurd h
refused_private s client ask Retired x j c h = absurd h
refused_private s client ask Absent x j c h = absurd h
refused_private s client ask StaleOvn x j c h = absurd h
refused_private s client ask NoTicket x j c h = absurd h
refused_private s client ask NotCovered x j c h = absurd h
refused_private s client ask TicketInUse x j c h = absurd h
refused_private s client ask (Full limit) x j c h = absurd h

done_private : (s : Service) (client : List ℕ) (ask : DssAsk) (out : DssReply × Service) (x : Reference) → IsOrderly s → CarriedOut s client ask out → Has (shown_in out.0) x → IsPrivate client x
done_private s client (Query area) out x j c h = listed_private s client _ c.found x j c.lists (subst (λ (a : DssReply). Has (shown_in a) x) c.reply h)
done_private s client (Get flight) out x j c h = only (IsPrivate client) c.got x (shown_private s client c.recorded c.got j c.there c.shown) (subst (λ (a : DssReply). Has (shown_in a) x) c.reply h)
done_private s client (Put flight ovn extents key state base ticket) out x j c h =
    only (IsPrivate client) c.new.reference x (own_private client c.new.reference c.manager (ap is_some c.ovn_is)) (subst (λ (a : DssReply). Has (shown_in a) x) c.reply h)
done_private s client (Remove flight ovn) out x j c h =
    only (IsPrivate client) c.recorded.reference x (own_private client c.recorded.reference c.named.manager (ap is_some c.named.ovn_is)) (subst (λ (a : DssReply). Has (shown_in a) x) c.reply h)
done_private s client (TicketPut ticket area base) out x j c h = absurd (subst (λ (a : DssReply). Has (shown_in a) x) c.reply h)
done_private s client (TicketGet ticket) out x j c h = absurd (subst (λ (a : DssReply). Has (shown_in a) x) c.reply h)
done_private s client (TicketRemove ticket version) out x j c h = absurd (subst (λ (a : DssReply). Has (shown_in a) x) c.reply h)

shown_is_private : (s : Service) (client : List ℕ) (ask : DssAsk) (x : Reference) → IsOrderly s → Has (shown_in (service_step s client ask).0) x → IsPrivate client x
shown_is_private s client ask x j h = elim (refused_or_done s client ask j) [
  | inl f ↦ let e = ap (λ (o : DssReply × Service). o.0) f.1 in
      refused_private s client ask f.0 x j (caused s client ask f.0 j e) (subst (λ (a : DssReply). Has (shown_in a) x) e h)
  | inr c ↦ done_private s client ask (service_step s client ask) x j c h
]

pub own_ovn : (s : Service) (client : List ℕ) (ask : DssAsk) (x : Reference) → IsOrderly s → Has (shown_in (service_step s client ask).0) x → x.manager ≡ client → is_some x.ovn ≡ true
own_ovn s client ask x j h = (shown_is_private s client ask x j h).own

pub others_ovn : (s : Service) (client : List ℕ) (ask : DssAsk) (x : Reference) → IsOrderly s → Has (shown_in (service_step s client ask).0) x → x.manager ≢ client → x.ovn ≡ None
others_ovn s client ask x j h = (shown_is_private s client ask x j h).others
