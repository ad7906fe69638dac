-- A call is refused for a cause, and for the one with the least number.
use Rattle.std.proofs.Common.{ℕ, ◌≤◌, ◌≡◌, ◌≢◌, ◌↔◌, ◌⊎◌, inl, inr, Bool, true, false, cond, ◌&&◌, nat_le, List, [], ◌∷◌, length, Option, Some, None, is_some, is_none, refl, ap, sym, subst, ◌∙◌, arith}
use Rattle.uss_vol4.specs.Volume.{Volume4D}
use Rattle.uss_intent.specs.declared.records.Recorded.{Recorded}
use Rattle.uss_intent.specs.declared.records.Ticket.{Ticket}
use Rattle.uss_intent.specs.declared.records.State.{State}
use Rattle.uss_intent.specs.declared.calls.DssAsk.{DssAsk}
use Rattle.uss_intent.specs.declared.calls.DssAsk.TheVariants.{Query, Get, Put, Remove, TicketPut, TicketGet, TicketRemove}
use Rattle.uss_intent.specs.declared.calls.DssReply.{DssReply}
use Rattle.uss_intent.specs.declared.calls.DssReply.TheVariants.{Got, TicketGot, Refused}
use Rattle.uss_intent.specs.declared.calls.DssRefusal.{DssRefusal}
use Rattle.uss_intent.specs.declared.calls.DssRefusal.TheVariants.{BadCall, NotYours, Exists, Retired, Absent, StaleOvn, NoTicket, NotCovered, MissingKey, TicketInUse, Full}
use Rattle.uss_intent.specs.Refusals.{refusal_number}
use Rattle.uss_intent.specs.States.{is_strategic}
use Rattle.uss_law_dss.specs.Lists.{Has}
use Rattle.uss_law_dss.specs.Service.{Service, recorded_of, ticket_of, shown_to}
use Rattle.uss_law_dss.specs.Refusals.{is_stale_change, is_at_last_version, tests_of, first_of, refusal_of, does_not_fall}
use Rattle.uss_law_dss.specs.Step.{with_recorded, with_ticket, after_remove, after_ticket_remove, accepted, unless_refused, service_step}
use Rattle.uss_law_dss.specs.Orderly.{IsOrderly}
use Rattle.uss_law_dss.specs.Carried.{NoneHolds, CarriedOut}
use Rattle.uss_law_dss.specs.Causes.{IsRecorded, MeetsLimit, GetCause, PutCause, RemoveCause, TicketPutCause, TicketGetCause, TicketRemoveCause, Cause}
use Rattle.uss_law_dss.proofs.Tests.{both, and_true, le_is, not_both, some_same}
use Rattle.uss_law_dss.proofs.Means.{Says, says_at_most, says_other_than, says_recorded, says_not_recorded, says_there, says_not_there, says_others, says_others_ticket, says_stale, says_last_version, says_one_of, says_cited, says_bad_put, says_uncovered, says_no_ticket, says_missing, lists_missing}
use Rattle.uss_law_dss.proofs.EachEffect.{none_holds}
use Rattle.uss_law_dss.proofs.EachCarried.{done}

-- ---- the first of some tests

-- where the test holds its refusal has its cause
AllMean : (DssRefusal → Type 0) → List (Bool × DssRefusal) → Type 0
AllMean C [] = Unit {0}
AllMean C (t ∷ ts) = (t.0 ≡ true → C t.1) × AllMean C ts

first_means : (C : DssRefusal → Type 0) (ts : List (Bool × DssRefusal)) (r : DssRefusal) → AllMean C ts → first_of ts ≡ Some r → C r
unfolding AllMean
first_means C [] r m e = cc
first_means C (t ∷ ts) r m e = go t.0 refl (first_means C ts r m.1) e
  where
    go : (b : Bool) → t.0 ≡ b → (first_of ts ≡ Some r → C r) → cond b (Some t.1) (first_of ts) ≡ Some r → C r
    go true h rec f = subst C (some_same t.1 r f) (m.0 h)
    go false h rec f = rec f

not_less_than : (n : ℕ) (ts : List (Bool × DssRefusal)) (t : Bool × DssRefusal) → does_not_fall n ts ≡ true → Has ts t → n ≤ refusal_number t.1
not_less_than n [] t d h = absurd h
not_less_than n (x ∷ xs) t d (inl e) = let k = le_is n (refusal_number x.1) (both _ _ d).0 in subst (λ (y : Bool × DssRefusal). n ≤ refusal_number y.1) e k
not_less_than n (x ∷ xs) t d (inr h) =
    let k = both (nat_le n (refusal_number x.1)) (does_not_fall (refusal_number x.1) xs) d in
    let l = le_is n (refusal_number x.1) k.0 in
    let m = not_less_than (refusal_number x.1) xs t k.1 h in
    omega arith

-- the first test that holds has the least number
first_least : (n : ℕ) (ts : List (Bool × DssRefusal)) (r : DssRefusal) (t : Bool × DssRefusal) → does_not_fall n ts ≡ true → first_of ts ≡ Some r → Has ts t → t.0 ≡ true → refusal_number r ≤ refusal_number t.1
first_least n [] r t d f h e = absurd h
first_least n (x ∷ xs) r t d f h e =
    let k = both (nat_le n (refusal_number x.1)) (does_not_fall (refusal_number x.1) xs) d in
    go x.0 refl k.1 (λ f h. first_least (refusal_number x.1) xs r t k.1 f h e) f h
  where
    go : (b : Bool) → x.0 ≡ b → does_not_fall (refusal_number x.1) xs ≡ true → (first_of xs ≡ Some r → Has xs t → refusal_number r ≤ refusal_number t.1) → cond b (Some x.1) (first_of xs) ≡ Some r → (x ≡ t) ⊎ Has xs t
        → refusal_number r ≤ refusal_number t.1
    go true q g rec f (inl i) = let s = ap refusal_number (some_same x.1 r f) in let u = ap (λ (y : Bool × DssRefusal). refusal_number y.1) i in omega arith
    go true q g rec f (inr i) = let s = ap refusal_number (some_same x.1 r f) in let u = not_less_than (refusal_number x.1) xs t g i in omega arith
    go false q g rec f (inl i) = not_both t.0 e (sym (ap (λ (y : Bool × DssRefusal). y.0) i) ∙ q)
    go false q g rec f (inr i) = rec f i

first_some : (ts : List (Bool × DssRefusal)) (t : Bool × DssRefusal) → Has ts t → t.0 ≡ true → (r : DssRefusal) × (first_of ts ≡ Some r)
first_some [] t h e = absurd h
first_some (x ∷ xs) t h e = go x.0 refl (λ h. first_some xs t h e) h
  where
    go : (b : Bool) → x.0 ≡ b → (Has xs t → (r : DssRefusal) × (first_of xs ≡ Some r)) → (x ≡ t) ⊎ Has xs t → (r : DssRefusal) × (cond b (Some x.1) (first_of xs) ≡ Some r)
    go true q rec i = (x.1, refl)
    go false q rec (inl i) = not_both t.0 e (sym (ap (λ (y : Bool × DssRefusal). y.0) i) ∙ q)
    go false q rec (inr i) = rec i

none_of : (C : DssRefusal → Type 0) (ts : List (Bool × DssRefusal)) → AllMean C ts → ((r : DssRefusal) → C r → ⊥) → NoneHolds ts
unfolding AllMean
none_of C [] m n = tt
none_of C (t ∷ ts) m n = (go t.0 refl, none_of C ts m.1 n)
  where
    go : (b : Bool) → t.0 ≡ b → b ≡ false
    go true e = absurd (n t.1 (m.0 e))
    go false e = refl

-- some test with this number holds
record HasTrue (ts : List (Bool × DssRefusal)) (n : ℕ) : Type 0 where
  test : Bool × DssRefusal
  has : Has ts test
  holds : test.0 ≡ true
  number : refusal_number test.1 ≡ n

here : (b : Bool) (r : DssRefusal) (ts : List (Bool × DssRefusal)) → b ≡ true → HasTrue ((b, r) ∷ ts) (refusal_number r)
here b r ts h = record { test = (b, r); has = inl refl; holds = h; number = refl }

later : (t : Bool × DssRefusal) (ts : List (Bool × DssRefusal)) (n : ℕ) → HasTrue ts n → HasTrue (t ∷ ts) n
later t ts n h = record { test = h.test; has = inr h.has; holds = h.holds; number = h.number }

second : (t u : Bool × DssRefusal) (ts : List (Bool × DssRefusal)) (n : ℕ) → HasTrue ts n → HasTrue (t ∷ u ∷ ts) n
second t u ts n h = later t (u ∷ ts) n (later u ts n h)

-- ---- the tests of each kind of call

is_given : (o : Option (List ℕ)) → Says (is_some o) (o ≢ None)
is_given None = (λ h. cc, λ n. absurd (n refl))
is_given (Some p) = (λ h e. cc, λ n. refl)

is_not_given : (o : Option (List ℕ)) → Says (is_none o) (o ≡ None)
is_not_given None = (λ h. refl, λ n. refl)
is_not_given (Some p) = (λ h. cc, λ n. cc)

stale_change : (s : Service) (flight : ℕ) (ovn : Option (List ℕ)) → IsOrderly s → Says (is_stale_change (recorded_of flight s) ovn) ((ovn ≢ None) × IsRecorded s flight (λ r. r.reference.ovn ≢ ovn))
stale_change s flight None j = (λ h. cc, λ k. absurd (k.0 refl))
stale_change s flight (Some o) j = (λ h. (λ e. cc, (says_stale s flight o j).0 h), λ k. (says_stale s flight o j).1 k.1)

put_means : (s : Service) (client : List ℕ) (flight : ℕ) (ovn : Option (List ℕ)) (extents : List Volume4D) (key : List (List ℕ)) (state : State) (base : List ℕ) (ticket : ℕ)
    → IsOrderly s → AllMean (Cause s client (Put flight ovn extents key state base ticket)) (tests_of s client (Put flight ovn extents key state base ticket))
unfolding AllMean
put_means s client flight ovn extents key state base ticket j = (
  (says_bad_put extents key).0,
  (
    (says_others s client flight j).0,
    (
      λ h. (let k = both (is_none ovn) (is_some (recorded_of flight s)) h in ((is_not_given ovn).0 k.0, (says_recorded s flight j).0 k.1)),
      (
        (says_one_of flight s.retired_flights).0,
        (
          λ h. (let k = both (is_some ovn) (is_none (recorded_of flight s)) h in ((is_given ovn).0 k.0, (says_not_recorded s flight j).0 k.1)),
          (
            (stale_change s flight ovn j).0,
            (
              (says_no_ticket s client ticket j).0,
              (
                (says_uncovered s ticket extents j).0,
                (
                  λ h. (let k = both (is_strategic state) _ h in (k.0, (says_missing s flight extents key).0 k.1, lists_missing s client flight extents key j)),
                  (
                    λ h. (let k = both (is_none ovn) (nat_le 4096 (length s.references)) h in inl (refl, (is_not_given ovn).0 k.0, (says_at_most 4096 (length s.references)).0 k.1)),
                    (
                      λ h. inr (inl (refl, (says_last_version s flight j).0 h)),
                      (
                        λ h. inr (inr (refl, (says_at_most 9999999999999999 (length s.landings)).0 h)),
                        tt,
                      ),
                    ),
                  ),
                ),
              ),
            ),
          ),
        ),
      ),
    ),
  ),
)

means : (s : Service) (client : List ℕ) (ask : DssAsk) → IsOrderly s → AllMean (Cause s client ask) (tests_of s client ask)
unfolding AllMean
means s client (Query area) j = tt
means s client (Get flight) j = ((says_one_of flight s.retired_flights).0, ((says_not_recorded s flight j).0, tt))
means s client (Put flight ovn extents key state base ticket) j = put_means s client flight ovn extents key state base ticket j
means s client (Remove flight ovn) j = ((says_others s client flight j).0, ((says_one_of flight s.retired_flights).0, ((says_not_recorded s flight j).0, ((says_stale s flight ovn j).0, tt))))
means s client (TicketPut ticket area base) j = (
  (says_others_ticket s client ticket j).0,
  ((says_there s ticket j).0, ((says_one_of ticket s.retired_tickets).0, (λ h. (refl, (says_at_most 8192 (length s.tickets)).0 h), tt))),
)
means s client (TicketGet ticket) j = ((says_others_ticket s client ticket j).0, ((says_one_of ticket s.retired_tickets).0, ((says_not_there s ticket j).0, tt)))
means s client (TicketRemove ticket version) j = (
  (says_others_ticket s client ticket j).0,
  (
    (says_one_of ticket s.retired_tickets).0,
    ((says_not_there s ticket j).0, ((says_other_than version 1).0, ((says_cited ticket s.references).0, tt))),
  ),
)

-- ---- each cause makes a test hold

get_held : (s : Service) (client : List ℕ) (flight : ℕ) (r : DssRefusal) → IsOrderly s → GetCause s flight r → HasTrue (tests_of s client (Get flight)) (refusal_number r)
get_held s client flight Retired j c = here _ _ _ ((says_one_of flight s.retired_flights).1 c)
get_held s client flight Absent j c = later _ _ _ (here _ _ _ ((says_not_recorded s flight j).1 c))
get_held s client flight _ j c = absurd c

-- the tests of the limits of a Put
abbrev limit_tests : Service → ℕ → Option (List ℕ) → List (Bool × DssRefusal)
limit_tests s flight ovn =
    (is_none ovn && nat_le 4096 (length s.references), Full 4096)
    ∷ (is_at_last_version (recorded_of flight s), Full 4294967295)
    ∷ (nat_le 9999999999999999 (length s.landings), Full 9999999999999999)
    ∷ []

limit_held : (s : Service) (flight : ℕ) (ovn : Option (List ℕ)) (limit : ℕ) → IsOrderly s → MeetsLimit s flight ovn limit → HasTrue (limit_tests s flight ovn) 211
limit_held s flight ovn limit j (inl k) = here _ _ _ (and_true (is_none ovn) (nat_le 4096 (length s.references)) ((is_not_given ovn).1 k.1) ((says_at_most 4096 (length s.references)).1 k.2))
limit_held s flight ovn limit j (inr (inl k)) = later _ _ _ (here _ _ _ ((says_last_version s flight j).1 k.1))
limit_held s flight ovn limit j (inr (inr k)) = later _ _ _ (later _ _ _ (here _ _ _ ((says_at_most 9999999999999999 (length s.landings)).1 k.1)))

put_held : (s : Service) (client : List ℕ) (flight : ℕ) (ovn : Option (List ℕ)) (extents : List Volume4D) (key : List (List ℕ)) (state : State) (base : List ℕ) (ticket : ℕ) (r : DssRefusal)
    → IsOrderly s → PutCause s client flight ovn extents key state ticket r → HasTrue (tests_of s client (Put flight ovn extents key state base ticket)) (refusal_number r)
put_held s client flight ovn extents key state base ticket BadCall j c = here _ _ _ ((says_bad_put extents key).1 c)
put_held s client flight ovn extents key state base ticket NotYours j c = later _ _ _ (here _ _ _ ((says_others s client flight j).1 c))
put_held s client flight ovn extents key state base ticket Exists j c = second _ _ _ _ (here _ _ _ (and_true (is_none ovn) _ ((is_not_given ovn).1 c.0) ((says_recorded s flight j).1 c.1)))
put_held s client flight ovn extents key state base ticket Retired j c = second _ _ _ _ (later _ _ _ (here _ _ _ ((says_one_of flight s.retired_flights).1 c)))
put_held s client flight ovn extents key state base ticket Absent j c = second _ _ _ _ (second _ _ _ _ (here _ _ _ (and_true (is_some ovn) _ ((is_given ovn).1 c.0) ((says_not_recorded s flight j).1 c.1))))
put_held s client flight ovn extents key state base ticket StaleOvn j c = second _ _ _ _ (second _ _ _ _ (later _ _ _ (here _ _ _ ((stale_change s flight ovn j).1 c))))
put_held s client flight ovn extents key state base ticket NoTicket j c = second _ _ _ _ (second _ _ _ _ (second _ _ _ _ (here _ _ _ ((says_no_ticket s client ticket j).1 c))))
put_held s client flight ovn extents key state base ticket NotCovered j c = second _ _ _ _ (second _ _ _ _ (second _ _ _ _ (later _ _ _ (here _ _ _ ((says_uncovered s ticket extents j).1 c)))))
put_held s client flight ovn extents key state base ticket (MissingKey listed) j c =
    second _ _ _ _ (second _ _ _ _ (second _ _ _ _ (second _ _ _ _ (here _ _ _ (and_true (is_strategic state) _ c.0 ((says_missing s flight extents key).1 c.1))))))
put_held s client flight ovn extents key state base ticket TicketInUse j c = absurd c
put_held s client flight ovn extents key state base ticket (Full limit) j c =
    second _ _ _ _ (second _ _ _ _ (second _ _ _ _ (second _ _ _ _ (later _ _ _ (limit_held s flight ovn limit j c)))))

remove_held : (s : Service) (client : List ℕ) (flight : ℕ) (ovn : List ℕ) (r : DssRefusal) → IsOrderly s → RemoveCause s client flight ovn r → HasTrue (tests_of s client (Remove flight ovn)) (refusal_number r)
remove_held s client flight ovn NotYours j c = here _ _ _ ((says_others s client flight j).1 c)
remove_held s client flight ovn Retired j c = later _ _ _ (here _ _ _ ((says_one_of flight s.retired_flights).1 c))
remove_held s client flight ovn Absent j c = second _ _ _ _ (here _ _ _ ((says_not_recorded s flight j).1 c))
remove_held s client flight ovn StaleOvn j c = second _ _ _ _ (later _ _ _ (here _ _ _ ((says_stale s flight ovn j).1 c)))
remove_held s client flight ovn _ j c = absurd c

ticket_put_held : (s : Service) (client : List ℕ) (ticket : ℕ) (area : Volume4D) (base : List ℕ) (r : DssRefusal) → IsOrderly s → TicketPutCause s client ticket r → HasTrue (tests_of s client (TicketPut ticket area base)) (refusal_number r)
ticket_put_held s client ticket area base NotYours j c = here _ _ _ ((says_others_ticket s client ticket j).1 c)
ticket_put_held s client ticket area base Exists j c = later _ _ _ (here _ _ _ ((says_there s ticket j).1 c))
ticket_put_held s client ticket area base Retired j c = second _ _ _ _ (here _ _ _ ((says_one_of ticket s.retired_tickets).1 c))
ticket_put_held s client ticket area base (Full limit) j c = second _ _ _ _ (later _ _ _ (here _ _ _ ((says_at_most 8192 (length s.tickets)).1 c.1)))
ticket_put_held s client ticket area base _ j c = absurd c

ticket_get_held : (s : Service) (client : List ℕ) (ticket : ℕ) (r : DssRefusal) → IsOrderly s → TicketGetCause s client ticket r → HasTrue (tests_of s client (TicketGet ticket)) (refusal_number r)
ticket_get_held s client ticket NotYours j c = here _ _ _ ((says_others_ticket s client ticket j).1 c)
ticket_get_held s client ticket Retired j c = later _ _ _ (here _ _ _ ((says_one_of ticket s.retired_tickets).1 c))
ticket_get_held s client ticket Absent j c = second _ _ _ _ (here _ _ _ ((says_not_there s ticket j).1 c))
ticket_get_held s client ticket _ j c = absurd c

ticket_remove_held : (s : Service) (client : List ℕ) (ticket version : ℕ) (r : DssRefusal) → IsOrderly s → TicketRemoveCause s client ticket version r → HasTrue (tests_of s client (TicketRemove ticket version)) (refusal_number r)
ticket_remove_held s client ticket version NotYours j c = here _ _ _ ((says_others_ticket s client ticket j).1 c)
ticket_remove_held s client ticket version Retired j c = later _ _ _ (here _ _ _ ((says_one_of ticket s.retired_tickets).1 c))
ticket_remove_held s client ticket version Absent j c = second _ _ _ _ (here _ _ _ ((says_not_there s ticket j).1 c))
ticket_remove_held s client ticket version StaleOvn j c = second _ _ _ _ (later _ _ _ (here _ _ _ ((says_other_than version 1).1 c)))
ticket_remove_held s client ticket version TicketInUse j c = second _ _ _ _ (second _ _ _ _ (here _ _ _ ((says_cited ticket s.references).1 c)))
ticket_remove_held s client ticket version _ j c = absurd c

held : (s : Service) (client : List ℕ) (ask : DssAsk) (r : DssRefusal) → IsOrderly s → Cause s client ask r → HasTrue (tests_of s client ask) (refusal_number r)
held s client (Query area) r j c = absurd c
held s client (Get flight) r j c = get_held s client flight r j c
held s client (Put flight ovn extents key state base ticket) r j c = put_held s client flight ovn extents key state base ticket r j c
held s client (Remove flight ovn) r j c = remove_held s client flight ovn r j c
held s client (TicketPut ticket area base) r j c = ticket_put_held s client ticket area base r j c
held s client (TicketGet ticket) r j c = ticket_get_held s client ticket r j c
held s client (TicketRemove ticket version) r j c = ticket_remove_held s client ticket version r j c

-- ---- a reply that is a refusal

recorded_not_refused : (s : Service) (o : Option Recorded) (next : Recorded → DssReply × Service) (r : DssRefusal) → is_none o ≡ false → ((q : Recorded) → (next q).0 ≡ Refused r → ⊥) → (with_recorded s o next).0 ≡ Refused r → ⊥
recorded_not_refused s None next r n f e = cc
recorded_not_refused s (Some q) next r n f e = f q e

ticket_not_refused : (s : Service) (o : Option Ticket) (next : Ticket → DssReply × Service) (r : DssRefusal) → is_none o ≡ false → ((t : Ticket) → (next t).0 ≡ Refused r → ⊥) → (with_ticket s o next).0 ≡ Refused r → ⊥
ticket_not_refused s None next r n f e = cc
ticket_not_refused s (Some t) next r n f e = f t e

not_refused : (s : Service) (client : List ℕ) (ask : DssAsk) (r : DssRefusal) → NoneHolds (tests_of s client ask) → (accepted s client ask).0 ≡ Refused r → ⊥
not_refused s client (Query area) r all e = cc
not_refused s client (Get flight) r all e = recorded_not_refused s (recorded_of flight s) (λ q. (Got (shown_to client q.reference), s)) r all.1.0 (λ q f. cc) e
not_refused s client (Put flight ovn extents key state base ticket) r all e = cc
not_refused s client (Remove flight ovn) r all e = recorded_not_refused s (recorded_of flight s) (λ q. after_remove s client q) r all.1.1.0 (λ q f. cc) e
not_refused s client (TicketPut ticket area base) r all e = cc
not_refused s client (TicketGet ticket) r all e = ticket_not_refused s (ticket_of ticket s) (λ t. (TicketGot t, s)) r all.1.1.0 (λ t f. cc) e
not_refused s client (TicketRemove ticket version) r all e = ticket_not_refused s (ticket_of ticket s) (λ t. after_ticket_remove s t) r all.1.1.0 (λ t f. cc) e

refused_is : (s : Service) (client : List ℕ) (ask : DssAsk) (r : DssRefusal) (o : Option DssRefusal) → refusal_of s client ask ≡ o → (unless_refused s (accepted s client ask) o).0 ≡ Refused r → o ≡ Some r
refused_is s client ask r None e h = absurd (not_refused s client ask r (none_holds (tests_of s client ask) e) h)
refused_is s client ask r (Some q) e h = cc

pub reply_refused : (s : Service) (client : List ℕ) (ask : DssAsk) (r : DssRefusal) → ((service_step s client ask).0 ≡ Refused r) ↔ (refusal_of s client ask ≡ Some r)
reply_refused s client ask r = (refused_is s client ask r (refusal_of s client ask) refl, λ e. ap (λ (o : Option DssRefusal). (unless_refused s (accepted s client ask) o).0) e)

-- ---- the laws

pub in_order : (s : Service) (client : List ℕ) (ask : DssAsk) → does_not_fall 201 (tests_of s client ask) ≡ true
in_order s client (Query area) = refl
in_order s client (Get flight) = refl
in_order s client (Put flight ovn extents key state base ticket) = refl
in_order s client (Remove flight ovn) = refl
in_order s client (TicketPut ticket area base) = refl
in_order s client (TicketGet ticket) = refl
in_order s client (TicketRemove ticket version) = refl

pub caused : (s : Service) (client : List ℕ) (ask : DssAsk) (r : DssRefusal) → IsOrderly s → (service_step s client ask).0 ≡ Refused r → Cause s client ask r
caused s client ask r j e = first_means (Cause s client ask) (tests_of s client ask) r (means s client ask j) ((reply_refused s client ask r).0 e)

pub least : (s : Service) (client : List ℕ) (ask : DssAsk) (r q : DssRefusal) → IsOrderly s → (service_step s client ask).0 ≡ Refused r → Cause s client ask q → refusal_number r ≤ refusal_number q
least s client ask r q j e c =
    let h = held s client ask q j c in
    let l = first_least 201 (tests_of s client ask) r h.test (in_order s client ask) ((reply_refused s client ask r).0 e) h.has h.holds in
    let n = h.number in
    omega arith

pub refused_for : (s : Service) (client : List ℕ) (ask : DssAsk) (q : DssRefusal) → IsOrderly s → Cause s client ask q → (r : DssRefusal) × ((service_step s client ask).0 ≡ Refused r)
refused_for s client ask q j c =
    let h = held s client ask q j c in
    let f = first_some (tests_of s client ask) h.test h.has h.holds in
    (f.0, (reply_refused s client ask f.0).1 f.1)

pub done_without_cause : (s : Service) (client : List ℕ) (ask : DssAsk) → IsOrderly s → ((r : DssRefusal) → Cause s client ask r → ⊥) → CarriedOut s client ask (service_step s client ask)
done_without_cause s client ask j n = done s client ask j (none_of (Cause s client ask) (tests_of s client ask) (means s client ask j) n)
