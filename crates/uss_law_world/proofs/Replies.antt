-- What a reply of the discovery service tells of its state.
use Rattle.std.proofs.Common.{ℕ, ◌<◌, ◌≡◌, ◌≢◌, ◌⊎◌, inl, inr, ◌==◌, Bool, true, false, not, cond, ◌&&◌, List, [], ◌∷◌, refl, ap, sym, subst, ◌∙◌, Option, Some, None, is_some, is_none, arith}
use Rattle.uss_vol4.specs.Volume.{Volume4D}
use Rattle.uss_vol4.specs.Sharing.{any_shares}
use Rattle.uss_intent.specs.declared.records.Recorded.{Recorded}
use Rattle.uss_intent.specs.declared.records.Reference.{Reference}
use Rattle.uss_intent.specs.declared.records.Ticket.{Ticket}
use Rattle.uss_intent.specs.declared.records.State.{State}
use Rattle.uss_intent.specs.declared.calls.DssAsk.{DssAsk}
use Rattle.uss_intent.specs.declared.calls.DssAsk.TheVariants.{Query, Get, Put, Remove, TicketPut, TicketGet, TicketRemove}
use Rattle.uss_intent.specs.declared.calls.DssReply.{DssReply}
use Rattle.uss_intent.specs.declared.calls.DssReply.TheVariants.{Found, Got, TicketGot, Refused}
use Rattle.uss_intent.specs.declared.calls.DssRefusal.{DssRefusal}
use Rattle.uss_intent.specs.declared.calls.DssRefusal.TheVariants.{Exists, Retired, Absent, StaleOvn, MissingKey, TicketInUse}
use Rattle.uss_intent.specs.Numbers.{is_one_of}
use Rattle.uss_law_dss.specs.Lists.{Has}
use Rattle.uss_intent.specs.Refusals.{refusal_number}
use Rattle.uss_law_dss.specs.Service.{Service, recorded_of, ticket_of, has_ovn, shown_to, reach, relevant, in_key, lacking}
use Rattle.uss_law_dss.specs.Refusals.{is_stale_change, is_cited, shown_all, tests_of, put_tests, first_of, refusal_of}
use Rattle.uss_law_dss.specs.Step.{after_remove, after_ticket_remove, found_in, with_recorded, with_ticket, accepted, unless_refused, service_step}
use Rattle.uss_law_dss.specs.Orderly.{Ascend, flight_recorded}
use Rattle.uss_law_dss.proofs.Lists.{find_has, has_map, has_filter}
use Rattle.uss_law_dss.proofs.Tests.{not_true, not_both, equal_bytes, equal_number, some_same}
use Rattle.uss_law_dss.proofs.Placed.{above_has}

-- references are shown of what is recorded
pub record IsRecordShown (s : Service) (client : List ℕ) (r : Reference) : Type 0 where
  pub recorded : Recorded
  pub there : Has s.references recorded
  pub is : r ≡ shown_to client recorded.reference

abbrev pub AreRecordsShown : Service → List ℕ → List Reference → Type 0
AreRecordsShown s client references = (r : Reference) → Has references r → IsRecordShown s client r

shown_of : (s : Service) (client : List ℕ) (rs : List Recorded) → ((q : Recorded) → Has rs q → Has s.references q) → AreRecordsShown s client (shown_all client rs)
shown_of s client rs f r h = let m = has_map (λ (q : Recorded). shown_to client q.reference) rs r h in record { recorded = m.0; there = f m.0 m.1; is = sym m.2 }

-- a reference that is found or got is recorded, and a refusal is by a test
abbrev pub TellsOfState : Service → List ℕ → DssAsk → DssReply → Type 0
TellsOfState s client ask (Found references) = AreRecordsShown s client references
TellsOfState s client ask (Got r) = IsRecordShown s client r
TellsOfState s client ask (Refused refusal) = (refusal_of s client ask ≡ Some refusal) ⊎ (refusal ≡ Absent)
TellsOfState s client ask _ = Unit {0}

accepted_tells : (s : Service) (client : List ℕ) (ask : DssAsk) → TellsOfState s client ask (accepted s client ask).0
accepted_tells s client (Query area) = shown_of s client (found_in area s.references) (λ q h. has_filter (λ (z : Recorded). reach z.extents area) s.references q h)
accepted_tells s client (Get flight) = go (recorded_of flight s) refl
  where
    go : (x : Option Recorded) → recorded_of flight s ≡ x → TellsOfState s client (Get flight) (with_recorded s x (λ r. (Got (shown_to client r.reference), s))).0
    go None e = inr refl
    go (Some r) e = record { recorded = r; there = (find_has (λ (q : Recorded). q.reference.flight == flight) s.references r e).0; is = refl }
accepted_tells s client (Put flight ovn extents key state base ticket) = tt
accepted_tells s client (Remove flight ovn) = go (recorded_of flight s)
  where
    go : (x : Option Recorded) → TellsOfState s client (Remove flight ovn) (with_recorded s x (λ r. after_remove s client r)).0
    go None = inr refl
    go (Some r) = tt
accepted_tells s client (TicketPut ticket area base) = tt
accepted_tells s client (TicketGet ticket) = go (ticket_of ticket s)
  where
    go : (x : Option Ticket) → TellsOfState s client (TicketGet ticket) (with_ticket s x (λ t. (TicketGot t, s))).0
    go None = inr refl
    go (Some t) = tt
accepted_tells s client (TicketRemove ticket version) = go (ticket_of ticket s)
  where
    go : (x : Option Ticket) → TellsOfState s client (TicketRemove ticket version) (with_ticket s x (λ t. after_ticket_remove s t)).0
    go None = inr refl
    go (Some t) = tt

pub tells : (s : Service) (client : List ℕ) (ask : DssAsk) → TellsOfState s client ask (service_step s client ask).0
tells s client ask = go (refusal_of s client ask) refl
  where
    go : (x : Option DssRefusal) → refusal_of s client ask ≡ x → TellsOfState s client ask (unless_refused s (accepted s client ask) x).0
    go None e = accepted_tells s client ask
    go (Some r) e = inl e

-- of tests, one that gives this refusal holds
abbrev Either : Bool → Type 0 → Type 0 → Type 0
Either true A B = A ⊎ B
Either false A B = B

abbrev Holds : DssRefusal → List (Bool × DssRefusal) → Type 0
Holds r [] = ⊥
Holds r (t ∷ ts) = Either (refusal_number t.1 == refusal_number r) ((t.0 ≡ true) × (t.1 ≡ r)) (Holds r ts)

first_holds : (r : DssRefusal) (ts : List (Bool × DssRefusal)) → first_of ts ≡ Some r → Holds r ts
first_holds r [] h = cc
first_holds r (t ∷ ts) h = go t.0 refl (first_holds r ts) h
  where
    later : (b : Bool) → Holds r ts → Either b ((t.0 ≡ true) × (t.1 ≡ r)) (Holds r ts)
    later true h = inr h
    later false h = h

    here : (b : Bool) → (refusal_number t.1 == refusal_number r) ≡ b → (t.0 ≡ true) × (t.1 ≡ r) → Either b ((t.0 ≡ true) × (t.1 ≡ r)) (Holds r ts)
    here true e h = inl h
    here false e h = not_both (refusal_number t.1 == refusal_number r) (equal_number (refusal_number t.1) (refusal_number r) (ap (λ (x : DssRefusal). refusal_number x) h.1)) e

    go : (b : Bool) → t.0 ≡ b → (first_of ts ≡ Some r → Holds r ts) → cond b (Some t.1) (first_of ts) ≡ Some r → Holds r (t ∷ ts)
    go true e rec k = here (refusal_number t.1 == refusal_number r) refl (e, some_same t.1 r k)
    go false e rec k = later (refusal_number t.1 == refusal_number r) (rec k)

-- what is refused as retired is
abbrev pub IsNotified : Service → DssAsk → Type 0
IsNotified s (Query area) = Unit {0}
IsNotified s (Get flight) = is_one_of flight s.retired_flights ≡ true
IsNotified s (Put flight ovn extents key state base ticket) = is_one_of flight s.retired_flights ≡ true
IsNotified s (Remove flight ovn) = is_one_of flight s.retired_flights ≡ true
IsNotified s (TicketPut ticket area base) = is_one_of ticket s.retired_tickets ≡ true
IsNotified s (TicketGet ticket) = is_one_of ticket s.retired_tickets ≡ true
IsNotified s (TicketRemove ticket version) = is_one_of ticket s.retired_tickets ≡ true

one_test : {A : Type 0} (b : Bool) → ((b ≡ true) × A) ⊎ ⊥ → b ≡ true
one_test b (inl h) = h.0
one_test b (inr n) = absurd n

pub retired_told : (s : Service) (client : List ℕ) (ask : DssAsk) → refusal_of s client ask ≡ Some Retired → IsNotified s ask
retired_told s client (Query area) h = tt
retired_told s client (Get flight) h = one_test (is_one_of flight s.retired_flights) (first_holds Retired (tests_of s client (Get flight)) h)
retired_told s client (Put flight ovn extents key state base ticket) h =
    one_test (is_one_of flight s.retired_flights) (first_holds Retired (put_tests s client flight ovn extents key state ticket) h)
retired_told s client (Remove flight ovn) h = one_test (is_one_of flight s.retired_flights) (first_holds Retired (tests_of s client (Remove flight ovn)) h)
retired_told s client (TicketPut ticket area base) h = one_test (is_one_of ticket s.retired_tickets) (first_holds Retired (tests_of s client (TicketPut ticket area base)) h)
retired_told s client (TicketGet ticket) h = one_test (is_one_of ticket s.retired_tickets) (first_holds Retired (tests_of s client (TicketGet ticket)) h)
retired_told s client (TicketRemove ticket version) h = one_test (is_one_of ticket s.retired_tickets) (first_holds Retired (tests_of s client (TicketRemove ticket version)) h)

pub ticket_in_use : (s : Service) (client : List ℕ) (ticket version : ℕ) → refusal_of s client (TicketRemove ticket version) ≡ Some TicketInUse → is_cited ticket s.references ≡ true
ticket_in_use s client ticket version h = one_test (is_cited ticket s.references) (first_holds TicketInUse (tests_of s client (TicketRemove ticket version)) h)

-- the references of which a key lacks the OVN are recorded
missing_is : (x y : List Reference) → MissingKey x ≡ MissingKey y → x ≡ y
missing_is x y e = cc

pub missing_shown : (s : Service) (client : List ℕ) (ask : DssAsk) (references : List Reference) → refusal_of s client ask ≡ Some (MissingKey references) → AreRecordsShown s client references
missing_shown s client (Query area) references h = cc
missing_shown s client (Get flight) references h = absurd (first_holds (MissingKey references) (tests_of s client (Get flight)) h)
missing_shown s client (Put flight ovn extents key state base ticket) references h = go (first_holds (MissingKey references) (put_tests s client flight ovn extents key state ticket) h)
  where
    lacked : List Recorded
    lacked = lacking key (relevant flight extents s)

    recorded : (q : Recorded) → Has lacked q → Has s.references q
    recorded q i =
        has_filter (λ (r : Recorded). not (r.reference.flight == flight) && any_shares r.extents extents) s.references q
        (has_filter (λ (r : Recorded). not (in_key key r.reference)) (relevant flight extents s) q i)

    go : {b : Bool} → ((b ≡ true) × (MissingKey (shown_all client lacked) ≡ MissingKey references)) ⊎ ⊥ → AreRecordsShown s client references
    go (inl k) = subst (AreRecordsShown s client) (missing_is (shown_all client lacked) references k.1) (shown_of s client lacked recorded)
    go (inr n) = absurd n
missing_shown s client (Remove flight ovn) references h = absurd (first_holds (MissingKey references) (tests_of s client (Remove flight ovn)) h)
missing_shown s client (TicketPut ticket area base) references h = absurd (first_holds (MissingKey references) (tests_of s client (TicketPut ticket area base)) h)
missing_shown s client (TicketGet ticket) references h = absurd (first_holds (MissingKey references) (tests_of s client (TicketGet ticket)) h)
missing_shown s client (TicketRemove ticket version) references h = absurd (first_holds (MissingKey references) (tests_of s client (TicketRemove ticket version)) h)

-- the flight is recorded, and not by the OVN that the call names
pub record IsOtherwise (s : Service) (flight : ℕ) (ovn : Option (List ℕ)) : Type 0 where
  pub recorded : Recorded
  pub found : recorded_of flight s ≡ Some recorded
  pub differs : (o : List ℕ) → recorded.reference.ovn ≡ Some o → ovn ≢ Some o

by_exists : (s : Service) (flight : ℕ) (ovn : Option (List ℕ)) (x : Option Recorded) → recorded_of flight s ≡ x → (is_none ovn && is_some x) ≡ true → IsOtherwise s flight ovn
by_exists s flight None None e h = cc
by_exists s flight None (Some r) e h = record { recorded = r; found = e; differs = λ o k f. cc }
by_exists s flight (Some o) x e h = cc

by_stale : (s : Service) (flight : ℕ) (ovn : Option (List ℕ)) (x : Option Recorded) → recorded_of flight s ≡ x → is_stale_change x ovn ≡ true → IsOtherwise s flight ovn
by_stale s flight None x e h = cc
by_stale s flight (Some p) None e h = cc
by_stale s flight (Some p) (Some r) e h =
    record {
      recorded = r;
      found = e;
      differs = λ o k f. (
          let q : p ≡ o = cc in
          let a : has_ovn r.reference.ovn p ≡ false = not_true (has_ovn r.reference.ovn p) h in
          let b : has_ovn r.reference.ovn p ≡ true = subst (λ (z : Option (List ℕ)). has_ovn z p ≡ true) (sym k) (equal_bytes o p (sym q)) in
          not_both (has_ovn r.reference.ovn p) b a);
    }

pub put_exists : (s : Service) (client : List ℕ) (flight : ℕ) (ovn : Option (List ℕ)) (extents : List Volume4D) (key : List (List ℕ)) (state : State) (base : List ℕ) (ticket : ℕ)
    → refusal_of s client (Put flight ovn extents key state base ticket) ≡ Some Exists → IsOtherwise s flight ovn
put_exists s client flight ovn extents key state base ticket h =
    by_exists s flight ovn (recorded_of flight s) refl
    (one_test (is_none ovn && is_some (recorded_of flight s)) (first_holds Exists (put_tests s client flight ovn extents key state ticket) h))

pub put_stale : (s : Service) (client : List ℕ) (flight : ℕ) (ovn : Option (List ℕ)) (extents : List Volume4D) (key : List (List ℕ)) (state : State) (base : List ℕ) (ticket : ℕ)
    → refusal_of s client (Put flight ovn extents key state base ticket) ≡ Some StaleOvn → IsOtherwise s flight ovn
put_stale s client flight ovn extents key state base ticket h =
    by_stale s flight ovn (recorded_of flight s) refl
    (one_test (is_stale_change (recorded_of flight s) ovn) (first_holds StaleOvn (put_tests s client flight ovn extents key state ticket) h))

less_or_same : (m n : ℕ) → m < n → m ≡ n → ⊥
less_or_same m n l f = omega (arith, l, f)

-- a flight has one recorded reference
pub one_recorded : (rs : List Recorded) (r q : Recorded) → Ascend flight_recorded rs → Has rs r → Has rs q → r.reference.flight ≡ q.reference.flight → r ≡ q
one_recorded [] r q a h k e = absurd h
one_recorded (x ∷ xs) r q a (inl h) (inl k) e = sym h ∙ k
one_recorded (x ∷ xs) r q a (inl h) (inr k) e = absurd (less_or_same x.reference.flight q.reference.flight (above_has flight_recorded x.reference.flight xs q a.0 k) (ap (λ (z : Recorded). z.reference.flight) h ∙ e))
one_recorded (x ∷ xs) r q a (inr h) (inl k) e = absurd (less_or_same x.reference.flight r.reference.flight (above_has flight_recorded x.reference.flight xs r a.0 h) (ap (λ (z : Recorded). z.reference.flight) k ∙ sym e))
one_recorded (x ∷ xs) r q a (inr h) (inr k) e = one_recorded xs r q a.1 h k e
