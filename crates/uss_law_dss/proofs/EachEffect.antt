-- Each call has one of five effects.
use Rattle.std.proofs.Common.{ℕ, ◌<◌, ◌≡◌, ◌≢◌, Bool, true, false, cond, not, ◌&&◌, ◌==◌, nat_lt, List, [], ◌∷◌, length, Option, Some, None, is_some, is_none, refl, ap, subst, arith}
use Rattle.uss_vol4.specs.Volume.{Volume4D}
use Rattle.uss_vol4.specs.Bounding.{bounding_box, box_of}
use Rattle.uss_intent.specs.declared.records.Recorded.{Recorded}
use Rattle.uss_intent.specs.declared.records.Ticket.{Ticket}
use Rattle.uss_intent.specs.declared.records.State.{State}
use Rattle.uss_intent.specs.declared.calls.DssAsk.{DssAsk}
use Rattle.uss_intent.specs.declared.calls.DssAsk.TheVariants.{Query, Get, Put, Remove, TicketPut, TicketGet, TicketRemove}
use Rattle.uss_intent.specs.declared.calls.DssReply.{DssReply}
use Rattle.uss_intent.specs.declared.calls.DssReply.TheVariants.{Got, TicketGot}
use Rattle.uss_intent.specs.declared.calls.DssRefusal.{DssRefusal}
use Rattle.uss_law_dss.specs.Lists.{Has}
use Rattle.uss_law_dss.specs.Service.{Service, recorded_of, ticket_of, has_ovn, relevant, lacking, in_key, lies_in, shown_to}
use Rattle.uss_law_dss.specs.Refusals.{vertex_count, is_others, is_others_ticket, is_stale, is_stale_change, is_no_ticket_of, is_uncovered, is_cited, is_at_last_version, tests_of, first_of, refusal_of}
use Rattle.uss_law_dss.specs.Step.{after_put, after_remove, after_ticket_put, after_ticket_remove, with_recorded, with_ticket, accepted, unless_refused, service_step}
use Rattle.uss_law_dss.specs.Carried.{NoneHolds}
use Rattle.uss_law_dss.specs.Effects.{Effect, lands, removes, makes_ticket, takes_ticket_out, stays}
use Rattle.uss_law_dss.proofs.Lists.{has_filtered}
use Rattle.uss_law_dss.proofs.Tests.{same_number, other_number, same_bytes, not_less, not_le, not_false, second_false, neither, none_is}

pub none_holds : (ts : List (Bool × DssRefusal)) → first_of ts ≡ None → NoneHolds ts
none_holds [] h = tt
none_holds (t ∷ ts) h = go t.0 refl (none_holds ts) h
  where
    go : (b : Bool) → t.0 ≡ b → (first_of ts ≡ None → NoneHolds ts) → cond b (Some t.1) (first_of ts) ≡ None → (t.0 ≡ false) × NoneHolds ts
    go true e rec f = cc
    go false e rec f = (e, rec f)

pub created : {X : Type 0} (o : Option X) (ovn : Option (List ℕ)) → (is_none ovn && is_some o) ≡ false → ovn ≡ None → o ≡ None
created o None h e = none_is o h
created o (Some p) h e = cc

creating : (ovn : Option (List ℕ)) (b : Bool) → (is_none ovn && b) ≡ false → ovn ≡ None → b ≡ false
creating None b h e = h
creating (Some p) b h e = cc

pub is_ovn : (o : Option (List ℕ)) (p : List ℕ) → has_ovn o p ≡ true → o ≡ Some p
is_ovn None p h = cc
is_ovn (Some q) p h = ap Some (same_bytes q p h)

pub changed : (o : Option Recorded) (client : List ℕ) (ovn : Option (List ℕ)) → (is_some ovn && is_none o) ≡ false → is_others client o ≡ false → is_stale_change o ovn ≡ false → is_at_last_version o ≡ false → (p : List ℕ) → ovn ≡ Some p
    → (r : Recorded) × (o ≡ Some r) × (r.reference.manager ≡ client) × (r.reference.ovn ≡ Some p) × (r.reference.version ≢ 4294967295)
changed o client None h y k v p e = cc
changed None client (Some q) h y k v p e = cc
changed (Some r) client (Some q) h y k v p e =
    let f : q ≡ p = cc in
    (r, refl, same_bytes r.reference.manager client (not_false _ y), is_ovn r.reference.ovn p (subst (λ x. has_ovn r.reference.ovn x ≡ true) f (not_false _ k)), other_number r.reference.version 4294967295 v)

cited : (o : Option Ticket) (client : List ℕ) (extents : List Volume4D) → is_no_ticket_of client o ≡ false → is_uncovered o extents ≡ false
    → (t : Ticket) × (o ≡ Some t) × (t.manager ≡ client) × (lies_in (bounding_box extents) (box_of t.area) ≡ true)
cited None client extents h k = cc
cited (Some t) client extents h k = (t, refl, same_bytes t.manager client (not_false _ h), not_false _ k)

no_item : {X : Type 0} (xs : List X) (x : X) → (length xs == 0) ≡ true → Has xs x → ⊥
no_item [] x e h = h
no_item (y ∷ ys) x e h = absurd (let z = same_number (length (y ∷ ys)) 0 e in omega arith)

none_lacking : (key : List (List ℕ)) (rs : List Recorded) (r : Recorded) → (length (lacking key rs) == 0) ≡ true → Has rs r → in_key key r.reference ≡ true
none_lacking key rs r e h = go (in_key key r.reference) refl
  where
    go : (b : Bool) → in_key key r.reference ≡ b → b ≡ true
    go true f = refl
    go false f = absurd (no_item (lacking key rs) r e (has_filtered (λ r. not (in_key key r.reference)) rs r h (ap not f)))

pub some_items : {X : Type 0} (xs : List X) → (length xs == 0) ≡ false → 0 < length xs
some_items xs h = let n = other_number (length xs) 0 h in omega arith

-- a refusal changes nothing
refused : (s : Service) (client : List ℕ) (ask : DssAsk) (out : DssReply × Service) (r : DssRefusal) → Effect s client ask (unless_refused s out (Some r))
refused s client ask out r = stays (record { same = refl; reply = tt })

put_effect : (s : Service) (client : List ℕ) (flight : ℕ) (ovn : Option (List ℕ)) (extents : List Volume4D) (key : List (List ℕ)) (state : State) (base : List ℕ) (ticket : ℕ)
    → (o : Option DssRefusal) → refusal_of s client (Put flight ovn extents key state base ticket) ≡ o
    → Effect s client (Put flight ovn extents key state base ticket) (unless_refused s (after_put s client flight ovn extents state base ticket) o)
put_effect s client flight ovn extents key state base ticket (Some r) e = refused s client (Put flight ovn extents key state base ticket) (after_put s client flight ovn extents state base ticket) r
put_effect s client flight ovn extents key state base ticket None e =
    let all = none_holds (tests_of s client (Put flight ovn extents key state base ticket)) e in
    let bad = neither (length extents == 0) _ all.0 in
    let many = neither (nat_lt 64 (length extents)) _ bad.1 in
    let vertices = neither (nat_lt 10000 (vertex_count extents)) (nat_lt 1024 (length key)) many.1 in
    lands (record {
      flight = flight;
      ovn = ovn;
      extents = extents;
      key = key;
      state = state;
      base = base;
      ticket = ticket;
      is = refl;
      out_is = refl;
      some_extents = some_items extents bad.0;
      few_extents = not_less 64 (length extents) many.0;
      few_vertices = not_less 10000 (vertex_count extents) vertices.0;
      few_ovns = not_less 1024 (length key) vertices.1;
      not_retired = all.1.1.1.0;
      creates = λ n. (created (recorded_of flight s) ovn all.1.1.0 n, not_le 4096 (length s.references) (creating ovn _ all.1.1.1.1.1.1.1.1.1.0 n));
      changes = changed (recorded_of flight s) client ovn all.1.1.1.1.0 all.1.0 all.1.1.1.1.1.0 all.1.1.1.1.1.1.1.1.1.1.0;
      cites = cited (ticket_of ticket s) client extents all.1.1.1.1.1.1.0 all.1.1.1.1.1.1.1.0;
      keyed = λ k r h. none_lacking key (relevant flight extents s) r (not_false _ (second_false _ _ all.1.1.1.1.1.1.1.1.0 k)) h;
      room = not_le 9999999999999999 (length s.landings) all.1.1.1.1.1.1.1.1.1.1.1.0;
    })

get_effect : (s : Service) (client : List ℕ) (flight : ℕ) (r : Option Recorded) → Effect s client (Get flight) (with_recorded s r (λ r. (Got (shown_to client r.reference), s)))
get_effect s client flight None = stays (record { same = refl; reply = tt })
get_effect s client flight (Some r) = stays (record { same = refl; reply = tt })

ticket_get_effect : (s : Service) (client : List ℕ) (ticket : ℕ) (t : Option Ticket) → Effect s client (TicketGet ticket) (with_ticket s t (λ t. (TicketGot t, s)))
ticket_get_effect s client ticket None = stays (record { same = refl; reply = tt })
ticket_get_effect s client ticket (Some t) = stays (record { same = refl; reply = tt })

remove_effect : (s : Service) (client : List ℕ) (flight : ℕ) (ovn : List ℕ) (r : Option Recorded) → recorded_of flight s ≡ r → is_others client r ≡ false → is_stale r ovn ≡ false
    → Effect s client (Remove flight ovn) (with_recorded s r (λ r. after_remove s client r))
remove_effect s client flight ovn None e y k = stays (record { same = refl; reply = tt })
remove_effect s client flight ovn (Some r) e y k =
    removes (record {
      flight = flight;
      ovn = ovn;
      recorded = r;
      is = refl;
      found = e;
      manager = same_bytes r.reference.manager client (not_false _ y);
      by_ovn = is_ovn r.reference.ovn ovn (not_false _ k);
      out_is = refl;
    })

ticket_remove_effect : (s : Service) (client : List ℕ) (id version : ℕ) (t : Option Ticket) → ticket_of id s ≡ t → is_others_ticket client t ≡ false → not (version == 1) ≡ false → is_cited id s.references ≡ false
    → Effect s client (TicketRemove id version) (with_ticket s t (λ t. after_ticket_remove s t))
ticket_remove_effect s client id version None e y v u = stays (record { same = refl; reply = tt })
ticket_remove_effect s client id version (Some t) e y v u =
    takes_ticket_out (record {
      id = id;
      ticket = t;
      is = ap (TicketRemove id) (same_number version 1 (not_false _ v));
      found = e;
      manager = same_bytes t.manager client (not_false _ y);
      uncited = u;
      out_is = refl;
    })

by_refusal : (s : Service) (client : List ℕ) (ask : DssAsk) (out : DssReply × Service) (o : Option DssRefusal) → refusal_of s client ask ≡ o
    → (NoneHolds (tests_of s client ask) → Effect s client ask out) → Effect s client ask (unless_refused s out o)
by_refusal s client ask out (Some r) e k = refused s client ask out r
by_refusal s client ask out None e k = k (none_holds (tests_of s client ask) e)

ticket_put_effect : (s : Service) (client : List ℕ) (ticket : ℕ) (area : Volume4D) (base : List ℕ) → NoneHolds (tests_of s client (TicketPut ticket area base)) → Effect s client (TicketPut ticket area base) (after_ticket_put s client ticket area base)
ticket_put_effect s client ticket area base all =
    makes_ticket (record {
      ticket = ticket;
      area = area;
      base = base;
      is = refl;
      absent = none_is (ticket_of ticket s) all.1.0;
      not_retired = all.1.1.0;
      room = not_le 8192 (length s.tickets) all.1.1.1.0;
      out_is = refl;
    })

pub effect : (s : Service) (client : List ℕ) (ask : DssAsk) → Effect s client ask (service_step s client ask)
effect s client (Query area) = stays (record { same = refl; reply = tt })
effect s client (Get flight) = by_refusal s client (Get flight) (accepted s client (Get flight)) (refusal_of s client (Get flight)) refl (λ _. get_effect s client flight (recorded_of flight s))
effect s client (Put flight ovn extents key state base ticket) = put_effect s client flight ovn extents key state base ticket (refusal_of s client (Put flight ovn extents key state base ticket)) refl
effect s client (Remove flight ovn) =
    by_refusal s client (Remove flight ovn) (accepted s client (Remove flight ovn)) (refusal_of s client (Remove flight ovn)) refl (λ all. remove_effect s client flight ovn (recorded_of flight s) refl all.0 all.1.1.1.0)
effect s client (TicketPut ticket area base) =
    by_refusal s client (TicketPut ticket area base) (after_ticket_put s client ticket area base) (refusal_of s client (TicketPut ticket area base)) refl (λ all. ticket_put_effect s client ticket area base all)
effect s client (TicketGet ticket) =
    by_refusal s client (TicketGet ticket) (accepted s client (TicketGet ticket)) (refusal_of s client (TicketGet ticket)) refl (λ _. ticket_get_effect s client ticket (ticket_of ticket s))
effect s client (TicketRemove ticket version) =
    by_refusal s client (TicketRemove ticket version) (accepted s client (TicketRemove ticket version)) (refusal_of s client (TicketRemove ticket version)) refl
    (λ all. ticket_remove_effect s client ticket version (ticket_of ticket s) refl all.0 all.1.1.1.0 all.1.1.1.1.0)
