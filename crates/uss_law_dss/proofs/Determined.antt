-- The words of a call that is carried out leave one reply and one state.
use Rattle.std.proofs.Common.{ℕ, ◌+◌, ◌≡◌, ◌≢◌, ◌⊎◌, inl, inr, Any, List, [], ◌∷◌, ◌++◌, Option, Some, None, unwrap_or, refl, ap, sym, subst, ◌∙◌, arith, ℤ}
use Rattle.std.specs.Prelude.{◌≤ℤ◌}
use Rattle.std.proofs.lemmas.Int.{ints}
use Rattle.uss_shape.specs.Shape.{IsLeast, IsGreatest}
use Rattle.uss_vol4.specs.Volume.{Volume4D}
use Rattle.uss_intent.specs.declared.records.Reference.{Reference}
use Rattle.uss_intent.specs.declared.records.Recorded.{Recorded}
use Rattle.uss_intent.specs.declared.records.Landing.{Landing}
use Rattle.uss_intent.specs.declared.records.Ticket.{Ticket}
use Rattle.uss_intent.specs.declared.records.Subscriber.{Subscriber}
use Rattle.uss_intent.specs.declared.records.State.{State}
use Rattle.uss_intent.specs.declared.calls.DssAsk.{DssAsk}
use Rattle.uss_intent.specs.declared.calls.DssAsk.TheVariants.{Query, Get, Put, Remove, TicketPut, TicketGet, TicketRemove}
use Rattle.uss_intent.specs.declared.calls.DssReply.{DssReply}
use Rattle.uss_intent.specs.declared.calls.DssReply.TheVariants.{Found, Got, Landed, Removed, TicketMade, TicketGot, TicketRemoved}
use Rattle.uss_intent.specs.Tags.{tag_of}
use Rattle.uss_law_dss.specs.Lists.{Has}
use Rattle.uss_law_dss.specs.Service.{Service, shown_to}
use Rattle.uss_law_dss.specs.Orderly.{Ascend, IsOrderly, flight_recorded, id_of}
use Rattle.uss_law_dss.specs.Notified.{IsNotifiedOfPut, IsNotifiedOfRemove, ticket_named, Becomes, InPlace, Notifies}
use Rattle.uss_law_dss.specs.Carried.{flight_shown, Lists, Gets, Records, Retires, Makes, TakesOut, CarriedOut}
use Rattle.uss_law_dss.proofs.Tests.{some_same}
use Rattle.uss_law_dss.proofs.Placed.{above_has}
use Rattle.uss_law_dss.proofs.Founds.{recorded_is, ticket_is}
use Rattle.uss_law_dss.proofs.EachCarried.{is_shown}

-- ---- values with the same parts

service_of : (r r' : List Recorded) (t t' : List Ticket) (f f' g g' : List ℕ) (l l' : List Landing) → r ≡ r' → t ≡ t' → f ≡ f' → g ≡ g' → l ≡ l'
    → ◌≡◌ {A = Service} (record { references = r; tickets = t; retired_flights = f; retired_tickets = g; landings = l }) (record { references = r'; tickets = t'; retired_flights = f'; retired_tickets = g'; landings = l' })
service_of r r' t t' f f' g g' l l' e1 e2 e3 e4 e5 = cc

service_same : (s w : Service) → s.references ≡ w.references → s.tickets ≡ w.tickets → s.retired_flights ≡ w.retired_flights → s.retired_tickets ≡ w.retired_tickets → s.landings ≡ w.landings → s ≡ w
service_same s w e1 e2 e3 e4 e5 =
    service_of s.references w.references s.tickets w.tickets s.retired_flights w.retired_flights s.retired_tickets w.retired_tickets s.landings w.landings e1 e2 e3 e4 e5

out_same : (a b : DssReply × Service) → a.0 ≡ b.0 → a.1 ≡ b.1 → a ≡ b
out_same a b e f = pair_of a.0 b.0 a.1 b.1 e f
  where
    pair_of : (x y : DssReply) (s w : Service) → x ≡ y → s ≡ w → ◌≡◌ {A = DssReply × Service} (x, s) (y, w)
    pair_of x y s w e f = cc

reference_of : (f f' : ℕ) (m m' : List ℕ) (v v' : ℕ) (a a' : State) (o o' : Option (List ℕ)) (b b' e e' : ℤ) (u u' : List ℕ) (t t' : ℕ) → f ≡ f' → m ≡ m' → v ≡ v' → a ≡ a' → o ≡ o' → b ≡ b' → e ≡ e' → u ≡ u' → t ≡ t'
    → ◌≡◌ {A = Reference} (record { flight = f; manager = m; version = v; state = a; ovn = o; start = b; end = e; base = u; ticket = t }) (record { flight = f'; manager = m'; version = v'; state = a'; ovn = o'; start = b'; end = e'; base = u'; ticket = t' })
reference_of f f' m m' v v' a a' o o' b b' e e' u u' t t' e1 e2 e3 e4 e5 e6 e7 e8 e9 = cc

recorded_same : (r q : Recorded) → r.reference ≡ q.reference → r.extents ≡ q.extents → r ≡ q
recorded_same r q e f = parts r.reference q.reference r.extents q.extents e f
  where
    parts : (a b : Reference) (v w : List Volume4D) → a ≡ b → v ≡ w → ◌≡◌ {A = Recorded} (record { reference = a; extents = v }) (record { reference = b; extents = w })
    parts a b v w e f = cc

landing_same : (l k : Landing) → l.ovn ≡ k.ovn → l.manager ≡ k.manager → l.tag ≡ k.tag → l.flight ≡ k.flight → l.previous ≡ k.previous → l.ticket ≡ k.ticket → l ≡ k
landing_same l k e1 e2 e3 e4 e5 e6 = parts l.ovn k.ovn l.manager k.manager l.tag k.tag l.flight k.flight l.previous k.previous l.ticket k.ticket e1 e2 e3 e4 e5 e6
  where
    parts : (o o' m m' : List ℕ) (t t' f f' : ℕ) (p p' : Option (List ℕ)) (i i' : ℕ) → o ≡ o' → m ≡ m' → t ≡ t' → f ≡ f' → p ≡ p' → i ≡ i'
        → ◌≡◌ {A = Landing} (record { ovn = o; manager = m; tag = t; flight = f; previous = p; ticket = i }) (record { ovn = o'; manager = m'; tag = t'; flight = f'; previous = p'; ticket = i' })
    parts o o' m m' t t' f f' p p' i i' e1 e2 e3 e4 e5 e6 = cc

-- ---- lists with the same members

ascend_same : {X : Type 0} (number : X → ℕ) (xs ys : List X) → Ascend number xs → Ascend number ys → ((x : X) → Has xs x → Has ys x) → ((x : X) → Has ys x → Has xs x) → xs ≡ ys
ascend_same number [] [] a b m n = refl
ascend_same number [] (y ∷ ys) a b m n = absurd (n y (inl refl))
ascend_same number (x ∷ xs) [] a b m n = absurd (m x (inl refl))
ascend_same {X} number (x ∷ xs) (y ∷ ys) a b m n =
    let e : x ≡ y = heads (m x (inl refl)) (n y (inl refl)) in
    let l = ap number e in
    let t : xs ≡ ys = ascend_same number xs ys a.1 b.1
    (λ z h. behind y ys z (λ q. (let k = above_has number (number x) xs z a.0 h in let i = ap number q in omega arith)) (m z (inr h)))
    (λ z h. behind x xs z (λ q. (let k = above_has number (number y) ys z b.0 h in let i = ap number q in omega arith)) (n z (inr h))) in
    cc
  where
    heads : (y ≡ x) ⊎ Has ys x → (x ≡ y) ⊎ Has xs y → x ≡ y
    heads (inl p) q = sym p
    heads (inr p) (inl q) = q
    heads (inr p) (inr q) = absurd (let k = above_has number (number y) ys x b.0 p in let l = above_has number (number x) xs y a.0 q in omega arith)

    behind : (w : X) (ws : List X) (z : X) → (w ≡ z → ⊥) → (w ≡ z) ⊎ Has ws z → Has ws z
    behind w ws z d (inl q) = absurd (d q)
    behind w ws z d (inr h) = h

becomes_same : (IsNotified : Ticket → Type 0) (t u v : Ticket) → Becomes IsNotified t u → Becomes IsNotified t v → u ≡ v
becomes_same IsNotified t u v (inl p) (inl q) = p.1 ∙ sym q.1
becomes_same IsNotified t u v (inl p) (inr q) = absurd (q.0 p.0)
becomes_same IsNotified t u v (inr p) (inl q) = absurd (p.0 q.0)
becomes_same IsNotified t u v (inr p) (inr q) = p.1 ∙ sym q.1

in_place_same : (IsNotified : Ticket → Type 0) (ts us vs : List Ticket) → InPlace (Becomes IsNotified) ts us → InPlace (Becomes IsNotified) ts vs → us ≡ vs
in_place_same IsNotified [] [] [] p q = refl
in_place_same IsNotified [] [] (v ∷ vs) p q = absurd q
in_place_same IsNotified [] (u ∷ us) vs p q = absurd p
in_place_same IsNotified (t ∷ ts) [] vs p q = absurd p
in_place_same IsNotified (t ∷ ts) (u ∷ us) [] p q = absurd q
in_place_same IsNotified (t ∷ ts) (u ∷ us) (v ∷ vs) p q = let e = becomes_same IsNotified t u v p.0 q.0 in let f = in_place_same IsNotified ts us vs p.1 q.1 in cc

notified_same : (IsNotified : Ticket → Type 0) (ts us vs : List Ticket) (l m : List Subscriber) → Notifies IsNotified ts us l → Notifies IsNotified ts vs m → l ≡ m
notified_same IsNotified ts us vs l m a b = ascend_same ticket_named l m a.ascending b.ascending (λ u h. (b.those u).1 ((a.those u).0 h)) (λ u h. (a.those u).1 ((b.those u).0 h))

pub list_same : (s : Service) (client : List ℕ) (IsSuch : Recorded → Type 0) (l m : List Reference) → Lists s client IsSuch l → Lists s client IsSuch m → l ≡ m
list_same s client IsSuch l m a b = ascend_same flight_shown l m a.ascending b.ascending (λ u h. (b.those u).1 ((a.those u).0 h)) (λ u h. (a.those u).1 ((b.those u).0 h))

at_most : {A : Type 0} (f : A → ℤ) (xs : List A) (m n : ℤ) → IsLeast f xs m → IsLeast f xs n → m ≤ℤ n
at_most {A} f xs m n a b =
    let r : Any (λ x. f x ≡ n) xs = b.reached in
    let l : m ≤ℤ f r.1 = rw r.3 at (a.bound r.0 r.1 r.2) in
    subst (λ (z : ℤ). m ≤ℤ z) r.4 l

at_least : {A : Type 0} (f : A → ℤ) (xs : List A) (m n : ℤ) → IsGreatest f xs m → IsGreatest f xs n → n ≤ℤ m
at_least {A} f xs m n a b =
    let r : Any (λ x. f x ≡ n) xs = b.reached in
    let l : f r.1 ≤ℤ m = rw r.3 at (a.bound r.0 r.1 r.2) in
    subst (λ (z : ℤ). z ≤ℤ m) r.4 l

both_ways : (m n : ℤ) → m ≤ℤ n → n ≤ℤ m → m ≡ n
both_ways m n l k = omega (arith, ints)

least_same : {A : Type 0} (f : A → ℤ) (xs : List A) (m n : ℤ) → IsLeast f xs m → IsLeast f xs n → m ≡ n
least_same f xs m n a b = both_ways m n (at_most f xs m n a b) (at_most f xs n m b a)

greatest_same : {A : Type 0} (f : A → ℤ) (xs : List A) (m n : ℤ) → IsGreatest f xs m → IsGreatest f xs n → m ≡ n
greatest_same f xs m n a b = both_ways m n (at_least f xs n m b a) (at_least f xs m n a b)

-- ---- what is looked up

one_recorded : (s : Service) (flight : ℕ) (r q : Recorded) → IsOrderly s → Has s.references r → Has s.references q → r.reference.flight ≡ flight → q.reference.flight ≡ flight → r ≡ q
one_recorded s flight r q j h i e f = some_same r q (sym (recorded_is s flight r j h e) ∙ recorded_is s flight q j i f)

one_ticket : (s : Service) (id : ℕ) (t u : Ticket) → IsOrderly s → Has s.tickets t → Has s.tickets u → t.id ≡ id → u.id ≡ id → t ≡ u
one_ticket s id t u j h i e f = some_same t u (sym (ticket_is s id t j h e) ∙ ticket_is s id u j i f)

-- ---- each kind of call

module _ (s : Service) (client : List ℕ) (flight : ℕ) (ovn : Option (List ℕ)) (extents : List Volume4D) (state : State) (base : List ℕ) (ticket : ℕ) (j : IsOrderly s) (a b : DssReply × Service)
    (c : Records s client flight ovn extents state base ticket a) (d : Records s client flight ovn extents state base ticket b) (k : IsOrderly a.1) (l : IsOrderly b.1) where
  version_same : (o : Option (List ℕ)) → ovn ≡ o → c.new.reference.version ≡ d.new.reference.version
  version_same None e = (c.created e).0 ∙ sym (d.created e).0
  version_same (Some o) e =
      let p = c.changed o e in
      let q = d.changed o e in
      p.2 ∙ ap (λ (r : Recorded). r.reference.version + 1) (one_recorded s flight p.0 q.0 j p.1.there q.1.there p.1.flight_is q.1.flight_is) ∙ sym q.2

  new_reference : c.new.reference ≡ d.new.reference
  new_reference =
      let r = c.new.reference in
      let q = d.new.reference in
      reference_of r.flight q.flight r.manager q.manager r.version q.version r.state q.state r.ovn q.ovn r.start q.start r.end q.end r.base q.base r.ticket q.ticket
      (c.flight_is ∙ sym d.flight_is) (c.manager ∙ sym d.manager) (version_same ovn refl) (c.state_is ∙ sym d.state_is) (c.ovn_is ∙ sym d.ovn_is)
      (least_same (λ (v : Volume4D). v.start) extents r.start q.start c.start d.start) (greatest_same (λ (v : Volume4D). v.end) extents r.end q.end c.end d.end)
      (c.base_is ∙ sym d.base_is) (c.ticket_is ∙ sym d.ticket_is)

  new_same : c.new ≡ d.new
  new_same = recorded_same c.new d.new new_reference (c.extents_are ∙ sym d.extents_are)

  moved : (new other : Recorded) → new ≡ other → (r : Recorded) → (new ≡ r) ⊎ (Has s.references r × (r.reference.flight ≢ flight)) → (other ≡ r) ⊎ (Has s.references r × (r.reference.flight ≢ flight))
  moved new other e r (inl q) = inl (sym e ∙ q)
  moved new other e r (inr h) = inr h

  landing_is : c.landing ≡ d.landing
  landing_is =
      let p = c.as_landed in
      let q = d.as_landed in
      landing_same c.landing d.landing (some_same c.landing.ovn d.landing.ovn (sym p.ovn ∙ ap (λ (r : Reference). r.ovn) new_reference ∙ q.ovn)) (sym p.manager ∙ ap (λ (r : Reference). r.manager) new_reference ∙ q.manager)
      (p.tag ∙ ap (λ (r : Reference). unwrap_or (tag_of r.base) 0) new_reference ∙ sym q.tag) (sym p.flight ∙ ap (λ (r : Reference). r.flight) new_reference ∙ q.flight) (c.previous ∙ sym d.previous)
      (sym p.ticket ∙ ap (λ (r : Reference). r.ticket) new_reference ∙ q.ticket)

  pub put_same : a ≡ b
  put_same =
      let e = new_reference in
      let f = notified_same (IsNotifiedOfPut s client flight extents) s.tickets a.1.tickets b.1.tickets c.notified d.notified c.tickets d.tickets in
      let g : Landed c.new.reference c.notified ≡ Landed d.new.reference d.notified = cc in
      out_same a b (c.reply ∙ g ∙ sym d.reply)
      (service_same a.1 b.1
      (ascend_same flight_recorded a.1.references b.1.references k.references_ascend l.references_ascend
      (λ r h. (d.references r).1 (moved c.new d.new new_same r ((c.references r).0 h)))
      (λ r h. (c.references r).1 (moved d.new c.new (sym new_same) r ((d.references r).0 h))))
      (in_place_same (IsNotifiedOfPut s client flight extents) s.tickets a.1.tickets b.1.tickets c.tickets.tickets d.tickets.tickets)
      (c.retired_flights ∙ sym d.retired_flights) (c.retired_tickets ∙ sym d.retired_tickets)
      (c.landings ∙ ap (λ (m : Landing). s.landings ++ m ∷ []) landing_is ∙ sym d.landings))

remove_same : (s : Service) (client : List ℕ) (flight : ℕ) (ovn : List ℕ) (a b : DssReply × Service) → IsOrderly s → Retires s client flight ovn a → Retires s client flight ovn b → IsOrderly a.1 → IsOrderly b.1 → a ≡ b
remove_same s client flight ovn a b j c d k l =
    let e = one_recorded s flight c.recorded d.recorded j c.named.there d.named.there c.named.flight_is d.named.flight_is in
    let f = notified_same (IsNotifiedOfRemove s client flight) s.tickets a.1.tickets b.1.tickets c.notified d.notified c.tickets d.tickets in
    let h = ap (λ (r : Recorded). r.reference) e in
    let g : Removed c.recorded.reference c.notified ≡ Removed d.recorded.reference d.notified = cc in
    out_same a b (c.reply ∙ g ∙ sym d.reply)
    (service_same a.1 b.1
    (ascend_same flight_recorded a.1.references b.1.references k.references_ascend l.references_ascend (λ r h. (d.references r).1 ((c.references r).0 h)) (λ r h. (c.references r).1 ((d.references r).0 h)))
    (in_place_same (IsNotifiedOfRemove s client flight) s.tickets a.1.tickets b.1.tickets c.tickets.tickets d.tickets.tickets)
    (c.retired_flights ∙ sym d.retired_flights) (c.retired_tickets ∙ sym d.retired_tickets) (c.landings ∙ sym d.landings))

made_same : (s : Service) (client : List ℕ) (ticket : ℕ) (area : Volume4D) (base : List ℕ) (a b : DssReply × Service) → Makes s client ticket area base a → Makes s client ticket area base b → IsOrderly a.1 → IsOrderly b.1 → a ≡ b
made_same s client ticket area base a b c d k l =
    let e : c.made ≡ d.made = c.is ∙ sym d.is in
    out_same a b (c.reply ∙ ap TicketMade e ∙ sym d.reply)
    (c.rest ∙ ap (λ (ts : List Ticket). record s { tickets = ts }) (ascend_same id_of a.1.tickets b.1.tickets k.tickets_ascend l.tickets_ascend
    (λ t h. (d.tickets t).1 (moved c.made d.made e t ((c.tickets t).0 h)))
    (λ t h. (c.tickets t).1 (moved d.made c.made (sym e) t ((d.tickets t).0 h))))
    ∙ sym d.rest)
  where
    moved : (new other : Ticket) → new ≡ other → (t : Ticket) → (new ≡ t) ⊎ Has s.tickets t → (other ≡ t) ⊎ Has s.tickets t
    moved new other e t (inl q) = inl (sym e ∙ q)
    moved new other e t (inr h) = inr h

taken_same : (s : Service) (client : List ℕ) (ticket : ℕ) (a b : DssReply × Service) → IsOrderly s → TakesOut s client ticket a → TakesOut s client ticket b → IsOrderly a.1 → IsOrderly b.1 → a ≡ b
taken_same s client ticket a b j c d k l =
    let e = one_ticket s ticket c.gone d.gone j c.there d.there c.id_is d.id_is in
    let f = ascend_same id_of a.1.tickets b.1.tickets k.tickets_ascend l.tickets_ascend (λ t h. (d.tickets t).1 ((c.tickets t).0 h)) (λ t h. (c.tickets t).1 ((d.tickets t).0 h)) in
    let g : a.1.retired_tickets ≡ b.1.retired_tickets = c.retired_tickets ∙ sym d.retired_tickets in
    out_same a b (c.reply ∙ ap TicketRemoved e ∙ sym d.reply) (c.rest ∙ both f g ∙ sym d.rest)
  where
    both : {ts us : List Ticket} {ns ms : List ℕ} → ts ≡ us → ns ≡ ms → ◌≡◌ {A = Service} (record s { tickets = ts; retired_tickets = ns }) (record s { tickets = us; retired_tickets = ms })
    both f g = cc

got_same : (s : Service) (client : List ℕ) (flight : ℕ) (a b : DssReply × Service) → IsOrderly s → Gets s client flight a → Gets s client flight b → a ≡ b
got_same s client flight a b j c d =
    let e = one_recorded s flight c.recorded d.recorded j c.there d.there c.flight_is d.flight_is in
    let f : c.got ≡ d.got = sym (is_shown client c.recorded.reference c.got c.shown) ∙ ap (λ (r : Recorded). shown_to client r.reference) e ∙ is_shown client d.recorded.reference d.got d.shown in
    out_same a b (c.reply ∙ ap Got f ∙ sym d.reply) (c.same ∙ sym d.same)

pub done_same : (s : Service) (client : List ℕ) (ask : DssAsk) (a b : DssReply × Service) → IsOrderly s → CarriedOut s client ask a → CarriedOut s client ask b → IsOrderly a.1 → IsOrderly b.1 → a ≡ b
done_same s client (Query area) a b j c d k l = out_same a b (c.reply ∙ ap Found (list_same s client _ c.found d.found c.lists d.lists) ∙ sym d.reply) (c.same ∙ sym d.same)
done_same s client (Get flight) a b j c d k l = got_same s client flight a b j c d
done_same s client (Put flight ovn extents key state base ticket) a b j c d k l = put_same s client flight ovn extents state base ticket j a b c d k l
done_same s client (Remove flight ovn) a b j c d k l = remove_same s client flight ovn a b j c d k l
done_same s client (TicketPut ticket area base) a b j c d k l = made_same s client ticket area base a b c d k l
done_same s client (TicketGet ticket) a b j c d k l = out_same a b (c.reply ∙ ap TicketGot (one_ticket s ticket c.got d.got j c.there d.there c.id_is d.id_is) ∙ sym d.reply) (c.same ∙ sym d.same)
done_same s client (TicketRemove ticket version) a b j c d k l = taken_same s client ticket a b j c d k l
