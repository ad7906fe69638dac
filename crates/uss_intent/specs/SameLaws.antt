-- What `==` answers decides whether two values are the same.
use Rattle.std.proofs.Common.{◌≡◌, ℕ, Bool, true, ◌&&◌, ◌==◌, List, Option, Some, None, refl, sym, ap, ◌∙◌, subst, if◌then◌else◌}
use Rattle.std.specs.Bool.{Decides, one_answer}
use Rattle.std.specs.Cmp.{IsEquivalence, unsigned_Decides, signed_Decides}
use Rattle.std.specs.Cmp.Lexicographic.{pointwise, pointwise_decides, bytes_decides}
use Rattle.std.specs.Option.{option_eq}
use Rattle.std.specs.Ordering.{int_eq}
use Rattle.std.proofs.lemmas.Bool.{and_parts}
use Rattle.uss_shape.specs.declared.Place.{Place}
use Rattle.uss_shape.specs.Same.{same_place, same_vertices}
use Rattle.uss_vol4.specs.Volume.{Volume4D}
use Rattle.uss_vol4.specs.Same.{same_volume}
use Rattle.uss_intent.specs.declared.records.State.{State}
use Rattle.uss_intent.specs.declared.records.State.TheVariants.{Accepted, Activated, Nonconforming, Contingent}
use Rattle.uss_intent.specs.declared.records.Reference.{Reference}
use Rattle.uss_intent.specs.declared.records.Ticket.{Ticket}
use Rattle.uss_intent.specs.declared.records.Recorded.{Recorded}
use Rattle.uss_intent.specs.declared.calls.DssAsk.{DssAsk}
use Rattle.uss_intent.specs.declared.calls.DssAsk.TheVariants.{Query, Get, Put, Remove, TicketPut, TicketGet, TicketRemove}
use Rattle.uss_intent.specs.States.{same_state, state_number}
use Rattle.uss_intent.specs.Same.{same_text, same_reference, same_recorded, same_ticket, same_ask}

-- a test that decides whether two values are the same is an equivalence
equiv_from_decides : {K : Type 0} (E : K → K → Bool) → ((x y : K) → Decides (E x y) (x ≡ y)) → IsEquivalence E
equiv_from_decides E decides =
    record {
      refl = λ x. (decides x x).1 refl;
      symm = λ x y. one_answer (E x y) (E y x) (decides x y) ((λ h. sym ((decides y x).0 h)), (λ e. (decides y x).1 (sym e)));
      congr = λ x y z h. ap (λ w. E w z) ((decides x y).0 h);
    }

both : (a b : Bool) → a ≡ true → b ≡ true → (a && b) ≡ true
both a b h k = rw (h, k) refl

pub text_is_same : (a b : List ℕ) → Decides (same_text a b) (a ≡ b)
text_is_same a b = bytes_decides a b

pub option_is_same : {K : Type 0} (E : K → K → Bool) → ((x y : K) → Decides (E x y) (x ≡ y)) → (a b : Option K) → Decides (option_eq E a b) (a ≡ b)
option_is_same E decides None None = (λ h. refl, λ e. refl)
option_is_same E decides None (Some y) = (λ h. cc, λ e. cc)
option_is_same E decides (Some x) None = (λ h. cc, λ e. cc)
option_is_same E decides (Some x) (Some y) = (λ h. ap Some ((decides x y).0 h), λ e. (decides x y).1 (cc))

place_is_same : (a b : Place) → Decides (same_place a b) (a ≡ b)
place_is_same a b = (
  (λ h. let p = and_parts (int_eq a.x b.x) (int_eq a.y b.y) h in
      let x = (signed_Decides a.x b.x).0 p.0 in let y = (signed_Decides a.y b.y).0 p.1 in
      λ i. record { x = x i; y = y i }),
  (λ e. both (int_eq a.x b.x) (int_eq a.y b.y) ((signed_Decides a.x b.x).1 (ap (λ (p : Place). p.x) e)) ((signed_Decides a.y b.y).1 (ap (λ (p : Place). p.y) e))),
)

vertices_are_same : (a b : List Place) → Decides (same_vertices a b) (a ≡ b)
vertices_are_same a b = pointwise_decides {E = same_place} place_is_same a b

volume_parts : (a b : Volume4D) → same_volume a b ≡ true → a ≡ b
volume_parts a b h =
    let p = and_parts (same_vertices a.outline b.outline) (int_eq a.low b.low && (int_eq a.high b.high && (int_eq a.start b.start && int_eq a.end b.end))) h in
    let q = and_parts (int_eq a.low b.low) (int_eq a.high b.high && (int_eq a.start b.start && int_eq a.end b.end)) p.1 in
    let r = and_parts (int_eq a.high b.high) (int_eq a.start b.start && int_eq a.end b.end) q.1 in
    let s = and_parts (int_eq a.start b.start) (int_eq a.end b.end) r.1 in
    let outline = (vertices_are_same a.outline b.outline).0 p.0 in
    let low = (signed_Decides a.low b.low).0 q.0 in
    let high = (signed_Decides a.high b.high).0 r.0 in
    let start = (signed_Decides a.start b.start).0 s.0 in
    let end = (signed_Decides a.end b.end).0 s.1 in
    λ i. record { outline = outline i; low = low i; high = high i; start = start i; end = end i }

volume_itself : (a : Volume4D) → same_volume a a ≡ true
volume_itself a =
    both (same_vertices a.outline a.outline) _ ((vertices_are_same a.outline a.outline).1 refl)
    (both (int_eq a.low a.low) _ ((signed_Decides a.low a.low).1 refl)
    (both (int_eq a.high a.high) _ ((signed_Decides a.high a.high).1 refl)
    (both (int_eq a.start a.start) (int_eq a.end a.end) ((signed_Decides a.start a.start).1 refl) ((signed_Decides a.end a.end).1 refl))))

pub volume_is_same : (a b : Volume4D) → Decides (same_volume a b) (a ≡ b)
volume_is_same a b = (volume_parts a b, λ e. subst (λ (v : Volume4D). same_volume a v ≡ true) e (volume_itself a))

-- the state with a number
with_number : ℕ → State
with_number n = if n == 1 then Accepted else if n == 2 then Activated else if n == 3 then Nonconforming else Contingent

number_back : (a : State) → with_number (state_number a) ≡ a
unfolding with_number
number_back Accepted = refl
number_back Activated = refl
number_back Nonconforming = refl
number_back Contingent = refl

pub state_is_same : (a b : State) → Decides (same_state a b) (a ≡ b)
state_is_same a b = (
  (λ h. sym (number_back a) ∙ ap with_number ((unsigned_Decides (state_number a) (state_number b)).0 h) ∙ number_back b),
  (λ e. (unsigned_Decides (state_number a) (state_number b)).1 (ap state_number e)),
)

pub texts_are_same : (a b : List (List ℕ)) → Decides (pointwise same_text a b) (a ≡ b)
texts_are_same a b = pointwise_decides {E = same_text} text_is_same a b

pub volumes_are_same : (a b : List Volume4D) → Decides (pointwise same_volume a b) (a ≡ b)
volumes_are_same a b = pointwise_decides {E = same_volume} volume_is_same a b

same_number : (a b : ℕ) → (a == b) ≡ true → a ≡ b
same_number a b h = (unsigned_Decides a b).0 h

number_itself : (a : ℕ) → (a == a) ≡ true
number_itself a = (unsigned_Decides a a).1 refl

reference_itself : (a : Reference) → same_reference a a ≡ true
reference_itself a =
    both (a.flight == a.flight) _ (number_itself a.flight)
    (both (same_text a.manager a.manager) _ ((text_is_same a.manager a.manager).1 refl)
    (both (a.version == a.version) _ (number_itself a.version)
    (both (same_state a.state a.state) _ ((state_is_same a.state a.state).1 refl)
    (both (option_eq same_text a.ovn a.ovn) _ ((option_is_same same_text text_is_same a.ovn a.ovn).1 refl)
    (both (int_eq a.start a.start) _ ((signed_Decides a.start a.start).1 refl)
    (both (int_eq a.end a.end) _ ((signed_Decides a.end a.end).1 refl)
    (both (same_text a.base a.base) (a.ticket == a.ticket) ((text_is_same a.base a.base).1 refl) (number_itself a.ticket))))))))

reference_parts : (a b : Reference) → same_reference a b ≡ true → a ≡ b
reference_parts a b h =
    let p1 = and_parts (a.flight == b.flight) _ h in
    let p2 = and_parts (same_text a.manager b.manager) _ p1.1 in
    let p3 = and_parts (a.version == b.version) _ p2.1 in
    let p4 = and_parts (same_state a.state b.state) _ p3.1 in
    let p5 = and_parts (option_eq same_text a.ovn b.ovn) _ p4.1 in
    let p6 = and_parts (int_eq a.start b.start) _ p5.1 in
    let p7 = and_parts (int_eq a.end b.end) _ p6.1 in
    let p8 = and_parts (same_text a.base b.base) (a.ticket == b.ticket) p7.1 in
    let flight = same_number a.flight b.flight p1.0 in
    let manager = (text_is_same a.manager b.manager).0 p2.0 in
    let version = same_number a.version b.version p3.0 in
    let state = (state_is_same a.state b.state).0 p4.0 in
    let ovn = (option_is_same same_text text_is_same a.ovn b.ovn).0 p5.0 in
    let start = (signed_Decides a.start b.start).0 p6.0 in
    let end = (signed_Decides a.end b.end).0 p7.0 in
    let base = (text_is_same a.base b.base).0 p8.0 in
    let ticket = same_number a.ticket b.ticket p8.1 in
    λ i. record { flight = flight i; manager = manager i; version = version i; state = state i; ovn = ovn i; start = start i; end = end i; base = base i; ticket = ticket i }

pub reference_is_same : (a b : Reference) → Decides (same_reference a b) (a ≡ b)
reference_is_same a b = (reference_parts a b, λ e. subst (λ (x : Reference). same_reference a x ≡ true) e (reference_itself a))

pub references_are_same : (a b : List Reference) → Decides (pointwise same_reference a b) (a ≡ b)
references_are_same a b = pointwise_decides {E = same_reference} reference_is_same a b

recorded_parts : (a b : Recorded) → same_recorded a b ≡ true → a ≡ b
recorded_parts a b h =
    let p = and_parts (same_reference a.reference b.reference) (pointwise same_volume a.extents b.extents) h in
    let reference = (reference_is_same a.reference b.reference).0 p.0 in
    let extents = (volumes_are_same a.extents b.extents).0 p.1 in
    λ i. record { reference = reference i; extents = extents i }

recorded_itself : (a : Recorded) → same_recorded a a ≡ true
recorded_itself a =
    both (same_reference a.reference a.reference) (pointwise same_volume a.extents a.extents) (reference_itself a.reference) ((volumes_are_same a.extents a.extents).1 refl)

pub recorded_is_same : (a b : Recorded) → Decides (same_recorded a b) (a ≡ b)
recorded_is_same a b = (recorded_parts a b, λ e. subst (λ (x : Recorded). same_recorded a x ≡ true) e (recorded_itself a))

ticket_itself : (a : Ticket) → same_ticket a a ≡ true
ticket_itself a =
    both (a.id == a.id) _ (number_itself a.id)
    (both (same_text a.manager a.manager) _ ((text_is_same a.manager a.manager).1 refl)
    (both (same_volume a.area a.area) _ (volume_itself a.area)
    (both (same_text a.base a.base) (a.index == a.index) ((text_is_same a.base a.base).1 refl) (number_itself a.index))))

ticket_parts : (a b : Ticket) → same_ticket a b ≡ true → a ≡ b
ticket_parts a b h =
    let p1 = and_parts (a.id == b.id) _ h in
    let p2 = and_parts (same_text a.manager b.manager) _ p1.1 in
    let p3 = and_parts (same_volume a.area b.area) _ p2.1 in
    let p4 = and_parts (same_text a.base b.base) (a.index == b.index) p3.1 in
    let id = same_number a.id b.id p1.0 in
    let manager = (text_is_same a.manager b.manager).0 p2.0 in
    let area = (volume_is_same a.area b.area).0 p3.0 in
    let base = (text_is_same a.base b.base).0 p4.0 in
    let index = same_number a.index b.index p4.1 in
    λ i. record { id = id i; manager = manager i; area = area i; base = base i; index = index i }

pub ticket_is_same : (a b : Ticket) → Decides (same_ticket a b) (a ≡ b)
ticket_is_same a b = (ticket_parts a b, λ e. subst (λ (x : Ticket). same_ticket a x ≡ true) e (ticket_itself a))

ask_itself : (a : DssAsk) → same_ask a a ≡ true
ask_itself (Query a) = volume_itself a
ask_itself (Get f) = number_itself f
ask_itself (Put f o e k s b t) =
    both (f == f) _ (number_itself f)
    (both (option_eq same_text o o) _ ((option_is_same same_text text_is_same o o).1 refl)
    (both (pointwise same_volume e e) _ ((volumes_are_same e e).1 refl)
    (both (pointwise same_text k k) _ ((texts_are_same k k).1 refl)
    (both (same_state s s) _ ((state_is_same s s).1 refl)
    (both (same_text b b) (t == t) ((text_is_same b b).1 refl) (number_itself t))))))
ask_itself (Remove f o) = both (f == f) (same_text o o) (number_itself f) ((text_is_same o o).1 refl)
ask_itself (TicketPut t a b) =
    both (t == t) _ (number_itself t) (both (same_volume a a) (same_text b b) (volume_itself a) ((text_is_same b b).1 refl))
ask_itself (TicketGet t) = number_itself t
ask_itself (TicketRemove t v) = both (t == t) (v == v) (number_itself t) (number_itself v)

put_parts : (f f' : ℕ) (o o' : Option (List ℕ)) (e e' : List Volume4D) (k k' : List (List ℕ)) (s s' : State) (b b' : List ℕ) (t t' : ℕ)
    → same_ask (Put f o e k s b t) (Put f' o' e' k' s' b' t') ≡ true → Put f o e k s b t ≡ Put f' o' e' k' s' b' t'
put_parts f f' o o' e e' k k' s s' b b' t t' h =
    let p1 = and_parts (f == f') _ h in
    let p2 = and_parts (option_eq same_text o o') _ p1.1 in
    let p3 = and_parts (pointwise same_volume e e') _ p2.1 in
    let p4 = and_parts (pointwise same_text k k') _ p3.1 in
    let p5 = and_parts (same_state s s') _ p4.1 in
    let p6 = and_parts (same_text b b') (t == t') p5.1 in
    let flight = same_number f f' p1.0 in
    let ovn = (option_is_same same_text text_is_same o o').0 p2.0 in
    let extents = (volumes_are_same e e').0 p3.0 in
    let key = (texts_are_same k k').0 p4.0 in
    let state = (state_is_same s s').0 p5.0 in
    let base = (text_is_same b b').0 p6.0 in
    let ticket = same_number t t' p6.1 in
    λ i. Put (flight i) (ovn i) (extents i) (key i) (state i) (base i) (ticket i)

ask_parts : (a b : DssAsk) → same_ask a b ≡ true → a ≡ b
ask_parts (Query a) (Query b) h = ap Query ((volume_is_same a b).0 h)
ask_parts (Get f) (Get g) h = ap Get (same_number f g h)
ask_parts (Put f o e k s b t) (Put f' o' e' k' s' b' t') h = put_parts f f' o o' e e' k k' s s' b b' t t' h
ask_parts (Remove f o) (Remove f' o') h =
    let p = and_parts (f == f') (same_text o o') h in
    let flight = same_number f f' p.0 in
    let ovn = (text_is_same o o').0 p.1 in
    λ i. Remove (flight i) (ovn i)
ask_parts (TicketPut t a b) (TicketPut t' a' b') h =
    let p = and_parts (t == t') (same_volume a a' && same_text b b') h in
    let q = and_parts (same_volume a a') (same_text b b') p.1 in
    let ticket = same_number t t' p.0 in
    let area = (volume_is_same a a').0 q.0 in
    let base = (text_is_same b b').0 q.1 in
    λ i. TicketPut (ticket i) (area i) (base i)
ask_parts (TicketGet t) (TicketGet t') h = ap TicketGet (same_number t t' h)
ask_parts (TicketRemove t v) (TicketRemove t' v') h =
    let p = and_parts (t == t') (v == v') h in
    let ticket = same_number t t' p.0 in
    let version = same_number v v' p.1 in
    λ i. TicketRemove (ticket i) (version i)
ask_parts _ _ h = cc

pub ask_is_same : (a b : DssAsk) → Decides (same_ask a b) (a ≡ b)
ask_is_same a b = (ask_parts a b, λ e. subst (λ (x : DssAsk). same_ask a x ≡ true) e (ask_itself a))

pub same_ask_equiv : IsEquivalence same_ask
same_ask_equiv = equiv_from_decides same_ask ask_is_same
