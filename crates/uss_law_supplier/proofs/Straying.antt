-- What the monitor's findings come to.
use Rattle.std.proofs.Common.{arith, ℕ, ◌==◌, ℤ, Bool, true, false, cond, List, [], ◌∷◌, ◌++◌, ◌≡◌, ◌⊎◌, inl, inr, fold, filter, map, refl, ap, sym, subst, ◌∙◌, Option, Some, None, is_some, ◌||◌}
use Rattle.std.specs.Prelude.{◌+ℤ◌, ◌-ℤ◌, ◌≤ℤ◌, int_lt, int_le, unwrap_or, ◌↔◌}
use Rattle.std.proofs.lemmas.Int.{ints}
use Rattle.std.proofs.lemmas.List.{append-nil, map-append}
use Rattle.std.proofs.lemmas.List.Elements.{filter-append}
use Rattle.uss_event.specs.Pairs.{OperationalIntent}
use Rattle.uss_event.specs.declared.asks.Conform.TheVariants as Finds
use Rattle.uss_event.specs.declared.asks.PositionAsk.{PositionAsk}
use Rattle.uss_event.specs.declared.events.Event.{Event}
use Rattle.uss_event.specs.declared.events.Event.TheVariants as Comes
use Rattle.uss_event.specs.declared.entries.Opening.{Opening}
use Rattle.uss_law_book.specs.Contents.{open_job_of}
use Rattle.uss_law_book.specs.Attempts.{held}
use Rattle.uss_law_dss.proofs.Tests.{same_number}
use Rattle.uss_law_duty.specs.Duties.{clamped}
use Rattle.uss_law_supplier.specs.Values.{Values, Counted, sightings_of}
use Rattle.uss_law_supplier.specs.Turns.{Standing}
use Rattle.uss_law_supplier.specs.Monitor.{Sighting, Watch, no_watch, patience, outside, inside, seen, watched, finding, unless_outside, is_later_than, later_position}
use Rattle.uss_law_supplier.specs.Positions.{is_refused, sighting_of, is_numbered, positioned_for, positioned_with, judged_unless}
use Rattle.uss_law_supplier.specs.Step.{stepped}
use Rattle.uss_law_supplier.specs.Straying.{NoneBefore, AreInOrder, StaysOutside, IsLost, LostIsContingent, by_last, OthersAreWhereLastSeen, IsInOrder, PositionsStayInOrder}
use Rattle.uss_law_supplier.specs.Keeping.{counted_position, counted_by}
use Rattle.uss_law_supplier.proofs.Watching.{found_after}
use Rattle.uss_law_supplier.proofs.Keeping as Keeping

-- what is still to come, from what is known
abbrev StaysSince : Option ℤ → List Sighting → Type 0
StaysSince None ss = ⊥
StaysSince (Some since) ss = StaysOutside since ss

abbrev GetsLost : Watch → List Sighting → Type 0
GetsLost w ss = (w.contingent ≡ true) ⊎ (StaysSince w.outside_since ss ⊎ IsLost ss)

abbrev NoneSince : Option ℤ → List Sighting → Type 0
NoneSince None ss = Unit {0}
NoneSince (Some since) ss = NoneBefore since ss

le_trans : (a b c : ℤ) → a ≤ℤ b → b ≤ℤ c → a ≤ℤ c
le_trans a b c h k = grind (arith, ints)

earlier_long : (a b c : ℤ) → a ≤ℤ b → (b +ℤ patience) ≤ℤ c → (a +ℤ patience) ≤ℤ c
earlier_long a b c h k = grind (arith, ints)

-- outside from earlier on
stays_earlier : (a b : ℤ) (ss : List Sighting) → a ≤ℤ b → StaysOutside b ss → StaysOutside a ss
stays_earlier a b [] h n = absurd n
stays_earlier a b (s ∷ ss) h (i, inl l) = (i, inl (earlier_long a b s.moment h l))
stays_earlier a b (s ∷ ss) h (i, inr k) = (i, inr (stays_earlier a b ss h k))

long_test : (since moment : ℤ) → int_le patience (moment -ℤ since) ≡ true → (since +ℤ patience) ≤ℤ moment
long_test since moment h = grind (arith, ints)

test_long : (since moment : ℤ) → (since +ℤ patience) ≤ℤ moment → int_le patience (moment -ℤ since) ≡ true
test_long since moment h = grind (arith, ints)

never_long : (moment : ℤ) → (moment +ℤ patience) ≤ℤ moment → ⊥
never_long moment h = grind (arith, ints)

contingent_is : (w : Watch) → finding w ≡ Finds.Contingent → w.contingent ≡ true
contingent_is w h = go w.contingent w.outside_since h
  where
    go : (b : Bool) (x : Option ℤ) → cond b Finds.Contingent (unless_outside x) ≡ Finds.Contingent → b ≡ true
    go true x k = refl
    go false None k = cc
    go false (Some since) k = cc

is_contingent : (w : Watch) → w.contingent ≡ true → finding w ≡ Finds.Contingent
is_contingent w h = rw h refl

abbrev after_one : Watch → Sighting → Bool → Bool → Watch
after_one w s c i = cond c (record w { last = Some s.moment }) (cond i (inside s.moment) (outside w s.moment))

both_ways : {A B : Type 0} → (A → B) → (B → A) → A ↔ B
both_ways f g = (f, g)

since_rest : (x : Option ℤ) (s : Sighting) (ss : List Sighting) → NoneSince x (s ∷ ss) → NoneSince x ss
since_rest None s ss n = tt
since_rest (Some since) s ss n = n.1

none_stays : (x : Option ℤ) → StaysSince x [] → ⊥
none_stays None k = k
none_stays (Some since) k = k

inside_stays : (x : Option ℤ) (s : Sighting) (ss : List Sighting) → s.inside ≡ true → StaysSince x (s ∷ ss) → ⊥
inside_stays None s ss i k = k
inside_stays (Some since) s ss i k = (let f : true ≡ false = sym i ∙ k.0 in cc)

-- what the flight's being outside makes of what was known
abbrev out_since : Option ℤ → ℤ → Watch
out_since x moment =
    record { last = Some moment; outside_since = Some (unwrap_or x moment); contingent = int_le patience (moment -ℤ unwrap_or x moment) }

abbrev Lost : List Sighting → Watch → Type 0
Lost ss v = finding (fold seen v ss) ≡ Finds.Contingent

abbrev Rest : List Sighting → Type 0
Rest ss = (v : Watch) → NoneSince v.outside_since ss → (Lost ss v ↔ GetsLost v ss)

abbrev LostSince : Watch → Sighting → List Sighting → Option ℤ → Type 0
LostSince w s ss x = (w.contingent ≡ true) ⊎ (StaysSince x (s ∷ ss) ⊎ IsLost (s ∷ ss))

gets_lost : (w : Watch) (ss : List Sighting) → NoneSince w.outside_since ss → AreInOrder ss → (finding (fold seen w ss) ≡ Finds.Contingent ↔ GetsLost w ss)
gets_lost w [] n o = both_ways (λ h. inl (contingent_is w h)) back
  where
    back : GetsLost w [] → finding w ≡ Finds.Contingent
    back (inl c) = is_contingent w c
    back (inr (inl k)) = absurd (none_stays w.outside_since k)
    back (inr (inr k)) = absurd k
gets_lost w (s ∷ ss) n o = go w.contingent s.inside refl refl (λ v k. gets_lost v ss k o.1)
  where
    at_once : w.contingent ≡ true → (v : Watch) → v.contingent ≡ w.contingent → v.outside_since ≡ w.outside_since → Rest ss → (Lost ss v ↔ GetsLost w (s ∷ ss))
    at_once e v c q ih =
        both_ways (λ h. inl e) (λ h. (ih v (subst (λ x. NoneSince x ss) (sym q) (since_rest w.outside_since s ss n))).1 (inl (c ∙ e)))

    seen_inside : w.contingent ≡ false → s.inside ≡ true → Rest ss → (Lost ss (inside s.moment) ↔ GetsLost w (s ∷ ss))
    seen_inside e i ih = both_ways (λ h. forth ((ih (inside s.moment) tt).0 h)) back
      where
        forth : GetsLost (inside s.moment) ss → GetsLost w (s ∷ ss)
        forth (inl c) = cc
        forth (inr (inl k)) = absurd k
        forth (inr (inr l)) = inr (inr (inr l))

        back : GetsLost w (s ∷ ss) → Lost ss (inside s.moment)
        back (inl c) = (let f : true ≡ false = sym c ∙ e in cc)
        back (inr (inl k)) = absurd (inside_stays w.outside_since s ss i k)
        back (inr (inr (inl k))) = (let f : true ≡ false = sym i ∙ k.0 in cc)
        back (inr (inr (inr l))) = (ih (inside s.moment) tt).1 (inr (inr l))

    seen_outside : (x : Option ℤ) → NoneSince x (s ∷ ss) → w.contingent ≡ false → s.inside ≡ false → Rest ss → (Lost ss (out_since x s.moment) ↔ LostSince w s ss x)
    seen_outside None m e i ih = both_ways (λ h. forth ((ih (out_since None s.moment) o.0).0 h)) back
      where
        forth : GetsLost (out_since None s.moment) ss → LostSince w s ss None
        forth (inl c) = absurd (never_long s.moment (long_test s.moment s.moment c))
        forth (inr (inl k)) = inr (inr (inl (i, inr k)))
        forth (inr (inr l)) = inr (inr (inr l))

        back : LostSince w s ss None → Lost ss (out_since None s.moment)
        back (inl c) = (let f : true ≡ false = sym c ∙ e in cc)
        back (inr (inl k)) = absurd k
        back (inr (inr (inl (j, inl l)))) = absurd (never_long s.moment l)
        back (inr (inr (inl (j, inr k)))) = (ih (out_since None s.moment) o.0).1 (inr (inl k))
        back (inr (inr (inr l))) = (ih (out_since None s.moment) o.0).1 (inr (inr l))
    seen_outside (Some since) m e i ih = both_ways (λ h. forth ((ih (out_since (Some since) s.moment) m.1).0 h)) back
      where
        forth : GetsLost (out_since (Some since) s.moment) ss → LostSince w s ss (Some since)
        forth (inl c) = inr (inl (i, inl (long_test since s.moment c)))
        forth (inr (inl k)) = inr (inl (i, inr k))
        forth (inr (inr l)) = inr (inr (inr l))

        back : LostSince w s ss (Some since) → Lost ss (out_since (Some since) s.moment)
        back (inl c) = (let f : true ≡ false = sym c ∙ e in cc)
        back (inr (inl (j, inl l))) = (ih (out_since (Some since) s.moment) m.1).1 (inl (test_long since s.moment l))
        back (inr (inl (j, inr k))) = (ih (out_since (Some since) s.moment) m.1).1 (inr (inl k))
        back (inr (inr (inl (j, inl l)))) = absurd (never_long s.moment l)
        back (inr (inr (inl (j, inr k)))) = (ih (out_since (Some since) s.moment) m.1).1 (inr (inl (stays_earlier since s.moment ss m.0 k)))
        back (inr (inr (inr l))) = (ih (out_since (Some since) s.moment) m.1).1 (inr (inr l))

    go : (c i : Bool) → w.contingent ≡ c → s.inside ≡ i → Rest ss → (Lost ss (after_one w s c i) ↔ GetsLost w (s ∷ ss))
    go true i e f ih = at_once e (record w { last = Some s.moment }) refl refl ih
    go false true e f ih = seen_inside e f ih
    go false false e f ih = seen_outside w.outside_since n e f ih

pub lost_is_contingent : LostIsContingent
lost_is_contingent sightings o = both_ways (λ h. forth ((gets_lost no_watch sightings tt o).0 h)) (λ l. (gets_lost no_watch sightings tt o).1 (inr (inr l)))
  where
    forth : GetsLost no_watch sightings → IsLost sightings
    forth (inl c) = cc
    forth (inr (inl k)) = absurd k
    forth (inr (inr l)) = l

-- the last position decides where the flight isn't lost

last_decides : (w : Watch) (s : Sighting) → (finding (seen w s) ≡ Finds.Contingent) ⊎ (finding (seen w s) ≡ by_last s.inside)
last_decides w s = go w.contingent s.inside refl refl
  where
    at_long : (b : Bool) (since : ℤ) → (cond b Finds.Contingent Finds.Nonconforming ≡ Finds.Contingent) ⊎ (cond b Finds.Contingent Finds.Nonconforming ≡ by_last false)
    at_long true since = inl refl
    at_long false since = inr refl

    go : (c i : Bool) → w.contingent ≡ c → s.inside ≡ i → (finding (after_one w s c i) ≡ Finds.Contingent) ⊎ (finding (after_one w s c i) ≡ by_last i)
    go true i e f = inl (is_contingent (record w { last = Some s.moment }) e)
    go false true e f = inr refl
    go false false e f = at_long (int_le patience (s.moment -ℤ unwrap_or w.outside_since s.moment)) s.moment

pub others_are_where_last_seen : OthersAreWhereLastSeen
others_are_where_last_seen before last =
    subst (λ v. (finding v ≡ Finds.Contingent) ⊎ (finding v ≡ by_last last.inside)) (sym (found_after before last)) (last_decides (watched before) last)

-- counted positions stay in order

abbrev NoneAfter : ℤ → List Sighting → Type 0
NoneAfter moment [] = Unit {0}
NoneAfter moment (s ∷ ss) = (s.moment ≤ℤ moment) × NoneAfter moment ss

last_is : (w : Watch) (s : Sighting) → (seen w s).last ≡ Some s.moment
last_is w s = go w.contingent s.inside
  where
    go : (c i : Bool) → (after_one w s c i).last ≡ Some s.moment
    go true i = refl
    go false true = refl
    go false false = refl

not_later : (a b : ℤ) → int_lt a b ≡ false → b ≤ℤ a
not_later a b h = grind (arith, ints)

none_later : (moment last : ℤ) → is_later_than moment (Some last) ≡ None → last ≤ℤ moment
none_later moment last h = go (int_lt moment last) refl h
  where
    go : (b : Bool) → int_lt moment last ≡ b → cond b (Some last) None ≡ None → last ≤ℤ moment
    go true e k = cc
    go false e k = not_later moment last e

none_after : (moment : ℤ) (w : Watch) (ss : List Sighting) → AreInOrder ss → is_later_than moment (fold seen w ss).last ≡ None → NoneAfter moment ss
none_after moment w [] o h = tt
none_after moment w (s ∷ []) o h = (none_later moment s.moment (ap (is_later_than moment) (sym (last_is w s)) ∙ h), tt)
none_after moment w (s ∷ (t ∷ ts)) o h =
    let k = none_after moment (seen w s) (t ∷ ts) o.1 h in
    (le_trans s.moment t.moment moment o.0.0 k.0, k)

before_with : (moment : ℤ) (s : Sighting) (ss : List Sighting) → NoneBefore moment ss → moment ≤ℤ s.moment → NoneBefore moment (ss ++ s ∷ [])
before_with moment s [] n h = (h, tt)
before_with moment s (t ∷ ts) n h = (n.0, before_with moment s ts n.1 h)

in_order_with : (s : Sighting) (ss : List Sighting) → AreInOrder ss → NoneAfter s.moment ss → AreInOrder (ss ++ s ∷ [])
in_order_with s [] o n = (tt, tt)
in_order_with s (t ∷ ts) o n = (before_with t.moment s ts o.0 n.0, in_order_with s ts o.1 n.1)

abbrev is_of : ℕ → Counted → Bool
is_of flight c = c.flight == flight

abbrev sightings_in : ℕ → List Counted → List Sighting
sightings_in flight cs = map (λ (c : Counted). c.sighting) (filter (is_of flight) cs)

sightings_with : (flight : ℕ) (v w : Values) (cs : List Counted) → w.positions ≡ v.positions ++ cs → sightings_of flight w ≡ sightings_of flight v ++ sightings_in flight cs
unfolding sightings_of
sightings_with flight v w cs e =
    ap (sightings_in flight) e
    ∙ ap (map (λ (c : Counted). c.sighting)) (filter-append (is_of flight) v.positions cs)
    ∙ map-append (λ (c : Counted). c.sighting) (filter (is_of flight) v.positions) (filter (is_of flight) cs)

-- a position that is counted isn't before the last
abbrev IsCounted : Standing → PositionAsk → ℤ → List Counted → Type 0
IsCounted s p moment cs =
    (cs ≡ []) ⊎ ((x : Sighting) × (cs ≡ record { flight = p.flight; sighting = x } ∷ []) × (x.moment ≡ moment) × (later_position (sightings_of p.flight s.values) moment ≡ None))

is_counted : (s : Standing) (p : PositionAsk) (moment : ℤ) → IsCounted s p moment (counted_by s.book p moment (positioned_with s moment p (held p.flight s.book)).said (held p.flight s.book))
is_counted s p moment = at_held (held p.flight s.book)
  where
    at_said : (pair : OperationalIntent) (b : Bool) → later_position (sightings_of p.flight s.values) moment ≡ None → IsCounted s p moment (counted_position b p moment pair)
    at_said pair true e = inl refl
    at_said pair false e = inr (sighting_of pair p moment, refl, refl, e)

    at_late : (pair : OperationalIntent) (x : Option ℤ) → later_position (sightings_of p.flight s.values) moment ≡ x → IsCounted s p moment (counted_position (is_refused (judged_unless s moment p pair x).said) p moment pair)
    at_late pair (Some last) e = inl refl
    at_late pair None e = at_said pair _ e

    at_job : (pair : OperationalIntent) (x : Option Opening) → IsCounted s p moment (counted_position (is_some x || is_refused (positioned_for s moment p pair x).said) p moment pair)
    at_job pair (Some o) = inl refl
    at_job pair None = at_late pair (later_position (sightings_of p.flight s.values) moment) refl

    at_held : (x : Option OperationalIntent) → IsCounted s p moment (counted_by s.book p moment (positioned_with s moment p x).said x)
    at_held None = inl refl
    at_held (Some pair) = at_job pair (is_numbered p.number (open_job_of p.flight s.book))

stays : (s : Standing) (after : Values) → IsInOrder s.values → after.positions ≡ s.values.positions ++ [] → IsInOrder after
stays s after o e flight = subst AreInOrder (sym (sightings_with flight s.values after [] e ∙ append-nil (sightings_of flight s.values))) (o flight)

stays_with : (s : Standing) (p : PositionAsk) (moment : ℤ) (after : Values) (cs : List Counted) → IsInOrder s.values → after.positions ≡ s.values.positions ++ cs → IsCounted s p moment cs → IsInOrder after
stays_with s p moment after cs o e (inl n) = stays s after o (e ∙ ap (λ l. s.values.positions ++ l) n)
stays_with s p moment after cs o e (inr (x, c, m, k)) = λ flight. go flight (p.flight == flight) refl
  where
    go : (flight : ℕ) (b : Bool) → (p.flight == flight) ≡ b → AreInOrder (sightings_of flight after)
    go flight true q =
        let f = same_number p.flight flight q in
        let ss = sightings_of flight s.values in
        let n : NoneAfter x.moment ss = (
        let l : later_position ss moment ≡ None = subst (λ i. later_position (sightings_of i s.values) moment ≡ None) f k in
        subst (λ t. NoneAfter t ss) (sym m) (none_after moment no_watch ss (o flight) l)) in
        let y : sightings_of flight after ≡ ss ++ x ∷ [] = (
        sightings_with flight s.values after cs e ∙ ap (λ l. ss ++ sightings_in flight l) c
        ∙ ap (λ b. ss ++ map (λ (c : Counted). c.sighting) (cond b (record { flight = p.flight; sighting = x } ∷ []) [])) q) in
        subst AreInOrder (sym y) (in_order_with x ss (o flight) n)
    go flight false q =
        let ss = sightings_of flight s.values in
        let y : sightings_of flight after ≡ ss ++ [] = (
        sightings_with flight s.values after cs e ∙ ap (λ l. ss ++ sightings_in flight l) c
        ∙ ap (λ b. ss ++ map (λ (c : Counted). c.sighting) (cond b (record { flight = p.flight; sighting = x } ∷ []) [])) q) in
        subst AreInOrder (sym (y ∙ append-nil ss)) (o flight)

each_event : (s : Standing) (moment : ℤ) (event : Event) → IsInOrder s.values → IsInOrder (stepped s moment event).values
each_event s moment (Comes.Position p) o =
    stays_with s p moment _ _ o (Keeping.changes s moment (Comes.Position p)).positions (is_counted s p moment)
each_event s moment (Comes.Ask ask) o = stays s _ o (Keeping.changes s moment (Comes.Ask ask)).positions
each_event s moment (Comes.Cancel flight number) o = stays s _ o (Keeping.changes s moment (Comes.Cancel flight number)).positions
each_event s moment (Comes.Sweep skip) o = stays s _ o (Keeping.changes s moment (Comes.Sweep skip)).positions
each_event s moment (Comes.Dss call reply) o = stays s _ o (Keeping.changes s moment (Comes.Dss call reply)).positions
each_event s moment (Comes.Peer call reply) o = stays s _ o (Keeping.changes s moment (Comes.Peer call reply)).positions
each_event s moment (Comes.Failed job) o = stays s _ o (Keeping.changes s moment (Comes.Failed job)).positions
each_event s moment (Comes.Details client flight) o = stays s _ o (Keeping.changes s moment (Comes.Details client flight)).positions
each_event s moment (Comes.Notified client note) o = stays s _ o (Keeping.changes s moment (Comes.Notified client note)).positions

pub positions_stay_in_order : PositionsStayInOrder
positions_stay_in_order owner book values moment event o = each_event (record { owner = owner; book = book; values = values }) (clamped moment) event o
