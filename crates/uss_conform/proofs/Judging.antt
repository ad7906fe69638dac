-- What a counted or a refused position comes to.
use Rattle.std.proofs.Common.{arith, ℤ, Bool, true, false, cond, List, [], ◌∷◌, ◌++◌, ◌≡◌, refl, ap, sym, ◌∙◌, Option, Some, None, fold}
use Rattle.std.specs.Prelude.{◌<ℤ◌, ◌≤ℤ◌, ◌↔◌, int_lt, IsSomeAnd}
use Rattle.std.specs.List.{list_any}
use Rattle.std.proofs.lemmas.Int.{ints}
use Rattle.uss_shape.specs.declared.Place.{Place}
use Rattle.uss_vol4.specs.Volume.{Volume4D}
use Rattle.uss_vol4.specs.Sharing.{volume_holds}
use Rattle.uss_event.specs.Pairs.{OperationalIntent}
use Rattle.uss_event.specs.declared.asks.Conform.{Conform}
use Rattle.uss_event.specs.declared.asks.Conform.TheVariants.{Contingent}
use Rattle.uss_event.specs.declared.asks.PositionAsk.{PositionAsk}
use Rattle.uss_law_supplier.specs.Monitor.{Sighting, Watch, no_watch, outside, inside, seen, watched, finding, is_later_than, later_position}
use Rattle.uss_law_supplier.specs.Positions.{is_inside, sighting_of}
use Rattle.uss_law_supplier.specs.Straying.{NoneBefore, AreInOrder, IsLost}
use Rattle.uss_law_supplier.proofs.Watching.{found_after}
use Rattle.uss_law_supplier.proofs.Straying.{lost_is_contingent}
use Rattle.uss_conform.specs.Judged.{IsOf}

-- whether a moment is before the last

is_before : (a b : ℤ) → int_lt a b ≡ true → a <ℤ b
is_before a b h = grind (arith, ints)

is_not_before : (a b : ℤ) → int_lt a b ≡ false → b ≤ℤ a
is_not_before a b h = grind (arith, ints)

not_both : (a b : ℤ) → b ≤ℤ a → a <ℤ b → ⊥
not_both a b h k = grind (arith, ints)

before_last : (moment l : ℤ) (x : Option ℤ) → is_later_than moment x ≡ Some l → IsSomeAnd x (λ last. moment <ℤ last)
before_last moment l None e = absurd (cc)
before_last moment l (Some last) e = go (int_lt moment last) refl e
  where
    go : (b : Bool) → int_lt moment last ≡ b → cond b (Some last) None ≡ Some l → moment <ℤ last
    go true q k = is_before moment last q
    go false q k = absurd (cc)

none_later : (moment last : ℤ) → is_later_than moment (Some last) ≡ None → last ≤ℤ moment
none_later moment last h = go (int_lt moment last) refl h
  where
    go : (b : Bool) → int_lt moment last ≡ b → cond b (Some last) None ≡ None → last ≤ℤ moment
    go true e k = absurd (cc)
    go false e k = is_not_before moment last e

not_before_last : (moment : ℤ) (x : Option ℤ) → is_later_than moment x ≡ None → IsSomeAnd x (λ last. moment <ℤ last) → ⊥
not_before_last moment None e h = h
not_before_last moment (Some last) e h = not_both moment last (none_later moment last e) h

-- the position as a supplier counts it
pub as_counted : (volumes : List Volume4D) (place : Place) (altitude moment : ℤ) (pair : OperationalIntent) (p : PositionAsk) → IsOf volumes place altitude pair p → sighting_of pair p moment ≡ record { moment = moment; inside = list_any (λ v. volume_holds v place altitude moment) volumes }
unfolding is_inside
as_counted volumes place altitude moment pair p of = rw (of.volumes_are, of.place_is, of.altitude_is) refl

-- counted positions stay in order

abbrev after_one : Watch → Sighting → Bool → Bool → Watch
after_one w s c i = cond c (record w { last = Some s.moment }) (cond i (inside s.moment) (outside w s.moment))

last_is : (w : Watch) (s : Sighting) → (seen w s).last ≡ Some s.moment
last_is w s = go w.contingent s.inside
  where
    go : (c i : Bool) → (after_one w s c i).last ≡ Some s.moment
    go true i = refl
    go false true = refl
    go false false = refl

abbrev NoneAfter : ℤ → List Sighting → Type 0
NoneAfter moment [] = Unit {0}
NoneAfter moment (s ∷ ss) = (s.moment ≤ℤ moment) × NoneAfter moment ss

le_trans : (a b c : ℤ) → a ≤ℤ b → b ≤ℤ c → a ≤ℤ c
le_trans a b c h k = grind (arith, ints)

none_after : (moment : ℤ) (w : Watch) (ss : List Sighting) → AreInOrder ss → is_later_than moment (fold seen w ss).last ≡ None → NoneAfter moment ss
none_after moment w [] o h = tt
none_after moment w (s ∷ []) o h = (none_later moment s.moment (ap (is_later_than moment) (sym (last_is w s)) ∙ h), tt)
none_after moment w (s ∷ (t ∷ ts)) o h =
    let k = none_after moment (seen w s) (t ∷ ts) o.1 h in
    (le_trans s.moment t.moment moment o.0.0 k.0, k)

before_with : (moment : ℤ) (s : Sighting) (ss : List Sighting) → NoneBefore moment ss → moment ≤ℤ s.moment → NoneBefore moment (ss ++ s ∷ [])
before_with moment s [] n h = (h, tt)
before_with moment s (t ∷ ts) n h = (n.0, before_with moment s ts n.1 h)

in_order_with : (s : Sighting) (ss : List Sighting) → AreInOrder ss → NoneAfter s.moment ss → AreInOrder (ss ++ s ∷ [])
in_order_with s [] o n = (tt, tt)
in_order_with s (t ∷ ts) o n = (before_with t.moment s ts o.0 n.0, in_order_with s ts o.1 n.1)

pub stay_in_order : (old : Watch) (before : List Sighting) (s : Sighting) → old ≡ watched before → AreInOrder before → is_later_than s.moment old.last ≡ None → AreInOrder (before ++ s ∷ [])
stay_in_order old before s w o h =
    let late : later_position before s.moment ≡ None = rw (sym w) h in
    in_order_with s before o (none_after s.moment no_watch before o late)

-- the fold over the positions with this one
pub with_this : (old new : Watch) (before : List Sighting) (s : Sighting) → old ≡ watched before → new ≡ seen old s → new ≡ watched (before ++ s ∷ [])
with_this old new before s w n = n ∙ ap (λ v. seen v s) w ∙ sym (found_after before s)

pub lost_exactly : (new : Watch) (found : Conform) (ss : List Sighting) → new ≡ watched ss → found ≡ finding new → AreInOrder ss → (found ≡ Contingent) ↔ IsLost ss
lost_exactly new found ss n f o = rw (f, n) (lost_is_contingent ss o)
