-- What a change of a list of tickets or references is for who looks one of them up.
use Rattle.std.proofs.Common.{◌≡◌, ℕ, suc, ◌≤◌, ◌+◌, ◌==◌, nat_eq, nat_lt, Bool, true, false, not, cond, List, [], ◌∷◌, length, filter, Option, Some, None, refl, ap, ◌∙◌, arith, zero, ◌++◌}
use Rattle.std.specs.List.{find}
use Rattle.std.specs.Option.{option_map}
use Rattle.std.proofs.lemmas.Bool.Decides.{nat_tests}
use Rattle.uss_intent.specs.declared.records.Subscriber.{Subscriber}
use Rattle.uss_intent.specs.declared.records.Recorded.{Recorded}
use Rattle.uss_intent.specs.declared.records.Landing.{Landing}
use Rattle.uss_intent.specs.declared.records.Ticket.{Ticket}
use Rattle.uss_law_dss.specs.Orderly.{Ascend, AllAbove, id_of}
use Rattle.uss_law_dss.specs.Step.{put_ticket, put_recorded, without_ticket, without_flight}
use Rattle.uss_dss.specs.Effects.{with_index, with_indices}
use Rattle.uss_dss.specs.Located.{area_in, extents_in}
use Rattle.uss_dss.specs.Grid.{number_after, last_number}
use Rattle.uss_dss.proofs.Maps.{found_later, none_above}

eq_is : (a b : ℕ) → (a == b) ≡ nat_eq b a
eq_is a b = grind (arith, nat_tests)

-- two look-ups, of which one at most finds, in either order
swapped : {X : Type 0} (a b : Bool) (x y : X) (w z : Option X) → (a ≡ true → b ≡ true → ⊥) → w ≡ cond b (Some y) z → cond a (Some x) w ≡ cond b (Some y) (cond a (Some x) z)
swapped true true x y w z never e = absurd (never refl refl)
swapped true false x y w z never e = refl
swapped false true x y w z never e = e
swapped false false x y w z never e = e

-- ---- a new ticket
both_ids : (a b k : ℕ) → (a == b) ≡ false → (a == k) ≡ true → (b == k) ≡ true → ⊥
both_ids a b k h e f = grind (arith, nat_tests)

find_put : (t : Ticket) (ts : List Ticket) (k : ℕ) → find (λ x. x.id == t.id) ts ≡ None → find (λ x. x.id == k) (put_ticket t ts) ≡ cond (t.id == k) (Some t) (find (λ x. x.id == k) ts)
find_put t [] k none = refl
find_put t (x ∷ xs) k none =
    let later = found_later (λ x. x.id == t.id) x xs (x.id == t.id) refl none in
    go (nat_lt t.id x.id) later.0 (find_put t xs k later.1)
  where
    go : (b : Bool) → (x.id == t.id) ≡ false → find (λ x. x.id == k) (put_ticket t xs) ≡ cond (t.id == k) (Some t) (find (λ x. x.id == k) xs) → find (λ x. x.id == k) (cond b (t ∷ x ∷ xs) (x ∷ put_ticket t xs)) ≡ cond (t.id == k) (Some t) (find (λ x. x.id == k) (x ∷ xs))
    go true h rest = refl
    go false h rest = swapped (x.id == k) (t.id == k) x t (find (λ x. x.id == k) (put_ticket t xs)) (find (λ x. x.id == k) xs) (both_ids x.id t.id k h) rest

mapped_cond : {X Y : Type 0} (f : X → Y) (b : Bool) (x : X) (w : Option X) → option_map f (cond b (Some x) w) ≡ cond b (Some (f x)) (option_map f w)
mapped_cond f true x w = refl
mapped_cond f false x w = refl

pub area_put : (t : Ticket) (ts : List Ticket) (k : ℕ) → find (λ x. x.id == t.id) ts ≡ None → area_in (put_ticket t ts) k ≡ cond (nat_eq k t.id) (Some (t.area ∷ [])) (area_in ts k)
area_put t ts k none =
    ap (option_map (λ (t : Ticket). t.area ∷ [])) (find_put t ts k none)
    ∙ mapped_cond (λ (t : Ticket). t.area ∷ []) (t.id == k) t (find (λ x. x.id == k) ts)
    ∙ ap (λ b. cond b (Some (t.area ∷ [])) (area_in ts k)) (eq_is t.id k)

pub length_put : (t : Ticket) (ts : List Ticket) → length (put_ticket t ts) ≡ length ts + 1
length_put t [] = refl
length_put t (x ∷ xs) = go (nat_lt t.id x.id) (length_put t xs)
  where
    go : (b : Bool) → length (put_ticket t xs) ≡ length xs + 1 → length (cond b (t ∷ x ∷ xs) (x ∷ put_ticket t xs)) ≡ suc (length xs) + 1
    go true rest = omega arith
    go false rest = omega (arith, rest)

-- ---- one without
the_none : (X : Type 0) → Option X
the_none X = None

without_at : {X : Type 0} (number : X → ℕ) (id k : ℕ) (x : X) (xs : List X) (a b c : Bool) → (number x == id) ≡ a → (number x == k) ≡ b → nat_eq k id ≡ c
    → find (λ x. number x == k) (filter (λ x. not (number x == id)) xs) ≡ cond c None (find (λ x. number x == k) xs)
    → find (λ x. number x == k) (filter (λ x. not (number x == id)) (x ∷ xs)) ≡ cond c None (find (λ x. number x == k) (x ∷ xs))
without_at number id k x xs true true true e f g rest = rw e rest
without_at number id k x xs true true false e f g rest = absurd (grind (arith, nat_tests))
without_at number id k x xs true false true e f g rest = rw e rest
without_at number id k x xs true false false e f g rest = rw e (rw f rest)
without_at number id k x xs false true true e f g rest = absurd (grind (arith, nat_tests))
without_at number id k x xs false true false e f g rest = rw e (rw f refl)
without_at number id k x xs false false true e f g rest = rw e (rw f rest)
without_at number id k x xs false false false e f g rest = rw e (rw f rest)

neither : (X : Type 0) (b : Bool) → the_none X ≡ cond b (the_none X) (the_none X)
neither X true = refl
neither X false = refl

find_without : {X : Type 0} (number : X → ℕ) (id k : ℕ) (xs : List X) → find (λ x. number x == k) (filter (λ x. not (number x == id)) xs) ≡ cond (nat_eq k id) None (find (λ x. number x == k) xs)
unfolding the_none
find_without {X} number id k [] = neither X (nat_eq k id)
find_without number id k (x ∷ xs) = without_at number id k x xs (number x == id) (number x == k) (nat_eq k id) refl refl refl (find_without number id k xs)

mapped_none : {X Y : Type 0} (f : X → Y) (b : Bool) (w : Option X) → option_map f (cond b None w) ≡ cond b None (option_map f w)
mapped_none f true w = refl
mapped_none f false w = refl

pub area_without : (id k : ℕ) (ts : List Ticket) → area_in (without_ticket id ts) k ≡ cond (nat_eq k id) None (area_in ts k)
area_without id k ts =
    ap (option_map (λ (t : Ticket). t.area ∷ [])) (find_without (λ (t : Ticket). t.id) id k ts)
    ∙ mapped_none (λ (t : Ticket). t.area ∷ []) (nat_eq k id) (find (λ x. x.id == k) ts)

length_without_at : (id : ℕ) (t : Ticket) (ts : List Ticket) (b : Bool) → (t.id == id) ≡ b → AllAbove id_of t.id ts → length ts ≤ length (without_ticket id ts) + 1 → length (t ∷ ts) ≤ length (without_ticket id (t ∷ ts)) + 1
length_without_at id t ts true e above rest =
    let same : id ≡ t.id = grind (arith, nat_tests) in
    let kept : length (without_ticket id ts) ≡ length ts = ap length (none_above id_of t.id id ts same above) in
    rw e (omega (arith, kept))
length_without_at id t ts false e above rest = rw e (omega (arith, rest))

-- at most one is missing
pub length_without : (id : ℕ) (ts : List Ticket) → Ascend id_of ts → length ts ≤ length (without_ticket id ts) + 1
length_without id [] up = omega arith
length_without id (t ∷ ts) up = length_without_at id t ts (t.id == id) refl up.0 (length_without id ts up.1)

-- ---- other indices
area_index : (id n k : ℕ) (ts : List Ticket) → area_in (with_index id n ts) k ≡ area_in ts k
area_index id n k [] = refl
area_index id n k (t ∷ ts) = go (t.id == id) (area_index id n k ts)
  where
    here : (b : Bool) → option_map (λ (t : Ticket). t.area ∷ []) (cond b (Some (record t { index = n })) (find (λ x. x.id == k) ts)) ≡ option_map (λ (t : Ticket). t.area ∷ []) (cond b (Some t) (find (λ x. x.id == k) ts))
    here true = refl
    here false = refl

    there : (b : Bool) → area_in (with_index id n ts) k ≡ area_in ts k → option_map (λ (t : Ticket). t.area ∷ []) (cond b (Some t) (find (λ x. x.id == k) (with_index id n ts))) ≡ option_map (λ (t : Ticket). t.area ∷ []) (cond b (Some t) (find (λ x. x.id == k) ts))
    there true rest = refl
    there false rest = rest

    go : (b : Bool) → area_in (with_index id n ts) k ≡ area_in ts k → area_in (cond b (record t { index = n } ∷ ts) (t ∷ with_index id n ts)) k ≡ area_in (t ∷ ts) k
    go true rest = here (t.id == k)
    go false rest = there (t.id == k) rest

pub area_indices : (notified : List Subscriber) (ts : List Ticket) (k : ℕ) → area_in (with_indices notified ts) k ≡ area_in ts k
area_indices [] ts k = refl
area_indices (s ∷ ss) ts k = area_indices ss (with_index s.ticket s.index ts) k ∙ area_index s.ticket s.index k ts

length_index : (id n : ℕ) (ts : List Ticket) → length (with_index id n ts) ≡ length ts
length_index id n [] = refl
length_index id n (t ∷ ts) = go (t.id == id) (length_index id n ts)
  where
    go : (b : Bool) → length (with_index id n ts) ≡ length ts → length (cond b (record t { index = n } ∷ ts) (t ∷ with_index id n ts)) ≡ suc (length ts)
    go true rest = refl
    go false rest = ap suc rest

pub length_indices : (notified : List Subscriber) (ts : List Ticket) → length (with_indices notified ts) ≡ length ts
length_indices [] ts = refl
length_indices (s ∷ ss) ts = length_indices ss (with_index s.ticket s.index ts) ∙ length_index s.ticket s.index ts

-- ---- a reference in its place
both_flights : (a b k : ℕ) → (b == a) ≡ false → (a == k) ≡ true → (b == k) ≡ true → ⊥
both_flights a b k h e f = grind (arith, nat_tests)

less_other : (a b : ℕ) → nat_lt b a ≡ true → (b == a) ≡ false
less_other a b h = grind (arith, nat_tests)

in_place_at : (r x : Recorded) (xs : List Recorded) (k : ℕ) (a b : Bool) → (r.reference.flight == x.reference.flight) ≡ true → (r.reference.flight == k) ≡ a → (x.reference.flight == k) ≡ b
    → cond a (Some r) (find (λ x. x.reference.flight == k) xs) ≡ cond a (Some r) (cond b (Some x) (find (λ x. x.reference.flight == k) xs))
in_place_at r x xs k true b h e f = refl
in_place_at r x xs k false true h e f = absurd (grind (arith, nat_tests))
in_place_at r x xs k false false h e f = refl

find_recorded : (r : Recorded) (rs : List Recorded) (k : ℕ) → find (λ x. x.reference.flight == k) (put_recorded r rs) ≡ cond (r.reference.flight == k) (Some r) (find (λ x. x.reference.flight == k) rs)
find_recorded r [] k = refl
find_recorded r (x ∷ xs) k = go (nat_lt r.reference.flight x.reference.flight) (r.reference.flight == x.reference.flight) refl (find_recorded r xs k)
  where
    go : (a b : Bool) → (r.reference.flight == x.reference.flight) ≡ b → find (λ x. x.reference.flight == k) (put_recorded r xs) ≡ cond (r.reference.flight == k) (Some r) (find (λ x. x.reference.flight == k) xs)
        → find (λ x. x.reference.flight == k) (cond a (r ∷ x ∷ xs) (cond b (r ∷ xs) (x ∷ put_recorded r xs))) ≡ cond (r.reference.flight == k) (Some r) (find (λ x. x.reference.flight == k) (x ∷ xs))
    go true b e rest = refl
    go false true e rest = in_place_at r x xs k (r.reference.flight == k) (x.reference.flight == k) e refl refl
    go false false e rest =
        swapped (x.reference.flight == k) (r.reference.flight == k) x r (find (λ x. x.reference.flight == k) (put_recorded r xs)) (find (λ x. x.reference.flight == k) xs)
        (both_flights x.reference.flight r.reference.flight k e) rest

pub extents_put : (r : Recorded) (rs : List Recorded) (k : ℕ) → extents_in (put_recorded r rs) k ≡ cond (nat_eq k r.reference.flight) (Some r.extents) (extents_in rs k)
extents_put r rs k =
    ap (option_map (λ (x : Recorded). x.extents)) (find_recorded r rs k)
    ∙ mapped_cond (λ (x : Recorded). x.extents) (r.reference.flight == k) r (find (λ x. x.reference.flight == k) rs)
    ∙ ap (λ b. cond b (Some r.extents) (extents_in rs k)) (eq_is r.reference.flight k)

pub extents_without : (flight k : ℕ) (rs : List Recorded) → extents_in (without_flight flight rs) k ≡ cond (nat_eq k flight) None (extents_in rs k)
extents_without flight k rs =
    ap (option_map (λ (r : Recorded). r.extents)) (find_without (λ (r : Recorded). r.reference.flight) flight k rs)
    ∙ mapped_none (λ (r : Recorded). r.extents) (nat_eq k flight) (find (λ x. x.reference.flight == k) rs)

-- ---- a landing more
after_more : (n m : ℕ) (own b : Bool) (len : ℕ) → n ≡ cond b (len + 1) m → number_after n own ≡ cond b (suc len + 1) (number_after m own)
after_more n m own true len e = let f : n ≡ suc len = e ∙ omega arith in let g : suc (suc len) ≡ suc len + 1 = omega arith in ap (λ i. number_after i own) f ∙ g
after_more n m own false len e = ap (λ i. number_after i own) e

pub last_more : (flight : ℕ) (ls : List Landing) (l : Landing) → last_number flight (ls ++ l ∷ []) ≡ cond (l.flight == flight) (length ls + 1) (last_number flight ls)
last_more flight [] l = go (l.flight == flight)
  where
    go : (b : Bool) → number_after 0 b ≡ cond b (0 + 1) 0
    go true = refl
    go false = refl
last_more flight (x ∷ xs) l = after_more (last_number flight (xs ++ l ∷ [])) (last_number flight xs) (x.flight == flight) (l.flight == flight) (length xs) (last_more flight xs l)

after_le : (n len : ℕ) (b : Bool) → n ≤ len → number_after n b ≤ suc len
after_le (suc n) len b h = omega (arith, h)
after_le zero len true h = omega arith
after_le zero len false h = omega arith

pub last_le : (flight : ℕ) (ls : List Landing) → last_number flight ls ≤ length ls
last_le flight [] = omega arith
last_le flight (x ∷ xs) = after_le (last_number flight xs) (length xs) (x.flight == flight) (last_le flight xs)
