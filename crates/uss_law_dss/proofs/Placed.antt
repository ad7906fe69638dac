-- Lists that ascend, and what is put in its place in them.
use Rattle.std.proofs.Common.{ℕ, suc, ◌<◌, ◌≤◌, ◌+◌, ◌==◌, nat_lt, Bool, true, false, cond, List, [], ◌∷◌, ◌≡◌, ◌≢◌, ◌⊎◌, inl, inr, length, refl, ap, subst, sym, ◌∙◌, arith, filter, map, if◌then◌else◌}
use Rattle.uss_intent.specs.declared.records.Recorded.{Recorded}
use Rattle.uss_intent.specs.declared.records.Ticket.{Ticket}
use Rattle.uss_law_dss.specs.Lists.{Has}
use Rattle.uss_law_dss.specs.Orderly.{AllAbove, Ascend, id_of, flight_recorded}
use Rattle.uss_law_dss.specs.Step.{put_recorded, put_ticket}
use Rattle.uss_law_dss.proofs.Tests.{same_number, less_is, not_less, other_number}

-- ---- ascending lists

pub above_less : {X : Type 0} (number : X → ℕ) (m n : ℕ) (xs : List X) → m ≤ n → AllAbove number n xs → AllAbove number m xs
above_less number m n [] l h = tt
above_less number m n (x ∷ xs) l h = (omega arith, above_less number m n xs l h.1)

pub above_has : {X : Type 0} (number : X → ℕ) (n : ℕ) (xs : List X) (x : X) → AllAbove number n xs → Has xs x → n < number x
above_has number n [] x a h = absurd h
above_has {X} number n (y ∷ xs) x a (inl e) = subst (λ (z : X). n < number z) e a.0
above_has number n (y ∷ xs) x a (inr h) = above_has number n xs x a.1 h

above_filter : {X : Type 0} (number : X → ℕ) (p : X → Bool) (n : ℕ) (xs : List X) → AllAbove number n xs → AllAbove number n (filter p xs)
above_filter number p n [] a = tt
above_filter {X} number p n (x ∷ xs) a = go (p x) (above_filter number p n xs a.1)
  where
    go : (b : Bool) → AllAbove number n (filter p xs) → AllAbove number n (cond b (x ∷ filter p xs) (filter p xs))
    go true k = (a.0, k)
    go false k = k

pub ascend_filter : {X : Type 0} (number : X → ℕ) (p : X → Bool) (xs : List X) → Ascend number xs → Ascend number (filter p xs)
ascend_filter number p [] a = tt
ascend_filter {X} number p (x ∷ xs) a = go (p x) (ascend_filter number p xs a.1)
  where
    go : (b : Bool) → Ascend number (filter p xs) → Ascend number (cond b (x ∷ filter p xs) (filter p xs))
    go true k = (above_filter number p (number x) xs a.0, k)
    go false k = k

above_map : {X Y : Type 0} (f : X → Y) (number : X → ℕ) (number' : Y → ℕ) → ((x : X) → number' (f x) ≡ number x) → (n : ℕ) (xs : List X) → AllAbove number n xs → AllAbove number' n (map f xs)
above_map f number number' same n [] a = tt
above_map f number number' same n (x ∷ xs) a = (subst (λ (m : ℕ). n < m) (sym (same x)) a.0, above_map f number number' same n xs a.1)

pub ascend_map : {X Y : Type 0} (f : X → Y) (number : X → ℕ) (number' : Y → ℕ) → ((x : X) → number' (f x) ≡ number x) → (xs : List X) → Ascend number xs → Ascend number' (map f xs)
ascend_map f number number' same [] a = tt
ascend_map f number number' same (x ∷ xs) a =
    (subst (λ (m : ℕ). AllAbove number' m (map f xs)) (sym (same x)) (above_map f number number' same (number x) xs a.0), ascend_map f number number' same xs a.1)

-- ---- a recorded reference in its place

above_put : (n : ℕ) (r : Recorded) (xs : List Recorded) → n < flight_recorded r → AllAbove flight_recorded n xs → AllAbove flight_recorded n (put_recorded r xs)
above_put n r [] l a = (l, tt)
above_put n r (x ∷ xs) l a = go (nat_lt r.reference.flight x.reference.flight) (r.reference.flight == x.reference.flight) (above_put n r xs l a.1)
  where
    go : (b c : Bool) → AllAbove flight_recorded n (put_recorded r xs) → AllAbove flight_recorded n (if b then r ∷ x ∷ xs else if c then r ∷ xs else x ∷ put_recorded r xs)
    go true c k = (l, (a.0, a.1))
    go false true k = (l, a.1)
    go false false k = (a.0, k)

pub ascend_put : (r : Recorded) (xs : List Recorded) → Ascend flight_recorded xs → Ascend flight_recorded (put_recorded r xs)
ascend_put r [] a = (tt, tt)
ascend_put r (x ∷ xs) a = go (nat_lt r.reference.flight x.reference.flight) (r.reference.flight == x.reference.flight) refl refl (ascend_put r xs a.1)
  where
    go : (b c : Bool) → nat_lt r.reference.flight x.reference.flight ≡ b → (r.reference.flight == x.reference.flight) ≡ c → Ascend flight_recorded (put_recorded r xs)
        → Ascend flight_recorded (if b then r ∷ x ∷ xs else if c then r ∷ xs else x ∷ put_recorded r xs)
    go true c e f k = let l = less_is r.reference.flight x.reference.flight e in ((l, above_less flight_recorded r.reference.flight x.reference.flight xs (omega arith) a.0), a)
    go false true e f k = let q = same_number r.reference.flight x.reference.flight f in (above_less flight_recorded r.reference.flight x.reference.flight xs (omega arith) a.0, a.1)
    go false false e f k =
        let l = not_less r.reference.flight x.reference.flight e in
        let d = other_number r.reference.flight x.reference.flight f in
        (above_put x.reference.flight r xs (omega arith) a.0, k)

pub put_there : (r : Recorded) (xs : List Recorded) → Has (put_recorded r xs) r
put_there r [] = inl refl
put_there r (x ∷ xs) = go (nat_lt r.reference.flight x.reference.flight) (r.reference.flight == x.reference.flight) (put_there r xs)
  where
    go : (b c : Bool) → Has (put_recorded r xs) r → Has (if b then r ∷ x ∷ xs else if c then r ∷ xs else x ∷ put_recorded r xs) r
    go true c k = inl refl
    go false true k = inl refl
    go false false k = inr k

pub put_keeps : (r : Recorded) (xs : List Recorded) (q : Recorded) → Has xs q → q.reference.flight ≢ r.reference.flight → Has (put_recorded r xs) q
put_keeps r [] q h d = absurd h
put_keeps r (x ∷ xs) q h d = go (nat_lt r.reference.flight x.reference.flight) (r.reference.flight == x.reference.flight) refl (λ k. put_keeps r xs q k d) h
  where
    go : (b c : Bool) → (r.reference.flight == x.reference.flight) ≡ c → (Has xs q → Has (put_recorded r xs) q) → (x ≡ q) ⊎ Has xs q
        → Has (if b then r ∷ x ∷ xs else if c then r ∷ xs else x ∷ put_recorded r xs) q
    go true c f rec k = inr k
    go false true f rec (inl e) = absurd (d (sym (same_number r.reference.flight x.reference.flight f ∙ ap (λ (z : Recorded). z.reference.flight) e)))
    go false true f rec (inr k) = inr k
    go false false f rec (inl e) = inl e
    go false false f rec (inr k) = inr (rec k)

pub put_others : (r : Recorded) (xs : List Recorded) (q : Recorded) → Ascend flight_recorded xs → Has (put_recorded r xs) q → (r ≡ q) ⊎ (Has xs q × (q.reference.flight ≢ r.reference.flight))
put_others r [] q a h = elim h [ inl e ↦ inl e | inr n ↦ absurd n ]
put_others r (x ∷ xs) q a h = go (nat_lt r.reference.flight x.reference.flight) (r.reference.flight == x.reference.flight) refl refl (put_others r xs q a.1) h
  where
    go : (b c : Bool) → nat_lt r.reference.flight x.reference.flight ≡ b → (r.reference.flight == x.reference.flight) ≡ c
        → (Has (put_recorded r xs) q → (r ≡ q) ⊎ (Has xs q × (q.reference.flight ≢ r.reference.flight)))
        → Has (if b then r ∷ x ∷ xs else if c then r ∷ xs else x ∷ put_recorded r xs) q → (r ≡ q) ⊎ (((x ≡ q) ⊎ Has xs q) × (q.reference.flight ≢ r.reference.flight))
    go true c e f rec (inl k) = inl k
    go true c e f rec (inr (inl k)) = inr (inl k, (let l = less_is r.reference.flight x.reference.flight e in let m = ap (λ (z : Recorded). z.reference.flight) k in omega arith))
    go true c e f rec (inr (inr k)) = inr (inr k, (let l = less_is r.reference.flight x.reference.flight e in let m = above_has flight_recorded x.reference.flight xs q a.0 k in omega arith))
    go false true e f rec (inl k) = inl k
    go false true e f rec (inr k) = inr (inr k, (let l = same_number r.reference.flight x.reference.flight f in let m = above_has flight_recorded x.reference.flight xs q a.0 k in omega arith))
    go false false e f rec (inl k) = inr (inl k, (let d = other_number r.reference.flight x.reference.flight f in let m = ap (λ (z : Recorded). z.reference.flight) k in omega arith))
    go false false e f rec (inr k) = elim (rec k) [ inl m ↦ inl m | inr m ↦ inr (inr m.0, m.1) ]

-- at most one more
pub length-put_le : (r : Recorded) (xs : List Recorded) → length (put_recorded r xs) ≤ length xs + 1
length-put_le r [] = omega arith
length-put_le r (x ∷ xs) = go (nat_lt r.reference.flight x.reference.flight) (r.reference.flight == x.reference.flight) (length-put_le r xs)
  where
    go : (b c : Bool) → length (put_recorded r xs) ≤ length xs + 1 → length (if b then r ∷ x ∷ xs else if c then r ∷ xs else x ∷ put_recorded r xs) ≤ suc (length xs) + 1
    go true c k = omega arith
    go false true k = omega arith
    go false false k = omega arith

-- as many, where its flight was there
pub length-put_same : (r : Recorded) (xs : List Recorded) (q : Recorded) → Ascend flight_recorded xs → Has xs q → q.reference.flight ≡ r.reference.flight → length (put_recorded r xs) ≡ length xs
length-put_same r [] q a h e = absurd h
length-put_same r (x ∷ xs) q a h e = go (nat_lt r.reference.flight x.reference.flight) (r.reference.flight == x.reference.flight) refl refl (λ k. length-put_same r xs q a.1 k e) h
  where
    go : (b c : Bool) → nat_lt r.reference.flight x.reference.flight ≡ b → (r.reference.flight == x.reference.flight) ≡ c → (Has xs q → length (put_recorded r xs) ≡ length xs) → (x ≡ q) ⊎ Has xs q
        → length (if b then r ∷ x ∷ xs else if c then r ∷ xs else x ∷ put_recorded r xs) ≡ suc (length xs)
    go true c l f rec (inl k) = absurd (let m = less_is r.reference.flight x.reference.flight l in let n = ap (λ (z : Recorded). z.reference.flight) k in omega arith)
    go true c l f rec (inr k) = absurd (let m = less_is r.reference.flight x.reference.flight l in let n = above_has flight_recorded x.reference.flight xs q a.0 k in omega arith)
    go false true l f rec k = refl
    go false false l f rec (inl k) = absurd (other_number r.reference.flight x.reference.flight f (sym e ∙ sym (ap (λ (z : Recorded). z.reference.flight) k)))
    go false false l f rec (inr k) = ap suc (rec k)

-- ---- a ticket in its place

above_put_ticket : (n : ℕ) (t : Ticket) (xs : List Ticket) → n < t.id → AllAbove id_of n xs → AllAbove id_of n (put_ticket t xs)
above_put_ticket n t [] l a = (l, tt)
above_put_ticket n t (x ∷ xs) l a = go (nat_lt t.id x.id) (above_put_ticket n t xs l a.1)
  where
    go : (b : Bool) → AllAbove id_of n (put_ticket t xs) → AllAbove id_of n (if b then t ∷ x ∷ xs else x ∷ put_ticket t xs)
    go true k = (l, (a.0, a.1))
    go false k = (a.0, k)

pub ascend_put_ticket : (t : Ticket) (xs : List Ticket) → Ascend id_of xs → ((x : Ticket) → Has xs x → x.id ≢ t.id) → Ascend id_of (put_ticket t xs)
ascend_put_ticket t [] a new = (tt, tt)
ascend_put_ticket t (x ∷ xs) a new = go (nat_lt t.id x.id) refl (ascend_put_ticket t xs a.1 (λ y h. new y (inr h)))
  where
    go : (b : Bool) → nat_lt t.id x.id ≡ b → Ascend id_of (put_ticket t xs) → Ascend id_of (if b then t ∷ x ∷ xs else x ∷ put_ticket t xs)
    go true e k = let l = less_is t.id x.id e in ((l, above_less id_of t.id x.id xs (omega arith) a.0), a)
    go false e k =
        let l = not_less t.id x.id e in
        let d = new x (inl refl) in
        (above_put_ticket x.id t xs (omega arith) a.0, k)

pub put_ticket_there : (t : Ticket) (xs : List Ticket) → Has (put_ticket t xs) t
put_ticket_there t [] = inl refl
put_ticket_there t (x ∷ xs) = go (nat_lt t.id x.id) (put_ticket_there t xs)
  where
    go : (b : Bool) → Has (put_ticket t xs) t → Has (if b then t ∷ x ∷ xs else x ∷ put_ticket t xs) t
    go true k = inl refl
    go false k = inr k

pub put_ticket_keeps : (t : Ticket) (xs : List Ticket) (q : Ticket) → Has xs q → Has (put_ticket t xs) q
put_ticket_keeps t [] q h = absurd h
put_ticket_keeps t (x ∷ xs) q h = go (nat_lt t.id x.id) (λ k. put_ticket_keeps t xs q k) h
  where
    go : (b : Bool) → (Has xs q → Has (put_ticket t xs) q) → (x ≡ q) ⊎ Has xs q → Has (if b then t ∷ x ∷ xs else x ∷ put_ticket t xs) q
    go true rec k = inr k
    go false rec (inl e) = inl e
    go false rec (inr k) = inr (rec k)

pub put_ticket_others : (t : Ticket) (xs : List Ticket) (q : Ticket) → Has (put_ticket t xs) q → (t ≡ q) ⊎ Has xs q
put_ticket_others t [] q h = elim h [ inl e ↦ inl e | inr n ↦ absurd n ]
put_ticket_others t (x ∷ xs) q h = go (nat_lt t.id x.id) (put_ticket_others t xs q) h
  where
    go : (b : Bool) → (Has (put_ticket t xs) q → (t ≡ q) ⊎ Has xs q) → Has (if b then t ∷ x ∷ xs else x ∷ put_ticket t xs) q → (t ≡ q) ⊎ ((x ≡ q) ⊎ Has xs q)
    go true rec (inl k) = inl k
    go true rec (inr k) = inr k
    go false rec (inl k) = inr (inl k)
    go false rec (inr k) = elim (rec k) [ inl m ↦ inl m | inr m ↦ inr (inr m) ]

pub length-put_ticket : (t : Ticket) (xs : List Ticket) → length (put_ticket t xs) ≡ length xs + 1
length-put_ticket t [] = omega arith
length-put_ticket t (x ∷ xs) = go (nat_lt t.id x.id) (length-put_ticket t xs)
  where
    go : (b : Bool) → length (put_ticket t xs) ≡ length xs + 1 → length (if b then t ∷ x ∷ xs else x ∷ put_ticket t xs) ≡ suc (length xs) + 1
    go true k = omega arith
    go false k = omega arith
