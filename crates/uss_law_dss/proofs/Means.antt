-- What each test of a call means: the cause of its refusal.
use Rattle.std.proofs.Common.{ℕ, ◌<◌, ◌≤◌, ◌≡◌, ◌≢◌, ◌↔◌, ◌⊎◌, inl, inr, Bool, true, false, not, ◌&&◌, ◌||◌, ◌==◌, T, cond, nat_lt, nat_le, List, [], ◌∷◌, length, filter, Option, Some, None, is_some, is_none, refl, ap, sym, subst, arith, ℤ}
use Rattle.std.specs.Prelude.{◌≤ℤ◌, int_le}
use Rattle.uss_vol4.specs.declared.Box4.{Box4}
use Rattle.uss_vol4.specs.Volume.{Volume4D}
use Rattle.uss_vol4.specs.Bounding.{bounding_box, box_of}
use Rattle.uss_vol4.specs.Sharing.{any_shares}
use Rattle.uss_intent.specs.declared.records.Recorded.{Recorded}
use Rattle.uss_intent.specs.declared.records.Ticket.{Ticket}
use Rattle.uss_intent.specs.Same.{same_text}
use Rattle.uss_intent.specs.Numbers.{is_one_of}
use Rattle.uss_law_dss.specs.Lists.{Has}
use Rattle.uss_law_dss.specs.Service.{Service, recorded_of, ticket_of, has_ovn, in_key, relevant, lacking, lies_in}
use Rattle.uss_law_dss.specs.Refusals.{vertex_count, is_bad_put, is_others, is_others_ticket, is_stale, is_no_ticket_of, is_uncovered, is_cited, is_at_last_version, shown_all}
use Rattle.uss_law_dss.specs.Orderly.{IsOrderly}
use Rattle.uss_law_dss.specs.Carried.{Lists}
use Rattle.uss_law_dss.specs.Causes.{IsRecorded, IsThere, Whatever, LiesIn, IsMissing}
use Rattle.uss_law_dss.proofs.Lists.{has_filter, has_filtered, has_passed, list_any_has, any_true, any_false, none_passes}
use Rattle.uss_law_dss.proofs.Tests.{same_number, equal_number, unequal_number, less_is, less_test, le_is, le_test, same_bytes, equal_bytes, not_true, not_both, both, and_true, left_true, right_true}
use Rattle.uss_law_dss.proofs.Founds.{recorded_is, recorded_has, ticket_is, ticket_has}
use Rattle.uss_law_dss.proofs.EachEffect.{is_ovn}
use Rattle.uss_law_dss.proofs.EachCarried.{lists_passed}
use Rattle.uss_vol4.proofs.Share.{any_shares_tells}

-- ---- tests and their negations

-- a test and what it says
abbrev pub Says : Bool → Type 0 → Type 0
Says b P = (b ≡ true) ↔ P

says_not : {P : Type 0} (b : Bool) → Says b P → Says (not b) (P → ⊥)
says_not {P} b m = (λ h p. not_both b (m.1 p) (not_true b h), λ n. go b refl n)
  where
    go : (c : Bool) → b ≡ c → (P → ⊥) → not c ≡ true
    go true e n = absurd (n (m.0 e))
    go false e n = refl

says_and : {P Q : Type 0} (a b : Bool) → Says a P → Says b Q → Says (a && b) (P × Q)
says_and a b m n = (λ h. (let k = both a b h in (m.0 k.0, n.0 k.1)), λ k. and_true a b (m.1 k.0) (n.1 k.1))

says_or : {P Q : Type 0} (a b : Bool) → Says a P → Says b Q → Says (a || b) (P ⊎ Q)
says_or {P} {Q} a b m n = (λ h. go a refl h, λ k. elim k [ inl p ↦ left_true a b (m.1 p) | inr q ↦ right_true a b (n.1 q) ])
  where
    go : (c : Bool) → a ≡ c → (c || b) ≡ true → P ⊎ Q
    go true e h = inl (m.0 e)
    go false e h = inr (n.0 h)

pub says_less : (a b : ℕ) → Says (nat_lt a b) (a < b)
says_less a b = (less_is a b, less_test a b)

pub says_at_most : (a b : ℕ) → Says (nat_le a b) (a ≤ b)
says_at_most a b = (le_is a b, le_test a b)

says_equal : (a b : ℕ) → Says (a == b) (a ≡ b)
says_equal a b = (same_number a b, equal_number a b)

pub says_other_than : (a b : ℕ) → Says (not (a == b)) (a ≢ b)
says_other_than a b = says_not (a == b) (says_equal a b)

says_same : (a b : List ℕ) → Says (same_text a b) (a ≡ b)
says_same a b = (same_bytes a b, equal_bytes a b)

says_int_le : (a b : ℤ) → Says (int_le a b) (a ≤ℤ b)
says_int_le a b = (λ h. record { le = holds (int_le a b) h }, λ h. passes (int_le a b) h.le)
  where
    holds : (c : Bool) → c ≡ true → T c
    holds true h = tt
    holds false h = cc

    passes : (c : Bool) → T c → c ≡ true
    passes true h = refl
    passes false h = absurd h

-- ---- what is looked up

-- a test of what is recorded, if anything is
on_recorded : (s : Service) (flight : ℕ) (test : Option Recorded → Bool) (IsSuch : Recorded → Type 0) → IsOrderly s → test None ≡ false → ((r : Recorded) → Says (test (Some r)) (IsSuch r)) → Says (test (recorded_of flight s)) (IsRecorded s flight IsSuch)
on_recorded s flight test IsSuch j none m = (
  λ h. go (recorded_of flight s) refl h,
  λ k. subst (λ (o : Option Recorded). test o ≡ true) (sym (recorded_is s flight k.0 j k.1 k.2)) ((m k.0).1 k.3),
)
  where
    go : (o : Option Recorded) → recorded_of flight s ≡ o → test o ≡ true → IsRecorded s flight IsSuch
    go None e h = not_both (test None) h none
    go (Some r) e h = let k = recorded_has s flight r e in (r, k.0, k.1, (m r).0 h)

on_ticket : (s : Service) (id : ℕ) (test : Option Ticket → Bool) (IsSuch : Ticket → Type 0) → IsOrderly s → test None ≡ false → ((t : Ticket) → Says (test (Some t)) (IsSuch t)) → Says (test (ticket_of id s)) (IsThere s id IsSuch)
on_ticket s id test IsSuch j none m = (
  λ h. go (ticket_of id s) refl h,
  λ k. subst (λ (o : Option Ticket). test o ≡ true) (sym (ticket_is s id k.0 j k.1 k.2)) ((m k.0).1 k.3),
)
  where
    go : (o : Option Ticket) → ticket_of id s ≡ o → test o ≡ true → IsThere s id IsSuch
    go None e h = not_both (test None) h none
    go (Some t) e h = let k = ticket_has s id t e in (t, k.0, k.1, (m t).0 h)

none_says : {X : Type 0} {P : Type 0} (o : Option X) → Says (is_some o) P → Says (is_none o) (P → ⊥)
none_says None m = (λ h p. (let e = m.1 p in cc), λ n. refl)
none_says (Some x) m = (λ h p. cc, λ n. absurd (n (m.0 refl)))

pub says_recorded : (s : Service) (flight : ℕ) → IsOrderly s → Says (is_some (recorded_of flight s)) (IsRecorded s flight Whatever)
says_recorded s flight j = on_recorded s flight is_some Whatever j refl (λ r. (λ h. tt, λ k. refl))

pub says_not_recorded : (s : Service) (flight : ℕ) → IsOrderly s → Says (is_none (recorded_of flight s)) (IsRecorded s flight Whatever → ⊥)
says_not_recorded s flight j = none_says (recorded_of flight s) (says_recorded s flight j)

pub says_there : (s : Service) (id : ℕ) → IsOrderly s → Says (is_some (ticket_of id s)) (IsThere s id Whatever)
says_there s id j = on_ticket s id is_some Whatever j refl (λ t. (λ h. tt, λ k. refl))

pub says_not_there : (s : Service) (id : ℕ) → IsOrderly s → Says (is_none (ticket_of id s)) (IsThere s id Whatever → ⊥)
says_not_there s id j = none_says (ticket_of id s) (says_there s id j)

pub says_others : (s : Service) (client : List ℕ) (flight : ℕ) → IsOrderly s → Says (is_others client (recorded_of flight s)) (IsRecorded s flight (λ r. r.reference.manager ≢ client))
says_others s client flight j = on_recorded s flight (is_others client) (λ r. r.reference.manager ≢ client) j refl (λ r. says_not (same_text r.reference.manager client) (says_same r.reference.manager client))

pub says_others_ticket : (s : Service) (client : List ℕ) (id : ℕ) → IsOrderly s → Says (is_others_ticket client (ticket_of id s)) (IsThere s id (λ t. t.manager ≢ client))
says_others_ticket s client id j = on_ticket s id (is_others_ticket client) (λ t. t.manager ≢ client) j refl (λ t. says_not (same_text t.manager client) (says_same t.manager client))

says_has_ovn : (o : Option (List ℕ)) (p : List ℕ) → Says (has_ovn o p) (o ≡ Some p)
says_has_ovn o p = (is_ovn o p, go o)
  where
    go : (o : Option (List ℕ)) → o ≡ Some p → has_ovn o p ≡ true
    go None e = cc
    go (Some q) e = equal_bytes q p cc

pub says_stale : (s : Service) (flight : ℕ) (ovn : List ℕ) → IsOrderly s → Says (is_stale (recorded_of flight s) ovn) (IsRecorded s flight (λ r. r.reference.ovn ≢ Some ovn))
says_stale s flight ovn j =
    on_recorded s flight (λ o. is_stale o ovn) (λ r. r.reference.ovn ≢ Some ovn) j refl (λ r. says_not (has_ovn r.reference.ovn ovn) (says_has_ovn r.reference.ovn ovn))

pub says_last_version : (s : Service) (flight : ℕ) → IsOrderly s → Says (is_at_last_version (recorded_of flight s)) (IsRecorded s flight (λ r. r.reference.version ≡ 4294967295))
says_last_version s flight j = on_recorded s flight is_at_last_version (λ r. r.reference.version ≡ 4294967295) j refl (λ r. says_equal r.reference.version 4294967295)

-- ---- the other tests

pub says_one_of : (n : ℕ) (ns : List ℕ) → Says (is_one_of n ns) (Has ns n)
says_one_of n ns = (
  λ h. (let k = list_any_has (λ m. m == n) ns h in subst (λ (m : ℕ). Has ns m) (same_number k.0 n k.2) k.1),
  λ h. any_true (λ m. m == n) ns n h (equal_number n n refl),
)

pub says_cited : (ticket : ℕ) (rs : List Recorded) → Says (is_cited ticket rs) ((r : Recorded) × Has rs r × (r.reference.ticket ≡ ticket))
says_cited ticket rs = (
  λ h. (let k = list_any_has (λ r. r.reference.ticket == ticket) rs h in (k.0, k.1, same_number k.0.reference.ticket ticket k.2)),
  λ k. any_true (λ r. r.reference.ticket == ticket) rs k.0 k.1 (equal_number k.0.reference.ticket ticket k.2),
)

pub says_bad_put : (extents : List Volume4D) (key : List (List ℕ)) → Says (is_bad_put extents key) ((length extents ≡ 0) ⊎ ((64 < length extents) ⊎ ((10000 < vertex_count extents) ⊎ (1024 < length key))))
says_bad_put extents key =
    says_or (length extents == 0) _ (says_equal (length extents) 0)
    (says_or (nat_lt 64 (length extents)) _ (says_less 64 (length extents)) (says_or (nat_lt 10000 (vertex_count extents)) (nat_lt 1024 (length key)) (says_less 10000 (vertex_count extents)) (says_less 1024 (length key))))

two_within : (a b c d : ℤ) → Says (int_le a b && int_le c d) ((a ≤ℤ b) × (c ≤ℤ d))
two_within a b c d = says_and (int_le a b) (int_le c d) (says_int_le a b) (says_int_le c d)

pub says_lies_in : (a b : Box4) → Says (lies_in a b) (LiesIn a b)
unfolding lies_in
says_lies_in a b =
    let sides = says_and _ _ (two_within b.rect.x1 a.rect.x1 a.rect.x2 b.rect.x2) (says_and _ _ (two_within b.rect.y1 a.rect.y1 a.rect.y2 b.rect.y2)
    (says_and _ _ (two_within b.low a.low a.high b.high) (two_within b.start a.start a.end b.end))) in (
      λ h. (let k = sides.0 h in record { x1 = k.0.0; x2 = k.0.1; y1 = k.1.0.0; y2 = k.1.0.1; low = k.1.1.0.0; high = k.1.1.0.1; start = k.1.1.1.0; end = k.1.1.1.1 }),
      λ l. sides.1 ((l.x1, l.x2), ((l.y1, l.y2), ((l.low, l.high), (l.start, l.end)))),
    )

pub says_uncovered : (s : Service) (ticket : ℕ) (extents : List Volume4D) → IsOrderly s → Says (is_uncovered (ticket_of ticket s) extents) (IsThere s ticket (λ t. LiesIn (bounding_box extents) (box_of t.area) → ⊥))
says_uncovered s ticket extents j =
    on_ticket s ticket (λ o. is_uncovered o extents) (λ t. LiesIn (bounding_box extents) (box_of t.area) → ⊥) j refl
    (λ t. says_not (lies_in (bounding_box extents) (box_of t.area)) (says_lies_in (bounding_box extents) (box_of t.area)))

pub says_no_ticket : (s : Service) (client : List ℕ) (ticket : ℕ) → IsOrderly s → Says (is_no_ticket_of client (ticket_of ticket s)) (IsThere s ticket (λ t. t.manager ≡ client) → ⊥)
says_no_ticket s client ticket j =
    let m = says_not (is_ticket_of (ticket_of ticket s)) (on_ticket s ticket is_ticket_of (λ t. t.manager ≡ client) j refl (λ t. says_same t.manager client)) in
    subst (λ (b : Bool). Says b (IsThere s ticket (λ t. t.manager ≡ client) → ⊥)) (opposite (ticket_of ticket s)) m
  where
    is_ticket_of : Option Ticket → Bool
    is_ticket_of None = false
    is_ticket_of (Some t) = same_text t.manager client

    opposite : (o : Option Ticket) → not (is_ticket_of o) ≡ is_no_ticket_of client o
    opposite None = refl
    opposite (Some t) = refl

-- ---- what the key lacks

says_in_key : (key : List (List ℕ)) (r : Recorded) → Says (not (in_key key r.reference)) ((o : List ℕ) → Has key o → r.reference.ovn ≢ Some o)
says_in_key key r =
    let p : List ℕ → Bool = λ o. has_ovn r.reference.ovn o in (
      λ h o i e. not_both (p o) ((says_has_ovn r.reference.ovn o).1 e) (any_false p key o (not_true _ h) i),
      λ n. ap not (none_passes p key (λ o i. unlike (p o) (says_has_ovn r.reference.ovn o) (n o i))),
    )
  where
    unlike : {P : Type 0} (b : Bool) → Says b P → (P → ⊥) → b ≡ false
    unlike true m n = absurd (n (m.0 refl))
    unlike false m n = refl

-- relevant, and lacking in the key, by one test
abbrev pub misses : ℕ → List Volume4D → List (List ℕ) → Recorded → Bool
misses flight extents key r = (not (r.reference.flight == flight) && any_shares r.extents extents) && not (in_key key r.reference)

says_misses : (flight : ℕ) (extents : List Volume4D) (key : List (List ℕ)) (r : Recorded) → Says (misses flight extents key r) (IsMissing flight extents key r)
says_misses flight extents key r =
    let m = says_and (not (r.reference.flight == flight) && any_shares r.extents extents) (not (in_key key r.reference))
    (says_and (not (r.reference.flight == flight)) (any_shares r.extents extents) (says_not (r.reference.flight == flight) (says_equal r.reference.flight flight)) (any_shares_tells r.extents extents))
    (says_in_key key r) in (
      λ h. (let k = m.0 h in record { other = k.0.0; shares = k.0.1; lacked = k.1 }),
      λ i. m.1 ((i.other, i.shares), i.lacked),
    )

filter_twice : {X : Type 0} (p q : X → Bool) (xs : List X) → filter q (filter p xs) ≡ filter (λ x. p x && q x) xs
filter_twice p q [] = refl
filter_twice {X} p q (x ∷ xs) = go (p x) (filter_twice p q xs)
  where
    go : (b : Bool) → filter q (filter p xs) ≡ filter (λ y. p y && q y) xs → filter q (cond b (x ∷ filter p xs) (filter p xs)) ≡ cond (b && q x) (x ∷ filter (λ y. p y && q y) xs) (filter (λ y. p y && q y) xs)
    go true e = ap (λ (ys : List X). cond (q x) (x ∷ ys) ys) e
    go false e = e

missing_is : (s : Service) (flight : ℕ) (extents : List Volume4D) (key : List (List ℕ)) → lacking key (relevant flight extents s) ≡ filter (misses flight extents key) s.references
missing_is s flight extents key = filter_twice (λ (r : Recorded). not (r.reference.flight == flight) && any_shares r.extents extents) (λ r. not (in_key key r.reference)) s.references

some_item : {X : Type 0} (xs : List X) → Says (not (length xs == 0)) ((x : X) × Has xs x)
some_item [] = (λ h. cc, λ k. absurd k.1)
some_item (x ∷ xs) = (λ h. (x, inl refl), λ k. ap not (unequal_number (length (x ∷ xs)) 0 (omega arith)))

pub says_missing : (s : Service) (flight : ℕ) (extents : List Volume4D) (key : List (List ℕ)) → Says (not (length (lacking key (relevant flight extents s)) == 0)) ((r : Recorded) × Has s.references r × IsMissing flight extents key r)
says_missing s flight extents key = rw (missing_is s flight extents key) (
  λ h. (let k = (some_item (filter (misses flight extents key) s.references)).0 h in (k.0, has_filter (misses flight extents key) s.references k.0 k.1, (says_misses flight extents key k.0).0 (has_passed (misses flight extents key) s.references k.0 k.1))),
  λ k. (some_item (filter (misses flight extents key) s.references)).1 (k.0, has_filtered (misses flight extents key) s.references k.0 k.1 ((says_misses flight extents key k.0).1 k.2)),
)

pub lists_missing : (s : Service) (client : List ℕ) (flight : ℕ) (extents : List Volume4D) (key : List (List ℕ)) → IsOrderly s → Lists s client (IsMissing flight extents key) (shown_all client (lacking key (relevant flight extents s)))
lists_missing s client flight extents key j =
    rw (missing_is s flight extents key) (lists_passed s client (misses flight extents key) (IsMissing flight extents key) j (says_misses flight extents key))
