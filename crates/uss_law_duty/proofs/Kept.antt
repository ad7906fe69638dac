-- What is kept of the pairs that are heard one after another.
use Rattle.std.proofs.Common.{ℕ, ◌+◌, ◌≤◌, ◌<◌, ◌==◌, ◌≡◌, ◌≢◌, inl, inr, Bool, true, false, cond, not, nat_lt, nat_le, List, [], ◌∷◌, ◌++◌, filter, length, length-append, append-nil, refl, ap, sym, subst, ◌∙◌, arith, Option, Some, None}
use Rattle.std.specs.List.{find}
use Rattle.std.proofs.lemmas.List.{append_assoc}
use Rattle.uss_event.specs.Pairs.{OperationalIntent}
use Rattle.uss_law_dss.specs.Lists.{Has}
use Rattle.uss_law_dss.proofs.Lists.{has_right, has_filter, has_passed, has_push, find_has, find_none, length-filter_le}
use Rattle.uss_law_dss.proofs.Tests.{same_number, equal_number, unequal_number, not_true, less_is, not_le, not_both, some_same}
use Rattle.uss_event.specs.Heard.{News, kept_pairs, kept_pair, kept_from, after_news, in_place, with_room, without, is_of, most_kept}
use Rattle.uss_event.specs.Heard.News.{Heard, Forgotten}
use Rattle.uss_law_duty.specs.Kept.{IsLastHeard, AreApart}

abbrev pub flight : OperationalIntent → ℕ
flight p = p.reference.flight

abbrev pub version : OperationalIntent → ℕ
version p = p.reference.version

-- what goes from each list of what was heard to a longer one
pub each_news : (P : List News → List OperationalIntent → Type 0) → ((past : List News) (kept : List OperationalIntent) (n : News) → P past kept → P (past ++ n ∷ []) (after_news kept n))
    → (past : List News) (kept : List OperationalIntent) (ns : List News) → P past kept → P (past ++ ns) (kept_from kept ns)
each_news P step past kept [] h = subst (λ (l : List News). P l kept) (sym (append-nil past)) h
each_news P step past kept (n ∷ ns) h =
    subst (λ (l : List News). P l (kept_from (after_news kept n) ns)) (append_assoc past (n ∷ []) ns) (each_news P step (past ++ n ∷ []) (after_news kept n) ns (step past kept n h))

pub kept_append : (kept : List OperationalIntent) (xs ys : List News) → kept_from kept (xs ++ ys) ≡ kept_from (kept_from kept xs) ys
kept_append kept [] ys = refl
kept_append kept (n ∷ xs) ys = kept_append (after_news kept n) xs ys

-- ---- lists of pairs

pub none_of : (f : ℕ) (ps : List OperationalIntent) → find (is_of f) ps ≡ None → (q : OperationalIntent) → Has ps q → flight q ≢ f
none_of f ps e q h = λ w. not_both (is_of f q) (equal_number (flight q) f w) (find_none (is_of f) ps q e h)

pub without_has : (f : ℕ) (ps : List OperationalIntent) (q : OperationalIntent) → Has (without f ps) q → Has ps q × (flight q ≢ f)
without_has f ps q h =
    (has_filter (λ (p : OperationalIntent). not (is_of f p)) ps q h, λ w. not_both (is_of f q) (equal_number (flight q) f w) (not_true (is_of f q) (has_passed (λ (p : OperationalIntent). not (is_of f p)) ps q h)))

pub room_has : (ps : List OperationalIntent) (q : OperationalIntent) → Has (with_room ps) q → Has ps q
room_has [] q h = h
room_has (p ∷ ps) q h = go (nat_le most_kept (length (p ∷ ps))) h
  where
    go : (b : Bool) → Has (cond b ps (p ∷ ps)) q → Has (p ∷ ps) q
    go true k = inr k
    go false k = k

without_append : (f : ℕ) (ps qs : List OperationalIntent) → without f (ps ++ qs) ≡ without f ps ++ without f qs
without_append f [] qs = refl
without_append f (p ∷ ps) qs = go (not (is_of f p)) (without_append f ps qs)
  where
    go : (b : Bool) → without f (ps ++ qs) ≡ without f ps ++ without f qs → cond b (p ∷ without f (ps ++ qs)) (without f (ps ++ qs)) ≡ cond b (p ∷ without f ps) (without f ps) ++ without f qs
    go true e = ap (λ (l : List OperationalIntent). p ∷ l) e
    go false e = e

pub without_round : (f : ℕ) (front : List OperationalIntent) (p : OperationalIntent) (back : List OperationalIntent) → flight p ≢ f → without f (front ++ p ∷ back) ≡ without f front ++ p ∷ without f back
without_round f front p back n =
    without_append f front (p ∷ back) ∙ ap (λ b. without f front ++ cond (not b) (p ∷ without f back) (without f back)) (unequal_number (flight p) f n)

fewer_without : (f : ℕ) (ps : List OperationalIntent) (q : OperationalIntent) → Has ps q → flight q ≡ f → length (without f ps) + 1 ≤ length ps
fewer_without f [] q h e = absurd h
fewer_without f (p ∷ ps) q (inl w) e =
    let l = length-filter_le (λ (x : OperationalIntent). not (is_of f x)) ps in
    rw (equal_number (flight p) f (ap flight w ∙ e)) (omega (arith, l))
fewer_without f (p ∷ ps) q (inr h) e = go (is_of f p) (fewer_without f ps q h e)
  where
    go : (b : Bool) → length (without f ps) + 1 ≤ length ps → length (cond (not b) (p ∷ without f ps) (without f ps)) + 1 ≤ length (p ∷ ps)
    go true l = omega (arith, l)
    go false l = omega (arith, l)

fewer_in_room : (ps : List OperationalIntent) → length ps ≤ 4096 → length (with_room ps) + 1 ≤ 4096
fewer_in_room [] l = omega arith
fewer_in_room (p ∷ ps) l = go (nat_le most_kept (length (p ∷ ps))) refl
  where
    go : (b : Bool) → nat_le most_kept (length (p ∷ ps)) ≡ b → length (cond b ps (p ∷ ps)) + 1 ≤ 4096
    go true e = omega (arith, l)
    go false e = let n = not_le most_kept (length (p ∷ ps)) e in omega (arith, n)

pushed_length : (ps : List OperationalIntent) (p : OperationalIntent) → length ps + 1 ≤ 4096 → length (ps ++ p ∷ []) ≤ 4096
pushed_length ps p l = let g = length-append ps (p ∷ []) in omega (arith, g, l)

-- ---- no two are of one flight

apart_filter : (t : OperationalIntent → Bool) (ps : List OperationalIntent) → AreApart ps → AreApart (filter t ps)
apart_filter t [] d = tt
apart_filter t (p ∷ ps) d = go (t p) (apart_filter t ps d.1)
  where
    go : (b : Bool) → AreApart (filter t ps) → AreApart (cond b (p ∷ filter t ps) (filter t ps))
    go true r = ((λ q h. d.0 q (has_filter t ps q h)), r)
    go false r = r

pub apart_push : (ps : List OperationalIntent) (p : OperationalIntent) → AreApart ps → ((q : OperationalIntent) → Has ps q → flight q ≢ flight p) → AreApart (ps ++ p ∷ [])
apart_push [] p d n = ((λ q h. absurd h), tt)
apart_push (x ∷ ps) p d n = (other, apart_push ps p d.1 (λ q h. n q (inr h)))
  where
    other : (q : OperationalIntent) → Has (ps ++ p ∷ []) q → flight q ≢ flight x
    other q h = elim (has_push ps p q h) [ inl k ↦ d.0 q k | inr e ↦ λ w. n x (inl refl) (sym w ∙ ap flight (sym e)) ]

apart_room : (ps : List OperationalIntent) → AreApart ps → AreApart (with_room ps)
apart_room [] d = tt
apart_room (p ∷ ps) d = go (nat_le most_kept (length (p ∷ ps)))
  where
    go : (b : Bool) → AreApart (cond b ps (p ∷ ps))
    go true = d.1
    go false = d

pub apart_news : (ps : List OperationalIntent) (n : News) → AreApart ps → AreApart (after_news ps n)
apart_news ps (Forgotten f) d = apart_filter (λ p. not (is_of f p)) ps d
apart_news ps (Heard p) d = go (find (is_of (flight p)) ps) refl
  where
    at : (old : OperationalIntent) (b : Bool) → AreApart (cond b ps (without (flight p) ps ++ p ∷ []))
    at old true = d
    at old false = apart_push (without (flight p) ps) p (apart_filter (λ q. not (is_of (flight p) q)) ps d) (λ q h. (without_has (flight p) ps q h).1)

    go : (x : Option OperationalIntent) → find (is_of (flight p)) ps ≡ x → AreApart (in_place p ps x)
    go None e = apart_push (with_room ps) p (apart_room ps d) (λ q h. none_of (flight p) ps e q (room_has ps q h))
    go (Some old) e = at old (nat_lt (version p) (version old))

pub found_apart : (ps : List OperationalIntent) (q : OperationalIntent) → AreApart ps → Has ps q → find (is_of (flight q)) ps ≡ Some q
found_apart [] q d h = absurd h
found_apart (p ∷ ps) q d (inl e) = subst (λ (x : OperationalIntent). find (is_of (flight x)) (p ∷ ps) ≡ Some x) e (rw (equal_number (flight p) (flight p) refl) refl)
found_apart (p ∷ ps) q d (inr h) = rw (unequal_number (flight p) (flight q) (λ w. d.0 q h (sym w))) (found_apart ps q d.1 h)

-- ---- each kept pair is the last that was heard of its flight

heard_now : (past : List News) (p : OperationalIntent) → IsLastHeard (past ++ Heard p ∷ []) p
heard_now past p = record { before = past; since = []; is = refl; remembered = λ h. h; newest = λ q h. absurd h }

heard_still : (past : List News) (n : News) (p : OperationalIntent) → IsLastHeard past p → (n ≡ Forgotten (flight p) → ⊥) → ((q : OperationalIntent) → n ≡ Heard q → flight q ≡ flight p → version q < version p) → IsLastHeard (past ++ n ∷ []) p
heard_still past n p h f v =
    record {
      before = h.before;
      since = h.since ++ n ∷ [];
      is = ap (λ (l : List News). l ++ n ∷ []) h.is ∙ append_assoc h.before (Heard p ∷ h.since) (n ∷ []);
      remembered = λ k. elim (has_push h.since n (Forgotten (flight p)) k) [ inl a ↦ h.remembered a | inr e ↦ f e ];
      newest = λ q k w. elim (has_push h.since n (Heard q) k) [ inl a ↦ h.newest q a w | inr e ↦ v q e w ];
    }

pub record Keeps (past : List News) (kept : List OperationalIntent) : Type 0 where
  pub last : (p : OperationalIntent) → Has kept p → IsLastHeard past p
  pub apart : AreApart kept
  pub few : length kept ≤ 4096

-- a pair of another flight, and one of the flight that is newer, are still the last
still_other : (past : List News) (r p : OperationalIntent) → IsLastHeard past p → flight r ≢ flight p → IsLastHeard (past ++ Heard r ∷ []) p
still_other past r p h n = heard_still past (Heard r) p h (λ e. cc) (λ q e w. absurd (n (ap flight (heard_same r q e) ∙ w)))
  where
    heard_same : (x y : OperationalIntent) → Heard x ≡ Heard y → x ≡ y
    heard_same x y e = cc

still_newer : (past : List News) (r p : OperationalIntent) → IsLastHeard past p → version r < version p → IsLastHeard (past ++ Heard r ∷ []) p
still_newer past r p h l = heard_still past (Heard r) p h (λ e. cc) (λ q e w. subst (λ (x : OperationalIntent). version x < version p) (heard_same r q e) l)
  where
    heard_same : (x y : OperationalIntent) → Heard x ≡ Heard y → x ≡ y
    heard_same x y e = cc

still_forgotten : (past : List News) (f : ℕ) (p : OperationalIntent) → IsLastHeard past p → flight p ≢ f → IsLastHeard (past ++ Forgotten f ∷ []) p
still_forgotten past f p h n = heard_still past (Forgotten f) p h (λ e. n (sym (forgotten_same f (flight p) e))) (λ q e w. cc)
  where
    forgotten_same : (a b : ℕ) → Forgotten a ≡ Forgotten b → a ≡ b
    forgotten_same a b e = cc

keeps_then : (past : List News) (kept : List OperationalIntent) (n : News) → Keeps past kept → Keeps (past ++ n ∷ []) (after_news kept n)
keeps_then past kept (Forgotten f) k =
    record {
      last = λ p h. (let w = without_has f kept p h in still_forgotten past f p (k.last p w.0) w.1);
      apart = apart_news kept (Forgotten f) k.apart;
      few = (let l = length-filter_le (λ (p : OperationalIntent). not (is_of f p)) kept in let m = k.few in omega (arith, l, m));
    }
keeps_then past kept (Heard r) k = record { last = λ p h. last p (find (is_of (flight r)) kept) refl h; apart = apart_news kept (Heard r) k.apart; few = few (find (is_of (flight r)) kept) refl }
  where
    pushed : (ps : List OperationalIntent) → ((p : OperationalIntent) → Has ps p → Has kept p × (flight r ≢ flight p)) → (p : OperationalIntent) → Has (ps ++ r ∷ []) p → IsLastHeard (past ++ Heard r ∷ []) p
    pushed ps old p h = elim (has_push ps r p h) [
      | inl a ↦ (let w = old p a in still_other past r p (k.last p w.0) w.1)
      | inr e ↦ subst (IsLastHeard (past ++ Heard r ∷ [])) e (heard_now past r)
    ]

    kept_as : (old p : OperationalIntent) → find (is_of (flight r)) kept ≡ Some old → version r < version old → Has kept p → (b : Bool) → (flight r == flight p) ≡ b → IsLastHeard (past ++ Heard r ∷ []) p
    kept_as old p e l h true q =
        let f : find (is_of (flight r)) kept ≡ Some p = subst (λ x. find (is_of x) kept ≡ Some p) (sym (same_number (flight r) (flight p) q)) (found_apart kept p k.apart h) in
        let same : old ≡ p = some_same old p (sym e ∙ f) in
        still_newer past r p (k.last p h) (subst (λ (x : OperationalIntent). version r < version x) same l)
    kept_as old p e l h false q = still_other past r p (k.last p h) (λ w. not_both (flight r == flight p) (equal_number (flight r) (flight p) w) q)

    at_old : (old p : OperationalIntent) → find (is_of (flight r)) kept ≡ Some old → (b : Bool) → nat_lt (version r) (version old) ≡ b → Has (cond b kept (without (flight r) kept ++ r ∷ [])) p → IsLastHeard (past ++ Heard r ∷ []) p
    at_old old p e true l h = kept_as old p e (less_is (version r) (version old) l) h (flight r == flight p) refl
    at_old old p e false l h = pushed (without (flight r) kept) (λ x i. (let w = without_has (flight r) kept x i in (w.0, λ s. w.1 (sym s)))) p h

    last : (p : OperationalIntent) (x : Option OperationalIntent) → find (is_of (flight r)) kept ≡ x → Has (in_place r kept x) p → IsLastHeard (past ++ Heard r ∷ []) p
    last p None e h = pushed (with_room kept) (λ x i. (let w = room_has kept x i in (w, λ s. none_of (flight r) kept e x w (sym s)))) p h
    last p (Some old) e h = at_old old p e (nat_lt (version r) (version old)) refl h

    few_at : (old : OperationalIntent) → find (is_of (flight r)) kept ≡ Some old → (b : Bool) → length (cond b kept (without (flight r) kept ++ r ∷ [])) ≤ 4096
    few_at old e true = k.few
    few_at old e false =
        let w = find_has (is_of (flight r)) kept old e in
        let l = fewer_without (flight r) kept old w.0 (same_number (flight old) (flight r) w.1) in
        let m = k.few in
        pushed_length (without (flight r) kept) r (omega (arith, l, m))

    few : (x : Option OperationalIntent) → find (is_of (flight r)) kept ≡ x → length (in_place r kept x) ≤ 4096
    few None e = pushed_length (with_room kept) r (fewer_in_room kept k.few)
    few (Some old) e = few_at old e (nat_lt (version r) (version old))

pub keeps_all : (heard : List News) → Keeps heard (kept_pairs heard)
unfolding kept_pairs
keeps_all heard = each_news Keeps keeps_then [] [] heard (record { last = λ p h. absurd h; apart = tt; few = omega arith })

pub kept_is : (f : ℕ) (heard : List News) (p : OperationalIntent) → kept_pair f heard ≡ Some p → Has (kept_pairs heard) p × (flight p ≡ f)
kept_is f heard p e = let w = find_has (is_of f) (kept_pairs heard) p e in (w.0, same_number (flight p) f w.1)

pub kept_was_last : (f : ℕ) (heard : List News) (p : OperationalIntent) → kept_pair f heard ≡ Some p → IsLastHeard heard p
kept_was_last f heard p e = (keeps_all heard).last p (kept_is f heard p e).0

pub kept_was_heard : (f : ℕ) (heard : List News) (p : OperationalIntent) → kept_pair f heard ≡ Some p → Has heard (Heard p)
kept_was_heard f heard p e =
    let w = kept_was_last f heard p e in
    subst (λ (l : List News). Has l (Heard p)) (sym w.is) (has_right w.before (Heard p ∷ w.since) (Heard p) (inl refl))

pub one_of_each : (heard : List News) (p : OperationalIntent) → Has (kept_pairs heard) p → kept_pair (flight p) heard ≡ Some p
one_of_each heard p h = found_apart (kept_pairs heard) p (keeps_all heard).apart h

-- ---- nothing is kept of a flight that was forgotten and wasn't heard of since

abbrev NoneOf : ℕ → List OperationalIntent → Type 0
NoneOf f kept = (p : OperationalIntent) → Has kept p → flight p ≢ f

none_then : (f : ℕ) (kept : List OperationalIntent) (n : News) → NoneOf f kept → ((p : OperationalIntent) → n ≡ Heard p → flight p ≢ f) → NoneOf f (after_news kept n)
none_then f kept (Forgotten g) k other = λ p h. k p (without_has g kept p h).0
none_then f kept (Heard r) k other = λ p h. go p (find (is_of (flight r)) kept) h
  where
    pushed : (ps : List OperationalIntent) → ((p : OperationalIntent) → Has ps p → Has kept p) → (p : OperationalIntent) → Has (ps ++ r ∷ []) p → flight p ≢ f
    pushed ps old p h = elim (has_push ps r p h) [ inl a ↦ k p (old p a) | inr e ↦ subst (λ (x : OperationalIntent). flight x ≢ f) e (other r refl) ]

    at : (p : OperationalIntent) (b : Bool) → Has (cond b kept (without (flight r) kept ++ r ∷ [])) p → flight p ≢ f
    at p true h = k p h
    at p false h = pushed (without (flight r) kept) (λ x i. (without_has (flight r) kept x i).0) p h

    go : (p : OperationalIntent) (x : Option OperationalIntent) → Has (in_place r kept x) p → flight p ≢ f
    go p None h = pushed (with_room kept) (λ x i. room_has kept x i) p h
    go p (Some old) h = at p (nat_lt (version r) (version old)) h

none_from : (f : ℕ) (kept : List OperationalIntent) (ns : List News) → NoneOf f kept → ((p : OperationalIntent) → Has ns (Heard p) → flight p ≢ f) → NoneOf f (kept_from kept ns)
none_from f kept [] k other = k
none_from f kept (n ∷ ns) k other = none_from f (after_news kept n) ns (none_then f kept n k (λ p e. other p (inl e))) (λ p h. other p (inr h))

none_found : (f : ℕ) (kept : List OperationalIntent) → NoneOf f kept → find (is_of f) kept ≡ None
none_found f kept k = go (find (is_of f) kept) refl
  where
    go : (x : Option OperationalIntent) → find (is_of f) kept ≡ x → x ≡ None
    go None e = refl
    go (Some p) e = let w = find_has (is_of f) kept p e in absurd (k p w.0 (same_number (flight p) f w.1))

pub forgotten_is_gone : (f : ℕ) (before since : List News) → ((p : OperationalIntent) → Has since (Heard p) → flight p ≢ f) → kept_pair f (before ++ Forgotten f ∷ since) ≡ None
unfolding kept_pairs
forgotten_is_gone f before since other =
    ap (find (is_of f)) (kept_append [] before (Forgotten f ∷ since))
    ∙ none_found f (kept_from (without f (kept_from [] before)) since) (none_from f (without f (kept_from [] before)) since (λ p h. (without_has f (kept_from [] before) p h).1) other)
