-- How long a pair is kept.
use Rattle.std.proofs.Common.{ℕ, ◌≤◌, ◌<◌, ◌==◌, ◌≡◌, ◌≢◌, ◌⊎◌, inl, inr, Bool, true, false, cond, nat_lt, nat_le, List, [], ◌∷◌, ◌++◌, length, length-append, refl, ap, sym, subst, ◌∙◌, arith, Option, Some, None}
use Rattle.std.specs.List.{find}
use Rattle.std.proofs.lemmas.Bool.Decides.{nat_tests}
use Rattle.std.proofs.lemmas.List.{append_assoc}
use Rattle.uss_event.specs.Pairs.{OperationalIntent}
use Rattle.uss_law_dss.specs.Lists.{Has}
use Rattle.uss_law_dss.proofs.Lists.{has_left, has_right, has_last, has_push}
use Rattle.uss_law_dss.proofs.Tests.{same_number, equal_number, not_less, less_is, not_both, some_same}
use Rattle.uss_event.specs.Heard.{News, kept_pairs, kept_pair, kept_from, after_news, in_place, with_room, without, is_of, most_kept}
use Rattle.uss_event.specs.Heard.News.{Heard, Forgotten}
use Rattle.uss_law_duty.specs.Kept.{AreApart, AreCrowding}
use Rattle.uss_law_duty.proofs.Kept.{flight, version, each_news, kept_append, none_of, without_has, without_round, apart_push, apart_news, found_apart, keeps_all}

-- what is kept of the flight: a pair that isn't older than the version, and after it what was heard since
pub record IsThere (f v : ℕ) (past : List News) (kept : List OperationalIntent) : Type 0 where
  pub front : List OperationalIntent
  pub pair : OperationalIntent
  pub back : List OperationalIntent
  pub is : kept ≡ front ++ pair ∷ back
  pub its_flight : flight pair ≡ f
  pub no_older : v ≤ version pair
  pub since : (q : OperationalIntent) → Has back q → Has past (Heard q)

abbrev IsThereOrCrowded : ℕ → ℕ → List News → List OperationalIntent → Type 0
IsThereOrCrowded f v past kept = IsThere f v past kept ⊎ AreCrowding past f

there_has : (f v : ℕ) (past : List News) (kept : List OperationalIntent) (t : IsThere f v past kept) → Has kept t.pair
there_has f v past kept t = subst (λ (l : List OperationalIntent). Has l t.pair) (sym t.is) (has_right t.front (t.pair ∷ t.back) t.pair (inl refl))

there_found : (f v : ℕ) (past : List News) (kept : List OperationalIntent) → AreApart kept → (t : IsThere f v past kept) → find (is_of f) kept ≡ Some t.pair
there_found f v past kept a t = subst (λ n. find (is_of n) kept ≡ Some t.pair) t.its_flight (found_apart kept t.pair a (there_has f v past kept t))

crowded_still : (f : ℕ) (past : List News) (n : News) → AreCrowding past f → AreCrowding (past ++ n ∷ []) f
crowded_still f past n c = record { pairs = c.pairs; many = c.many; heard = λ q h. has_left past (n ∷ []) (Heard q) (c.heard q h); apart = c.apart; others = c.others }

there_still : (f v : ℕ) (past : List News) (n : News) (kept : List OperationalIntent) → IsThere f v past kept → IsThere f v (past ++ n ∷ []) kept
there_still f v past n kept t =
    record { front = t.front; pair = t.pair; back = t.back; is = t.is; its_flight = t.its_flight; no_older = t.no_older; since = λ q h. has_left past (n ∷ []) (Heard q) (t.since q h) }

-- a pair of another flight is put at the end
there_pushed : (f v : ℕ) (past : List News) (r : OperationalIntent) (kept : List OperationalIntent) → IsThere f v past kept → IsThere f v (past ++ Heard r ∷ []) (kept ++ r ∷ [])
there_pushed f v past r kept t =
    record {
      front = t.front;
      pair = t.pair;
      back = t.back ++ r ∷ [];
      is = ap (λ (l : List OperationalIntent). l ++ r ∷ []) t.is ∙ append_assoc t.front (t.pair ∷ t.back) (r ∷ []);
      its_flight = t.its_flight;
      no_older = t.no_older;
      since = λ q h. elim (has_push t.back r q h) [
        | inl a ↦ has_left past (Heard r ∷ []) (Heard q) (t.since q a)
        | inr e ↦ subst (λ (x : OperationalIntent). Has (past ++ Heard r ∷ []) (Heard x)) e (has_last past (Heard r))
      ];
    }

there_without : (f v g : ℕ) (past : List News) (kept : List OperationalIntent) → IsThere f v past kept → f ≢ g → IsThere f v past (without g kept)
there_without f v g past kept t n =
    record {
      front = without g t.front;
      pair = t.pair;
      back = without g t.back;
      is = ap (without g) t.is ∙ without_round g t.front t.pair t.back (λ w. n (sym t.its_flight ∙ w));
      its_flight = t.its_flight;
      no_older = t.no_older;
      since = λ q h. t.since q (without_has g t.back q h).0;
    }

-- the oldest is forgotten where there is no more room: it is of another flight, or so many were heard since
crowded_out : (f : ℕ) (past : List News) (r p : OperationalIntent) (back : List OperationalIntent) → AreApart (p ∷ back) → flight p ≡ f → 4096 ≤ length (p ∷ back) → ((q : OperationalIntent) → Has (p ∷ back) q → flight q ≢ flight r)
    → ((q : OperationalIntent) → Has back q → Has past (Heard q)) → AreCrowding (past ++ Heard r ∷ []) f
crowded_out f past r p back a e full other since =
    record {
      pairs = back ++ r ∷ [];
      many = (let l = length-append back (r ∷ []) in omega (arith, l, full));
      heard = λ q h. elim (has_push back r q h) [
        | inl k ↦ has_left past (Heard r ∷ []) (Heard q) (since q k)
        | inr w ↦ subst (λ (x : OperationalIntent). Has (past ++ Heard r ∷ []) (Heard x)) w (has_last past (Heard r))
      ];
      apart = apart_push back r a.1 (λ q h. other q (inr h));
      others = λ q h. elim (has_push back r q h) [
        | inl k ↦ λ w. a.0 q k (w ∙ sym e)
        | inr w ↦ λ s. other p (inl refl) (e ∙ sym s ∙ ap flight (sym w))
      ];
    }

with_room_for : (f v : ℕ) (past : List News) (r : OperationalIntent) (front : List OperationalIntent) (p : OperationalIntent) (back : List OperationalIntent) → AreApart (front ++ p ∷ back) → flight p ≡ f → v ≤ version p
    → ((q : OperationalIntent) → Has (front ++ p ∷ back) q → flight q ≢ flight r) → ((q : OperationalIntent) → Has back q → Has past (Heard q)) → IsThereOrCrowded f v (past ++ Heard r ∷ []) (with_room (front ++ p ∷ back) ++ r ∷ [])
with_room_for f v past r [] p back a e l other since = go (nat_le most_kept (length (p ∷ back))) refl
  where
    le_is : (x y : ℕ) → nat_le x y ≡ true → x ≤ y
    le_is x y h = grind (arith, nat_tests)

    go : (b : Bool) → nat_le most_kept (length (p ∷ back)) ≡ b → IsThereOrCrowded f v (past ++ Heard r ∷ []) (cond b back (p ∷ back) ++ r ∷ [])
    go true h = inr (crowded_out f past r p back a e (le_is most_kept (length (p ∷ back)) h) other since)
    go false h = inl (there_pushed f v past r (p ∷ back) (record { front = []; pair = p; back = back; is = refl; its_flight = e; no_older = l; since = since }))
with_room_for f v past r (x ∷ xs) p back a e l other since = go (nat_le most_kept (length ((x ∷ xs) ++ p ∷ back)))
  where
    go : (b : Bool) → IsThereOrCrowded f v (past ++ Heard r ∷ []) (cond b (xs ++ p ∷ back) (x ∷ xs ++ p ∷ back) ++ r ∷ [])
    go true = inl (there_pushed f v past r (xs ++ p ∷ back) (record { front = xs; pair = p; back = back; is = refl; its_flight = e; no_older = l; since = since }))
    go false = inl (there_pushed f v past r (x ∷ xs ++ p ∷ back) (record { front = x ∷ xs; pair = p; back = back; is = refl; its_flight = e; no_older = l; since = since }))

heard_then : (f v : ℕ) (past : List News) (kept : List OperationalIntent) (r : OperationalIntent) → AreApart kept → IsThere f v past kept → IsThereOrCrowded f v (past ++ Heard r ∷ []) (after_news kept (Heard r))
heard_then f v past kept r a t = go (find (is_of (flight r)) kept) refl
  where
    own : (old : OperationalIntent) → find (is_of (flight r)) kept ≡ Some old → nat_lt (version r) (version old) ≡ false → flight r ≡ f → IsThereOrCrowded f v (past ++ Heard r ∷ []) (without (flight r) kept ++ r ∷ [])
    own old e l w =
        let found : find (is_of (flight r)) kept ≡ Some t.pair = subst (λ n. find (is_of n) kept ≡ Some t.pair) (sym w) (there_found f v past kept a t) in
        let same : old ≡ t.pair = some_same old t.pair (sym e ∙ found) in
        let newer : version t.pair ≤ version r = subst (λ (x : OperationalIntent). version x ≤ version r) same (not_less (version r) (version old) l) in
        let n = t.no_older in
        inl (record { front = without (flight r) kept; pair = r; back = []; is = refl; its_flight = w; no_older = omega (arith, newer, n); since = λ q h. absurd h })

    other : flight r ≢ f → IsThereOrCrowded f v (past ++ Heard r ∷ []) (without (flight r) kept ++ r ∷ [])
    other n = inl (there_pushed f v past r (without (flight r) kept) (there_without f v (flight r) past kept t (λ w. n (sym w))))

    by_flight : (old : OperationalIntent) → find (is_of (flight r)) kept ≡ Some old → nat_lt (version r) (version old) ≡ false → (b : Bool) → (flight r == f) ≡ b → IsThereOrCrowded f v (past ++ Heard r ∷ []) (without (flight r) kept ++ r ∷ [])
    by_flight old e l true q = own old e l (same_number (flight r) f q)
    by_flight old e l false q = other (λ w. not_both (flight r == f) (equal_number (flight r) f w) q)

    at_old : (old : OperationalIntent) → find (is_of (flight r)) kept ≡ Some old → (b : Bool) → nat_lt (version r) (version old) ≡ b → IsThereOrCrowded f v (past ++ Heard r ∷ []) (cond b kept (without (flight r) kept ++ r ∷ []))
    at_old old e true l = inl (there_still f v past (Heard r) kept t)
    at_old old e false l = by_flight old e l (flight r == f) refl

    go : (x : Option OperationalIntent) → find (is_of (flight r)) kept ≡ x → IsThereOrCrowded f v (past ++ Heard r ∷ []) (in_place r kept x)
    go None e =
        subst (λ (l : List OperationalIntent). IsThereOrCrowded f v (past ++ Heard r ∷ []) (with_room l ++ r ∷ [])) (sym t.is)
        (with_room_for f v past r t.front t.pair t.back (subst AreApart t.is a) t.its_flight t.no_older (λ q h. none_of (flight r) kept e q (subst (λ (l : List OperationalIntent). Has l q) (sym t.is) h)) t.since)
    go (Some old) e = at_old old e (nat_lt (version r) (version old)) refl

-- as long as the flight isn't forgotten
abbrev Stays : ℕ → ℕ → List News → List OperationalIntent → Type 0
Stays f v past kept = AreApart kept × ((Has past (Forgotten f) → ⊥) → IsThereOrCrowded f v past kept)

stays_then : (f v : ℕ) (past : List News) (kept : List OperationalIntent) (n : News) → Stays f v past kept → Stays f v (past ++ n ∷ []) (after_news kept n)
stays_then f v past kept n s = (apart_news kept n s.0, λ never. go n never (s.1 (λ h. never (has_left past (n ∷ []) (Forgotten f) h))))
  where
    there : (m : News) → (Has (past ++ m ∷ []) (Forgotten f) → ⊥) → IsThere f v past kept → IsThereOrCrowded f v (past ++ m ∷ []) (after_news kept m)
    there (Heard r) never t = heard_then f v past kept r s.0 t
    there (Forgotten g) never t =
        inl (there_still f v past (Forgotten g) (without g kept) (there_without f v g past kept t (λ w. never (subst (λ x. Has (past ++ Forgotten g ∷ []) (Forgotten x)) (sym w) (has_last past (Forgotten g))))))

    go : (m : News) → (Has (past ++ m ∷ []) (Forgotten f) → ⊥) → IsThereOrCrowded f v past kept → IsThereOrCrowded f v (past ++ m ∷ []) (after_news kept m)
    go m never (inl t) = there m never t
    go m never (inr c) = inr (crowded_still f past m c)

-- what is heard is kept, unless something newer is
pub heard_is_taken : (heard : List News) (p : OperationalIntent)
    → (q : OperationalIntent) × (kept_pair (flight p) (heard ++ Heard p ∷ []) ≡ Some q) × ((q ≡ p) ⊎ (version p < version q))
unfolding kept_pairs
heard_is_taken heard p = (w.0, ap (find (is_of (flight p))) (kept_append [] heard (Heard p ∷ [])) ∙ w.1, w.2)
  where
    kept : List OperationalIntent
    kept = kept_from [] heard

    f : ℕ
    f = flight p

    apart : AreApart (after_news kept (Heard p))
    apart = apart_news kept (Heard p) (keeps_all heard).apart

    new : (ps : List OperationalIntent) → AreApart (ps ++ p ∷ []) → (q : OperationalIntent) × (find (is_of f) (ps ++ p ∷ []) ≡ Some q) × ((q ≡ p) ⊎ (version p < version q))
    new ps a = (p, found_apart (ps ++ p ∷ []) p a (has_last ps p), inl refl)

    at : (old : OperationalIntent) → find (is_of f) kept ≡ Some old → (b : Bool) → nat_lt (version p) (version old) ≡ b → AreApart (cond b kept (without f kept ++ p ∷ []))
        → (q : OperationalIntent) × (find (is_of f) (cond b kept (without f kept ++ p ∷ [])) ≡ Some q) × ((q ≡ p) ⊎ (version p < version q))
    at old e true l a = (old, e, inr (less_is (version p) (version old) l))
    at old e false l a = new (without f kept) a

    go : (x : Option OperationalIntent) → find (is_of f) kept ≡ x → AreApart (in_place p kept x) → (q : OperationalIntent) × (find (is_of f) (in_place p kept x) ≡ Some q) × ((q ≡ p) ⊎ (version p < version q))
    go None e a = new (with_room kept) a
    go (Some old) e a = at old e (nat_lt (version p) (version old)) refl a

    w : (q : OperationalIntent) × (find (is_of f) (after_news kept (Heard p)) ≡ Some q) × ((q ≡ p) ⊎ (version p < version q))
    w = go (find (is_of f) kept) refl apart

-- it is put at the end
taken_there : (kept : List OperationalIntent) (p : OperationalIntent) → find (is_of (flight p)) (after_news kept (Heard p)) ≡ Some p → IsThere (flight p) (version p) [] (after_news kept (Heard p))
taken_there kept p e = go (find (is_of (flight p)) kept) refl e
  where
    new : (ps : List OperationalIntent) → IsThere (flight p) (version p) [] (ps ++ p ∷ [])
    new ps = record { front = ps; pair = p; back = []; is = refl; its_flight = refl; no_older = omega arith; since = λ q h. absurd h }

    at : (old : OperationalIntent) → find (is_of (flight p)) kept ≡ Some old → (b : Bool) → nat_lt (version p) (version old) ≡ b → find (is_of (flight p)) (cond b kept (without (flight p) kept ++ p ∷ [])) ≡ Some p
        → IsThere (flight p) (version p) [] (cond b kept (without (flight p) kept ++ p ∷ []))
    at old q true l k =
        let same : old ≡ p = some_same old p (sym q ∙ k) in
        let less = less_is (version p) (version old) l in
        let equal : version old ≡ version p = ap version same in
        absurd (omega (arith, less, equal))
    at old q false l k = new (without (flight p) kept)

    go : (x : Option OperationalIntent) → find (is_of (flight p)) kept ≡ x → find (is_of (flight p)) (in_place p kept x) ≡ Some p → IsThere (flight p) (version p) [] (in_place p kept x)
    go None q k = new (with_room kept)
    go (Some old) q k = at old q (nat_lt (version p) (version old)) refl k

-- a pair that was kept when it was heard stays, or a newer one, until its flight is forgotten or so many others were heard
pub kept_until_crowded : (before since : List News) (p : OperationalIntent) → kept_pair (flight p) (before ++ Heard p ∷ []) ≡ Some p → (Has since (Forgotten (flight p)) → ⊥)
    → ((q : OperationalIntent) × (kept_pair (flight p) (before ++ Heard p ∷ since) ≡ Some q) × (version p ≤ version q)) ⊎ AreCrowding since (flight p)
unfolding kept_pairs
kept_until_crowded before since p taken never = elim (s.1 never) [ inl t ↦ inl (t.pair, same ∙ there_found (flight p) (version p) since last s.0 t, t.no_older) | inr c ↦ inr c ]
  where
    kept : List OperationalIntent
    kept = kept_from [] before

    first : List OperationalIntent
    first = after_news kept (Heard p)

    last : List OperationalIntent
    last = kept_from first since

    at_first : Stays (flight p) (version p) [] first
    at_first =
        (apart_news kept (Heard p) (keeps_all before).apart, λ none. inl (taken_there kept p (ap (find (is_of (flight p))) (sym (kept_append [] before (Heard p ∷ []))) ∙ taken)))

    s : Stays (flight p) (version p) since last
    s = each_news (Stays (flight p) (version p)) (stays_then (flight p) (version p)) [] first since at_first

    same : kept_pair (flight p) (before ++ Heard p ∷ since) ≡ find (is_of (flight p)) last
    same = ap (find (is_of (flight p))) (kept_append [] before (Heard p ∷ since))
