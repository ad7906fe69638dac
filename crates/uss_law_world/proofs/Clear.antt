-- Nothing that is recorded stands against an attempt whose key has what the discovery service asks for.
use Rattle.std.proofs.Common.{ℕ, ◌≡◌, ◌≢◌, ◌==◌, nat_lt, Bool, true, false, not, cond, ◌&&◌, List, refl, ap, sym, subst, ◌∙◌, Option, Some, None, IfSome}
use Rattle.std.specs.List.{list_any}
use Rattle.std.specs.Option.{option_and_then}
use Rattle.uss_vol4.specs.Volume.{Volume4D, ListsShare}
use Rattle.uss_vol4.specs.Sharing.{shares, any_shares}
use Rattle.uss_vol4.proofs.Share.{shares_tells, any_shares_tells}
use Rattle.uss_intent.specs.declared.records.State.{State}
use Rattle.uss_intent.specs.declared.records.State.TheVariants.{Accepted, Activated, Nonconforming, Contingent}
use Rattle.uss_intent.specs.declared.records.Recorded.{Recorded}
use Rattle.uss_intent.specs.States.{is_strategic}
use Rattle.uss_intent.specs.Numbers.{is_one_of}
use Rattle.uss_event.specs.Pairs.{OperationalIntent}
use Rattle.uss_event.specs.Verdicts.{verdict, forbidden, higher, meet, is_activated, is_excepted}
use Rattle.uss_event.specs.declared.rules.Verdict.TheVariants.{Clear, EqualForbidden, HigherStands}
use Rattle.uss_event.specs.declared.details.Candidate.{Candidate}
use Rattle.uss_event.specs.declared.entries.Owner.{Owner}
use Rattle.uss_law_dss.specs.Lists.{Has}
use Rattle.uss_law_dss.specs.Service.{relevant, in_key, has_ovn, recorded_of}
use Rattle.uss_law_dss.proofs.Lists.{list_any_has, any_true, has_filtered, find_has}
use Rattle.uss_law_dss.proofs.Tests.{both, and_true, not_both, equal_number, unequal_number, less_test, same_bytes}
use Rattle.uss_law_book.specs.Attempts.{Attempted, attempt_of, extents_of, recorded_as}
use Rattle.uss_law_duty.specs.Entered.{candidate_of}
use Rattle.uss_law_world.specs.World.{World, book_of}
use Rattle.uss_law_world.specs.Free.{AreSuppliers}
use Rattle.uss_law_world.specs.Claims.{Forbidden, Higher, IsExcepted, IsIntentOfRecorded, NothingStandsAgainst}
use Rattle.uss_law_world.proofs.Facts.{IsPairLanded, RecordedFrom, Facts}
use Rattle.uss_law_world.proofs.Parts.{landed_as, intent_is}

-- sharing goes both ways
shares_sym : (a b : Volume4D) → shares a b ≡ true → shares b a ≡ true
shares_sym a b h =
    let s = (shares_tells a b).0 h in
    (shares_tells b a).1 (record { point = s.point; grid = s.grid; altitude = s.altitude; moment = s.moment; positive = s.positive; in_first = s.in_second; in_second = s.in_first })

pub any_shares_sym : (xs ys : List Volume4D) → any_shares xs ys ≡ true → any_shares ys xs ≡ true
unfolding any_shares
any_shares_sym xs ys h =
    let a = list_any_has (λ v. list_any (shares v) ys) xs h in
    let b = list_any_has (shares a.0) ys a.2 in
    any_true (λ v. list_any (shares v) xs) ys b.0 b.1 (any_true (shares b.0) xs a.0 a.1 (shares_sym a.0 b.0 b.2))

pub lists_share_sym : (xs ys : List Volume4D) → ListsShare xs ys → ListsShare ys xs
lists_share_sym xs ys h = (any_shares_tells ys xs).0 (any_shares_sym xs ys ((any_shares_tells xs ys).1 h))

pub forbidden_sym : (table : List ℕ) (a b : Attempted) → Forbidden table a b → Forbidden table b a
forbidden_sym table a b f =
    record {
      first = f.second;
      second = f.first;
      flights = λ e. f.flights (sym e);
      priority = sym f.priority;
      listed = subst (λ n. is_one_of n table ≡ true) f.priority f.listed;
      share = lists_share_sym (extents_of a) (extents_of b) f.share;
    }

-- what a clear verdict says
pub record IsClear (table : List ℕ) (c : Candidate) (p : OperationalIntent) (previous : Option OperationalIntent) : Type 0 where
  pub unforbidden : forbidden table c p ≡ false
  pub no_higher : higher c p previous ≡ false

pub is_clear : (table : List ℕ) (c : Candidate) (p : OperationalIntent) (previous : Option OperationalIntent) → verdict table c p previous ≡ Clear → IsClear table c p previous
is_clear table c p previous h = go (forbidden table c p) refl (higher c p previous) refl h
  where
    go : (x : Bool) → forbidden table c p ≡ x → (y : Bool) → higher c p previous ≡ y → cond x EqualForbidden (cond y HigherStands Clear) ≡ Clear → IsClear table c p previous
    go true e y f k = cc
    go false e true f k = cc
    go false e false f k = record { unforbidden = e; no_higher = f }

meets : (a b : Attempted) (ovn : List ℕ) (version : ℕ) → is_strategic a.state ≡ true → is_strategic b.state ≡ true → a.flight ≢ b.flight → ListsShare (extents_of a) (extents_of b)
    → meet (candidate_of a) (recorded_as b ovn version) ≡ true
meets a b ovn version s t d h =
    and_true (is_strategic a.state && is_strategic b.state) (not (a.flight == b.flight) && any_shares (extents_of a) (extents_of b))
    (and_true (is_strategic a.state) (is_strategic b.state) s t)
    (and_true (not (a.flight == b.flight)) (any_shares (extents_of a) (extents_of b)) (ap not (unequal_number a.flight b.flight d)) ((any_shares_tells (extents_of a) (extents_of b)).1 h))

forbidden_is : (table : List ℕ) (a b : Attempted) (ovn : List ℕ) (version : ℕ) → Forbidden table a b → forbidden table (candidate_of a) (recorded_as b ovn version) ≡ true
forbidden_is table a b ovn version f =
    and_true (meet (candidate_of a) (recorded_as b ovn version)) ((a.details.priority == b.details.priority) && is_one_of a.details.priority table)
    (meets a b ovn version f.first f.second f.flights f.share)
    (and_true (a.details.priority == b.details.priority) (is_one_of a.details.priority table) (equal_number a.details.priority b.details.priority f.priority) f.listed)

higher_is : (a b : Attempted) (ovn : List ℕ) (version : ℕ) (replaced : Option Attempted) (previous : Option OperationalIntent) → Higher replaced a b
    → is_excepted (candidate_of a) (recorded_as b ovn version) previous ≡ false → higher (candidate_of a) (recorded_as b ovn version) previous ≡ true
higher_is a b ovn version replaced previous f e =
    and_true (meet (candidate_of a) (recorded_as b ovn version)) (nat_lt a.details.priority b.details.priority && not (is_excepted (candidate_of a) (recorded_as b ovn version) previous))
    (meets a b ovn version f.first f.second f.flights f.share)
    (and_true (nat_lt a.details.priority b.details.priority) (not (is_excepted (candidate_of a) (recorded_as b ovn version) previous)) (less_test a.details.priority b.details.priority f.less) (ap not e))

activated_is : (s : State) → is_activated s ≡ true → s ≡ Activated
activated_is Accepted h = cc
activated_is Activated h = refl
activated_is Nonconforming h = cc
activated_is Contingent h = cc

ovn_of_key : (o : Option (List ℕ)) (p : List ℕ) → has_ovn o p ≡ true → o ≡ Some p
ovn_of_key None p h = cc
ovn_of_key (Some q) p h = ap Some (same_bytes q p h)

made_ovn : {w : World} (p : OperationalIntent) → (m : IsPairLanded w p) → Some m.ovn ≡ p.reference.ovn
made_ovn p m = sym (ap (λ (z : OperationalIntent). z.reference.ovn) m.is)

made_clear : (table : List ℕ) (x : Candidate) → {w : World} (p : OperationalIntent) → (m : IsPairLanded w p) → (previous : Option OperationalIntent) → verdict table x p previous ≡ Clear
    → verdict table x (recorded_as m.attempt m.ovn m.version) previous ≡ Clear
made_clear table x p m previous h = subst (λ z. verdict table x z previous ≡ Clear) m.is h

-- an attempt is clear against another, by what it changes
pub record IsClearOf (table : List ℕ) (w : World) (a b : Attempted) : Type 0 where
  pub ovn : List ℕ
  pub version : ℕ
  pub previous : Option OperationalIntent
  pub previous_made : IfSome previous (IsPairLanded w)
  pub previous_is : option_and_then (λ (p : OperationalIntent). p.reference.ovn) previous ≡ a.previous
  pub clear : IsClear table (candidate_of a) (recorded_as b ovn version) previous

module _ (table : List ℕ) (owners : List Owner) (w : World) (names : AreSuppliers table owners) (j : Facts table owners w) where
  -- what the discovery service asked for
  abbrev pub IsKeyed : Attempted → Type 0
  IsKeyed a = is_strategic a.state ≡ true → (r : Recorded) → Has (relevant a.flight (extents_of a) w.service) r → in_key a.key r.reference ≡ true

  pub key_clear : (s tag : ℕ) (a : Attempted) → attempt_of tag (book_of s w) ≡ Some a → IsKeyed a → (q : Recorded) → Has w.service.references q → (f : RecordedFrom w q)
      → is_strategic a.state ≡ true → a.flight ≢ f.attempt.flight → ListsShare (extents_of a) (extents_of f.attempt) → IsClearOf table w a f.attempt
  key_clear s tag a found keyed q h f strategic d share =
      let other : (q.reference.flight == a.flight) ≡ false = unequal_number q.reference.flight a.flight (λ e. d (sym e ∙ f.flight)) in
      let back : any_shares (extents_of f.attempt) (extents_of a) ≡ true = any_shares_sym (extents_of a) (extents_of f.attempt) ((any_shares_tells (extents_of a) (extents_of f.attempt)).1 share) in
      let sh : any_shares q.extents (extents_of a) ≡ true = subst (λ (z : List Volume4D). any_shares z (extents_of a) ≡ true) (sym f.extents) back in
      let rel : Has (relevant a.flight (extents_of a) w.service) q =
      has_filtered (λ r. not (r.reference.flight == a.flight) && any_shares r.extents (extents_of a)) w.service.references q h
      (and_true (not (q.reference.flight == a.flight)) (any_shares q.extents (extents_of a)) (ap not other) sh) in
      let o = list_any_has (λ x. has_ovn q.reference.ovn x) a.key (keyed strategic q rel) in
      let c = j.keys s tag a found strategic o.0 o.1 in
      let m = c.made in
      let e : Some m.ovn ≡ Some o.0 = made_ovn c.pair m ∙ c.ovn_is in
      let n : q.reference.ovn ≡ Some m.ovn = ovn_of_key q.reference.ovn o.0 o.2 ∙ sym e in
      let same : f.attempt ≡ m.attempt = landed_as table owners w names j q h f m.s m.attempt m.ovn m.version m.found m.landing n in
      let v = made_clear table (candidate_of a) c.pair m c.previous c.clear in
      record {
        ovn = m.ovn;
        version = m.version;
        previous = c.previous;
        previous_made = c.previous_made;
        previous_is = c.previous_is;
        clear = is_clear table (candidate_of a) (recorded_as f.attempt m.ovn m.version) c.previous
            (subst (λ (z : Attempted). verdict table (candidate_of a) (recorded_as z m.ovn m.version) c.previous ≡ Clear) (sym same) v);
      }

  -- so it isn't forbidden
  pub not_forbidden : (s tag : ℕ) (a : Attempted) → attempt_of tag (book_of s w) ≡ Some a → IsKeyed a → (q : Recorded) → Has w.service.references q → (f : RecordedFrom w q) → Forbidden table a f.attempt → ⊥
  not_forbidden s tag a found keyed q h f x =
      let c = key_clear s tag a found keyed q h f x.first x.flights x.share in
      not_both (forbidden table (candidate_of a) (recorded_as f.attempt c.ovn c.version)) (forbidden_is table a f.attempt c.ovn c.version x) c.clear.unforbidden

  -- what the attempt changes is what it was held against
  no_exception : (a b : Attempted) (replaced : Option Attempted) → (c : IsClearOf table w a b) → (r : Option Recorded) → ((q : Recorded) → r ≡ Some q → Has w.service.references q)
      → ((q : Recorded) → r ≡ Some q → q.reference.ovn ≡ a.previous) → (r ≡ None → a.previous ≡ None) → IsIntentOfRecorded w r replaced → (IsExcepted replaced a b → ⊥)
      → is_excepted (candidate_of a) (recorded_as b c.ovn c.version) c.previous ≡ false
  no_exception a b replaced c r there was none i u = go c.previous refl c.previous_made c.previous_is
    where
      at_pair : (p : OperationalIntent) → (m : IsPairLanded w p) → (q : Recorded) → r ≡ Some q → (x : Option Attempted) → replaced ≡ x → IsIntentOfRecorded w (Some q) x → Some m.ovn ≡ a.previous
          → is_excepted (candidate_of a) (recorded_as b c.ovn c.version) (Some p) ≡ false
      at_pair p m q e None y k o = absurd k
      at_pair p m q e (Some z) y k o =
          let f = j.recorded q (there q e) in
          let same : f.attempt ≡ m.attempt = landed_as table owners w names j q (there q e) f m.s m.attempt m.ovn m.version m.found m.landing (was q e ∙ sym o) in
          let is : z ≡ m.attempt = sym (intent_is table owners w names j q z f k) ∙ same in
          decide (is_excepted (candidate_of a) (recorded_as b c.ovn c.version) (Some p)) refl is
        where
          decide : (x : Bool) → is_excepted (candidate_of a) (recorded_as b c.ovn c.version) (Some p) ≡ x → z ≡ m.attempt → x ≡ false
          decide false h is = refl
          decide true h is =
              let h' : is_excepted (candidate_of a) (recorded_as b c.ovn c.version) (Some (recorded_as m.attempt m.ovn m.version)) ≡ true =
              subst (λ v. is_excepted (candidate_of a) (recorded_as b c.ovn c.version) (Some v) ≡ true) m.is h in
              let t = both (is_activated a.state && is_activated m.attempt.state) (any_shares (extents_of m.attempt) (extents_of b)) h' in
              let t' = both (is_activated a.state) (is_activated m.attempt.state) t.0 in
              let x : IsExcepted (Some m.attempt) a b = (activated_is a.state t'.0, activated_is m.attempt.state t'.1, (any_shares_tells (extents_of m.attempt) (extents_of b)).0 t.1) in
              absurd (u (subst (λ v. IsExcepted v a b) (sym (y ∙ ap Some is)) x))

      at_made : (p : OperationalIntent) → (m : IsPairLanded w p) → Some m.ovn ≡ a.previous → (x : Option Recorded) → r ≡ x → is_excepted (candidate_of a) (recorded_as b c.ovn c.version) (Some p) ≡ false
      at_made p m o None e = let n : Some m.ovn ≡ None = o ∙ none e in cc
      at_made p m o (Some q) e = at_pair p m q e replaced refl (subst (λ v. IsIntentOfRecorded w v replaced) e i) o

      go : (x : Option OperationalIntent) → c.previous ≡ x → IfSome x (IsPairLanded w) → option_and_then (λ (p : OperationalIntent). p.reference.ovn) x ≡ a.previous
          → is_excepted (candidate_of a) (recorded_as b c.ovn c.version) x ≡ false
      go None e m k = refl
      go (Some p) e m k = at_made p m (sym (ap (λ (z : OperationalIntent). z.reference.ovn) m.is) ∙ k) r refl

  -- nothing stands against it
  pub stands_clear : (s tag : ℕ) (a : Attempted) → attempt_of tag (book_of s w) ≡ Some a → IsKeyed a → ((q : Recorded) → recorded_of a.flight w.service ≡ Some q → q.reference.ovn ≡ a.previous)
      → (recorded_of a.flight w.service ≡ None → a.previous ≡ None) → NothingStandsAgainst table w a
  stands_clear s tag a found keyed was none q b replaced h i p =
      let f = j.recorded q h in
      let e : f.attempt ≡ b = intent_is table owners w names j q b f i in (
        λ x. not_forbidden s tag a found keyed q h f (subst (Forbidden table a) (sym e) x),
        λ x. (let y : Higher replaced a f.attempt = subst (Higher replaced a) (sym e) x in
            let c = key_clear s tag a found keyed q h f y.first y.flights y.share in
            let there : (r : Recorded) → recorded_of a.flight w.service ≡ Some r → Has w.service.references r = λ r k. (find_has (λ r. r.reference.flight == a.flight) w.service.references r k).0 in
            let u = no_exception a f.attempt replaced c (recorded_of a.flight w.service) there was none p y.unexcepted in
            not_both (higher (candidate_of a) (recorded_as f.attempt c.ovn c.version) c.previous) (higher_is a f.attempt c.ovn c.version replaced c.previous y u) c.clear.no_higher),
      )
