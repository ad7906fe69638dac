-- The attempts of a book stay what they are, and each of a legal book is one of its job's alternatives.
use Rattle.std.proofs.Common.{ℕ, ◌<◌, ◌==◌, List, [], ◌∷◌, ◌++◌, ◌≡◌, length, refl, arith, Option, Some, None, slice_get, zero, suc}
use Rattle.uss_event.specs.declared.entries.Owner.{Owner}
use Rattle.uss_event.specs.declared.entries.Entry.{Entry}
use Rattle.uss_event.specs.declared.entries.Entry.TheVariants as Enters
use Rattle.uss_law_dss.specs.Lists.{Has}
use Rattle.uss_law_dss.proofs.Lists.{find_has}
use Rattle.uss_law_dss.proofs.Tests.{same_number, equal_number}
use Rattle.uss_event.specs.declared.entries.Opening.{Opening}
use Rattle.uss_event.specs.declared.entries.Trial.{Trial}
use Rattle.uss_law_book.specs.Lists.{owner_of, trials}
use Rattle.uss_law_book.specs.Contents.{opening_of, trial_of}
use Rattle.uss_law_book.specs.Attempts.{Attempted, attempt_of, by_trial, by_opening, by_wish, attempted}
use Rattle.uss_law_book.proofs.Finds.{find_found, find_kept}
use Rattle.uss_law_book.proofs.Entries.{trials_append, opening_kept, NewTrial}

pub owner_kept : (xs ys : List Entry) (o : Owner) → owner_of xs ≡ Some o → owner_of (xs ++ ys) ≡ Some o
owner_kept [] ys o h = cc
owner_kept (Enters.Owner owner ∷ xs) ys o h = h
owner_kept (_ ∷ xs) ys o h = cc

pub trial_kept : (xs ys : List Entry) (tag : ℕ) (t : Trial) → trial_of tag xs ≡ Some t → trial_of tag (xs ++ ys) ≡ Some t
unfolding trial_of
trial_kept xs ys tag t h = rw (trials_append xs ys) (find_kept (λ (x : Trial). x.tag == tag) (trials xs) (trials ys) t h)

pub trial_found : (book : List Entry) (tag : ℕ) (t : Trial) → Has (trials book) t → t.tag ≡ tag → (u : Trial) × (trial_of tag book ≡ Some u)
unfolding trial_of
trial_found book tag t h e = find_found (λ (x : Trial). x.tag == tag) (trials book) t h (equal_number t.tag tag e)

pub trial_has : (book : List Entry) (tag : ℕ) (t : Trial) → trial_of tag book ≡ Some t → Has (trials book) t × (t.tag ≡ tag)
unfolding trial_of
trial_has book tag t h = let f = find_has (λ (x : Trial). x.tag == tag) (trials book) t h in (f.0, same_number t.tag tag f.1)

-- an attempt in its parts
pub record Parts (tag : ℕ) (book : List Entry) (a : Attempted) : Type 0 where
  pub owner : Owner
  pub trial : Trial
  pub opening : Opening
  pub has_owner : owner_of book ≡ Some owner
  pub has_trial : trial_of tag book ≡ Some trial
  pub has_opening : opening_of trial.job book ≡ Some opening
  pub is : by_wish owner opening trial opening.ask.wish ≡ Some a

pub parts : (tag : ℕ) (book : List Entry) (a : Attempted) → attempt_of tag book ≡ Some a → Parts tag book a
unfolding attempt_of
parts tag book a h = at_trial (trial_of tag book) refl h
  where
    at_opening : (t : Trial) → trial_of tag book ≡ Some t → (w : Option Owner) → owner_of book ≡ w → (o : Option Opening) → opening_of t.job book ≡ o → by_opening w t o ≡ Some a → Parts tag book a
    at_opening t e None f o g k = cc
    at_opening t e (Some w) f None g k = cc
    at_opening t e (Some w) f (Some o) g k = record { owner = w; trial = t; opening = o; has_owner = f; has_trial = e; has_opening = g; is = k }

    at_trial : (o : Option Trial) → trial_of tag book ≡ o → by_trial book o ≡ Some a → Parts tag book a
    at_trial None e k = cc
    at_trial (Some t) e k = at_opening t e (owner_of book) refl (opening_of t.job book) refl k

pub from_parts : (tag : ℕ) (book : List Entry) (a : Attempted) → Parts tag book a → attempt_of tag book ≡ Some a
unfolding attempt_of
from_parts tag book a p = rw (p.has_trial, p.has_owner, p.has_opening) p.is

pub attempt_kept : (xs ys : List Entry) (tag : ℕ) (a : Attempted) → attempt_of tag xs ≡ Some a → attempt_of tag (xs ++ ys) ≡ Some a
attempt_kept xs ys tag a h =
    let p = parts tag xs a h in
    from_parts tag (xs ++ ys) a (record {
      owner = p.owner;
      trial = p.trial;
      opening = p.opening;
      has_owner = owner_kept xs ys p.owner p.has_owner;
      has_trial = trial_kept xs ys tag p.trial p.has_trial;
      has_opening = opening_kept xs ys p.trial.job p.opening p.has_opening;
      is = p.is;
    })

item_at : {X : Type 0} (xs : List X) (i : ℕ) → i < length xs → (x : X) × (slice_get xs i ≡ Some x)
item_at [] i h = absurd (omega arith)
item_at (x ∷ xs) zero h = (x, refl)
item_at (x ∷ xs) (suc i) h = item_at xs i (omega arith)

-- a new attempt is one of its job's alternatives
pub new_attempt : (book : List Entry) (e : Entry) (t : Trial) (o : Owner) → owner_of book ≡ Some o → NewTrial book t → trial_of t.tag (book ++ e ∷ []) ≡ Some t
    → (a : Attempted) × (attempt_of t.tag (book ++ e ∷ []) ≡ Some a)
new_attempt book e t o w n f =
    let p = item_at n.proposals t.alternative n.one_of in
    let a = attempted o n.opening t n.to n.priority p.0 in
    let is : by_wish o n.opening t n.opening.ask.wish ≡ Some a = rw (n.put, p.1) refl in (
      a,
      from_parts t.tag (book ++ e ∷ []) a (record {
        owner = o;
        trial = t;
        opening = n.opening;
        has_owner = owner_kept book (e ∷ []) o w;
        has_trial = f;
        has_opening = opening_kept book (e ∷ []) t.job n.opening n.opened;
        is = is;
      }),
    )
