-- At first nobody knows anything, and each book says whose it is.
use Rattle.std.proofs.Common.{ℕ, ◌≤◌, ◌<◌, ◌+◌, ◌≡◌, ◌&&◌, true, nat_le, List, [], ◌∷◌, length, refl, sym, subst, arith, Option, Some, None}
use Rattle.std.specs.List.{list_all}
use Rattle.std.proofs.lemmas.Bool.Decides.{nat_tests}
use Rattle.uss_event.specs.Rules.{is_below, ascend, is_table}
use Rattle.uss_intent.specs.Texts.{is_name, is_name_byte}
use Rattle.uss_intent.specs.States.{is_strategic}
use Rattle.uss_event.specs.declared.entries.Owner.{Owner}
use Rattle.uss_event.specs.declared.entries.Entry.TheVariants as Enters
use Rattle.uss_law_dss.specs.Lists.{Has}
use Rattle.uss_law_dss.proofs.Lists.{has_map}
use Rattle.uss_law_dss.proofs.Tests.{both, less_is}
use Rattle.uss_law_dss.proofs.EachOrderly.{empty_orderly}
use Rattle.uss_law_book.specs.Lists.{holdings, endings}
use Rattle.uss_law_book.specs.Attempts.{Attempted, attempt_of}
use Rattle.uss_law_book.specs.Coding.{IsOwner, journal_length}
use Rattle.uss_law_book.specs.Reserve.{need, reserved}
use Rattle.uss_law_book.specs.Legal.{IsLegal}
use Rattle.uss_law_book.proofs.Attempts.{parts, trial_has}
use Rattle.uss_event.specs.Heard.News.{Heard}
use Rattle.uss_law_world.specs.World.{Supplier, World, supplier_in, book_in, heard_in, new_supplier, start}
use Rattle.uss_law_world.specs.Free.{AreSuppliers}
use Rattle.uss_law_world.specs.Invariants.{HasLegalBook}
use Rattle.uss_law_world.proofs.Lookups.{has_found}
use Rattle.uss_law_world.proofs.Facts.{HasLanding, IsPairLanded, IsClearOfPair, EndingShows, Facts}

-- a table of rules has at most 1,001 priorities
le_is : (a b : ℕ) → nat_le a b ≡ true → a ≤ b
le_is a b h = grind (arith, nat_tests)

ascending : (n : ℕ) (ns : List ℕ) → ascend (n ∷ ns) ≡ true → list_all (λ p. nat_le p 1000) (n ∷ ns) ≡ true → n + length (n ∷ ns) ≤ 1001
ascending n [] a b = let x = le_is n 1000 (both (nat_le n 1000) true b).0 in omega (arith, x)
ascending n (m ∷ ns) a b =
    let x = both (is_below n (m ∷ ns)) (ascend (m ∷ ns)) a in
    let y = both (nat_le n 1000) (list_all (λ p. nat_le p 1000) (m ∷ ns)) b in
    let z : m + length (m ∷ ns) ≤ 1001 = ascending m ns x.1 y.1 in
    let l : n < m = less_is n m x.0 in
    omega (arith, z, l)

few_rules : (table : List ℕ) → is_table table ≡ true → length table ≤ 1001
few_rules [] h = omega arith
few_rules (n ∷ ns) h = let x = both (ascend (n ∷ ns)) (list_all (λ p. nat_le p 1000) (n ∷ ns)) h in let y = ascending n ns x.0 x.1 in omega (arith, y)

short_name : (name : List ℕ) → is_name name ≡ true → length name ≤ 64
short_name name h =
    let x = both (nat_le 1 (length name) && nat_le (length name) 64) (list_all is_name_byte name) h in
    le_is (length name) 64 (both (nat_le 1 (length name)) (nat_le (length name) 64) x.0).1

room_at_first : reserved [] ≤ 536870912
unfolding reserved need journal_length
room_at_first = omega arith

room_after_owner : (o : Owner) → IsOwner o → reserved (Enters.Owner o ∷ []) ≤ 536870912
unfolding reserved need journal_length
room_after_owner o v =
    let n = short_name o.name v.name in
    let t = few_rules o.table v.table in
    let b = v.short_base in
    omega (arith, n, t, b)

pub new_book_is_legal : (o : Owner) → IsOwner o → IsLegal (Enters.Owner o ∷ [])
new_book_is_legal o v = (record { first = refl; coding = v; due = tt; room_before = room_at_first; room_after = room_after_owner o v }, tt)

module _ (table : List ℕ) (owners : List Owner) (names : AreSuppliers table owners) where
  abbrev w : World
  w = start owners

  -- what is there of a new supplier
  new_of : (s : ℕ) (x : Supplier) → supplier_in s w.suppliers ≡ Some x → (o : Owner) × Has owners o × (new_supplier o ≡ x)
  new_of s x e = let f = has_found s w.suppliers x e in has_map new_supplier owners x f.0

  at_new : (s : ℕ) (P : Option Supplier → Type 0) → P None → ((o : Owner) → P (Some (new_supplier o))) → P (supplier_in s w.suppliers)
  at_new s P none some = go (supplier_in s w.suppliers) refl
    where
      go : (y : Option Supplier) → supplier_in s w.suppliers ≡ y → P (supplier_in s w.suppliers)
      go None e = subst P (sym e) none
      go (Some x) e = let n = new_of s x e in subst P (sym e) (subst (λ z. P (Some z)) n.2 (some n.0))

  sound : (s : ℕ) (x : Supplier) → supplier_in s w.suppliers ≡ Some x → HasLegalBook owners x
  sound s x e =
      let n = new_of s x e in
      let k : HasLegalBook owners (new_supplier n.0) = record { legal = new_book_is_legal n.0 (names.valid n.0 n.1); own = refl; one = n.1 } in
      subst (HasLegalBook owners) n.2 k

  no_attempt : (tag : ℕ) (o : Owner) (a : Attempted) → attempt_of tag (Enters.Owner o ∷ []) ≡ Some a → ⊥
  no_attempt tag o a h =
      let p = parts tag (Enters.Owner o ∷ []) a h in
      (trial_has (Enters.Owner o ∷ []) tag p.trial p.has_trial).0

  none_tried : (tag : ℕ) (a : Attempted) → attempt_of tag [] ≡ Some a → ⊥
  none_tried tag a h = let p = parts tag [] a h in (trial_has [] tag p.trial p.has_trial).0

  pub start_facts : Facts table owners (start owners)
  start_facts =
      record {
        service = empty_orderly;
        suppliers = sound;
        calls = λ s call h. absurd h;
        due = λ s call h. absurd h;
        replies = λ s k call reply h. absurd h;
        said = λ x p h e. absurd h;
        served = λ s k call p h. absurd h;
        notes = λ s to job place base note p h e. absurd h;
        heard = λ s p. at_new s (λ x. Has (heard_in x) (Heard p) → IsPairLanded w p) (λ h. absurd h) (λ o h. absurd h);
        entered = λ s k. at_new s (λ x. Has (holdings (book_in x)) k → HasLanding w s k.tag k.ovn k.version) (λ h. absurd h) (λ o h. absurd h);
        keys = λ s tag a. at_new s (λ x. attempt_of tag (book_in x) ≡ Some a → is_strategic a.state ≡ true → (o : List ℕ) → Has a.key o → IsClearOfPair table w a o) (λ h k o i. absurd (none_tried tag a h)) (λ o h k z i. absurd (no_attempt tag o a h));
        landings = λ l h. absurd h;
        recorded = λ r h. absurd h;
        apart = λ r q h i. absurd h;
        standing = λ l h. absurd h;
        retired = λ n h. cc;
        closed = λ s d. at_new s (λ x. Has (endings (book_in x)) d → EndingShows w s d) (λ h. absurd h) (λ o h. absurd h);
        sayings = λ x h. absurd h;
      }
