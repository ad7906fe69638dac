-- Up to 64 numbered suppliers are suppliers with names of their own.
use Rattle.std.proofs.Common.{ℕ, zero, suc, ◌≤◌, ◌<◌, ◌+◌, ◌≡◌, ◌⊎◌, ◌&&◌, Bool, true, List, [], ◌∷◌, ◌++◌, inl, inr, length, map, codes, nat_le, refl, ap, sym, subst, ◌∙◌, arith, decimal}
use Rattle.std.specs.List.{list_all, range_with_len}
use Rattle.std.specs.Int.Digits.{digits_of}
use Rattle.std.proofs.lemmas.Fmt.{decimal-digits_of, decimal_injective}
use Rattle.std.proofs.lemmas.Bool.Decides.{nat_tests}
use Rattle.url.proofs.OnLiterals.{url_on_literals}
use Rattle.uss_intent.specs.Texts.{is_name, is_base}
use Rattle.uss_event.specs.Rules.{IsTable}
use Rattle.uss_event.specs.declared.entries.Owner.{Owner}
use Rattle.uss_law_dss.specs.Lists.{Has}
use Rattle.uss_law_dss.proofs.Lists.{has_map}
use Rattle.uss_law_dss.proofs.Tests.{both}
use Rattle.uss_law_book.specs.Coding.{IsOwner}
use Rattle.uss_law_world.specs.Free.{AreSuppliers}
use Rattle.uss_law_world.specs.Suppliers.{numbered_owner, numbered_owners}

abbrev digits : ℕ → List ℕ
digits s = map (λ d. 48 + d) (digits_of 10 s)

abbrev name_by : List ℕ → List ℕ
name_by ds = codes "uss" ++ ds

abbrev base_by : List ℕ → List ℕ
base_by ds = codes "http://uss" ++ ds ++ codes ".test"

abbrev passes : ℕ → Bool
passes s = is_name (name_by (digits s)) && (is_base (base_by (digits s)) && nat_le (length (base_by (digits s))) 256)

each_passes : list_all passes (range_with_len 1 64) ≡ true
unfolding url_on_literals
each_passes = refl

all_has : {X : Type 0} (p : X → Bool) (xs : List X) (x : X) → list_all p xs ≡ true → Has xs x → p x ≡ true
all_has p [] x h k = absurd k
all_has p (y ∷ xs) x h (inl e) = subst (λ z. p z ≡ true) e (both (p y) (list_all p xs) h).0
all_has p (y ∷ xs) x h (inr k) = all_has p xs x (both (p y) (list_all p xs) h).1 k

same_or_more : (a s : ℕ) → a ≤ s → (a ≡ s) ⊎ (a + 1 ≤ s)
same_or_more zero zero h = inl refl
same_or_more zero (suc s) h = inr (omega arith)
same_or_more (suc a) zero h = absurd (omega (arith, h))
same_or_more (suc a) (suc s) h = elim (same_or_more a s (omega (arith, h))) [ inl e ↦ inl (ap suc e) | inr l ↦ inr (omega (arith, l)) ]

in_range : (n a s : ℕ) → a ≤ s → s < a + n → Has (range_with_len a n) s
in_range zero a s h k = absurd (omega (arith, h, k))
in_range (suc n) a s h k = elim (same_or_more a s h) [ inl e ↦ inl e | inr l ↦ inr (in_range n (a + 1) s l (omega (arith, k))) ]

range_has : (n a s : ℕ) → Has (range_with_len a n) s → (a ≤ s) × (s < a + n)
range_has zero a s h = absurd h
range_has (suc n) a s (inl e) = (omega (arith, e), omega (arith, e))
range_has (suc n) a s (inr h) = let r = range_has n (a + 1) s h in let x = r.0 in let y = r.1 in (omega (arith, x), omega (arith, y))

-- one of the first 64
record IsNumbered (table : List ℕ) (n : ℕ) (o : Owner) : Type 0 where
  number : ℕ
  first : 1 ≤ number
  last : number ≤ n
  is : numbered_owner table number ≡ o

numbered : (table : List ℕ) (n : ℕ) (o : Owner) → Has (numbered_owners n table) o → IsNumbered table n o
numbered table n o h =
    let m = has_map (numbered_owner table) (range_with_len 1 n) o h in
    let r = range_has n 1 m.0 m.1 in
    let x = r.1 in
    record { number = m.0; first = r.0; last = omega (arith, x); is = m.2 }

le_of : (a b : ℕ) → nat_le a b ≡ true → a ≤ b
le_of a b h = grind (arith, nat_tests)

valid : (table : List ℕ) (s : ℕ) → IsTable table → 1 ≤ s → s ≤ 64 → IsOwner (numbered_owner table s)
valid table s t first last =
    let h = all_has passes (range_with_len 1 64) s each_passes (in_range 64 1 s first (omega (arith, last))) in
    let a = both (is_name (name_by (digits s))) (is_base (base_by (digits s)) && nat_le (length (base_by (digits s))) 256) h in
    let b = both (is_base (base_by (digits s))) (nat_le (length (base_by (digits s))) 256) a.1 in
    let e : digits s ≡ decimal s = sym (decimal-digits_of s (omega (arith, first)) (omega (arith, last))) in
    record {
      number = omega (arith, last);
      name = subst (λ ds. is_name (name_by ds) ≡ true) e a.0;
      base = subst (λ ds. is_base (base_by ds) ≡ true) e b.0;
      short_base = subst (λ ds. length (base_by ds) ≤ 256) e (le_of (length (base_by (digits s))) 256 b.1);
      table = t;
    }

same_tail : (xs ys : List ℕ) → name_by xs ≡ name_by ys → xs ≡ ys
same_tail xs ys h = cc

pub numbered_are_suppliers : (table : List ℕ) (n : ℕ) → n ≤ 64 → IsTable table → AreSuppliers table (numbered_owners n table)
numbered_are_suppliers table n few t =
    record {
      valid = λ o h. (let k = numbered table n o h in let l = k.last in subst IsOwner k.is (valid table k.number t k.first (omega (arith, l, few))));
      one_table = λ o h. (let k = numbered table n o h in ap (λ (z : Owner). z.table) (sym k.is));
      names = λ o p h i e. (let k = numbered table n o h in let m = numbered table n p i in
          let x : name_by (decimal k.number) ≡ name_by (decimal m.number) = ap (λ (z : Owner). z.name) k.is ∙ (e ∙ ap (λ (z : Owner). z.name) (sym m.is)) in
          let y : decimal k.number ≡ decimal m.number = same_tail (decimal k.number) (decimal m.number) x in
          let a = k.last in
          let b = m.last in
          ap (λ (z : Owner). z.number) (sym k.is) ∙ (decimal_injective k.number m.number (omega (arith, a, few)) (omega (arith, b, few)) y ∙ ap (λ (z : Owner). z.number) m.is));
    }
