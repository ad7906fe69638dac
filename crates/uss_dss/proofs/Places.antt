-- Lists of the definitions, as the service makes them.
use Rattle.std.proofs.Common.{◌≡◌, ℕ, zero, suc, ◌+◌, ◌<◌, ◌==◌, Bool, true, false, List, [], ◌∷◌, ◌++◌, length, get_or, map, refl, sym, ap, ◌∙◌, append_assoc, ◌/◌, ◌%◌, arith, inl, inr, if◌then◌else◌}
use Rattle.std.proofs.lemmas.Bool.Decides.{nat_tests}
use Rattle.uss_intent.specs.declared.records.Subscriber.{Subscriber}
use Rattle.uss_intent.specs.declared.records.Ticket.{Ticket}
use Rattle.uss_law_dss.specs.Lists.{Has}
use Rattle.uss_law_dss.specs.Orderly.{AllAbove, Ascend, id_of}
use Rattle.uss_law_dss.specs.Notified.{ticket_named}
use Rattle.uss_vol4.specs.Volume.{Volume4D}
use Rattle.uss_law_dss.specs.Service.{digits}
use Rattle.uss_law_dss.specs.Step.{is_notified, raised, subscribers}
use Rattle.uss_dss.specs.Effects.{with_index, with_indices}

-- an item at a place is among the list
pub item_has : {X : Type 0} (xs : List X) (i : ℕ) (d : X) → i < length xs → Has xs (get_or xs i d)
item_has [] i d h = absurd (omega (arith, h))
item_has (x ∷ xs) zero d h = inl refl
item_has (x ∷ xs) (suc i) d h = inr (item_has xs i d (omega arith))

-- one more digit
pub digits_more : (k m n : ℕ) (text : List ℕ) → k ≡ suc m → text ++ digits k n ≡ (text ++ digits m (n / 10)) ++ (48 + n % 10) ∷ []
digits_more k m n text e = rw e (sym (append_assoc text (digits m (n / 10)) ((48 + n % 10) ∷ [])))

-- the same of what is made of the items
pub item_has_by : {X Y : Type 0} (f : X → Y) (xs : List X) (i : ℕ) (d : X) → i < length xs → Has (map f xs) (f (get_or xs i d))
item_has_by f [] i d h = absurd (omega (arith, h))
item_has_by f (x ∷ xs) zero d h = inl refl
item_has_by f (x ∷ xs) (suc i) d h = inr (item_has_by f xs i d (omega arith))

-- where each of those that are notified has a greater ticket, the first ticket stays
passed : (n : ℕ) (t : Ticket) (notified : List Subscriber) (ts : List Ticket) → t.id ≡ n → AllAbove ticket_named n notified → with_indices notified (t ∷ ts) ≡ t ∷ with_indices notified ts
passed n t [] ts h above = refl
passed n t (s ∷ ss) ts h above =
    let other : (t.id == s.ticket) ≡ false = (let less : n < s.ticket = above.0 in grind (arith, nat_tests)) in
    ap (with_indices ss) (one (t.id == s.ticket) other) ∙ passed n t ss (with_index s.ticket s.index ts) h above.1
  where
    one : (b : Bool) → b ≡ false → (if b then record t { index = s.index } ∷ ts else t ∷ with_index s.ticket s.index ts) ≡ t ∷ with_index s.ticket s.index ts
    one true e = absurd (cc)
    one false e = refl

named_above_at : (n : ℕ) (client : List ℕ) (extents : List Volume4D) (t : Ticket) (ts : List Ticket) (b : Bool) → is_notified client extents t ≡ b → n < t.id → AllAbove ticket_named n (subscribers client extents ts) → AllAbove ticket_named n (subscribers client extents (t ∷ ts))
named_above_at n client extents t ts true is less rest = rw is (less, rest)
named_above_at n client extents t ts false is less rest = rw is rest

named_above : (n : ℕ) (client : List ℕ) (extents : List Volume4D) (ts : List Ticket) → AllAbove id_of n ts → AllAbove ticket_named n (subscribers client extents ts)
named_above n client extents [] above = tt
named_above n client extents (t ∷ ts) above = named_above_at n client extents t ts (is_notified client extents t) refl above.0 (named_above n client extents ts above.1)

own_index : (n : ℕ) (t : Ticket) (ts : List Ticket) → with_index t.id n (t ∷ ts) ≡ record t { index = n } ∷ ts
own_index n t ts = let itself : (t.id == t.id) ≡ true = grind (arith, nat_tests) in rw itself refl

raised_at : (client : List ℕ) (extents : List Volume4D) (t : Ticket) (ts : List Ticket) (b : Bool) → is_notified client extents t ≡ b → AllAbove id_of t.id ts
    → with_indices (subscribers client extents ts) ts ≡ raised client extents ts → with_indices (subscribers client extents (t ∷ ts)) (t ∷ ts) ≡ raised client extents (t ∷ ts)
raised_at client extents t ts true is above rest =
    let others = named_above t.id client extents ts above in
    let more : Ticket = record t { index = t.index + 1 } in
    rw is (ap (with_indices (subscribers client extents ts)) (own_index (t.index + 1) t ts) ∙ passed t.id more (subscribers client extents ts) ts refl others ∙ ap (λ us. more ∷ us) rest)
raised_at client extents t ts false is above rest =
    let others = named_above t.id client extents ts above in
    rw is (passed t.id t (subscribers client extents ts) ts refl others ∙ ap (λ us. t ∷ us) rest)

-- the tickets with the indices of those that are notified are the raised tickets
pub raised_by_notified : (client : List ℕ) (extents : List Volume4D) (ts : List Ticket) → Ascend id_of ts → with_indices (subscribers client extents ts) ts ≡ raised client extents ts
raised_by_notified client extents [] up = refl
raised_by_notified client extents (t ∷ ts) up = raised_at client extents t ts (is_notified client extents t) refl up.0 (raised_by_notified client extents ts up.1)
