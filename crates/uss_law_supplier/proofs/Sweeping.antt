-- Each chore of a legal book has its call.
use Rattle.std.proofs.Common.{arith, ℕ, ◌<◌, ◌≤◌, not, List, [], ◌∷◌, ◌≡◌, inl, inr, length, map, take, drop, filter, refl, ap, subst, ◌∙◌, Some, slice_get}
use Rattle.std.specs.List.{flat_map, filter_map, range_with_len}
use Rattle.std.specs.Option.{option_map, option_and_then}
use Rattle.std.proofs.lemmas.List.{length-take}
use Rattle.std.proofs.lemmas.Option.{slice_get_cases}
use Rattle.uss_event.specs.declared.entries.Owner.{Owner}
use Rattle.uss_event.specs.declared.entries.Entry.{Entry}
use Rattle.uss_event.specs.declared.calls.Outgoing.{Outgoing}
use Rattle.uss_law_dss.specs.Lists.{Has}
use Rattle.uss_law_dss.proofs.Lists.{has_append, has_map, has_filter}
use Rattle.uss_event.specs.declared.entries.Opening.{Opening}
use Rattle.uss_law_book.specs.Lists.{openings}
use Rattle.uss_law_book.specs.Contents.{owed_of, unsent, is_sent}
use Rattle.uss_law_book.specs.Orderly.{IsOrderly}
use Rattle.uss_law_book.proofs.EachOrderly.{legal_is_orderly}
use Rattle.uss_law_book.proofs.Held.{opening_is_found}
use Rattle.uss_law_supplier.specs.declared.duties.Chore.{Chore}
use Rattle.uss_law_supplier.specs.declared.duties.Chore.TheVariants.{Notify, Retire}
use Rattle.uss_law_supplier.specs.Chores.{most_chores, notifications_of, is_due, chores, notify, notify_of, chore_call}
use Rattle.uss_law_supplier.specs.Sweeping.{SweepsMakeTheirCalls}
use Rattle.uss_law_supplier.proofs.Choosing.{length_picked}
use Rattle.uss_law_supplier.proofs.Closed.{in_range}
use Rattle.uss_law_supplier.proofs.Stepping.{taken, dropped}

abbrev IsMade : Owner → List Entry → Chore → Type 0
IsMade owner book c = (x : Outgoing) × (chore_call owner book c ≡ Some x)

unsent_in : (job index : ℕ) (book : List Entry) → Has (unsent job book) index → index < length (owed_of job book)
unfolding unsent
unsent_in job index book h =
    let r = in_range 0 (length (owed_of job book)) index (has_filter (λ p. not (is_sent job p book)) (range_with_len 0 (length (owed_of job book))) index h) in
    omega (arith, r)

within : {X : Type 0} (xs : List X) (i : ℕ) → i < length xs → (x : X) × (slice_get xs i ≡ Some x)
within xs i h = elim (slice_get_cases xs i).1 [ inl c ↦ (c.0, c.2) | inr c ↦ absurd (let a = c.0 in omega (arith, a, h)) ]

notify_made : (owner : Owner) (book : List Entry) (o : Opening) (index : ℕ) → IsOrderly book → Has (openings book) o → index < length (owed_of o.job book) → IsMade owner book (Notify o.job index)
notify_made owner book o index d h l =
    let w = within (owed_of o.job book) index l in
    (notify owner book index o w.0, ap (option_and_then (notify_of owner book index)) (opening_is_found book o d h) ∙ ap (option_map (notify owner book index o)) w.1)

tells_made : (owner : Owner) (book : List Entry) (os : List Opening) (c : Chore) → IsOrderly book → ((o : Opening) → Has os o → Has (openings book) o) → Has (flat_map (notifications_of book) os) c → IsMade owner book c
tells_made owner book [] c d f h = absurd h
tells_made owner book (o ∷ os) c d f h = elim (has_append (notifications_of book o) (flat_map (notifications_of book) os) c h) [
  | inl a ↦ (
      let m = has_map (λ index. Notify o.job index) (unsent o.job book) c a in
      subst (IsMade owner book) m.2 (notify_made owner book o m.0 d (f o (inl refl)) (unsent_in o.job m.0 book m.1)))
  | inr b ↦ tells_made owner book os c d (λ x k. f x (inr k)) b
]

made : (owner : Owner) (book : List Entry) (c : Chore) → IsOrderly book → Has (chores book) c → IsMade owner book c
unfolding chores
made owner book c d h = elim (has_append (flat_map (notifications_of book) (openings book)) (map (λ (o : Opening). Retire o.job) (filter (is_due book) (openings book))) c h) [
  | inl a ↦ tells_made owner book (openings book) c d (λ o k. k) a
  | inr b ↦ (let m = has_map (λ (o : Opening). Retire o.job) (filter (is_due book) (openings book)) c b in subst (IsMade owner book) m.2 (_, refl))
]

all_made : (owner : Owner) (book : List Entry) (cs : List Chore) → ((c : Chore) → Has cs c → IsMade owner book c) → map Some (filter_map (chore_call owner book) cs) ≡ map (chore_call owner book) cs
all_made owner book [] f = refl
all_made owner book (c ∷ cs) f =
    let m = f c (inl refl) in
    let rest = all_made owner book cs (λ x h. f x (inr h)) in
    rw m.1 (ap (λ l. Some m.0 ∷ l) rest)

few_taken : (n : ℕ) (cs : List Chore) → length (take n cs) ≤ n
few_taken n cs = let a = length-take n cs in omega (arith, a)

pub sweeps_make_their_calls : SweepsMakeTheirCalls
sweeps_make_their_calls owner book values moment skip l =
    let d = legal_is_orderly book l in
    let cs = take most_chores (drop skip (chores book)) in
    record {
      entry = refl;
      said = refl;
      values_are = refl;
      in_order = all_made owner book cs (λ c h. made owner book c d (dropped skip (chores book) c (taken most_chores (drop skip (chores book)) c h)));
      few = (let a = length_picked (chore_call owner book) cs in let b = few_taken most_chores (drop skip (chores book)) in omega (arith, a, b));
    }
