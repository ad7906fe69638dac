-- Lists one after another, and those that are to be notified taken as several.
use Rattle.std.proofs.Common.{◌≡◌, ℕ, ◌+◌, ◌-◌, true, false, List, [], ◌∷◌, ◌++◌, length, map, Ok, Err, refl, sym, ap, ◌∙◌, append_assoc, append-nil, arith}
use Rattle.std.specs.Prelude.{Result, nat_le, ◌&&◌}
use Rattle.std.proofs.lemmas.Bool.{cond-true, cond-false}
use Rattle.std.proofs.lemmas.Bool.Decides.{nat_tests}
use Rattle.std.proofs.lemmas.List.{length-append, length-map}
use Rattle.uss_intent.specs.Limits.{most_tickets}
use Rattle.serde_json.specs.Data.{Data, Items, no_items, item}
use Rattle.uss_intent.specs.declared.records.Subscriber.{Subscriber}
use Rattle.uss_wire_base.specs.declared.refusal.Member.{Member}
use Rattle.uss_wire_base.specs.declared.refusal.WireRefusal.{WireRefusal}
use Rattle.uss_wire_base.specs.declared.refusal.WireRefusal.TheVariants.{TooMany}
use Rattle.uss_wire_base.specs.Reading.{◌>>=◌, object_at, field, list_at, few_items_at, few_at, each}
use Rattle.uss_wire_words.specs.Texts.{base_at}
use Rattle.uss_wire_dss.specs.declared.changes.Notified.{Notified}
use Rattle.uss_wire_dss.specs.declared.changes.Listed.{Listed}
use Rattle.uss_wire_dss.specs.ChangesAndErrors.{flatten, notified_at, notified_by, listed_at, owed_by, fit, subscriber_at, at_most_tickets, subscribers_at}

-- one more item
pub owed_more : (lists : List Listed) (one : Listed) → flatten (map owed_by (lists ++ one ∷ [])) ≡ flatten (map owed_by lists) ++ owed_by one
owed_more [] one = append-nil (owed_by one)
owed_more (l ∷ lists) one =
    ap (λ (zs : List Subscriber). owed_by l ++ zs) (owed_more lists one) ∙ sym (append_assoc (owed_by l) (flatten (map owed_by lists)) (owed_by one))

-- the items fit where those of all are few
both_fit : (a b room : ℕ) → (nat_le a room && nat_le b (room - a)) ≡ nat_le (a + b) room
both_fit a b room = grind (arith, nat_tests)

none_fit : (room : ℕ) → true ≡ nat_le 0 room
none_fit room = grind (arith, nat_tests)

fit_all : (room : ℕ) (lists : List Listed) → fit room lists ≡ nat_le (length (flatten (map owed_by lists))) room
fit_all room [] = none_fit room
fit_all room (l ∷ lists) =
    rw (
      length-append (owed_by l) (flatten (map owed_by lists)),
      length-map l.notified (notified_by l.base),
      fit_all (room - length l.notified) lists,
    ) (both_fit (length l.notified) (length (flatten (map owed_by lists))) room)

pub few_fit : (m : Member) (lists : List Listed) → fit most_tickets lists ≡ true → at_most_tickets m (flatten (map owed_by lists)) ≡ Ok (flatten (map owed_by lists))
few_fit m lists fits = cond-true _ _ _ (sym (fit_all most_tickets lists) ∙ fits)

pub many_refused : (m : Member) (lists : List Listed) → fit most_tickets lists ≡ false → at_most_tickets m (flatten (map owed_by lists)) ≡ Err (TooMany m)
many_refused m lists fits = cond-false _ _ _ (sym (fit_all most_tickets lists) ∙ fits)

-- ---- items are read as those that they stand for
three : {A B C D F E : Type 0} (a : Result A E) (b : Result B E) (c : Result C E) (h : B → C → D) (k : D → F) → (a >>= λ _. b >>= λ x. c >>= λ y. Ok (k (h x y))) ≡ ((a >>= λ _. b >>= λ x. c >>= λ y. Ok (h x y)) >>= λ z. Ok (k z))
three (Err e) b c h k = refl
three (Ok u) (Err e) c h k = refl
three (Ok u) (Ok x) (Err e) h k = refl
three (Ok u) (Ok x) (Ok y) h k = refl

abbrev listed_from : List Notified → List ℕ → Listed
listed_from notified base = record { base = base; notified = notified }

one_owed : (place : Member) (d : Data) → subscriber_at place d ≡ (listed_at place d >>= λ l. Ok (owed_by l))
unfolding subscriber_at listed_at
one_owed place d = three (object_at place d) (field Member.Subscriptions (list_at notified_at) d) (field Member.UssBaseUrl base_at d) listed_from owed_by

with_next : (one : Result Listed WireRefusal) (rest : Result (List Listed) WireRefusal) → ((one >>= λ l. Ok (owed_by l)) >>= λ x. (rest >>= λ ls. Ok (map owed_by ls)) >>= λ xs. Ok (x ∷ xs)) ≡ ((one >>= λ l. rest >>= λ ls. Ok (l ∷ ls)) >>= λ ls. Ok (map owed_by ls))
with_next (Err e) rest = refl
with_next (Ok l) (Err e) = refl
with_next (Ok l) (Ok ls) = refl

each_owed : (m : Member) (ds : Items) → each (subscriber_at m) ds ≡ (each (listed_at m) ds >>= λ ls. Ok (map owed_by ls))
each_owed m no_items = refl
each_owed m (item d ds) = rw (one_owed m d, each_owed m ds) (with_next (listed_at m d) (each (listed_at m) ds))

items_owed : (m : Member) (ds : Result Items WireRefusal) → (ds >>= each (subscriber_at m)) ≡ ((ds >>= each (listed_at m)) >>= λ ls. Ok (map owed_by ls))
items_owed m (Err e) = refl
items_owed m (Ok ds) = each_owed m ds

few_owed : (m : Member) (d : Data) → few_at most_tickets subscriber_at m d ≡ (few_at most_tickets listed_at m d >>= λ ls. Ok (map owed_by ls))
few_owed m d = items_owed m (few_items_at most_tickets m d)

through : {A B C E : Type 0} (r : Result A E) (k : A → B) (f : B → Result C E) → ((r >>= λ x. Ok (k x)) >>= f) ≡ (r >>= λ x. f (k x))
through (Err e) k f = refl
through (Ok x) k f = refl

pub subscribers_listed : (m : Member) (d : Data) → subscribers_at m d ≡ (few_at most_tickets listed_at m d >>= λ ls. at_most_tickets m (flatten (map owed_by ls)))
unfolding subscribers_at
subscribers_listed m d =
    ap (λ r. r >>= λ lists. at_most_tickets m (flatten lists)) (few_owed m d) ∙ through (few_at most_tickets listed_at m d) (map owed_by) (λ lists. at_most_tickets m (flatten lists))
