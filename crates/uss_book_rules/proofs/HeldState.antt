-- The state of what is held of a flight is that of the wish for which the attempt that was recorded last was made.
use Rattle.std.proofs.Common.{ℕ, ◌<◌, ◌≤◌, Bool, cond, List, ◌≡◌, ◌⊎◌, inl, inr, length, get_or, refl, ap, sym, ◌∙◌, Option, Some, None}
use Rattle.std.specs.Prelude.{nat_lt}
use Rattle.std.specs.List.{slice_get}
use Rattle.std.specs.Option.{option_map}
use Rattle.std.proofs.lemmas.Bool.{lt-ltb, le-ltb}
use Rattle.std.proofs.lemmas.Option.{slice_get_cases}
use Rattle.uss_intent.specs.declared.records.State.{State}
use Rattle.uss_event.specs.Pairs.{OperationalIntent}
use Rattle.uss_event.specs.declared.details.Proposal.{Proposal}
use Rattle.uss_event.specs.declared.asks.Wish.{Wish}
use Rattle.uss_event.specs.declared.asks.Wish.TheVariants.{Put, End}
use Rattle.uss_event.specs.declared.entries.Owner.{Owner}
use Rattle.uss_event.specs.declared.entries.Entry.{Entry}
use Rattle.uss_event.specs.declared.entries.Opening.{Opening}
use Rattle.uss_event.specs.declared.entries.Trial.{Trial}
use Rattle.uss_event.specs.declared.entries.Holding.{Holding}
use Rattle.uss_law_book.specs.Lists.{owner_of}
use Rattle.uss_law_book.specs.Contents.{opening_of, trial_of, holding}
use Rattle.uss_law_book.specs.Attempts.{Attempted, attempted, by_wish, by_opening, by_trial, attempt_of, recorded_as, held_by, held, held_state}
use Rattle.uss_book_rules.specs.States.{state_by_wish, state_by_owner, state_by_trial, state_by_holding}

-- what doesn't depend on the item is said of a place that is there, and of no other
at_place : {X Y : Type 0} (f : Option X → Option Y) (y : Y) → f None ≡ None → ((x : X) → f (Some x) ≡ Some y) → (xs : List X) (i : ℕ) → f (slice_get xs i) ≡ cond (nat_lt i (length xs)) (Some y) None
at_place {X} {Y} f y none some xs i = by_case (slice_get_cases xs i).1
  where
    by_case : ((x : X) × (i < length xs) × (slice_get xs i ≡ Some x) × (get_or xs i x ≡ x)) ⊎ ((length xs ≤ i) × (slice_get xs i ≡ None)) → f (slice_get xs i) ≡ cond (nat_lt i (length xs)) (Some y) None
    by_case (inl p) = ap f p.2 ∙ some p.0 ∙ ap (λ (b : Bool). cond b (Some y) None) (sym (lt-ltb i (length xs) p.1))
    by_case (inr p) = ap f p.1 ∙ none ∙ ap (λ (b : Bool). cond b (Some y) None) (sym (le-ltb i (length xs) p.0))

-- the state in which an attempt is recorded
abbrev state_in : List ℕ → ℕ → Option Attempted → Option State
state_in ovn version a = option_map (λ (p : OperationalIntent). p.reference.state) (option_map (λ (x : Attempted). recorded_as x ovn version) a)

wish_says : (owner : Owner) (o : Opening) (t : Trial) (ovn : List ℕ) (version : ℕ) (w : Wish) → state_in ovn version (by_wish owner o t w) ≡ state_by_wish t.alternative w
wish_says owner o t ovn version End = refl
wish_says owner o t ovn version (Put to priority rounds proposals) =
    at_place (λ (p : Option Proposal). state_in ovn version (option_map (λ (x : Proposal). attempted owner o t to priority x) p)) to refl (λ x. refl) proposals t.alternative

opening_says : (owner : Option Owner) (t : Trial) (ovn : List ℕ) (version : ℕ) (o : Option Opening) → state_in ovn version (by_opening owner t o) ≡ state_by_owner owner t.alternative o
opening_says None t ovn version o = refl
opening_says (Some owner) t ovn version None = refl
opening_says (Some owner) t ovn version (Some o) = wish_says owner o t ovn version o.ask.wish

trial_says : (es : List Entry) (ovn : List ℕ) (version : ℕ) (t : Option Trial) → state_in ovn version (by_trial es t) ≡ state_by_trial es t
trial_says es ovn version None = refl
trial_says es ovn version (Some t) = opening_says (owner_of es) t ovn version (opening_of t.job es)

holding_says : (es : List Entry) (h : Option Holding) → option_map (λ (p : OperationalIntent). p.reference.state) (held_by es h) ≡ state_by_holding es h
unfolding attempt_of
holding_says es None = refl
holding_says es (Some h) = trial_says es h.ovn h.version (trial_of h.tag es)

pub held_state_says : (flight : ℕ) (es : List Entry) → held_state flight es ≡ state_by_holding es (holding flight es)
unfolding held
held_state_says flight es = holding_says es (holding flight es)
