-- Each attempt of a legal book can be recorded.
use Rattle.std.proofs.Common.{ℕ, ◌≤◌, true, List, [], ◌∷◌, ◌++◌, ◌≡◌, inl, inr, length, refl, ap, subst, Option, Some, None}
use Rattle.std.specs.Option.{option_map}
use Rattle.std.specs.List.{slice_get}
use Rattle.uss_intent.specs.declared.records.State.{State}
use Rattle.uss_event.specs.Pairs.{pair_from, is_pair}
use Rattle.uss_event.specs.declared.details.Proposal.{Proposal}
use Rattle.uss_event.specs.declared.asks.Wish.{Wish}
use Rattle.uss_event.specs.declared.asks.Wish.TheVariants.{Put, End}
use Rattle.uss_event.specs.declared.asks.FlightAsk.{FlightAsk}
use Rattle.uss_event.specs.declared.entries.Owner.{Owner}
use Rattle.uss_event.specs.declared.entries.Entry.{Entry}
use Rattle.uss_event.specs.declared.entries.Entry.TheVariants.{Opened}
use Rattle.uss_event.specs.declared.entries.Entry.TheVariants as Enters
use Rattle.uss_law_dss.specs.Lists.{Has}
use Rattle.uss_event.specs.declared.entries.Opening.{Opening}
use Rattle.uss_event.specs.declared.entries.Trial.{Trial}
use Rattle.uss_law_book.specs.Lists.{owner_of, openings}
use Rattle.uss_law_book.specs.Contents.{opening_of, trial_of}
use Rattle.uss_law_book.specs.Coding.{IsWish}
use Rattle.uss_law_book.specs.Legal.{IsLegal, MayFollow, MayWish}
use Rattle.uss_law_book.specs.Attempts.{Attempted, attempted, by_wish, by_opening, by_trial, attempt_of, recorded_as}
use Rattle.uss_law_book.proofs.Entries.{which_opening}
use Rattle.uss_law_book.proofs.Kept.{opening_has}
use Rattle.uss_book_index.specs.declared.tried.Tried.{Tried}
use Rattle.uss_book_index.specs.Records.{IsPlan, ArePlanned, pair_by_proposal, pair_by_wish, pair_by_ask, ask_of, tried_of, pair_by_tried}
use Rattle.uss_law_book.proofs.EachLegal.{each_legal}
use Rattle.uss_book_index.proofs.Lasting.{lasting_is_pair}

-- ---- what was asked is a plan

wish_planned : (old : Option State) (w : Wish) → MayWish old w → IsWish w → ArePlanned w
wish_planned old (Put to priority rounds proposals) m c = λ k d s.
    record {
      plan = m.0.each k d s;
      volumes = (c.valid_proposals k d s).volumes;
      off_nominal = (c.valid_proposals k d s).off_nominal;
    }
wish_planned old End m c = tt

abbrev AllPlanned : List Entry → Type 0
AllPlanned es = (o : Opening) → Has (openings es) o → ArePlanned o.ask.wish

new_planned : (es : List Entry) (e : Entry) → MayFollow es e → (o : Opening) → Has (openings (e ∷ [])) o → ArePlanned o.ask.wish
new_planned es (Opened opening) m o (inl q) =
    subst (λ (x : Opening). ArePlanned x.ask.wish) q (wish_planned _ opening.ask.wish m.due.wish m.coding.2.wish)
new_planned es (Opened opening) m o (inr n) = absurd n
new_planned es _ m o h = absurd h

all_planned : (es : List Entry) → IsLegal es → AllPlanned es
all_planned es l = each_legal AllPlanned (λ o h. absurd h) step es l
  where
    step : (es : List Entry) (e : Entry) → IsLegal es → MayFollow es e → AllPlanned es → AllPlanned (es ++ e ∷ [])
    step es e l m was = λ o h. elim (which_opening es (e ∷ []) o h) [ inl a ↦ was o a | inr b ↦ new_planned es e m o b ]

pub asked_is_planned : (es : List Entry) (job : ℕ) (ask : FlightAsk) → IsLegal es → ask_of (opening_of job es) ≡ Some ask → ArePlanned ask.wish
asked_is_planned es job ask l h = go (opening_of job es) refl h
  where
    go : (w : Option Opening) → opening_of job es ≡ w → ask_of w ≡ Some ask → ArePlanned ask.wish
    go None e k = cc
    go (Some o) e k =
        let same : o.ask ≡ ask = cc in
        subst (λ (a : FlightAsk). ArePlanned a.wish) same (all_planned es l o (opening_has es job o e).0)

pub owner_is_short : (es : List Entry) (o : Owner) → IsLegal es → owner_of es ≡ Some o → length o.base ≤ 256
owner_is_short [] o l h = cc
owner_is_short (Enters.Owner owner ∷ es) o l h = let same : owner ≡ o = cc in subst (λ (x : Owner). length x.base ≤ 256) same l.0.coding.short_base
owner_is_short (_ ∷ es) o l h = cc

-- ---- it can be recorded

pub planned_is_pair : (owner : Owner) (flight : ℕ) (tried : Tried) (ovn : List ℕ) (to : State) (priority : ℕ) (p : Proposal) → IsPlan to priority p
    → (let x = pair_by_proposal owner flight tried ovn to priority p in pair_from x.reference x.details) ≡ Some (pair_by_proposal owner flight tried ovn to priority p)
planned_is_pair owner flight tried ovn to priority p h =
    let x = pair_by_proposal owner flight tried ovn to priority p in
    let is : is_pair x.reference x.details ≡ true = lasting_is_pair x.reference x.details ovn refl h.plan h.volumes h.off_nominal refl refl in
    rw is refl

-- ---- it is what the law says

mapped_twice : {X Y Z : Type 0} (f : Y → Z) (g : X → Y) (h : X → Z) (o : Option X) → ((x : X) → f (g x) ≡ h x) → option_map f (option_map g o) ≡ option_map h o
mapped_twice f g h None q = refl
mapped_twice f g h (Some x) q = ap Some (q x)

abbrev known : ℕ → Trial → Tried
known version t = record { job = t.job; tag = t.tag; alternative = t.alternative; version = version }

wish_says : (owner : Owner) (o : Opening) (t : Trial) (ovn : List ℕ) (version : ℕ) (w : Wish)
    → option_map (λ (a : Attempted). recorded_as a ovn version) (by_wish owner o t w) ≡ pair_by_wish owner o.ask.flight (known version t) ovn w
wish_says owner o t ovn version End = refl
wish_says owner o t ovn version (Put to priority rounds proposals) =
    mapped_twice (λ (a : Attempted). recorded_as a ovn version) (λ (p : Proposal). attempted owner o t to priority p)
    (λ (p : Proposal). pair_by_proposal owner o.ask.flight (known version t) ovn to priority p) (slice_get proposals t.alternative) (λ p. refl)

opening_says : (owner : Option Owner) (t : Trial) (ovn : List ℕ) (version : ℕ) (o : Option Opening)
    → option_map (λ (a : Attempted). recorded_as a ovn version) (by_opening owner t o) ≡ pair_by_ask owner (known version t) ovn (ask_of o)
opening_says None t ovn version o = refl
opening_says (Some owner) t ovn version None = refl
opening_says (Some owner) t ovn version (Some o) = wish_says owner o t ovn version o.ask.wish

trial_says : (es : List Entry) (ovn : List ℕ) (version : ℕ) (t : Option Trial) → option_map (λ (a : Attempted). recorded_as a ovn version) (by_trial es t) ≡ pair_by_tried es ovn (tried_of version t)
trial_says es ovn version None = refl
trial_says es ovn version (Some t) = opening_says (owner_of es) t ovn version (opening_of t.job es)

pub attempt_says : (es : List Entry) (tag version : ℕ) (ovn : List ℕ) → option_map (λ (a : Attempted). recorded_as a ovn version) (attempt_of tag es) ≡ pair_by_tried es ovn (tried_of version (trial_of tag es))
unfolding attempt_of
attempt_says es tag version ovn = trial_says es ovn version (trial_of tag es)
