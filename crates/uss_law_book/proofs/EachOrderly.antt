-- Every legal book is orderly.
use Rattle.std.proofs.Common.{ℕ, ◌≤◌, ◌<◌, ◌+◌, ◌^◌, ◌==◌, true, false, ◌&&◌, List, [], ◌∷◌, ◌++◌, ◌≡◌, ◌⊎◌, inl, inr, length, refl, ap, sym, subst, ◌∙◌, arith, Some}
use Rattle.std.proofs.lemmas.List.{length-append, append-nil, append_assoc}
use Rattle.uss_event.specs.declared.entries.Owner.{Owner}
use Rattle.uss_event.specs.declared.entries.Entry.{Entry}
use Rattle.uss_event.specs.declared.entries.Entry.TheVariants.{Pending}
use Rattle.uss_event.specs.declared.entries.Entry.TheVariants as Enters
use Rattle.uss_law_dss.specs.Lists.{Has}
use Rattle.uss_law_dss.proofs.Lists.{list_any_has}
use Rattle.uss_law_dss.proofs.Tests.{same_number, both}
use Rattle.uss_event.specs.declared.entries.Opening.{Opening}
use Rattle.uss_event.specs.declared.entries.Trial.{Trial}
use Rattle.uss_event.specs.declared.entries.Holding.{Holding}
use Rattle.uss_event.specs.declared.entries.Closing.{Closing}
use Rattle.uss_law_book.specs.Lists.{owner_of, openings, trials, holdings, endings}
use Rattle.uss_law_book.specs.Contents.{opening_of, trial_of, is_closed, owns, current_ovn_of}
use Rattle.uss_law_book.specs.Attempts.{Attempted, attempt_of}
use Rattle.uss_law_book.specs.Coding.{HasCoding}
use Rattle.uss_law_book.specs.Legal.{is_owner, is_new, IsDue, MayFollow, MayAllFollow, IsLegal}
use Rattle.uss_law_book.specs.Orderly.{IsOrderly}
use Rattle.uss_law_book.proofs.Finds.{has_some}
use Rattle.uss_law_book.proofs.Entries.{openings_append, trials_append, opening_stays, trial_stays, which_opening, which_trial, which_holding, which_ending, unclosed_before, NewOpening, NewTrial, new_opening, new_trial, new_holding, new_ending, one_opening, one_trial, not_both_new, one_holding, one_ending, not_both_close, new_tag_fits}
use Rattle.uss_law_book.proofs.Greatest.{number_is_greater, each_is_closed}
use Rattle.uss_law_book.proofs.Kept.{opening_has, open_parts, base_kept, held_closes, done_closes}
use Rattle.uss_law_book.proofs.Attempts.{owner_kept, trial_found, trial_has, attempt_kept, new_attempt}

-- how many there are after the new entry
openings_grow : (book : List Entry) (e : Entry) → length (openings (book ++ e ∷ [])) ≡ length (openings book) + length (openings (e ∷ []))
openings_grow book e = ap length (openings_append book (e ∷ [])) ∙ length-append (openings book) (openings (e ∷ []))

trials_grow : (book : List Entry) (e : Entry) → length (trials (book ++ e ∷ [])) ≡ length (trials book) + length (trials (e ∷ []))
trials_grow book e = ap length (trials_append book (e ∷ [])) ∙ length-append (trials book) (trials (e ∷ []))

-- a number that is at most n isn't n + 1
passed : {P : Type 0} (a b n : ℕ) → a ≤ n → b ≡ n + 1 → a ≡ b → P
passed a b n h k e = absurd (omega (arith, h, k, e))

job_numbers_after : (book : List Entry) (e : Entry) → IsOrderly book → IsDue book e → (o : Opening) → Has (openings (book ++ e ∷ [])) o → o.job ≤ length (openings (book ++ e ∷ []))
job_numbers_after book e s d o h = elim (which_opening book (e ∷ []) o h) [
  | inl old ↦ (let a = s.job_numbers o old in let g = openings_grow book e in omega (arith, a, g))
  | inr new ↦ (let n = (new_opening book e o d new).next in let g = openings_grow book e in let c = has_some (openings (e ∷ [])) o new in omega (arith, n, g, c))
]

jobs_after : (book : List Entry) (e : Entry) → IsOrderly book → IsDue book e → (o p : Opening) → Has (openings (book ++ e ∷ [])) o → Has (openings (book ++ e ∷ [])) p → o.job ≡ p.job → o ≡ p
jobs_after book e s d o p h k q = elim (which_opening book (e ∷ []) o h) [
  | inl a ↦ elim (which_opening book (e ∷ []) p k) [
    | inl b ↦ s.jobs o p a b q
    | inr b ↦ passed o.job p.job (length (openings book)) (s.job_numbers o a) (new_opening book e p d b).next q
  ]
  | inr a ↦ elim (which_opening book (e ∷ []) p k) [
    | inl b ↦ passed p.job o.job (length (openings book)) (s.job_numbers p b) (new_opening book e o d a).next (sym q)
    | inr b ↦ one_opening e o p a b
  ]
]

tag_numbers_after : (book : List Entry) (e : Entry) → IsOrderly book → IsDue book e → (t : Trial) → Has (trials (book ++ e ∷ [])) t → t.tag ≤ length (trials (book ++ e ∷ []))
tag_numbers_after book e s d t h = elim (which_trial book (e ∷ []) t h) [
  | inl old ↦ (let a = s.tag_numbers t old in let g = trials_grow book e in omega (arith, a, g))
  | inr new ↦ (let n = (new_trial book e t d new).next in let g = trials_grow book e in let c = has_some (trials (e ∷ [])) t new in omega (arith, n, g, c))
]

tags_after : (book : List Entry) (e : Entry) → IsOrderly book → IsDue book e → (t u : Trial) → Has (trials (book ++ e ∷ [])) t → Has (trials (book ++ e ∷ [])) u → t.tag ≡ u.tag → t ≡ u
tags_after book e s d t u h k q = elim (which_trial book (e ∷ []) t h) [
  | inl a ↦ elim (which_trial book (e ∷ []) u k) [
    | inl b ↦ s.tags t u a b q
    | inr b ↦ passed t.tag u.tag (length (trials book)) (s.tag_numbers t a) (new_trial book e u d b).next q
  ]
  | inr a ↦ elim (which_trial book (e ∷ []) u k) [
    | inl b ↦ passed u.tag t.tag (length (trials book)) (s.tag_numbers u b) (new_trial book e t d a).next (sym q)
    | inr b ↦ one_trial e t u a b
  ]
]

-- a new request isn't one that was there
not_asked : (book : List Entry) (o p : Opening) → NewOpening book p → Has (openings book) o → o.ask.flight ≡ p.ask.flight → o.ask.number ≡ p.ask.number → ⊥
not_asked book o p n h f q = let l = number_is_greater book p.ask o n.later h f in omega (arith, l, q)

requests_after : (book : List Entry) (e : Entry) → IsOrderly book → IsDue book e → (o p : Opening) → Has (openings (book ++ e ∷ [])) o → Has (openings (book ++ e ∷ [])) p
    → o.ask.flight ≡ p.ask.flight → o.ask.number ≡ p.ask.number → o ≡ p
requests_after book e s d o p h k f q = elim (which_opening book (e ∷ []) o h) [
  | inl a ↦ elim (which_opening book (e ∷ []) p k) [
    | inl b ↦ s.requests o p a b f q
    | inr b ↦ absurd (not_asked book o p (new_opening book e p d b) a f q)
  ]
  | inr a ↦ elim (which_opening book (e ∷ []) p k) [
    | inl b ↦ absurd (not_asked book p o (new_opening book e o d a) b (sym f) (sym q))
    | inr b ↦ one_opening e o p a b
  ]
]

-- a new job isn't of a flight with an open job
not_free : (book : List Entry) (e : Entry) (o p : Opening) → NewOpening book p → Has (openings book) o → is_closed o.job (book ++ e ∷ []) ≡ false → o.ask.flight ≡ p.ask.flight → ⊥
not_free book e o p n h u f =
    let c = each_is_closed book p.ask.flight o n.free h f in
    let v = unclosed_before o.job book (e ∷ []) u in
    cc

unclosed_after : (book : List Entry) (e : Entry) → IsOrderly book → IsDue book e → (o p : Opening) → Has (openings (book ++ e ∷ [])) o → Has (openings (book ++ e ∷ [])) p
    → is_closed o.job (book ++ e ∷ []) ≡ false → is_closed p.job (book ++ e ∷ []) ≡ false → o.ask.flight ≡ p.ask.flight → o ≡ p
unclosed_after book e s d o p h k u v f = elim (which_opening book (e ∷ []) o h) [
  | inl a ↦ elim (which_opening book (e ∷ []) p k) [
    | inl b ↦ s.unclosed o p a b (unclosed_before o.job book (e ∷ []) u) (unclosed_before p.job book (e ∷ []) v) f
    | inr b ↦ absurd (not_free book e o p (new_opening book e p d b) a u f)
  ]
  | inr a ↦ elim (which_opening book (e ∷ []) p k) [
    | inl b ↦ absurd (not_free book e p o (new_opening book e o d a) b v (sym f))
    | inr b ↦ one_opening e o p a b
  ]
]

-- the opening of a job, in the longer book
abbrev IsOpenedIn : List Entry → ℕ → Type 0
IsOpenedIn book job = (o : Opening) × Has (openings book) o × (o.job ≡ job)

opened_still : (book : List Entry) (e : Entry) (job : ℕ) → IsOpenedIn book job → IsOpenedIn (book ++ e ∷ []) job
opened_still book e job h = (h.0, opening_stays book (e ∷ []) h.0 h.1, h.2)

opened_now : (book : List Entry) (e : Entry) (job : ℕ) (o : Opening) → opening_of job book ≡ Some o → IsOpenedIn (book ++ e ∷ []) job
opened_now book e job o h = let i = opening_has book job o h in (o, opening_stays book (e ∷ []) o i.0, i.1)

tried_after : (book : List Entry) (e : Entry) → IsOrderly book → IsDue book e → (t : Trial) → Has (trials (book ++ e ∷ [])) t → IsOpenedIn (book ++ e ∷ []) t.job
tried_after book e s d t h = elim (which_trial book (e ∷ []) t h) [
  | inl a ↦ opened_still book e t.job (s.tried t a)
  | inr b ↦ (let n = new_trial book e t d b in opened_now book e t.job n.opening n.opened)
]

recorded_after : (book : List Entry) (e : Entry) → IsOrderly book → IsDue book e → (x : Holding) → Has (holdings (book ++ e ∷ [])) x → IsOpenedIn (book ++ e ∷ []) x.job
recorded_after book e s d x h = elim (which_holding book (e ∷ []) x h) [
  | inl a ↦ opened_still book e x.job (s.recorded x a)
  | inr b ↦ (let q = open_parts book x.job (new_holding book e x d b).unfinished in opened_now book e x.job q.0 q.1)
]

ended_after : (book : List Entry) (e : Entry) → IsOrderly book → IsDue book e → (x : Closing) → Has (endings (book ++ e ∷ [])) x → IsOpenedIn (book ++ e ∷ []) x.job
ended_after book e s d x h = elim (which_ending book (e ∷ []) x h) [
  | inl a ↦ opened_still book e x.job (s.ended x a)
  | inr b ↦ (let n = new_ending book e x d b in opened_now book e x.job n.opening n.opened)
]

-- the attempt of a job with a tag
abbrev IsTriedIn : List Entry → ℕ → ℕ → Type 0
IsTriedIn book job tag = (t : Trial) × Has (trials book) t × (t.job ≡ job) × (t.tag ≡ tag)

pub owned : (book : List Entry) (job tag : ℕ) → owns job tag book ≡ true → IsTriedIn book job tag
unfolding owns
owned book job tag h =
    let a = list_any_has (λ (t : Trial). (t.job == job) && (t.tag == tag)) (trials book) h in
    let b = both (a.0.job == job) (a.0.tag == tag) a.2 in
    (a.0, a.1, same_number a.0.job job b.0, same_number a.0.tag tag b.1)

tried_still : (book : List Entry) (e : Entry) (job tag : ℕ) → IsTriedIn book job tag → IsTriedIn (book ++ e ∷ []) job tag
tried_still book e job tag h = (h.0, trial_stays book (e ∷ []) h.0 h.1, h.2, h.3)

own_after : (book : List Entry) (e : Entry) → IsOrderly book → IsDue book e → (x : Holding) → Has (holdings (book ++ e ∷ [])) x → IsTriedIn (book ++ e ∷ []) x.job x.tag
own_after book e s d x h = elim (which_holding book (e ∷ []) x h) [
  | inl a ↦ tried_still book e x.job x.tag (s.own x a)
  | inr b ↦ tried_still book e x.job x.tag (owned book x.job x.tag (new_holding book e x d b).own)
]

-- a further attempt of a job changes what its earlier ones change
same_base : (book : List Entry) (t u : Trial) → IsOrderly book → Has (trials book) t → NewTrial book u → t.job ≡ u.job → t.previous ≡ u.previous
same_base book t u s h n q =
    let i = opening_has book u.job n.opening n.opened in
    let v : is_closed n.opening.job book ≡ false = subst (λ j. is_closed j book ≡ false) (sym i.1) n.unclosed in
    s.based t n.opening h i.0 (i.1 ∙ sym q) v ∙ sym n.base

previous_after : (book : List Entry) (e : Entry) → IsOrderly book → IsDue book e → (t u : Trial) → Has (trials (book ++ e ∷ [])) t → Has (trials (book ++ e ∷ [])) u → t.job ≡ u.job
    → t.previous ≡ u.previous
previous_after book e s d t u h k q = elim (which_trial book (e ∷ []) t h) [
  | inl a ↦ elim (which_trial book (e ∷ []) u k) [
    | inl b ↦ s.previous t u a b q
    | inr b ↦ same_base book t u s a (new_trial book e u d b) q
  ]
  | inr a ↦ elim (which_trial book (e ∷ []) u k) [
    | inl b ↦ sym (same_base book u t s b (new_trial book e t d a) (sym q))
    | inr b ↦ ap (λ (x : Trial). x.previous) (one_trial e t u a b)
  ]
]

-- of an attempt of a job that was opened before the new entry
based_old : (book : List Entry) (e : Entry) (t : Trial) (o : Opening) → IsOrderly book → IsDue book e → Has (trials book) t ⊎ Has (trials (e ∷ [])) t → Has (openings book) o → o.job ≡ t.job
    → is_closed o.job (book ++ e ∷ []) ≡ false → t.previous ≡ current_ovn_of o.ask.flight book
based_old book e t o s d (inl a) i q u = s.based t o a i q (unclosed_before o.job book (e ∷ []) u)
based_old book e t o s d (inr b) i q u =
    let n = new_trial book e t d b in
    let k = opening_has book t.job n.opening n.opened in
    let same : n.opening ≡ o = s.jobs n.opening o k.0 i (k.1 ∙ sym q) in
    n.base ∙ ap (λ (x : Opening). current_ovn_of x.ask.flight book) same

-- no attempt is older than its job
based_new : {P : Type 0} (book : List Entry) (e : Entry) (t : Trial) (o : Opening) → IsOrderly book → IsDue book e → Has (trials book) t ⊎ Has (trials (e ∷ [])) t → Has (openings (e ∷ [])) o
    → o.job ≡ t.job → P
based_new book e t o s d (inl a) i q =
    let w = s.tried t a in
    passed w.0.job o.job (length (openings book)) (s.job_numbers w.0 w.1) (new_opening book e o d i).next (w.2 ∙ sym q)
based_new book e t o s d (inr b) i q = absurd (not_both_new e o t i b)

based_after : (book : List Entry) (e : Entry) → IsOrderly book → IsDue book e → (t : Trial) (o : Opening) → Has (trials (book ++ e ∷ [])) t → Has (openings (book ++ e ∷ [])) o → o.job ≡ t.job
    → is_closed o.job (book ++ e ∷ []) ≡ false → t.previous ≡ current_ovn_of o.ask.flight (book ++ e ∷ [])
based_after book e s d t o h k q u = elim (which_opening book (e ∷ []) o k) [
  | inl i ↦ based_old book e t o s d (which_trial book (e ∷ []) t h) i q u ∙ sym (base_kept book e o s d i u)
  | inr i ↦ based_new book e t o s d (which_trial book (e ∷ []) t h) i q
]

tags_begin_after : (book : List Entry) (e : Entry) → IsOrderly book → IsDue book e → (t : Trial) → Has (trials (book ++ e ∷ [])) t → 1 ≤ t.tag
tags_begin_after book e s d t h = elim (which_trial book (e ∷ []) t h) [
  | inl a ↦ s.tags_begin t a
  | inr b ↦ (let n = (new_trial book e t d b).next in omega (arith, n))
]

tags_fit_after : (book : List Entry) (e : Entry) → IsOrderly book → HasCoding e → (t : Trial) → Has (trials (book ++ e ∷ [])) t → t.tag < 2 ^ 64
tags_fit_after book e s c t h = elim (which_trial book (e ∷ []) t h) [ inl a ↦ s.tags_fit t a | inr b ↦ new_tag_fits e t c b ]

owner_after : (book : List Entry) (e : Entry) → IsOrderly book → is_owner e ≡ is_new book → (o : Owner) × (owner_of (book ++ e ∷ []) ≡ Some o)
owner_after [] (Enters.Owner owner) s f = (owner, refl)
owner_after [] _ s f = cc
owner_after (x ∷ xs) e s f = let w = s.owner refl in (w.0, owner_kept (x ∷ xs) (e ∷ []) w.0 w.1)

-- a job that the new entry closes wasn't closed before
reclosed : (book : List Entry) (job other : ℕ) → (is_closed job book ≡ false → ⊥) → is_closed other book ≡ false → job ≡ other → ⊥
reclosed book job other n u q = n (subst (λ j. is_closed j book ≡ false) (sym q) u)

held_once_after : (book : List Entry) (e : Entry) → IsOrderly book → IsDue book e → (x y : Holding) → Has (holdings (book ++ e ∷ [])) x → Has (holdings (book ++ e ∷ [])) y → x.job ≡ y.job → x ≡ y
held_once_after book e s d x y h k q = elim (which_holding book (e ∷ []) x h) [
  | inl a ↦ elim (which_holding book (e ∷ []) y k) [
    | inl b ↦ s.held_once x y a b q
    | inr b ↦ absurd (reclosed book x.job y.job (held_closes book x a) (open_parts book y.job (new_holding book e y d b).unfinished).2 q)
  ]
  | inr a ↦ elim (which_holding book (e ∷ []) y k) [
    | inl b ↦ absurd (reclosed book y.job x.job (held_closes book y b) (open_parts book x.job (new_holding book e x d a).unfinished).2 (sym q))
    | inr b ↦ one_holding e x y a b
  ]
]

ended_once_after : (book : List Entry) (e : Entry) → IsOrderly book → IsDue book e → (x y : Closing) → Has (endings (book ++ e ∷ [])) x → Has (endings (book ++ e ∷ [])) y → x.job ≡ y.job → x ≡ y
ended_once_after book e s d x y h k q = elim (which_ending book (e ∷ []) x h) [
  | inl a ↦ elim (which_ending book (e ∷ []) y k) [
    | inl b ↦ s.ended_once x y a b q
    | inr b ↦ absurd (reclosed book x.job y.job (done_closes book x a) (new_ending book e y d b).unclosed q)
  ]
  | inr a ↦ elim (which_ending book (e ∷ []) y k) [
    | inl b ↦ absurd (reclosed book y.job x.job (done_closes book y b) (new_ending book e x d a).unclosed (sym q))
    | inr b ↦ one_ending e x y a b
  ]
]

held_or_ended_after : (book : List Entry) (e : Entry) → IsOrderly book → IsDue book e → (x : Holding) (y : Closing) → Has (holdings (book ++ e ∷ [])) x → Has (endings (book ++ e ∷ [])) y
    → x.job ≡ y.job → ⊥
held_or_ended_after book e s d x y h k q = elim (which_holding book (e ∷ []) x h) [
  | inl a ↦ elim (which_ending book (e ∷ []) y k) [
    | inl b ↦ s.held_or_ended x y a b q
    | inr b ↦ reclosed book x.job y.job (held_closes book x a) (new_ending book e y d b).unclosed q
  ]
  | inr a ↦ elim (which_ending book (e ∷ []) y k) [
    | inl b ↦ reclosed book y.job x.job (done_closes book y b) (open_parts book x.job (new_holding book e x d a).unfinished).2 (sym q)
    | inr b ↦ not_both_close e x y a b
  ]
]

-- a new attempt is found by its tag
found_by_tag : (book : List Entry) (e : Entry) → IsOrderly book → IsDue book e → (t : Trial) → Has (trials (book ++ e ∷ [])) t → trial_of t.tag (book ++ e ∷ []) ≡ Some t
found_by_tag book e s d t h =
    let f = trial_found (book ++ e ∷ []) t.tag t h refl in
    let g = trial_has (book ++ e ∷ []) t.tag f.0 f.1 in
    f.1 ∙ ap Some (tags_after book e s d f.0 t g.0 h g.1)

owner_before : (book : List Entry) (e : Entry) (t : Trial) → IsOrderly book → is_owner e ≡ is_new book → Has (trials (e ∷ [])) t → (o : Owner) × (owner_of book ≡ Some o)
owner_before book (Pending trial) t s f h = s.owner (sym f)
owner_before book _ t s f h = absurd h

attempted_after : (book : List Entry) (e : Entry) → IsOrderly book → IsDue book e → is_owner e ≡ is_new book → (t : Trial) → Has (trials (book ++ e ∷ [])) t
    → (a : Attempted) × (attempt_of t.tag (book ++ e ∷ []) ≡ Some a)
attempted_after book e s d f t h = elim (which_trial book (e ∷ []) t h) [
  | inl a ↦ (let w = s.attempted t a in (w.0, attempt_kept book (e ∷ []) t.tag w.0 w.1))
  | inr b ↦ (let w = owner_before book e t s f b in new_attempt book e t w.0 w.1 (new_trial book e t d b) (found_by_tag book e s d t h))
]

pub orderly_after : (book : List Entry) (e : Entry) → IsOrderly book → MayFollow book e → IsOrderly (book ++ e ∷ [])
orderly_after book e s m =
    let d = m.due in
    record {
      job_numbers = job_numbers_after book e s d;
      jobs = jobs_after book e s d;
      owner = λ n. owner_after book e s m.first;
      tags_begin = tags_begin_after book e s d;
      tags_fit = tags_fit_after book e s m.coding;
      tag_numbers = tag_numbers_after book e s d;
      tags = tags_after book e s d;
      requests = requests_after book e s d;
      unclosed = unclosed_after book e s d;
      tried = tried_after book e s d;
      recorded = recorded_after book e s d;
      ended = ended_after book e s d;
      own = own_after book e s d;
      previous = previous_after book e s d;
      based = based_after book e s d;
      held_once = held_once_after book e s d;
      ended_once = ended_once_after book e s d;
      held_or_ended = held_or_ended_after book e s d;
      attempted = attempted_after book e s d m.first;
    }

pub orderly_at_first : IsOrderly []
orderly_at_first =
    record {
      job_numbers = λ o h. absurd h;
      jobs = λ o p h k q. absurd h;
      owner = λ n. cc;
      tags_begin = λ t h. absurd h;
      tags_fit = λ t h. absurd h;
      tag_numbers = λ t h. absurd h;
      tags = λ t u h k q. absurd h;
      requests = λ o p h k f q. absurd h;
      unclosed = λ o p h k u v f. absurd h;
      tried = λ t h. absurd h;
      recorded = λ x h. absurd h;
      ended = λ x h. absurd h;
      own = λ x h. absurd h;
      previous = λ t u h k q. absurd h;
      based = λ t o h k q u. absurd h;
      held_once = λ x y h k q. absurd h;
      ended_once = λ x y h k q. absurd h;
      held_or_ended = λ x y h k q. absurd h;
      attempted = λ t h. absurd h;
    }

pub orderly_from : (before es : List Entry) → IsOrderly before → MayAllFollow before es → IsOrderly (before ++ es)
orderly_from before [] s h = subst IsOrderly (sym (append-nil before)) s
orderly_from before (e ∷ es) s h =
    subst IsOrderly (append_assoc before (e ∷ []) es) (orderly_from (before ++ e ∷ []) es (orderly_after before e s h.0) h.1)

pub legal_is_orderly : (book : List Entry) → IsLegal book → IsOrderly book
legal_is_orderly book h = orderly_from [] book orderly_at_first h

-- the beginning of a legal book
pub legal_beginning : (before xs ys : List Entry) → MayAllFollow before (xs ++ ys) → MayAllFollow before xs
legal_beginning before [] ys h = tt
legal_beginning before (e ∷ xs) ys h = (h.0, legal_beginning (before ++ e ∷ []) xs ys h.1)

-- what follows it may follow
pub legal_rest : (before xs ys : List Entry) → MayAllFollow before (xs ++ ys) → MayAllFollow (before ++ xs) ys
legal_rest before [] ys h = subst (λ b. MayAllFollow b ys) (sym (append-nil before)) h
legal_rest before (e ∷ xs) ys h = subst (λ b. MayAllFollow b ys) (append_assoc before (e ∷ []) xs) (legal_rest (before ++ e ∷ []) xs ys h.1)

-- a legal book with one more entry that may follow it
pub legal_longer : (before xs : List Entry) (e : Entry) → MayAllFollow before xs → MayFollow (before ++ xs) e → MayAllFollow before (xs ++ e ∷ [])
legal_longer before [] e h k = (subst (λ b. MayFollow b e) (append-nil before) k, tt)
legal_longer before (x ∷ xs) e h k = (h.0, legal_longer (before ++ x ∷ []) xs e h.1 (subst (λ b. MayFollow b e) (sym (append_assoc before (x ∷ []) xs)) k))
