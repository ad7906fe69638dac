-- What else holds of every legal book.
use Rattle.std.proofs.Common.{ℕ, ◌≤◌, ◌<◌, ◌^◌, ◌==◌, Bool, true, false, cond, ◌&&◌, List, [], ◌∷◌, ◌++◌, ◌≡◌, ◌⊎◌, inl, inr, length, filter, refl, ap, sym, subst, ◌∙◌, arith, Option, Some, None}
use Rattle.std.specs.List.{last_or}
use Rattle.std.specs.Option.{option_map}
use Rattle.std.proofs.lemmas.List.{append-nil, append_assoc}
use Rattle.std.proofs.lemmas.List.Elements.{filter-append}
use Rattle.uss_event.specs.declared.asks.Wish.{Wish}
use Rattle.uss_event.specs.declared.asks.Wish.TheVariants.{Put, End}
use Rattle.uss_event.specs.declared.entries.Ending.{Ending}
use Rattle.uss_event.specs.declared.entries.Ending.TheVariants as Ends
use Rattle.uss_event.specs.declared.entries.Entry.{Entry}
use Rattle.uss_event.specs.declared.entries.Entry.TheVariants.{Opened, Held, Done}
use Rattle.uss_law_dss.specs.Lists.{Has}
use Rattle.uss_law_dss.proofs.Lists.{has_left, any_true, list_any_has}
use Rattle.uss_law_dss.proofs.Tests.{same_number, equal_number, both, and_true, not_both, some_same}
use Rattle.uss_event.specs.declared.entries.Opening.{Opening}
use Rattle.uss_event.specs.declared.entries.Trial.{Trial}
use Rattle.uss_event.specs.declared.entries.Holding.{Holding}
use Rattle.uss_event.specs.declared.entries.Closing.{Closing}
use Rattle.uss_law_book.specs.Lists.{openings, trials, holdings, endings}
use Rattle.uss_law_book.specs.Contents.{opening_of, is_closed, is_for, is_job_of, is_ended, has_ended, holdings_of, last_holding, holding, current_ovn_of}
use Rattle.uss_law_book.specs.Coding.{HasCoding}
use Rattle.uss_law_book.specs.Legal.{EndsFlight, EndsWish, IsDue, MayFollow, MayAllFollow, IsLegal}
use Rattle.uss_law_book.specs.Orderly.{IsOrderly}
use Rattle.uss_law_book.proofs.Finds.{filter_agrees, none_filtered}
use Rattle.uss_law_book.proofs.Entries.{openings_append, holdings_append, endings_append, opening_stays, trial_stays, which_opening, which_trial, which_holding, which_ending, closed_by_either, unclosed_before, new_trial, new_holding, new_opening, new_ending}
use Rattle.uss_law_book.proofs.Greatest.{number_is_greater}
use Rattle.uss_law_book.proofs.Kept.{opening_has, flight_stays, open_parts, done_closes}
use Rattle.uss_law_book.proofs.Held.{holding_has, opening_is_found}
use Rattle.uss_law_book.proofs.EachOrderly.{owned, orderly_after, orderly_at_first}
use Rattle.uss_law_world.specs.Claims.{is_request}

pub holding_stays : (xs ys : List Entry) (h : Holding) → Has (holdings xs) h → Has (holdings (xs ++ ys)) h
holding_stays xs ys h k = rw (holdings_append xs ys) (has_left (holdings xs) (holdings ys) h k)

pub ending_stays : (xs ys : List Entry) (d : Closing) → Has (endings xs) d → Has (endings (xs ++ ys)) d
ending_stays xs ys d k = rw (endings_append xs ys) (has_left (endings xs) (endings ys) d k)

-- a later record of the flight was made over this one
pub record IsFollowed (book : List Entry) (h : Holding) : Type 0 where
  pub trial : Trial
  pub next : Holding
  pub tried : Has (trials book) trial
  pub entered : Has (holdings book) next
  pub tag : trial.tag ≡ next.tag
  pub previous : trial.previous ≡ Some h.ovn

pub record BookFacts (book : List Entry) : Type 0 where
  -- jobs and flights fit 64 bits
  pub fits : (o : Opening) → Has (openings book) o → (o.job < 2 ^ 64) × (o.ask.flight < 2 ^ 64)
  -- an attempt changes what the book once recorded
  pub based_on : (t : Trial) (ovn : List ℕ) → Has (trials book) t → t.previous ≡ Some ovn → (h : Holding) × Has (holdings book) h × (h.ovn ≡ ovn)
  -- what was recorded of a flight is the last, or a later one was made over it
  pub followed : (h : Holding) (o : Opening) → Has (holdings book) h → Has (openings book) o → o.job ≡ h.job → (last_holding o.ask.flight book ≡ Some h) ⊎ IsFollowed book h
  -- where a flight has ended, each of its jobs is closed
  pub ended : (d : Closing) (p o : Opening) → Has (endings book) d → is_ended d.end ≡ true → Has (openings book) p → p.job ≡ d.job → Has (openings book) o → o.ask.flight ≡ p.ask.flight
      → is_closed o.job book ≡ true
  -- a job that is to end its flight ends so
  pub ends : (d : Closing) (o : Opening) → Has (endings book) d → Has (openings book) o → o.job ≡ d.job → o.ask.wish ≡ End → is_ended d.end ≡ true
  -- a request opened at most one job
  pub once : (flight number : ℕ) → length (filter (is_request flight number) (openings book)) ≤ 1

-- the flight has ended by one of its jobs
pub record IsEndedBy (book : List Entry) (flight : ℕ) : Type 0 where
  pub closing : Closing
  pub opening : Opening
  pub entered : Has (endings book) closing
  pub is : is_ended closing.end ≡ true
  pub opened : Has (openings book) opening
  pub job : opening.job ≡ closing.job
  pub flight_is : opening.ask.flight ≡ flight

pub job_of : (book : List Entry) (flight job : ℕ) → is_job_of flight job book ≡ true → (o : Opening) × Has (openings book) o × (o.job ≡ job) × (o.ask.flight ≡ flight)
unfolding is_job_of
job_of book flight job h = go (opening_of job book) refl h
  where
    go : (x : Option Opening) → opening_of job book ≡ x → is_for flight x ≡ true → (o : Opening) × Has (openings book) o × (o.job ≡ job) × (o.ask.flight ≡ flight)
    go None e k = cc
    go (Some o) e k = let i = opening_has book job o e in (o, i.0, i.1, same_number o.ask.flight flight k)

pub is_job : (book : List Entry) (o : Opening) (job : ℕ) → IsOrderly book → Has (openings book) o → o.job ≡ job → is_job_of o.ask.flight job book ≡ true
unfolding is_job_of
is_job book o job s h e =
    let f = opening_is_found book o s h in
    let g : opening_of job book ≡ Some o = subst (λ j. opening_of j book ≡ Some o) e f in
    rw g (equal_number o.ask.flight o.ask.flight refl)

pub ended_tells : (book : List Entry) (flight : ℕ) → has_ended flight book ≡ true → IsEndedBy book flight
unfolding has_ended
ended_tells book flight h =
    let a = list_any_has (λ (d : Closing). is_ended d.end && is_job_of flight d.job book) (endings book) h in
    let b = both (is_ended a.0.end) (is_job_of flight a.0.job book) a.2 in
    let j = job_of book flight a.0.job b.1 in
    record { closing = a.0; opening = j.0; entered = a.1; is = b.0; opened = j.1; job = j.2; flight_is = j.3 }

pub ended_is : (book : List Entry) (d : Closing) (p : Opening) → IsOrderly book → Has (endings book) d → is_ended d.end ≡ true → Has (openings book) p → p.job ≡ d.job → has_ended p.ask.flight book ≡ true
unfolding has_ended
ended_is book d p s h e k q =
    any_true (λ (x : Closing). is_ended x.end && is_job_of p.ask.flight x.job book) (endings book) d h
    (and_true (is_ended d.end) (is_job_of p.ask.flight d.job book) e (is_job book p d.job s k q))

-- a flight with an open job hasn't ended
pub alive : (book : List Entry) (o : Opening) → BookFacts book → Has (openings book) o → is_closed o.job book ≡ false → has_ended o.ask.flight book ≡ false
alive book o f h u = go (has_ended o.ask.flight book) refl
  where
    go : (b : Bool) → has_ended o.ask.flight book ≡ b → b ≡ false
    go false e = refl
    go true e =
        let x = ended_tells book o.ask.flight e in
        not_both (is_closed o.job book) (f.ended x.closing x.opening o x.entered x.is x.opened x.job h (sym x.flight_is)) u

closed_still : (book : List Entry) (e : Entry) (job : ℕ) → is_closed job book ≡ true → is_closed job (book ++ e ∷ []) ≡ true
closed_still book e job h = closed_by_either job book (e ∷ []) ∙ rw h refl

fits_new : (e : Entry) (o : Opening) → HasCoding e → Has (openings (e ∷ [])) o → (o.job < 2 ^ 64) × (o.ask.flight < 2 ^ 64)
fits_new (Opened opening) o c (inl q) = subst (λ (x : Opening). (x.job < 2 ^ 64) × (x.ask.flight < 2 ^ 64)) q (c.0, c.2.flight)
fits_new (Opened opening) o c (inr n) = absurd n
fits_new _ o c h = absurd h

pub based : (book : List Entry) (flight : ℕ) (ovn : List ℕ) → current_ovn_of flight book ≡ Some ovn → (h : Holding) × Has (holdings book) h × (h.ovn ≡ ovn)
based book flight ovn e = go (holding flight book) refl e
  where
    go : (x : Option Holding) → holding flight book ≡ x → option_map (λ (h : Holding). h.ovn) x ≡ Some ovn → (h : Holding) × Has (holdings book) h × (h.ovn ≡ ovn)
    go None q k = cc
    go (Some h) q k = (h, (holding_has book flight h q).0, some_same h.ovn ovn k)

still_based : (book : List Entry) (e : Entry) (ovn : List ℕ) → (h : Holding) × Has (holdings book) h × (h.ovn ≡ ovn) → (h : Holding) × Has (holdings (book ++ e ∷ [])) h × (h.ovn ≡ ovn)
still_based book e ovn x = (x.0, holding_stays book (e ∷ []) x.0 x.1, x.2)

based_after : (book : List Entry) (e : Entry) → BookFacts book → IsDue book e → (t : Trial) (ovn : List ℕ) → Has (trials (book ++ e ∷ [])) t → t.previous ≡ Some ovn
    → (h : Holding) × Has (holdings (book ++ e ∷ [])) h × (h.ovn ≡ ovn)
based_after book e f d t ovn h q = elim (which_trial book (e ∷ []) t h) [
  | inl old ↦ still_based book e ovn (f.based_on t ovn old q)
  | inr new ↦ (let n = new_trial book e t d new in still_based book e ovn (based book n.opening.ask.flight ovn (sym n.base ∙ q)))
]

-- a new job is of a flight that hasn't ended
alive_before : (book : List Entry) (e : Entry) (o : Opening) → IsDue book e → Has (openings (e ∷ [])) o → has_ended o.ask.flight book ≡ false
alive_before book (Opened opening) o d (inl q) = subst (λ (x : Opening). has_ended x.ask.flight book ≡ false) q d.alive
alive_before book (Opened opening) o d (inr n) = absurd n
alive_before book _ o d h = absurd h

-- a job that was opened before, in the longer book
old_opening : (book : List Entry) (e : Entry) (p : Opening) (job : ℕ) → IsOrderly (book ++ e ∷ []) → (q : Opening) → Has (openings book) q → q.job ≡ job → Has (openings (book ++ e ∷ [])) p → p.job ≡ job → q ≡ p
old_opening book e p job s q h e' k f = s.jobs q p (opening_stays book (e ∷ []) q h) k (e' ∙ sym f)

not_opened_and_ended : (e : Entry) (o : Opening) (d : Closing) → Has (openings (e ∷ [])) o → Has (endings (e ∷ [])) d → ⊥
not_opened_and_ended (Opened opening) o d h k = absurd k
not_opened_and_ended _ o d h k = absurd h

ended_old : (book : List Entry) (e : Entry) → IsOrderly book → BookFacts book → IsDue book e → (d : Closing) (p o : Opening) → Has (endings book) d → is_ended d.end ≡ true
    → Has (openings book) p → p.job ≡ d.job → Has (openings (book ++ e ∷ [])) o → o.ask.flight ≡ p.ask.flight → is_closed o.job (book ++ e ∷ []) ≡ true
ended_old book e s f due d p o h i k q m n = elim (which_opening book (e ∷ []) o m) [
  | inl old ↦ closed_still book e o.job (f.ended d p o h i k q old n)
  | inr new ↦ not_both (has_ended o.ask.flight book) (subst (λ g. has_ended g book ≡ true) (sym n) (ended_is book d p s h i k q)) (alive_before book e o due new)
]

ended_new : (book : List Entry) (e : Entry) → IsOrderly book → IsOrderly (book ++ e ∷ []) → IsDue book e → (d : Closing) (p o : Opening) → Has (endings (e ∷ [])) d
    → Has (openings (book ++ e ∷ [])) p → p.job ≡ d.job → Has (openings (book ++ e ∷ [])) o → o.ask.flight ≡ p.ask.flight → is_closed o.job (book ++ e ∷ []) ≡ true
ended_new book e s v due d p o h k q m n = go (is_closed o.job (book ++ e ∷ [])) refl
  where
    there : Has (endings (book ++ e ∷ [])) d
    there = rw (endings_append book (e ∷ [])) (right (endings book) (endings (e ∷ [])) h)
      where
        right : (xs ys : List Closing) → Has ys d → Has (xs ++ ys) d
        right [] ys z = z
        right (x ∷ xs) ys z = inr (right xs ys z)

    go : (b : Bool) → is_closed o.job (book ++ e ∷ []) ≡ b → b ≡ true
    go true w = refl
    go false w = elim (which_opening book (e ∷ []) o m) [
      | inr new ↦ absurd (not_opened_and_ended e o d new h)
      | inl old ↦ (
          let x = new_ending book e d due h in
          let i = opening_has book d.job x.opening x.opened in
          let same : x.opening ≡ p = old_opening book e p d.job v x.opening i.0 i.1 k q in
          let u : is_closed x.opening.job book ≡ false = subst (λ j. is_closed j book ≡ false) (sym i.1) x.unclosed in
          let g : o.ask.flight ≡ x.opening.ask.flight = n ∙ ap (λ (z : Opening). z.ask.flight) (sym same) in
          let y : o ≡ x.opening = s.unclosed o x.opening old i.0 (unclosed_before o.job book (e ∷ []) w) u g in
          let j : o.job ≡ d.job = ap (λ (z : Opening). z.job) y ∙ i.1 in
          absurd (done_closes (book ++ e ∷ []) d there (subst (λ z. is_closed z (book ++ e ∷ []) ≡ false) j w)))
    ]

ended_after : (book : List Entry) (e : Entry) → IsOrderly book → IsOrderly (book ++ e ∷ []) → BookFacts book → IsDue book e → (d : Closing) (p o : Opening)
    → Has (endings (book ++ e ∷ [])) d → is_ended d.end ≡ true → Has (openings (book ++ e ∷ [])) p → p.job ≡ d.job → Has (openings (book ++ e ∷ [])) o → o.ask.flight ≡ p.ask.flight
    → is_closed o.job (book ++ e ∷ []) ≡ true
ended_after book e s v f due d p o h i k q m n = elim (which_ending book (e ∷ []) d h) [
  | inl old ↦ (
      let w = s.ended d old in
      let same : w.0 ≡ p = old_opening book e p d.job v w.0 w.1 w.2 k q in
      ended_old book e s f due d w.0 o old i w.1 w.2 m (n ∙ ap (λ (z : Opening). z.ask.flight) (sym same)))
  | inr new ↦ ended_new book e s v due d p o new k q m n
]

-- what an entry records, if it does
one_or_none : (e : Entry) → (holdings (e ∷ []) ≡ []) ⊎ ((k : Holding) × (holdings (e ∷ []) ≡ k ∷ []))
one_or_none (Held h) = inr (h, refl)
one_or_none _ = inl refl

holdings_after : (book : List Entry) (e : Entry) (flight : ℕ) → IsOrderly book
    → holdings_of flight (book ++ e ∷ []) ≡ holdings_of flight book ++ filter (λ (x : Holding). is_job_of flight x.job (book ++ e ∷ [])) (holdings (e ∷ []))
unfolding holdings_of
holdings_after book e flight s =
    let after : Holding → Bool = λ x. is_job_of flight x.job (book ++ e ∷ []) in
    let before : Holding → Bool = λ x. is_job_of flight x.job book in
    ap (λ (l : List Holding). filter after l) (holdings_append book (e ∷ []))
    ∙ filter-append after (holdings book) (holdings (e ∷ []))
    ∙ ap (λ (l : List Holding). l ++ filter after (holdings (e ∷ [])))
    (filter_agrees after before (holdings book) (λ x k. let r = s.recorded x k in flight_stays book (e ∷ []) flight x.job r.0 r.1 r.2))

last_pushed : {X : Type 0} (o : Option X) (xs : List X) (x : X) → last_or o (xs ++ x ∷ []) ≡ Some x
last_pushed o [] x = refl
last_pushed o (y ∷ xs) x = last_pushed (Some y) xs x

last_same : (book : List Entry) (e : Entry) (flight : ℕ) → IsOrderly book → filter (λ (x : Holding). is_job_of flight x.job (book ++ e ∷ [])) (holdings (e ∷ [])) ≡ []
    → last_holding flight (book ++ e ∷ []) ≡ last_holding flight book
last_same book e flight s h =
    ap (last_or None) (holdings_after book e flight s ∙ ap (λ (l : List Holding). holdings_of flight book ++ l) h ∙ append-nil (holdings_of flight book))

followed_still : (book : List Entry) (e : Entry) (h : Holding) → IsFollowed book h → IsFollowed (book ++ e ∷ []) h
followed_still book e h x =
    record {
      trial = x.trial;
      next = x.next;
      tried = trial_stays book (e ∷ []) x.trial x.tried;
      entered = holding_stays book (e ∷ []) x.next x.entered;
      tag = x.tag;
      previous = x.previous;
    }

filter_one : {X : Type 0} (p : X → Bool) (x : X) (b : Bool) → p x ≡ b → filter p (x ∷ []) ≡ cond b (x ∷ []) []
filter_one p x true e = rw e refl
filter_one p x false e = rw e refl

-- the entry records over what was the last
follows : (book : List Entry) (e : Entry) (k h : Holding) (flight : ℕ) → IsOrderly book → IsOrderly (book ++ e ∷ []) → BookFacts book → IsDue book e → Has (holdings (e ∷ [])) k → Has (holdings (book ++ e ∷ [])) k
    → is_job_of flight k.job (book ++ e ∷ []) ≡ true → last_holding flight book ≡ Some h → IsFollowed (book ++ e ∷ []) h
unfolding holding
follows book e k h flight s v f due new there j last =
    let n = new_holding book e k due new in
    let t = owned book k.job k.tag n.own in
    let q = open_parts book k.job n.unfinished in
    let i = opening_has book k.job q.0 q.1 in
    let p = job_of (book ++ e ∷ []) flight k.job j in
    let same : q.0 ≡ p.0 = old_opening book e p.0 k.job v q.0 i.0 i.1 p.1 p.2 in
    let g : q.0.ask.flight ≡ flight = ap (λ (z : Opening). z.ask.flight) same ∙ p.3 in
    let u : is_closed q.0.job book ≡ false = subst (λ z. is_closed z book ≡ false) (sym i.1) q.2 in
    let a : has_ended flight book ≡ false = subst (λ z. has_ended z book ≡ false) g (alive book q.0 f i.0 u) in
    let b : t.0.previous ≡ current_ovn_of q.0.ask.flight book = s.based t.0 q.0 t.1 i.0 (i.1 ∙ sym t.2) u in
    let c : current_ovn_of flight book ≡ Some h.ovn = rw (a, last) refl in
    record {
      trial = t.0;
      next = k;
      tried = trial_stays book (e ∷ []) t.0 t.1;
      entered = there;
      tag = t.3;
      previous = b ∙ ap (λ z. current_ovn_of z book) g ∙ c;
    }

pushed : {X : Type 0} (xs ys : List X) (x : X) → ys ≡ x ∷ [] → Has (xs ++ ys) x
pushed [] ys x e = rw e (inl refl)
pushed (y ∷ xs) ys x e = inr (pushed xs ys x e)

followed_old : (book : List Entry) (e : Entry) → IsOrderly book → IsOrderly (book ++ e ∷ []) → BookFacts book → IsDue book e → (h : Holding) (flight : ℕ) → last_holding flight book ≡ Some h
    → (last_holding flight (book ++ e ∷ []) ≡ Some h) ⊎ IsFollowed (book ++ e ∷ []) h
followed_old book e s v f due h flight last = elim (one_or_none e) [
  | inl none ↦ inl (last_same book e flight s (ap (filter (λ (x : Holding). is_job_of flight x.job (book ++ e ∷ []))) none) ∙ last)
  | inr some ↦ go some.0 some.1 (is_job_of flight some.0.job (book ++ e ∷ [])) refl
]
  where
    go : (k : Holding) → holdings (e ∷ []) ≡ k ∷ [] → (b : Bool) → is_job_of flight k.job (book ++ e ∷ []) ≡ b → (last_holding flight (book ++ e ∷ []) ≡ Some h) ⊎ IsFollowed (book ++ e ∷ []) h
    go k q false j =
        inl (last_same book e flight s (ap (filter (λ (x : Holding). is_job_of flight x.job (book ++ e ∷ []))) q ∙ filter_one (λ (x : Holding). is_job_of flight x.job (book ++ e ∷ [])) k false j) ∙ last)
    go k q true j =
        inr (follows book e k h flight s v f due (rw q (inl refl)) (rw (holdings_append book (e ∷ [])) (pushed (holdings book) (holdings (e ∷ [])) k q)) j last)

followed_new : (book : List Entry) (e : Entry) (h : Holding) (o : Opening) → IsOrderly book → IsOrderly (book ++ e ∷ []) → Has (holdings (e ∷ [])) h → Has (openings (book ++ e ∷ [])) o → o.job ≡ h.job
    → last_holding o.ask.flight (book ++ e ∷ []) ≡ Some h
followed_new book e h o s v new k q =
    let j = is_job (book ++ e ∷ []) o h.job v k q in
    let only : holdings (e ∷ []) ≡ h ∷ [] = single e h new in
    ap (last_or None) (holdings_after book e o.ask.flight s ∙ ap (λ (l : List Holding). holdings_of o.ask.flight book ++ l) (ap (filter (λ (x : Holding). is_job_of o.ask.flight x.job (book ++ e ∷ []))) only ∙ filter_one (λ (x : Holding). is_job_of o.ask.flight x.job (book ++ e ∷ [])) h true j))
    ∙ last_pushed None (holdings_of o.ask.flight book) h
  where
    single : (x : Entry) (h : Holding) → Has (holdings (x ∷ [])) h → holdings (x ∷ []) ≡ h ∷ []
    single (Held holding) h (inl r) = ap (λ (z : Holding). z ∷ []) r
    single (Held holding) h (inr n) = absurd n
    single _ h n = absurd n

followed_after : (book : List Entry) (e : Entry) → IsOrderly book → IsOrderly (book ++ e ∷ []) → BookFacts book → IsDue book e → (h : Holding) (o : Opening) → Has (holdings (book ++ e ∷ [])) h
    → Has (openings (book ++ e ∷ [])) o → o.job ≡ h.job → (last_holding o.ask.flight (book ++ e ∷ []) ≡ Some h) ⊎ IsFollowed (book ++ e ∷ []) h
followed_after book e s v f due h o k m q = elim (which_holding book (e ∷ []) h k) [
  | inr new ↦ inl (followed_new book e h o s v new m q)
  | inl old ↦ (
      let w = s.recorded h old in
      let same : w.0 ≡ o = old_opening book e o h.job v w.0 w.1 w.2 m q in
      elim (f.followed h w.0 old w.1 w.2) [
        | inl last ↦ followed_old book e s v f due h o.ask.flight (subst (λ (z : Opening). last_holding z.ask.flight book ≡ Some h) same last)
        | inr x ↦ inr (followed_still book e h x)
      ])
]

opens_one : (e : Entry) → (openings (e ∷ []) ≡ []) ⊎ ((o : Opening) × (openings (e ∷ []) ≡ o ∷ []))
opens_one (Opened o) = inr (o, refl)
opens_one _ = inl refl

once_after : (book : List Entry) (e : Entry) → BookFacts book → IsDue book e → (flight number : ℕ) → length (filter (is_request flight number) (openings (book ++ e ∷ []))) ≤ 1
once_after book e f due flight number =
    let p : Opening → Bool = is_request flight number in
    let whole : filter p (openings (book ++ e ∷ [])) ≡ filter p (openings book) ++ filter p (openings (e ∷ [])) =
    ap (filter p) (openings_append book (e ∷ [])) ∙ filter-append p (openings book) (openings (e ∷ [])) in
    elim (opens_one e) [
      | inl none ↦ same (whole ∙ ap (λ (l : List Opening). filter p (openings book) ++ filter p l) none ∙ append-nil (filter p (openings book)))
      | inr some ↦ go some.0 some.1 (is_request flight number some.0) refl whole
    ]
  where
    same : filter (is_request flight number) (openings (book ++ e ∷ [])) ≡ filter (is_request flight number) (openings book) → length (filter (is_request flight number) (openings (book ++ e ∷ []))) ≤ 1
    same q = subst (λ (l : List Opening). length l ≤ 1) (sym q) (f.once flight number)

    earlier : (o : Opening) → Has (openings (e ∷ [])) o → is_request flight number o ≡ true → (q : Opening) → Has (openings book) q → is_request flight number q ≡ false
    earlier o new is q h = at (is_request flight number q) refl
      where
        at : (b : Bool) → is_request flight number q ≡ b → b ≡ false
        at false w = refl
        at true w =
            let a = both (o.ask.flight == flight) (o.ask.number == number) is in
            let c = both (q.ask.flight == flight) (q.ask.number == number) w in
            let n = new_opening book e o due new in
            let l = number_is_greater book o.ask q n.later h (same_number q.ask.flight flight c.0 ∙ sym (same_number o.ask.flight flight a.0)) in
            let x = same_number q.ask.number number c.1 in
            let y = same_number o.ask.number number a.1 in
            absurd (omega (arith, l, x, y))

    go : (o : Opening) → openings (e ∷ []) ≡ o ∷ [] → (b : Bool) → is_request flight number o ≡ b
        → filter (is_request flight number) (openings (book ++ e ∷ [])) ≡ filter (is_request flight number) (openings book) ++ filter (is_request flight number) (openings (e ∷ []))
        → length (filter (is_request flight number) (openings (book ++ e ∷ []))) ≤ 1
    go o q false j whole =
        same (whole ∙ ap (λ (l : List Opening). filter (is_request flight number) (openings book) ++ l) (ap (filter (is_request flight number)) q ∙ filter_one (is_request flight number) o false j)
        ∙ append-nil (filter (is_request flight number) (openings book)))
    go o q true j whole =
        let none = none_filtered (is_request flight number) (openings book) (earlier o (rw q (inl refl)) j) in
        let one : filter (is_request flight number) (openings (e ∷ [])) ≡ o ∷ [] = ap (filter (is_request flight number)) q ∙ filter_one (is_request flight number) o true j in
        let both_parts : filter (is_request flight number) (openings book) ++ filter (is_request flight number) (openings (e ∷ [])) ≡ o ∷ [] = rw (none, one) refl in
        let all : filter (is_request flight number) (openings (book ++ e ∷ [])) ≡ o ∷ [] = whole ∙ both_parts in
        subst (λ (l : List Opening). length l ≤ 1) (sym all) (omega arith)

ends_flight : (end : Ending) → EndsFlight end → is_ended end ≡ true
ends_flight (Ends.Conflict flight manager rule) h = absurd h
ends_flight (Ends.Stale missing) h = absurd h
ends_flight Ends.Cancelled h = absurd h
ends_flight (Ends.Ended owed) h = refl

by_end_wish : (book : List Entry) (job : ℕ) (end : Ending) (wish : Wish) → EndsWish book job end wish → wish ≡ End → is_ended end ≡ true
by_end_wish book job end (Put to priority rounds proposals) h e = cc
by_end_wish book job end End h e = ends_flight end h

new_ends : (book : List Entry) (e : Entry) (d : Closing) (o : Opening) → IsOrderly (book ++ e ∷ []) → IsDue book e → Has (endings (e ∷ [])) d → Has (openings (book ++ e ∷ [])) o → o.job ≡ d.job → o.ask.wish ≡ End
    → is_ended d.end ≡ true
new_ends book (Done ending) d o v due (inl q) k f w =
    let i = opening_has book ending.job due.opening due.opened in
    let g : o.job ≡ ending.job = f ∙ ap (λ (z : Closing). z.job) (sym q) in
    let same : due.opening ≡ o = old_opening book (Done ending) o ending.job v due.opening i.0 i.1 k g in
    let x : due.opening.ask.wish ≡ End = ap (λ (z : Opening). z.ask.wish) same ∙ w in
    subst (λ (z : Closing). is_ended z.end ≡ true) q (by_end_wish book ending.job ending.end due.opening.ask.wish due.wish x)
new_ends book (Done ending) d o v due (inr n) k f w = absurd n
new_ends book _ d o v due h k f w = absurd h

ends_after : (book : List Entry) (e : Entry) → IsOrderly book → IsOrderly (book ++ e ∷ []) → BookFacts book → IsDue book e → (d : Closing) (o : Opening) → Has (endings (book ++ e ∷ [])) d
    → Has (openings (book ++ e ∷ [])) o → o.job ≡ d.job → o.ask.wish ≡ End → is_ended d.end ≡ true
ends_after book e s v f due d o h k q w = elim (which_ending book (e ∷ []) d h) [
  | inr new ↦ new_ends book e d o v due new k q w
  | inl old ↦ (
      let x = s.ended d old in
      let same : x.0 ≡ o = old_opening book e o d.job v x.0 x.1 x.2 k q in
      f.ends d x.0 old x.1 x.2 (ap (λ (z : Opening). z.ask.wish) same ∙ w))
]

facts_after : (book : List Entry) (e : Entry) → IsOrderly book → BookFacts book → MayFollow book e → BookFacts (book ++ e ∷ [])
facts_after book e s f m =
    let v = orderly_after book e s m in
    let d = m.due in
    record {
      fits = λ o h. elim (which_opening book (e ∷ []) o h) [ inl old ↦ f.fits o old | inr new ↦ fits_new e o m.coding new ];
      based_on = based_after book e f d;
      followed = followed_after book e s v f d;
      ended = ended_after book e s v f d;
      ends = ends_after book e s v f d;
      once = once_after book e f d;
    }

facts_at_first : BookFacts []
facts_at_first =
    record {
      fits = λ o h. absurd h;
      based_on = λ t ovn h q. absurd h;
      followed = λ h o k m q. absurd k;
      ended = λ d p o h i k q m n. absurd h;
      ends = λ d o h k q w. absurd h;
      once = λ flight number. omega arith;
    }

facts_from : (before es : List Entry) → IsOrderly before → BookFacts before → MayAllFollow before es → BookFacts (before ++ es)
facts_from before [] s f h = subst BookFacts (sym (append-nil before)) f
facts_from before (e ∷ es) s f h =
    subst BookFacts (append_assoc before (e ∷ []) es) (facts_from (before ++ e ∷ []) es (orderly_after before e s h.0) (facts_after before e s f h.0) h.1)

pub legal_facts : (book : List Entry) → IsLegal book → BookFacts book
legal_facts book h = facts_from [] book orderly_at_first facts_at_first h
