-- What a further entry adds to what a book says.
use Rattle.std.proofs.Common.{ℕ, ◌<◌, ◌+◌, ◌^◌, ◌==◌, true, false, ◌||◌, List, [], ◌∷◌, ◌++◌, ◌≡◌, ◌⊎◌, inl, inr, length, refl, ap, sym, subst, ◌∙◌, Some, None, IfSome}
use Rattle.std.specs.List.{list_any}
use Rattle.std.proofs.lemmas.List.Folds.{list_any-append}
use Rattle.uss_intent.specs.declared.records.State.{State}
use Rattle.uss_event.specs.declared.details.Proposal.{Proposal}
use Rattle.uss_event.specs.declared.asks.Wish.TheVariants.{Put}
use Rattle.uss_event.specs.declared.entries.Entry.{Entry}
use Rattle.uss_event.specs.declared.entries.Entry.TheVariants.{Opened, Pending, Held, Done}
use Rattle.uss_law_dss.specs.Lists.{Has}
use Rattle.uss_law_dss.proofs.Lists.{has_append, has_left}
use Rattle.uss_law_dss.proofs.Tests.{neither, equal_number}
use Rattle.uss_event.specs.declared.entries.Opening.{Opening}
use Rattle.uss_event.specs.declared.entries.Trial.{Trial}
use Rattle.uss_event.specs.declared.entries.Holding.{Holding}
use Rattle.uss_event.specs.declared.entries.Closing.{Closing}
use Rattle.uss_law_book.specs.Lists.{openings, trials, holdings, endings}
use Rattle.uss_law_book.specs.Contents.{opening_of, is_held, is_done, is_closed, is_open, owns, open_job_of, last_of, current_ovn_of}
use Rattle.uss_law_book.specs.Coding.{HasCoding}
use Rattle.uss_law_book.specs.Legal.{IsDue, IsAfter}
use Rattle.uss_law_book.proofs.Finds.{find_found, find_kept, halves}

pub openings_append : (xs ys : List Entry) → openings (xs ++ ys) ≡ openings xs ++ openings ys
openings_append [] ys = refl
openings_append (Opened o ∷ xs) ys = ap (λ (l : List Opening). o ∷ l) (openings_append xs ys)
openings_append (_ ∷ xs) ys = openings_append xs ys

pub trials_append : (xs ys : List Entry) → trials (xs ++ ys) ≡ trials xs ++ trials ys
trials_append [] ys = refl
trials_append (Pending t ∷ xs) ys =
    ap (λ (l : List Trial). t ∷ l) (trials_append xs ys)
trials_append (_ ∷ xs) ys = trials_append xs ys

pub holdings_append : (xs ys : List Entry) → holdings (xs ++ ys) ≡ holdings xs ++ holdings ys
holdings_append [] ys = refl
holdings_append (Held h ∷ xs) ys =
    ap (λ (l : List Holding). h ∷ l) (holdings_append xs ys)
holdings_append (_ ∷ xs) ys = holdings_append xs ys

pub endings_append : (xs ys : List Entry) → endings (xs ++ ys) ≡ endings xs ++ endings ys
endings_append [] ys = refl
endings_append (Done d ∷ xs) ys = ap (λ (l : List Closing). d ∷ l) (endings_append xs ys)
endings_append (_ ∷ xs) ys = endings_append xs ys

-- an old item stays, and an item is old or the new entry's
pub opening_stays : (xs ys : List Entry) (o : Opening) → Has (openings xs) o → Has (openings (xs ++ ys)) o
opening_stays xs ys o h = rw (openings_append xs ys) (has_left (openings xs) (openings ys) o h)

pub which_opening : (xs ys : List Entry) (o : Opening) → Has (openings (xs ++ ys)) o → Has (openings xs) o ⊎ Has (openings ys) o
which_opening xs ys o h = has_append (openings xs) (openings ys) o (subst (λ (l : List Opening). Has l o) (openings_append xs ys) h)

pub trial_stays : (xs ys : List Entry) (t : Trial) → Has (trials xs) t → Has (trials (xs ++ ys)) t
trial_stays xs ys t h = rw (trials_append xs ys) (has_left (trials xs) (trials ys) t h)

pub which_trial : (xs ys : List Entry) (t : Trial) → Has (trials (xs ++ ys)) t → Has (trials xs) t ⊎ Has (trials ys) t
which_trial xs ys t h = has_append (trials xs) (trials ys) t (subst (λ (l : List Trial). Has l t) (trials_append xs ys) h)

pub which_holding : (xs ys : List Entry) (x : Holding) → Has (holdings (xs ++ ys)) x → Has (holdings xs) x ⊎ Has (holdings ys) x
which_holding xs ys x h = has_append (holdings xs) (holdings ys) x (subst (λ (l : List Holding). Has l x) (holdings_append xs ys) h)

pub which_ending : (xs ys : List Entry) (x : Closing) → Has (endings (xs ++ ys)) x → Has (endings xs) x ⊎ Has (endings ys) x
which_ending xs ys x h = has_append (endings xs) (endings ys) x (subst (λ (l : List Closing). Has l x) (endings_append xs ys) h)

-- a job is closed by the old entries or by the new one
pub closed_by_either : (job : ℕ) (xs ys : List Entry) → is_closed job (xs ++ ys) ≡ (is_closed job xs || is_closed job ys)
unfolding is_held is_done
closed_by_either job xs ys =
    rw (holdings_append xs ys, endings_append xs ys, list_any-append (λ h. h.job == job) (holdings xs) (holdings ys), list_any-append (λ d. d.job == job) (endings xs) (endings ys))
    (halves (list_any (λ h. h.job == job) (holdings xs)) (list_any (λ h. h.job == job) (holdings ys)) (list_any (λ d. d.job == job) (endings xs)) (list_any (λ d. d.job == job) (endings ys)))

pub unclosed_before : (job : ℕ) (xs ys : List Entry) → is_closed job (xs ++ ys) ≡ false → is_closed job xs ≡ false
unclosed_before job xs ys h = (neither (is_closed job xs) (is_closed job ys) (sym (closed_by_either job xs ys) ∙ h)).0

pub unclosed_by : (job : ℕ) (xs ys : List Entry) → is_closed job (xs ++ ys) ≡ false → is_closed job ys ≡ false
unclosed_by job xs ys h = (neither (is_closed job xs) (is_closed job ys) (sym (closed_by_either job xs ys) ∙ h)).1

-- the look-up of a job
pub opening_found : (book : List Entry) (o : Opening) (job : ℕ) → Has (openings book) o → o.job ≡ job → (p : Opening) × (opening_of job book ≡ Some p)
unfolding opening_of
opening_found book o job h e = find_found (λ (p : Opening). p.job == job) (openings book) o h (equal_number o.job job e)

pub opening_kept : (xs ys : List Entry) (job : ℕ) (o : Opening) → opening_of job xs ≡ Some o → opening_of job (xs ++ ys) ≡ Some o
unfolding opening_of
opening_kept xs ys job o h = rw (openings_append xs ys) (find_kept (λ (p : Opening). p.job == job) (openings xs) (openings ys) o h)

-- what the new entry says, by what allows it
pub record NewOpening (book : List Entry) (o : Opening) : Type 0 where
  pub next : o.job ≡ length (openings book) + 1
  pub free : open_job_of o.ask.flight book ≡ None
  pub later : IfSome (last_of o.ask.flight book) (IsAfter o.ask)

pub record NewTrial (book : List Entry) (t : Trial) : Type 0 where
  pub opening : Opening
  pub opened : opening_of t.job book ≡ Some opening
  pub unclosed : is_closed t.job book ≡ false
  pub next : t.tag ≡ length (trials book) + 1
  pub base : t.previous ≡ current_ovn_of opening.ask.flight book
  pub to : State
  pub priority : ℕ
  pub rounds : ℕ
  pub proposals : List Proposal
  pub put : opening.ask.wish ≡ Put to priority rounds proposals
  pub one_of : t.alternative < length proposals

pub record NewHolding (book : List Entry) (h : Holding) : Type 0 where
  pub unfinished : is_open h.job book ≡ true
  pub own : owns h.job h.tag book ≡ true

pub record NewEnding (book : List Entry) (d : Closing) : Type 0 where
  pub opening : Opening
  pub opened : opening_of d.job book ≡ Some opening
  pub unclosed : is_closed d.job book ≡ false

pub new_opening : (book : List Entry) (e : Entry) (o : Opening) → IsDue book e → Has (openings (e ∷ [])) o → NewOpening book o
new_opening book (Opened opening) o d (inl q) = subst (NewOpening book) q (record { next = d.next; free = d.free; later = d.later })
new_opening book (Opened opening) o d (inr n) = absurd n
new_opening book _ o d h = absurd h

pub new_trial : (book : List Entry) (e : Entry) (t : Trial) → IsDue book e → Has (trials (e ∷ [])) t → NewTrial book t
new_trial book (Pending trial) t d (inl q) =
    subst (NewTrial book) q (record {
      opening = d.opening;
      opened = d.unfinished.opened;
      unclosed = d.unfinished.unclosed;
      next = d.next;
      base = d.current;
      to = d.to;
      priority = d.priority;
      rounds = d.rounds;
      proposals = d.proposals;
      put = d.unfinished.put;
      one_of = d.one_of;
    })
new_trial book (Pending trial) t d (inr n) = absurd n
new_trial book _ t d h = absurd h

pub new_holding : (book : List Entry) (e : Entry) (x : Holding) → IsDue book e → Has (holdings (e ∷ [])) x → NewHolding book x
new_holding book (Held h) x d (inl q) = subst (NewHolding book) q (record { unfinished = d.unfinished; own = d.own })
new_holding book (Held h) x d (inr n) = absurd n
new_holding book _ x d h = absurd h

pub new_ending : (book : List Entry) (e : Entry) (x : Closing) → IsDue book e → Has (endings (e ∷ [])) x → NewEnding book x
new_ending book (Done ending) x d (inl q) = subst (NewEnding book) q (record { opening = d.opening; opened = d.opened; unclosed = d.unclosed })
new_ending book (Done ending) x d (inr n) = absurd n
new_ending book _ x d h = absurd h

-- an entry opens one job, makes one attempt, and not both
pub one_opening : (e : Entry) (o p : Opening) → Has (openings (e ∷ [])) o → Has (openings (e ∷ [])) p → o ≡ p
one_opening (Opened opening) o p (inl q) (inl r) = sym q ∙ r
one_opening (Opened opening) o p (inl q) (inr n) = absurd n
one_opening (Opened opening) o p (inr n) h = absurd n
one_opening _ o p h k = absurd h

pub one_trial : (e : Entry) (t u : Trial) → Has (trials (e ∷ [])) t → Has (trials (e ∷ [])) u → t ≡ u
one_trial (Pending trial) t u (inl q) (inl r) = sym q ∙ r
one_trial (Pending trial) t u (inl q) (inr n) = absurd n
one_trial (Pending trial) t u (inr n) h = absurd n
one_trial _ t u h k = absurd h

pub not_both_new : (e : Entry) (o : Opening) (t : Trial) → Has (openings (e ∷ [])) o → Has (trials (e ∷ [])) t → ⊥
not_both_new (Opened opening) o t h k = absurd k
not_both_new _ o t h k = absurd h

pub one_holding : (e : Entry) (h k : Holding) → Has (holdings (e ∷ [])) h → Has (holdings (e ∷ [])) k → h ≡ k
one_holding (Held holding) h k (inl q) (inl r) = sym q ∙ r
one_holding (Held holding) h k (inl q) (inr n) = absurd n
one_holding (Held holding) h k (inr n) m = absurd n
one_holding _ h k m n = absurd m

pub one_ending : (e : Entry) (d c : Closing) → Has (endings (e ∷ [])) d → Has (endings (e ∷ [])) c → d ≡ c
one_ending (Done ending) d c (inl q) (inl r) = sym q ∙ r
one_ending (Done ending) d c (inl q) (inr n) = absurd n
one_ending (Done ending) d c (inr n) m = absurd n
one_ending _ d c m n = absurd m

pub not_both_close : (e : Entry) (h : Holding) (d : Closing) → Has (holdings (e ∷ [])) h → Has (endings (e ∷ [])) d → ⊥
not_both_close (Held holding) h d m n = absurd n
not_both_close _ h d m n = absurd m

-- the tag of a new attempt fits
pub new_tag_fits : (e : Entry) (t : Trial) → HasCoding e → Has (trials (e ∷ [])) t → t.tag < 2 ^ 64
new_tag_fits (Pending trial) t c (inl q) = subst (λ (x : Trial). x.tag < 2 ^ 64) q c.tag_fits
new_tag_fits (Pending trial) t c (inr n) = absurd n
new_tag_fits _ t c h = absurd h
