-- How the bytes of the settled entries change with an entry.
use Rattle.std.proofs.Common.{ℕ, ◌+◌, ◌==◌, Bool, true, false, cond, not, ◌||◌, ◌&&◌, List, [], ◌∷◌, ◌++◌, ◌≡◌, inl, inr, filter, refl, ap, sym, subst, ◌∙◌, arith, Some, is_some}
use Rattle.std.specs.Prelude.{sum_by}
use Rattle.std.proofs.lemmas.List.Sums.{sum_by-append, sum_by-cons}
use Rattle.std.proofs.lemmas.List.Elements.{filter-append}
use Rattle.uss_event.specs.declared.entries.Entry.{Entry}
use Rattle.uss_event.specs.declared.entries.Entry.TheVariants.{Opened, TicketOpen, Pending, Held, Deciding, Done, TicketGone, Sent}
use Rattle.uss_event.specs.declared.entries.Entry.TheVariants as Enters
use Rattle.uss_law_dss.specs.Lists.{Has}
use Rattle.uss_law_dss.proofs.Lists.{has_append}
use Rattle.uss_law_dss.proofs.Tests.{same_number, equal_number, unequal_number, right_true, not_both}
use Rattle.uss_event.specs.declared.entries.Opening.{Opening}
use Rattle.uss_law_book.specs.Lists.{openings, holdings, endings}
use Rattle.uss_law_book.specs.Contents.{opening_of, is_held, is_done, is_closed, is_open}
use Rattle.uss_law_book.specs.Coding.{record_length, journal_length}
use Rattle.uss_law_book.specs.Reserve.{is_reserved, settled}
use Rattle.uss_law_book.specs.Legal.{IsDue, MayFollow, IsLegal}
use Rattle.uss_law_book.specs.Orderly.{IsOrderly}
use Rattle.uss_law_book.proofs.Finds.{filter_agrees}
use Rattle.uss_law_book.proofs.Entries.{opening_kept, opening_found, opening_stays}
use Rattle.uss_law_book.proofs.Kept.{opening_has, open_parts}
use Rattle.uss_law_book.proofs.EachOrderly.{legal_is_orderly}
use Rattle.uss_law_book.specs.Changes.{is_later_of, bytes_of}
use Rattle.uss_law_book.specs.Changes.{settled_by}
use Rattle.uss_law_book.proofs.EachLegal.{each_legal}
use Rattle.uss_law_book.proofs.Others.{is_of_job, closed_same}
use Rattle.uss_law_book.proofs.Still.{held_either, done_either, closed_still, holds_it, ends_it}
use Rattle.uss_law_book.proofs.Needed.{closed_is_opened}

-- the entry is one of a job after its opening
abbrev pub is_later : Entry → Bool
is_later (Enters.Owner owner) = false
is_later (Opened o) = false
is_later _ = true

-- whether the bytes are among those kept free for an open job
reserved_by : (es : List Entry) (e : Entry) (j : ℕ) → is_of_job j e ≡ true → is_reserved es e ≡ (is_later e && is_open j es)
reserved_by es (Enters.Owner owner) j h = refl
reserved_by es (Opened o) j h = refl
reserved_by es (TicketOpen job) j h = ap (λ n. is_open n es) (same_number job j h)
reserved_by es (Pending t) j h = ap (λ n. is_open n es) (same_number t.job j h)
reserved_by es (Held holding) j h = ap (λ n. is_open n es) (same_number holding.job j h)
reserved_by es (Deciding d) j h = ap (λ n. is_open n es) (same_number d.job j h)
reserved_by es (Done d) j h = ap (λ n. is_open n es) (same_number d.job j h)
reserved_by es (TicketGone job) j h = ap (λ n. is_open n es) (same_number job j h)
reserved_by es (Sent sending) j h = ap (λ n. is_open n es) (same_number sending.job j h)

unreserved : (es : List Entry) (e : Entry) → is_later e ≡ false → is_reserved es e ≡ false
unreserved es (Enters.Owner owner) h = refl
unreserved es (Opened o) h = refl
unreserved es _ h = cc

later_by : (job : ℕ) (e : Entry) → is_later_of job e ≡ (is_later e && is_of_job job e)
later_by job (Enters.Owner owner) = refl
later_by job (Opened o) = refl
later_by job _ = refl

-- ---- each entry after an opening is of a job that was opened

abbrev pub IsSpokenOf : List Entry → Entry → Type 0
IsSpokenOf es e = (o : Opening) × Has (openings es) o × (is_of_job o.job e ≡ true)

of_it : (es : List Entry) (job : ℕ) (o : Opening) → opening_of job es ≡ Some o → Has (openings es) o × ((job == o.job) ≡ true)
of_it es job o e = let i = opening_has es job o e in (i.0, equal_number job o.job (sym i.1))

of_closed : (es : List Entry) (job : ℕ) → IsOrderly es → is_closed job es ≡ true → (o : Opening) × Has (openings es) o × ((job == o.job) ≡ true)
of_closed es job s c = let i = closed_is_opened es job s c in (i.0, i.1, equal_number job i.0.job (sym i.2))

pub opened_before : (es : List Entry) (e : Entry) → IsOrderly es → IsDue es e → is_later e ≡ true → IsSpokenOf es e
opened_before es (Enters.Owner owner) s d h = absurd (let f : false ≡ true = h in cc)
opened_before es (Opened o) s d h = absurd (let f : false ≡ true = h in cc)
opened_before es (TicketOpen job) s d h = let i = of_it es job d.opening d.unfinished.opened in (d.opening, i.0, i.1)
opened_before es (Pending t) s d h = let i = of_it es t.job d.opening d.unfinished.opened in (d.opening, i.0, i.1)
opened_before es (Held holding) s d h = let q = open_parts es holding.job d.unfinished in let i = of_it es holding.job q.0 q.1 in (q.0, i.0, i.1)
opened_before es (Deciding decision) s d h = let i = of_it es decision.job d.opening d.unfinished.opened in (d.opening, i.0, i.1)
opened_before es (Done ending) s d h = let i = of_it es ending.job d.opening d.opened in (d.opening, i.0, i.1)
opened_before es (TicketGone job) s d h = of_closed es job s d.closed
opened_before es (Sent n) s d h = of_closed es n.job s d.closed

abbrev AllSpokenOf : List Entry → Type 0
AllSpokenOf es = (e : Entry) → Has es e → is_later e ≡ true → IsSpokenOf es e

spoken_still : (es : List Entry) (e x : Entry) → IsSpokenOf es x → IsSpokenOf (es ++ e ∷ []) x
spoken_still es e x h = (h.0, opening_stays es (e ∷ []) h.0 h.1, h.2)

pub all_spoken_of : (es : List Entry) → IsLegal es → AllSpokenOf es
all_spoken_of es l = each_legal AllSpokenOf (λ e h k. absurd h) step es l
  where
    step : (book : List Entry) (e : Entry) → IsLegal book → MayFollow book e → AllSpokenOf book → AllSpokenOf (book ++ e ∷ [])
    step book e h m was = λ x k later. elim (has_append book (e ∷ []) x k) [
      | inl a ↦ spoken_still book e x (was x a later)
      | inr b ↦ elim b [
        | inl q ↦ subst (λ y. IsSpokenOf (book ++ e ∷ []) y) q (spoken_still book e e (opened_before book e (legal_is_orderly book h) m.due (ap is_later q ∙ later)))
        | inr n ↦ absurd n
      ]
    ]

-- ---- whether a job is open, after the entry

-- a job that was opened is open unless it is closed
open_is : (es : List Entry) (o : Opening) → Has (openings es) o → is_open o.job es ≡ not (is_closed o.job es)
open_is es o h = let f = opening_found es o o.job h refl in ap (λ x. is_some x && not (is_closed o.job es)) f.1

-- a job that was opened is open as before, but where the new entry closes it
open_still : (es : List Entry) (e : Entry) (o : Opening) → Has (openings es) o → is_closed o.job (es ++ e ∷ []) ≡ is_closed o.job es → is_open o.job (es ++ e ∷ []) ≡ is_open o.job es
open_still es e o h k = open_is (es ++ e ∷ []) o (opening_stays es (e ∷ []) o h) ∙ ap not k ∙ sym (open_is es o h)

-- ---- where the entry closes no job

-- what is settled of the old entries
settled_split : (es : List Entry) (e : Entry) → journal_length (settled (es ++ e ∷ []))
    ≡ 9 + (sum_by record_length (filter (λ x. not (is_reserved (es ++ e ∷ []) x)) es) + sum_by record_length (filter (λ x. not (is_reserved (es ++ e ∷ []) x)) (e ∷ [])))
unfolding journal_length
settled_split es e =
    ap (λ n. 9 + n)
    (ap (λ l. sum_by record_length l) (filter-append (λ x. not (is_reserved (es ++ e ∷ []) x)) es (e ∷ []))
    ∙ sum_by-append record_length (filter (λ x. not (is_reserved (es ++ e ∷ []) x)) es) (filter (λ x. not (is_reserved (es ++ e ∷ []) x)) (e ∷ [])))

settled_is : (es : List Entry) → journal_length (settled es) ≡ 9 + sum_by record_length (filter (λ x. not (is_reserved es x)) es)
unfolding journal_length
settled_is es = refl

reserved_still : (es : List Entry) (e : Entry) → IsLegal es → holdings (e ∷ []) ≡ [] → endings (e ∷ []) ≡ [] → (x : Entry) → Has es x → not (is_reserved (es ++ e ∷ []) x) ≡ not (is_reserved es x)
reserved_still es e l h k x i = ap not (go (is_later x) refl)
  where
    go : (b : Bool) → is_later x ≡ b → is_reserved (es ++ e ∷ []) x ≡ is_reserved es x
    go true q =
        let s = all_spoken_of es l x i q in
        reserved_by (es ++ e ∷ []) x s.0.job s.2 ∙ ap (λ b. is_later x && b) (open_still es e s.0 s.1 (closed_still s.0.job es e h k)) ∙ sym (reserved_by es x s.0.job s.2)
    go false q = unreserved (es ++ e ∷ []) x q ∙ sym (unreserved es x q)

settled_not_closing : (es : List Entry) (e : Entry) (b : Bool) → IsLegal es → holdings (e ∷ []) ≡ [] → endings (e ∷ []) ≡ [] → is_reserved (es ++ e ∷ []) e ≡ b
    → journal_length (settled (es ++ e ∷ [])) ≡ journal_length (settled es) + cond b 0 (record_length e)
settled_not_closing es e b l h k r =
    let a = settled_split es e in
    let c = settled_is es in
    let same = ap (λ xs. sum_by record_length xs) (filter_agrees (λ x. not (is_reserved (es ++ e ∷ []) x)) (λ x. not (is_reserved es x)) es (reserved_still es e l h k)) in
    let one = last b r in
    omega (arith, a, c, same, one)
  where
    last : (b : Bool) → is_reserved (es ++ e ∷ []) e ≡ b → sum_by record_length (filter (λ x. not (is_reserved (es ++ e ∷ []) x)) (e ∷ [])) ≡ cond b 0 (record_length e)
    last true q = rw q refl
    last false q = rw q (omega arith)

-- ---- where the entry closes its job

-- p passes what q or r passes, and no item passes both
abbrev Parts : (p q r : Bool) → Type 0
Parts p q r = (q ≡ true → p ≡ true) × (p ≡ (q || r)) × (q ≡ true → r ≡ false)

parted : (p q r : Entry → Bool) (xs : List Entry) → ((x : Entry) → Has xs x → Parts (p x) (q x) (r x)) → sum_by record_length (filter p xs) ≡ sum_by record_length (filter q xs) + sum_by record_length (filter r xs)
parted p q r [] h = refl
parted p q r (x ∷ xs) h = go (h x (inl refl)) (q x) refl (r x) refl (parted p q r xs (λ y k. h y (inr k)))
  where
    a : sum_by record_length (x ∷ filter p xs) ≡ record_length x + sum_by record_length (filter p xs)
    a = sum_by-cons record_length x (filter p xs)

    go : Parts (p x) (q x) (r x) → (b : Bool) → q x ≡ b → (c : Bool) → r x ≡ c → sum_by record_length (filter p xs) ≡ sum_by record_length (filter q xs) + sum_by record_length (filter r xs)
        → sum_by record_length (cond (p x) (x ∷ filter p xs) (filter p xs)) ≡ sum_by record_length (cond (q x) (x ∷ filter q xs) (filter q xs)) + sum_by record_length (cond (r x) (x ∷ filter r xs) (filter r xs))
    go k true e true f rec = absurd (let t : true ≡ false = sym f ∙ k.2 e in cc)
    go k true e false f rec =
        let b = sum_by-cons record_length x (filter q xs) in
        let t : p x ≡ true = k.0 e in
        rw (t, e, f) (omega (arith, a, b, rec))
    go k false e true f rec =
        let b = sum_by-cons record_length x (filter r xs) in
        let t : p x ≡ true = k.1 ∙ rw (e, f) refl in
        rw (t, e, f) (omega (arith, a, b, rec))
    go k false e false f rec =
        let t : p x ≡ false = k.1 ∙ rw (e, f) refl in
        rw (t, e, f) rec

parts_unlike : (d : Bool) → Parts (not false) (not false) (false && d)
parts_unlike d = (λ h. refl, refl, λ h. refl)

parts_closed : Parts (not (true && false)) (not (true && true)) (true && true)
parts_closed = (λ h. refl, refl, λ h. cc)

parts_other : (o : Bool) → Parts (not (true && o)) (not (true && o)) (true && false)
parts_other true = (λ h. h, refl, λ h. refl)
parts_other false = (λ h. h, refl, λ h. refl)

-- the entry closes no job but this one
abbrev ClosesNoOther : List Entry → Entry → ℕ → Type 0
ClosesNoOther es e j = (i : ℕ) → (j == i) ≡ false → is_closed i (es ++ e ∷ []) ≡ is_closed i es

each_parted : (es : List Entry) (e x : Entry) (j : ℕ) → IsLegal es → Has es x → is_open j es ≡ true → is_open j (es ++ e ∷ []) ≡ false → ClosesNoOther es e j
    → Parts (not (is_reserved (es ++ e ∷ []) x)) (not (is_reserved es x)) (is_later_of j x)
each_parted es e x j l i opened shut others = go (is_later x) refl
  where
    own : is_later x ≡ true → is_of_job j x ≡ true → Parts (not (is_reserved (es ++ e ∷ []) x)) (not (is_reserved es x)) (is_later_of j x)
    own h q = rw (reserved_by (es ++ e ∷ []) x j q, reserved_by es x j q, later_by j x, h, opened, shut, q) parts_closed

    other : is_later x ≡ true → is_of_job j x ≡ false → Parts (not (is_reserved (es ++ e ∷ []) x)) (not (is_reserved es x)) (is_later_of j x)
    other h q =
        let s = all_spoken_of es l x i h in
        let n : (j == s.0.job) ≡ false = unequal_number j s.0.job (λ same. not_both (is_of_job j x) (subst (λ k. is_of_job k x ≡ true) (sym same) s.2) q) in
        let o = open_still es e s.0 s.1 (others s.0.job n) in
        rw (reserved_by (es ++ e ∷ []) x s.0.job s.2, reserved_by es x s.0.job s.2, later_by j x, h, o, q) (parts_other (is_open s.0.job es))

    at : (d : Bool) → is_of_job j x ≡ d → is_later x ≡ true → Parts (not (is_reserved (es ++ e ∷ []) x)) (not (is_reserved es x)) (is_later_of j x)
    at true q h = own h q
    at false q h = other h q

    go : (b : Bool) → is_later x ≡ b → Parts (not (is_reserved (es ++ e ∷ []) x)) (not (is_reserved es x)) (is_later_of j x)
    go true h = at (is_of_job j x) refl h
    go false h = rw (unreserved (es ++ e ∷ []) x h, unreserved es x h, later_by j x, h) (parts_unlike (is_of_job j x))

and_not_true : (b c : Bool) → c ≡ true → (b && not c) ≡ false
and_not_true true c h = rw h refl
and_not_true false c h = refl

settled_closing : (es : List Entry) (e : Entry) (j : ℕ) → IsLegal es → is_open j es ≡ true → is_later e ≡ true → is_of_job j e ≡ true → is_closed j (es ++ e ∷ []) ≡ true → ClosesNoOther es e j
    → journal_length (settled (es ++ e ∷ [])) ≡ journal_length (settled es) + (bytes_of j es + record_length e)
unfolding bytes_of
settled_closing es e j l opened later of closed others =
    let a = settled_split es e in
    let c = settled_is es in
    let shut : is_open j (es ++ e ∷ []) ≡ false = and_not_true (is_some (opening_of j (es ++ e ∷ []))) (is_closed j (es ++ e ∷ [])) closed in
    let old = parted (λ x. not (is_reserved (es ++ e ∷ []) x)) (λ x. not (is_reserved es x)) (is_later_of j) es (λ x i. each_parted es e x j l i opened shut others) in
    let mine : is_reserved (es ++ e ∷ []) e ≡ false = reserved_by (es ++ e ∷ []) e j of ∙ rw (later, shut) refl in
    let one : sum_by record_length (filter (λ x. not (is_reserved (es ++ e ∷ []) x)) (e ∷ [])) ≡ record_length e = rw mine (omega arith) in
    omega (arith, a, c, old, one)

-- ---- each kind

-- an open job, and a closed one, by its number
open_by : (es : List Entry) (j : ℕ) (o : Opening) → opening_of j es ≡ Some o → is_closed j es ≡ false → is_open j es ≡ true
open_by es j o f u = rw (f, u) refl

still_reserved : (es : List Entry) (e : Entry) (j : ℕ) (o : Opening) → opening_of j es ≡ Some o → is_closed j es ≡ false → is_later e ≡ true → is_of_job j e ≡ true → holdings (e ∷ []) ≡ [] → endings (e ∷ []) ≡ []
    → is_reserved (es ++ e ∷ []) e ≡ true
still_reserved es e j o f u later of h k =
    reserved_by (es ++ e ∷ []) e j of ∙ rw later (open_by (es ++ e ∷ []) j o (opening_kept es (e ∷ []) j o f) (closed_still j es e h k ∙ u))

not_reserved : (es : List Entry) (e : Entry) (j : ℕ) → is_closed j es ≡ true → is_later e ≡ true → is_of_job j e ≡ true → holdings (e ∷ []) ≡ [] → endings (e ∷ []) ≡ [] → is_reserved (es ++ e ∷ []) e ≡ false
not_reserved es e j c later of h k =
    reserved_by (es ++ e ∷ []) e j of ∙ rw later (and_not_true (is_some (opening_of j (es ++ e ∷ []))) (is_closed j (es ++ e ∷ [])) (closed_still j es e h k ∙ c))

pub settled_grows : (es : List Entry) (e : Entry) → IsLegal es → IsDue es e → journal_length (settled (es ++ e ∷ [])) ≡ journal_length (settled es) + settled_by es e
settled_grows es (Enters.Owner owner) l m = settled_not_closing es (Enters.Owner owner) false l refl refl refl
settled_grows es (Opened o) l m = settled_not_closing es (Opened o) false l refl refl refl
settled_grows es (TicketOpen job) l m =
    settled_not_closing es (TicketOpen job) true l refl refl (still_reserved es (TicketOpen job) job m.opening m.unfinished.opened m.unfinished.unclosed refl (equal_number job job refl) refl refl)
settled_grows es (Pending t) l m =
    let e : Entry = Pending t in
    settled_not_closing es e true l refl refl (still_reserved es e t.job m.opening m.unfinished.opened m.unfinished.unclosed refl (equal_number t.job t.job refl) refl refl)
settled_grows es (Deciding d) l m =
    settled_not_closing es (Deciding d) true l refl refl (still_reserved es (Deciding d) d.job m.opening m.unfinished.opened m.unfinished.unclosed refl (equal_number d.job d.job refl) refl refl)
settled_grows es (Held h) l m =
    let e : Entry = Held h in
    let held : is_held h.job (es ++ e ∷ []) ≡ true = held_either h.job es (e ∷ []) ∙ right_true (is_held h.job es) (is_held h.job (e ∷ [])) (holds_it h.job h.tag h.ovn h.version h.owed) in
    settled_closing es e h.job l m.unfinished refl (equal_number h.job h.job refl) (ap (λ b. b || is_done h.job (es ++ e ∷ [])) held) (λ i n. closed_same i es e n)
settled_grows es (Done d) l m =
    let e : Entry = Done d in
    let done : is_done d.job (es ++ e ∷ []) ≡ true = done_either d.job es (e ∷ []) ∙ right_true (is_done d.job es) (is_done d.job (e ∷ [])) (ends_it d.job d.end) in
    settled_closing es e d.job l (open_by es d.job m.opening m.opened m.unclosed) refl (equal_number d.job d.job refl) (right_true (is_held d.job (es ++ e ∷ [])) (is_done d.job (es ++ e ∷ [])) done) (λ i n. closed_same i es e n)
settled_grows es (TicketGone job) l m = settled_not_closing es (TicketGone job) false l refl refl (not_reserved es (TicketGone job) job m.closed refl (equal_number job job refl) refl refl)
settled_grows es (Sent n) l m = settled_not_closing es (Sent n) false l refl refl (not_reserved es (Sent n) n.job m.closed refl (equal_number n.job n.job refl) refl refl)
