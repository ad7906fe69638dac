-- The chores after the changes of a legal book are the book's.
use Rattle.std.proofs.Common.{arith, ℕ, zero, suc, ◌+◌, ◌-◌, ◌<◌, ◌≤◌, ◌==◌, nat_lt, Bool, true, false, cond, not, ◌&&◌, List, [], ◌∷◌, ◌++◌, ◌≡◌, append-nil, length, map, filter, refl, ap, sym, ◌∙◌, Option, Some, None, is_some}
use Rattle.std.specs.List.{flat_map, range_with_len}
use Rattle.std.specs.Option.{option_map, option_or}
use Rattle.std.proofs.lemmas.Grind.{flat_map-append}
use Rattle.std.proofs.lemmas.List.Elements.{filter-append}
use Rattle.uss_event.specs.declared.entries.Entry.{Entry}
use Rattle.uss_event.specs.declared.entries.Opening.{Opening}
use Rattle.uss_event.specs.declared.entries.Holding.{Holding}
use Rattle.uss_law_dss.proofs.Tests.{same_number, equal_number, less_is, not_less, neither}
use Rattle.uss_law_book.specs.Lists.{openings}
use Rattle.uss_law_book.specs.Contents as book_tells
use Rattle.uss_law_book.specs.Contents.{opening_of, last_holding, is_by, is_ticket_open, is_ticket_gone}
use Rattle.uss_law_book.specs.Legal.{IsLegal}
use Rattle.uss_law_book.specs.Orderly.{IsOrderly}
use Rattle.uss_law_book.proofs.EachOrderly.{legal_is_orderly}
use Rattle.uss_law_book.proofs.Entries.{opening_found}
use Rattle.uss_law_book.proofs.Needed.{numbered, closed_is_opened}
use Rattle.uss_law_book.proofs.Still.{filters_agree, nothing_held, nothing_ended}
use Rattle.uss_law_book.proofs.Sums.{AreNumbered}
use Rattle.uss_law_supplier.specs.declared.duties.Chore.{Chore}
use Rattle.uss_law_supplier.specs.declared.duties.Chore.TheVariants.{Notify, Retire}
use Rattle.uss_law_supplier.specs.Chores as book_chores
use Rattle.uss_law_supplier.specs.Chores.{chores}
use Rattle.uss_notify.specs.declared.changes.NoticeChange.{NoticeChange}
use Rattle.uss_notify.specs.declared.changes.NoticeChange.TheVariants.{Closed}
use Rattle.uss_notify.specs.Changes.{changes_of}
use Rattle.uss_notify.specs.After.{flight_of, or_zero, owed_of, has_ticket, is_gone, is_closed, is_sent, unsent, is_it, is_needed, is_needed_for, last_landed, keeps_ticket, is_due, greater, last_job, notifications_of, chores_after}
use Rattle.uss_notify.proofs.Same.{flight_if, owed_if, IsHeard, told}

-- ---- each job's part

still_open : (job : ℕ) (book : List Entry) → book_tells.is_closed job book ≡ false → length (book_tells.owed_of job book) ≡ 0
unfolding book_tells.owed_of
still_open job book u =
    let p = neither (book_tells.is_held job book) (book_tells.is_done job book) u in
    rw (nothing_held job book p.0, nothing_ended job book p.1) refl

owed_same : (book : List Entry) (cs : List NoticeChange) (job : ℕ) → IsHeard book cs → owed_of job cs ≡ length (book_tells.owed_of job book)
owed_same book cs job t = ap or_zero (t.owed job) ∙ go (book_tells.is_closed job book) refl
  where
    go : (b : Bool) → book_tells.is_closed job book ≡ b → or_zero (owed_if b (length (book_tells.owed_of job book))) ≡ length (book_tells.owed_of job book)
    go true h = refl
    go false h = sym (still_open job book h)

unsent_same : (book : List Entry) (cs : List NoticeChange) (job : ℕ) → IsHeard book cs → book_tells.unsent job book ≡ unsent job cs
unfolding book_tells.unsent
unsent_same book cs job t =
    filters_agree (λ index. not (book_tells.is_sent job index book)) (λ index. not (is_sent job index cs)) (range_with_len 0 (length (book_tells.owed_of job book))) (λ index. ap not (sym (t.sent job index)))
    ∙ ap (λ n. filter (λ index. not (is_sent job index cs)) (range_with_len 0 n)) (sym (owed_same book cs job t))

it_is : (job : ℕ) (h : Option Holding) → is_it job (option_map (λ (x : Holding). x.job) h) ≡ is_by job h
it_is job None = refl
it_is job (Some h) = refl

-- a closed job is one of a flight
closed_flight : (book : List Entry) (cs : List NoticeChange) (job : ℕ) → IsOrderly book → IsHeard book cs → book_tells.is_closed job book ≡ true → (o : Opening) × (opening_of job book ≡ Some o) × (flight_of job cs ≡ Some o.ask.flight)
closed_flight book cs job s t c =
    let i = closed_is_opened book job s c in
    let f = opening_found book i.0 job i.1 i.2 in
    (f.0, f.1, t.flight job ∙ ap (λ b. flight_if b (opening_of job book)) c ∙ ap (flight_if true) f.1)

pub closed_same : (book : List Entry) (cs : List NoticeChange) (job : ℕ) → IsOrderly book → IsHeard book cs → is_closed job cs ≡ book_tells.is_closed job book
closed_same book cs job s t = go (book_tells.is_closed job book) refl
  where
    go : (b : Bool) → book_tells.is_closed job book ≡ b → is_closed job cs ≡ b
    go true h = ap is_some (closed_flight book cs job s t h).2
    go false h = ap is_some (t.flight job ∙ ap (λ b. flight_if b (opening_of job book)) h)

needed_same : (book : List Entry) (cs : List NoticeChange) (job : ℕ) → IsOrderly book → IsHeard book cs → book_tells.is_closed job book ≡ true → is_needed job cs ≡ book_tells.is_ticket_needed job book
unfolding book_tells.is_ticket_needed
needed_same book cs job s t c =
    let f = closed_flight book cs job s t c in
    let flight : ℕ = f.0.ask.flight in
    ap (is_needed_for job cs) f.2
    ∙ ap (λ b. not b && is_it job (last_landed flight cs)) (t.ended flight)
    ∙ ap (λ b. not (book_tells.has_ended flight book) && b) (ap (is_it job) (t.last flight) ∙ it_is job (last_holding flight book))
    ∙ ap (book_tells.needed_for job book) (sym f.1)

due_same : (book : List Entry) (cs : List NoticeChange) (job : ℕ) → IsOrderly book → IsHeard book cs → book_tells.is_ticket_due job book ≡ is_due cs job
due_same book cs job s t = go (book_tells.is_closed job book) refl
  where
    go : (b : Bool) → book_tells.is_closed job book ≡ b → book_tells.is_ticket_due job book ≡ is_due cs job
    go true h =
        let keeps : keeps_ticket job cs ≡ book_tells.keeps_ticket job book = rw (closed_same book cs job s t, t.ticket job, t.gone job) refl in
        rw (keeps, needed_same book cs job s t h) refl
    go false h =
        let closed : is_closed job cs ≡ false = closed_same book cs job s t ∙ h in
        rw (h, closed) refl

-- ---- jobs by their numbers

numbered_notifications : (f : Opening → List Chore) (g : ℕ → List Chore) (n : ℕ) (os : List Opening) → ((o : Opening) → f o ≡ g o.job) → AreNumbered n os → flat_map f os ≡ flat_map g (range_with_len n (length os))
numbered_notifications f g n [] same a = refl
numbered_notifications f g n (o ∷ os) same a = rw (same o, a.0, numbered_notifications f g (n + 1) os same a.1) refl

numbered_dues : (p : Opening → Bool) (q : ℕ → Bool) (n : ℕ) (os : List Opening) → ((o : Opening) → p o ≡ q o.job) → AreNumbered n os
    → map (λ (o : Opening). Retire o.job) (filter p os) ≡ map Retire (filter q (range_with_len n (length os)))
numbered_dues p q n [] same a = refl
numbered_dues p q n (o ∷ os) same a = go (q n) (same o ∙ ap q a.0) (numbered_dues p q (n + 1) os same a.1)
  where
    go : (b : Bool) → p o ≡ b → map (λ (x : Opening). Retire x.job) (filter p os) ≡ map Retire (filter q (range_with_len (n + 1) (length os)))
        → map (λ (x : Opening). Retire x.job) (cond (p o) (o ∷ filter p os) (filter p os)) ≡ map Retire (cond b (n ∷ filter q (range_with_len (n + 1) (length os))) (filter q (range_with_len (n + 1) (length os))))
    go true h rest = ap (λ c. map (λ (x : Opening). Retire x.job) (cond c (o ∷ filter p os) (filter p os))) h ∙ rw (a.0, rest) refl
    go false h rest = ap (λ c. map (λ (x : Opening). Retire x.job) (cond c (o ∷ filter p os) (filter p os))) h ∙ rest

-- ---- numbers of which nothing is to be done

range_split : (a x y : ℕ) → range_with_len a (x + y) ≡ range_with_len a x ++ range_with_len (a + x) y
range_split a zero y =
    let e : zero + y ≡ y = omega arith in
    let f : a + zero ≡ a = omega arith in
    rw (e, f) refl
range_split a (suc x) y =
    let e : suc x + y ≡ suc (x + y) = omega arith in
    let f : a + suc x ≡ a + 1 + x = omega arith in
    rw (e, f) (ap (λ (l : List ℕ). a ∷ l) (range_split (a + 1) x y))

no_tells : (g : ℕ → List Chore) (a y : ℕ) → ((j : ℕ) → a ≤ j → g j ≡ []) → flat_map g (range_with_len a y) ≡ []
no_tells g a zero none = refl
no_tells g a (suc y) none = rw (none a (omega arith)) (no_tells g (a + 1) y (λ j h. none j (omega (arith, h))))

no_dues : (q : ℕ → Bool) (a y : ℕ) → ((j : ℕ) → a ≤ j → q j ≡ false) → filter q (range_with_len a y) ≡ []
no_dues q a zero none = refl
no_dues q a (suc y) none = rw (none a (omega arith)) (no_dues q (a + 1) y (λ j h. none j (omega (arith, h))))

fewer_tells : (g : ℕ → List Chore) (m n : ℕ) → m ≤ n → ((j : ℕ) → m < j → g j ≡ []) → flat_map g (range_with_len 1 n) ≡ flat_map g (range_with_len 1 m)
fewer_tells g m n l none =
    let e : n ≡ m + (n - m) = omega (arith, l) in
    ap (λ k. flat_map g (range_with_len 1 k)) e ∙ ap (flat_map g) (range_split 1 m (n - m)) ∙ flat_map-append g (range_with_len 1 m) (range_with_len (1 + m) (n - m))
    ∙ ap (λ (t : List Chore). flat_map g (range_with_len 1 m) ++ t) (no_tells g (1 + m) (n - m) (λ j h. none j (omega (arith, h)))) ∙ append-nil (flat_map g (range_with_len 1 m))

fewer_dues : (q : ℕ → Bool) (m n : ℕ) → m ≤ n → ((j : ℕ) → m < j → q j ≡ false) → filter q (range_with_len 1 n) ≡ filter q (range_with_len 1 m)
fewer_dues q m n l none =
    let e : n ≡ m + (n - m) = omega (arith, l) in
    ap (λ k. filter q (range_with_len 1 k)) e ∙ ap (filter q) (range_split 1 m (n - m)) ∙ filter-append q (range_with_len 1 m) (range_with_len (1 + m) (n - m))
    ∙ ap (λ (t : List ℕ). filter q (range_with_len 1 m) ++ t) (no_dues q (1 + m) (n - m) (λ j h. none j (omega (arith, h)))) ∙ append-nil (filter q (range_with_len 1 m))

-- ---- the last closed job

left_greater : (a b : ℕ) → a ≤ greater a b
left_greater a b = go (nat_lt a b) refl
  where
    go : (x : Bool) → nat_lt a b ≡ x → a ≤ cond x b a
    go true h = let l = less_is a b h in omega (arith, l)
    go false h = omega arith

right_greater : (a b : ℕ) → b ≤ greater a b
right_greater a b = go (nat_lt a b) refl
  where
    go : (x : Bool) → nat_lt a b ≡ x → b ≤ cond x b a
    go true h = omega arith
    go false h = not_less a b h

pub closed_below : (cs : List NoticeChange) (job : ℕ) → is_closed job cs ≡ true → job ≤ last_job cs
closed_below [] job h = absurd (let e : false ≡ true = h in cc)
closed_below (Closed j flight landed ended gone owed ∷ cs) job h = go (j == job) refl h (closed_below cs job)
  where
    go : (b : Bool) → (j == job) ≡ b → is_some (option_or (cond b (Some flight) None) (flight_of job cs)) ≡ true → (is_closed job cs ≡ true → job ≤ last_job cs) → job ≤ greater j (last_job cs)
    go true e k rec = let s = same_number j job e in let l = left_greater j (last_job cs) in omega (arith, s, l)
    go false e k rec = let r = rec k in let l = right_greater j (last_job cs) in omega (arith, r, l)
closed_below (_ ∷ cs) job h = closed_below cs job h

later : (a b : Option ℕ) → is_some b ≡ true → is_some (option_or a b) ≡ true
later None b k = k
later (Some x) b k = refl

pick : (b : Bool) (x y n : ℕ) → x ≤ n → y ≤ n → cond b y x ≤ n
pick true x y n h k = k
pick false x y n h k = h

last_below : (cs : List NoticeChange) (n : ℕ) → ((job : ℕ) → is_closed job cs ≡ true → job ≤ n) → last_job cs ≤ n
last_below [] n h = omega arith
last_below (Closed j flight landed ended gone owed ∷ cs) n h =
    pick (nat_lt j (last_job cs)) j (last_job cs) n
    (h j (rw (equal_number j j refl) refl))
    (last_below cs n (λ job k. h job (later (cond (j == job) (Some flight) None) (flight_of job cs) k)))
last_below (_ ∷ cs) n h = last_below cs n h

-- ---- the law

pub chores_are : (book : List Entry) → IsLegal book → chores_after (changes_of book) ≡ chores book
unfolding chores_after chores
chores_are book l =
    let cs : List NoticeChange = changes_of book in
    let s = legal_is_orderly book l in
    let t = told book l in
    let a = numbered book l in
    let m : ℕ = last_job cs in
    let n : ℕ = length (openings book) in
    let few : m ≤ n = last_below cs n (λ job c. let o = closed_is_opened book job s (sym (closed_same book cs job s t) ∙ c) in let b = s.job_numbers o.0 o.1 in let e = o.2 in omega (arith, b, e)) in
    let open_beyond : (j : ℕ) → m < j → is_closed j cs ≡ false = λ j h. beyond j h (is_closed j cs) refl in
    let no_notification : (j : ℕ) → m < j → notifications_of cs j ≡ [] = λ j h. ap (λ k. map (Notify j) (filter (λ index. not (is_sent j index cs)) (range_with_len 0 k))) (owed_same book cs j t ∙ still_open j book (sym (closed_same book cs j s t) ∙ open_beyond j h)) in
    let no_due : (j : ℕ) → m < j → is_due cs j ≡ false = λ j h. ap (λ b. (b && (has_ticket j cs && not (is_gone j cs))) && not (is_needed j cs)) (open_beyond j h) in
    let notified : flat_map (book_chores.notifications_of book) (openings book) ≡ flat_map (notifications_of cs) (range_with_len 1 m) =
    numbered_notifications (book_chores.notifications_of book) (notifications_of cs) 1 (openings book) (λ o. ap (map (Notify o.job)) (unsent_same book cs o.job t)) a ∙ fewer_tells (notifications_of cs) m n few no_notification in
    let dues : map (λ (o : Opening). Retire o.job) (filter (book_chores.is_due book) (openings book)) ≡ map Retire (filter (is_due cs) (range_with_len 1 m)) =
    numbered_dues (book_chores.is_due book) (is_due cs) 1 (openings book) (λ o. due_same book cs o.job s t) a ∙ ap (map Retire) (fewer_dues (is_due cs) m n few no_due) in
    sym (rw (notified, dues) refl)
  where
    beyond : (j : ℕ) → last_job (changes_of book) < j → (b : Bool) → is_closed j (changes_of book) ≡ b → b ≡ false
    beyond j h true e = let r = closed_below (changes_of book) j e in absurd (omega (arith, r, h))
    beyond j h false e = refl
