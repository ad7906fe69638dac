-- A legal book fits its journal: what open jobs wrote after their openings is less than what is kept free for them.
use Rattle.std.proofs.Common.{ℕ, ◌+◌, ◌*◌, ◌≤◌, Bool, true, false, cond, not, List, [], ◌∷◌, ◌≡◌, inl, inr, filter, length, refl, ap, sym, subst, arith}
use Rattle.std.specs.List.{sum_by}
use Rattle.std.proofs.lemmas.List.Filters.{sum_by-filter_both}
use Rattle.std.proofs.lemmas.List.Sums.{sum_by-cons}
use Rattle.uss_event.specs.declared.entries.Entry.{Entry}
use Rattle.uss_event.specs.declared.entries.Entry.TheVariants.{Opened, TicketOpen, Pending, Held, Deciding, Done, TicketGone, Sent}
use Rattle.uss_event.specs.declared.entries.Entry.TheVariants as Enters
use Rattle.uss_law_dss.specs.Lists.{Has}
use Rattle.uss_law_dss.proofs.Lists.{has_filter, has_filtered, has_passed}
use Rattle.uss_law_dss.proofs.Tests.{equal_number, not_true}
use Rattle.uss_event.specs.declared.entries.Opening.{Opening}
use Rattle.uss_law_book.specs.Lists.{openings}
use Rattle.uss_law_book.specs.Contents.{is_closed, is_open}
use Rattle.uss_law_book.specs.Coding.{record_length, journal_length}
use Rattle.uss_law_book.specs.Reserve.{journal_limit, need, is_reserved, reserved}
use Rattle.uss_law_book.specs.Changes.{is_later_of, bytes_of}
use Rattle.uss_law_book.specs.Legal.{IsLegal}
use Rattle.uss_law_book.proofs.Kept.{opening_has, open_parts}
use Rattle.uss_law_book.proofs.EachOrderly.{legal_is_orderly}
use Rattle.uss_law_book.proofs.Held.{opening_is_found}
use Rattle.uss_law_book.proofs.Room.{open_bytes, covered}

-- the bytes of an entry's record where the entry is one of the job's after its opening
abbrev weight : ℕ → Entry → ℕ
weight job e = cond (is_later_of job e) (record_length e) 0

weighed_first : (job : ℕ) (e : Entry) (es : List Entry) → bytes_of job (e ∷ es) ≡ weight job e + bytes_of job es
unfolding bytes_of
weighed_first job e es = go (is_later_of job e)
  where
    go : (b : Bool) → sum_by record_length (cond b (e ∷ filter (is_later_of job) es) (filter (is_later_of job) es)) ≡ cond b (record_length e) 0 + sum_by record_length (filter (is_later_of job) es)
    go false = omega arith
    go true = sum_by-cons record_length e (filter (is_later_of job) es)

sum_two : (e : Entry) (es : List Entry) (os : List Opening) → sum_by (λ (o : Opening). bytes_of o.job (e ∷ es)) os ≡ sum_by (λ (o : Opening). weight o.job e) os + sum_by (λ (o : Opening). bytes_of o.job es) os
sum_two e es [] = refl
sum_two e es (o ∷ os) =
    omega (
      arith,
      sum_two e es os,
      sum_by-cons (λ (p : Opening). bytes_of p.job (e ∷ es)) o os,
      sum_by-cons (λ (p : Opening). weight p.job e) o os,
      sum_by-cons (λ (p : Opening). bytes_of p.job es) o os,
      weighed_first o.job e es,
    )

at_least : (f : Opening → ℕ) (os : List Opening) (o : Opening) → Has os o → f o ≤ sum_by f os
at_least f [] o h = absurd h
at_least f (p ∷ os) o (inl q) = let r : f o ≡ f p = ap f (sym q) in omega (arith, r, sum_by-cons f p os)
at_least f (p ∷ os) o (inr h) = omega (arith, at_least f os o h, sum_by-cons f p os)

at_most : (f : Opening → ℕ) (m : ℕ) (os : List Opening) → ((o : Opening) → Has os o → f o ≤ m) → sum_by f os ≤ m * length os
at_most f m [] h = omega arith
at_most f m (o ∷ os) h =
    let first : f o ≤ m = h o (inl refl) in
    omega (arith, at_most f m os (λ p k. h p (inr k)), first, sum_by-cons f o os)

-- who made an entry of an open job
record Maker (book : List Entry) (e : Entry) : Type 0 where
  opening : Opening
  has : Has (openings book) opening
  unclosed : is_closed opening.job book ≡ false
  made : is_later_of opening.job e ≡ true

maker_of : (book : List Entry) (job : ℕ) (e : Entry) → is_open job book ≡ true → ((n : ℕ) → job ≡ n → is_later_of n e ≡ true) → Maker book e
maker_of book job e h made =
    let p = open_parts book job h in
    let a = opening_has book job p.0 p.1 in
    record {
      opening = p.0;
      has = a.0;
      unclosed = subst (λ (j : ℕ). is_closed j book ≡ false) (sym a.1) p.2;
      made = made p.0.job (sym a.1);
    }

maker : (book : List Entry) (e : Entry) → is_reserved book e ≡ true → Maker book e
maker book (Enters.Owner owner) h = cc
maker book (Opened o) h = cc
maker book (TicketOpen job) h = maker_of book job (TicketOpen job) h (λ n q. equal_number job n q)
maker book (Pending t) h = maker_of book t.job (Pending t) h (λ n q. equal_number t.job n q)
maker book (Held holding) h = maker_of book holding.job (Held holding) h (λ n q. equal_number holding.job n q)
maker book (Deciding d) h = maker_of book d.job (Deciding d) h (λ n q. equal_number d.job n q)
maker book (Done d) h = maker_of book d.job (Done d) h (λ n q. equal_number d.job n q)
maker book (TicketGone job) h = maker_of book job (TicketGone job) h (λ n q. equal_number job n q)
maker book (Sent sending) h = maker_of book sending.job (Sent sending) h (λ n q. equal_number sending.job n q)

abbrev open_of : List Entry → List Opening
open_of book = filter (λ o. not (is_closed o.job book)) (openings book)

-- the reserved bytes are among those that open jobs wrote
among_open : (book es : List Entry) → sum_by record_length (filter (is_reserved book) es) ≤ sum_by (λ (o : Opening). bytes_of o.job es) (open_of book)
among_open book [] = omega arith
among_open book (e ∷ es) = go (among_open book es) (is_reserved book e) refl
  where
    go : sum_by record_length (filter (is_reserved book) es) ≤ sum_by (λ (o : Opening). bytes_of o.job es) (open_of book) → (b : Bool) → is_reserved book e ≡ b
        → sum_by record_length (cond b (e ∷ filter (is_reserved book) es) (filter (is_reserved book) es)) ≤ sum_by (λ (o : Opening). bytes_of o.job (e ∷ es)) (open_of book)
    go rest false r = omega (arith, rest, sum_two e es (open_of book))
    go rest true r =
        let m = maker book e r in
        let there = has_filtered (λ (o : Opening). not (is_closed o.job book)) (openings book) m.opening m.has (ap not m.unclosed) in
        let one : weight m.opening.job e ≤ sum_by (λ (o : Opening). weight o.job e) (open_of book) = at_least (λ (o : Opening). weight o.job e) (open_of book) m.opening there in
        let is : weight m.opening.job e ≡ record_length e = ap (λ (b : Bool). cond b (record_length e) 0) m.made in
        omega (arith, rest, sum_two e es (open_of book), one, is, sum_by-cons record_length e (filter (is_reserved book) es))

open_fits : (book : List Entry) → IsLegal book → (o : Opening) → Has (open_of book) o → bytes_of o.job book ≤ 8388608
open_fits book l o h =
    let test : Opening → Bool = λ p. not (is_closed p.job book) in
    let b = open_bytes book o.job o l (opening_is_found book o (legal_is_orderly book l) (has_filter test (openings book) o h)) (not_true (is_closed o.job book) (has_passed test (openings book) o h)) in
    omega (arith, b)

pub legal_fits : (book : List Entry) → IsLegal book → journal_length book ≤ journal_limit
unfolding journal_length reserved need
legal_fits book l =
    let c = covered book l in
    let split = sum_by-filter_both (is_reserved book) (λ (e : Entry). not (is_reserved book e)) (λ e. refl) record_length book in
    let most = at_most (λ (o : Opening). bytes_of o.job book) 8388608 (open_of book) (open_fits book l) in
    omega (arith, c, split, among_open book book, most)
