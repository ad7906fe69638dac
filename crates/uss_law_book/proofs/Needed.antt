-- How the bytes that a book keeps free change with an entry.
use Rattle.std.proofs.Common.{ℕ, ◌+◌, ◌*◌, ◌<◌, ◌==◌, Bool, true, false, not, ◌||◌, ◌&&◌, List, [], ◌∷◌, ◌++◌, ◌≡◌, filter, length, append-nil, refl, ap, sym, subst, ◌∙◌, arith, Some, None, is_some}
use Rattle.std.specs.Prelude.{sum_by}
use Rattle.std.specs.List.{range_with_len}
use Rattle.std.proofs.lemmas.List.Sums.{sum_by_push}
use Rattle.std.proofs.lemmas.List.FromFn.{length-range_with_len}
use Rattle.uss_intent.specs.declared.records.Subscriber.{Subscriber}
use Rattle.uss_intent.specs.Numbers.{is_one_of}
use Rattle.uss_event.specs.declared.entries.Entry.{Entry}
use Rattle.uss_event.specs.declared.entries.Entry.TheVariants.{Opened, TicketOpen, Pending, Held, Deciding, Done, TicketGone, Sent}
use Rattle.uss_event.specs.declared.entries.Entry.TheVariants as Enters
use Rattle.uss_law_dss.specs.Lists.{Has}
use Rattle.uss_law_dss.proofs.Lists.{list_any_has}
use Rattle.uss_law_dss.proofs.Tests.{same_number, unequal_number, neither, either, left_false, right_true}
use Rattle.uss_event.specs.declared.entries.Opening.{Opening}
use Rattle.uss_event.specs.declared.entries.Holding.{Holding}
use Rattle.uss_event.specs.declared.entries.Closing.{Closing}
use Rattle.uss_law_book.specs.Lists.{openings, holdings, endings, tickets_gone}
use Rattle.uss_law_book.specs.Contents.{opening_of, is_held, is_done, is_closed, decision_of, holding_of, ending_of, is_ticket_open, is_ticket_gone, owed_of, owed_at_end, is_sent, unsent, keeps_ticket}
use Rattle.uss_law_book.specs.Reserve.{need}
use Rattle.uss_law_book.specs.Legal.{IsDue, MayOpen, MayRetire, MaySend, MayFollow, IsLegal}
use Rattle.uss_law_book.specs.Orderly.{IsOrderly}
use Rattle.uss_law_book.proofs.Entries.{openings_append, unclosed_before}
use Rattle.uss_law_book.proofs.Kept.{opening_has, open_parts}
use Rattle.uss_law_book.proofs.EachOrderly.{legal_is_orderly}
use Rattle.uss_law_book.specs.Changes.{for_ticket, taken, released}
use Rattle.uss_law_book.proofs.EachLegal.{each_legal}
use Rattle.uss_law_book.proofs.Others.{is_of_job}
use Rattle.uss_law_book.proofs.Still.{held_either, done_either, gone_either, sent_either, done_still, closed_still, ticket_still, gone_still, sent_still, holding_still, decision_still, owed_still, unsent_still, ticket_gone_still, filters_agree, holds_it, ends_it, goes_now, sends_it, nothing_held, nothing_ended, held_now, ended_now, one_if, cost, cost_still}
use Rattle.uss_law_book.proofs.Sums.{AreNumbered, one_more_job, sums_agree, sums_differ, counts_are_sums, one_less}

-- ---- what holds of every legal book

pub numbered : (es : List Entry) → IsLegal es → AreNumbered 1 (openings es)
numbered es l = each_legal (λ book. AreNumbered 1 (openings book)) tt (λ book e h m was. subst (λ (os : List Opening). AreNumbered 1 os) (sym (openings_append book (e ∷ []))) (more book e m was)) es l
  where
    more : (book : List Entry) (e : Entry) → MayFollow book e → AreNumbered 1 (openings book) → AreNumbered 1 (openings book ++ openings (e ∷ []))
    more book (Opened o) m was = let d = m.due.next in one_more_job 1 (openings book) o was (omega (arith, d))
    more book e m was = subst (λ (os : List Opening). AreNumbered 1 os) (sym (append-nil (openings book))) was

no_answer : (es : List Entry) (e : Entry) → IsDue es e → (j index : ℕ) → is_closed j es ≡ false → is_sent j index (e ∷ []) ≡ false
unfolding is_sent
no_answer es (Sent sending) d j index u = go (sending.job == j) refl
  where
    go : (b : Bool) → (sending.job == j) ≡ b → ((b && (sending.index == index)) || false) ≡ false
    go true q = absurd (let c : is_closed j es ≡ true = subst (λ n. is_closed n es ≡ true) (same_number sending.job j q) d.closed in let t : true ≡ false = sym c ∙ u in cc)
    go false q = refl
no_answer es _ d j index u = refl

not_gone : (es : List Entry) (e : Entry) → IsDue es e → (j : ℕ) → is_closed j es ≡ false → is_one_of j (tickets_gone (e ∷ [])) ≡ false
not_gone es (TicketGone k) d j u = go (k == j) refl
  where
    go : (b : Bool) → (k == j) ≡ b → (b || false) ≡ false
    go true q = absurd (let c : is_closed j es ≡ true = subst (λ n. is_closed n es ≡ true) (same_number k j q) d.closed in let t : true ≡ false = sym c ∙ u in cc)
    go false q = refl
not_gone es _ d j u = refl

-- of a job that isn't closed no notification was answered, and the ticket wasn't heard as gone
pub record IsUnanswered (es : List Entry) (j : ℕ) : Type 0 where
  pub unsent : (index : ℕ) → is_sent j index es ≡ false
  pub there : is_one_of j (tickets_gone es) ≡ false

pub unanswered : (es : List Entry) → IsLegal es → (j : ℕ) → is_closed j es ≡ false → IsUnanswered es j
unfolding is_sent
unanswered es l = each_legal (λ book. (j : ℕ) → is_closed j book ≡ false → IsUnanswered book j) first step es l
  where
    first : (j : ℕ) → is_closed j [] ≡ false → IsUnanswered [] j
    first j u = record { unsent = λ index. refl; there = refl }

    step : (book : List Entry) (e : Entry) → IsLegal book → MayFollow book e → ((j : ℕ) → is_closed j book ≡ false → IsUnanswered book j) → (j : ℕ) → is_closed j (book ++ e ∷ []) ≡ false → IsUnanswered (book ++ e ∷ []) j
    step book e h m was j u =
        let before = unclosed_before j book (e ∷ []) u in
        let w = was j before in
        record {
          unsent = λ index. sent_either j index book (e ∷ []) ∙ left_false (is_sent j index book) (is_sent j index (e ∷ [])) (w.unsent index) (no_answer book e m.due j index before);
          there = gone_either j book (e ∷ []) ∙ left_false (is_one_of j (tickets_gone book)) (is_one_of j (tickets_gone (e ∷ []))) w.there (not_gone book e m.due j before);
        }

pub closed_is_opened : (es : List Entry) (j : ℕ) → IsOrderly es → is_closed j es ≡ true → (o : Opening) × Has (openings es) o × (o.job ≡ j)
unfolding is_held is_done
closed_is_opened es j s c = go (is_held j es) refl
  where
    held : is_held j es ≡ true → (o : Opening) × Has (openings es) o × (o.job ≡ j)
    held h =
        let a = list_any_has (λ (x : Holding). x.job == j) (holdings es) h in
        let r = s.recorded a.0 a.1 in
        (r.0, r.1, r.2 ∙ same_number a.0.job j a.2)

    ended : is_done j es ≡ true → (o : Opening) × Has (openings es) o × (o.job ≡ j)
    ended h =
        let a = list_any_has (λ (x : Closing). x.job == j) (endings es) h in
        let r = s.ended a.0 a.1 in
        (r.0, r.1, r.2 ∙ same_number a.0.job j a.2)

    go : (b : Bool) → is_held j es ≡ b → (o : Opening) × Has (openings es) o × (o.job ≡ j)
    go true h = held h
    go false h = ended (either (is_held j es) (is_done j es) c h)

new_is_unclosed : (es : List Entry) (j : ℕ) → IsOrderly es → j ≡ length (openings es) + 1 → is_closed j es ≡ false
new_is_unclosed es j s n = go (is_closed j es) refl
  where
    go : (b : Bool) → is_closed j es ≡ b → b ≡ false
    go true c =
        let o = closed_is_opened es j s c in
        let l = s.job_numbers o.0 o.1 in
        let q = o.2 in
        absurd (omega (arith, l, q, n))
    go false c = refl

-- ---- what is kept free for one job

cost_parts : (es : List Entry) (j : ℕ) (b : Bool) (n : ℕ) (k : Bool) → is_closed j es ≡ b → length (unsent j es) ≡ n → keeps_ticket j es ≡ k → cost es j ≡ 8388608 * one_if (not b) + 64 * n + 64 * one_if k
unfolding cost
cost_parts es j b n k p q r =
    ap (λ x. 8388608 * one_if (not x) + 64 * length (unsent j es) + 64 * one_if (keeps_ticket j es)) p
    ∙ ap (λ x. 8388608 * one_if (not b) + 64 * x + 64 * one_if (keeps_ticket j es)) q
    ∙ ap (λ x. 8388608 * one_if (not b) + 64 * n + 64 * one_if x) r

pub unclosed_cost : (es : List Entry) (j : ℕ) → is_closed j es ≡ false → cost es j ≡ 8388608
unfolding unsent owed_of
unclosed_cost es j u =
    let p = neither (is_held j es) (is_done j es) u in
    let h = nothing_held j es p.0 in
    let d = nothing_ended j es p.1 in
    let n : length (unsent j es) ≡ 0 = rw (h, d) refl in
    let k : keeps_ticket j es ≡ false = ap (λ b. b && (is_ticket_open j es && not (is_ticket_gone j es))) u in
    cost_parts es j false 0 false u n k

all_pass : (p : ℕ → Bool) (ns : List ℕ) → ((n : ℕ) → p n ≡ true) → filter p ns ≡ ns
all_pass p [] h = refl
all_pass p (n ∷ ns) h = rw (h n, all_pass p ns h) refl

ticket_bytes : (b : Bool) → 64 * one_if b ≡ for_ticket b
ticket_bytes true = refl
ticket_bytes false = refl

-- just closed
closed_cost : (es : List Entry) (j : ℕ) (owed : List Subscriber) (t g : Bool) → is_closed j es ≡ true → owed_of j es ≡ owed → ((index : ℕ) → is_sent j index es ≡ false) → is_ticket_open j es ≡ t → is_ticket_gone j es ≡ g
    → cost es j ≡ 64 * length owed + for_ticket (t && not g)
unfolding unsent
closed_cost es j owed t g c o n a b =
    let count : length (unsent j es) ≡ length owed =
    ap (λ os. length (filter (λ index. not (is_sent j index es)) (range_with_len 0 (length os)))) o
    ∙ ap length (all_pass (λ index. not (is_sent j index es)) (range_with_len 0 (length owed)) (λ index. ap not (n index)))
    ∙ length-range_with_len 0 (length owed) in
    let keeps : keeps_ticket j es ≡ (t && not g) =
    ap (λ x. x && (is_ticket_open j es && not (is_ticket_gone j es))) c ∙ ap (λ x. x && not (is_ticket_gone j es)) a ∙ ap (λ x. t && not x) b in
    let a = cost_parts es j true (length owed) (t && not g) c count keeps in
    let k = ticket_bytes (t && not g) in
    omega (arith, a, k)

and_true_end : (a : Bool) → (a && true) ≡ a
and_true_end true = refl
and_true_end false = refl

held_cost : (es : List Entry) (x : Holding) → IsLegal es → is_closed x.job es ≡ false
    → cost (es ++ Held x ∷ []) x.job ≡ 64 * length x.owed + for_ticket (is_ticket_open x.job es)
unfolding owed_of is_ticket_gone
held_cost es x l u =
    let e : Entry = Held x in
    let p = neither (is_held x.job es) (is_done x.job es) u in
    let w = unanswered es l x.job u in
    let done : is_done x.job (es ++ e ∷ []) ≡ false = done_still x.job es e refl ∙ p.1 in
    let held : is_held x.job (es ++ e ∷ []) ≡ true = held_either x.job es (e ∷ []) ∙ right_true (is_held x.job es) (is_held x.job (e ∷ [])) (holds_it x.job x.tag x.ovn x.version x.owed) in
    let closed : is_closed x.job (es ++ e ∷ []) ≡ true = ap (λ b. b || is_done x.job (es ++ e ∷ [])) held in
    let found : holding_of x.job (es ++ e ∷ []) ≡ Some x = held_now es x (nothing_held x.job es p.0) in
    let owed : owed_of x.job (es ++ e ∷ []) ≡ x.owed = rw found refl in
    let gone : is_ticket_gone x.job (es ++ e ∷ []) ≡ false = rw (gone_still x.job es e refl, w.there, done) refl in
    closed_cost (es ++ e ∷ []) x.job x.owed (is_ticket_open x.job es) false closed owed (λ index. sent_still x.job index es e refl ∙ w.unsent index) (ticket_still x.job es e refl) gone
    ∙ ap (λ b. 64 * length x.owed + for_ticket b) (and_true_end (is_ticket_open x.job es))

done_cost : (es : List Entry) (x : Closing) → IsLegal es → is_closed x.job es ≡ false
    → cost (es ++ Done x ∷ []) x.job ≡ 64 * length (owed_at_end x.end) + for_ticket (is_ticket_open x.job es && not (is_some (decision_of x.job es)))
unfolding owed_of is_ticket_gone
done_cost es x l u =
    let e : Entry = Done x in
    let p = neither (is_held x.job es) (is_done x.job es) u in
    let w = unanswered es l x.job u in
    let done : is_done x.job (es ++ e ∷ []) ≡ true = done_either x.job es (e ∷ []) ∙ right_true (is_done x.job es) (is_done x.job (e ∷ [])) (ends_it x.job x.end) in
    let closed : is_closed x.job (es ++ e ∷ []) ≡ true = right_true (is_held x.job (es ++ e ∷ [])) (is_done x.job (es ++ e ∷ [])) done in
    let none : holding_of x.job (es ++ e ∷ []) ≡ None = holding_still x.job es e refl ∙ nothing_held x.job es p.0 in
    let found : ending_of x.job (es ++ e ∷ []) ≡ Some x = ended_now es x (nothing_ended x.job es p.1) in
    let owed : owed_of x.job (es ++ e ∷ []) ≡ owed_at_end x.end = rw (none, found) refl in
    let gone : is_ticket_gone x.job (es ++ e ∷ []) ≡ is_some (decision_of x.job es) = rw (gone_still x.job es e refl, w.there, done, decision_still x.job es e refl) refl in
    closed_cost (es ++ e ∷ []) x.job (owed_at_end x.end) (is_ticket_open x.job es) (is_some (decision_of x.job es)) closed owed (λ index. sent_still x.job index es e refl ∙ w.unsent index) (ticket_still x.job es e refl) gone

gone_cost : (es : List Entry) (j : ℕ) → MayRetire es j → cost es j ≡ cost (es ++ TicketGone j ∷ []) j + 64
unfolding is_ticket_gone
gone_cost es j d =
    let e : Entry = TicketGone j in
    let before : keeps_ticket j es ≡ true = rw (d.closed, d.heard_open, d.not_gone) refl in
    let gone : is_one_of j (tickets_gone (es ++ e ∷ [])) ≡ true = gone_either j es (e ∷ []) ∙ right_true (is_one_of j (tickets_gone es)) (is_one_of j (tickets_gone (e ∷ []))) (goes_now j) in
    let closed : is_closed j (es ++ e ∷ []) ≡ true = closed_still j es e refl refl ∙ d.closed in
    let ticket : is_ticket_open j (es ++ e ∷ []) ≡ true = ticket_still j es e refl ∙ d.heard_open in
    let now : keeps_ticket j (es ++ e ∷ []) ≡ false =
    ap (λ b. b && (is_ticket_open j (es ++ e ∷ []) && not (is_ticket_gone j (es ++ e ∷ [])))) closed
    ∙ ap (λ b. b && not (is_ticket_gone j (es ++ e ∷ []))) ticket
    ∙ ap (λ b. not (b || (is_done j (es ++ e ∷ []) && is_some (decision_of j (es ++ e ∷ []))))) gone in
    let a = cost_parts es j true (length (unsent j es)) true d.closed refl before in
    let b = cost_parts (es ++ e ∷ []) j true (length (unsent j es)) false closed (ap length (unsent_still j es e refl refl refl)) now in
    omega (arith, a, b)

sent_cost : (es : List Entry) (j p : ℕ) → MaySend es j p → cost es j ≡ cost (es ++ Sent (record { job = j; index = p }) ∷ []) j + 64
unfolding unsent
sent_cost es j p d =
    let e : Entry = Sent (record { job = j; index = p }) in
    let closed : is_closed j (es ++ e ∷ []) ≡ true = closed_still j es e refl refl ∙ d.closed in
    let n = length (owed_of j es) in
    let fewer : unsent j (es ++ e ∷ []) ≡ filter (λ x. not (is_sent j x es || (p == x))) (range_with_len 0 n) =
    ap (λ owed. filter (λ x. not (is_sent j x (es ++ e ∷ []))) (range_with_len 0 (length owed))) (owed_still j es e refl refl)
    ∙ filters_agree (λ x. not (is_sent j x (es ++ e ∷ []))) (λ x. not (is_sent j x es || (p == x))) (range_with_len 0 n)
    (λ x. ap not (sent_either j x es (e ∷ []) ∙ ap (λ b. is_sent j x es || b) (sends_it j p x))) in
    let less = one_less (λ x. is_sent j x es) p 0 n (omega arith) (let lt : p < length (owed_of j es) = d.owed in omega (arith, lt)) d.new in
    let keeps : keeps_ticket j (es ++ e ∷ []) ≡ keeps_ticket j es =
    ap (λ b. b && (is_ticket_open j (es ++ e ∷ []) && not (is_ticket_gone j (es ++ e ∷ [])))) (closed_still j es e refl refl)
    ∙ ap (λ b. is_closed j es && (b && not (is_ticket_gone j (es ++ e ∷ [])))) (ticket_still j es e refl)
    ∙ ap (λ b. is_closed j es && (is_ticket_open j es && not b)) (ticket_gone_still j es e refl refl refl) in
    let a = cost_parts es j true (length (unsent j es)) (keeps_ticket j es) d.closed refl refl in
    let b = cost_parts (es ++ e ∷ []) j true (length (filter (λ x. not (is_sent j x es || (p == x))) (range_with_len 0 n))) (keeps_ticket j es) closed (ap length fewer) keeps in
    omega (arith, a, b, less)

-- ---- the sum

need_is : (es : List Entry) → need es ≡ sum_by (λ o. cost es o.job) (openings es)
unfolding need cost
need_is es = counts_are_sums (λ (o : Opening). not (is_closed o.job es)) (λ (o : Opening). keeps_ticket o.job es) (λ (o : Opening). length (unsent o.job es)) (openings es)

need_opened : (es : List Entry) (o : Opening) → IsOrderly es → MayOpen es o.job o.ask → need (es ++ Opened o ∷ []) ≡ need es + 8388608
need_opened es o s d =
    let e : Entry = Opened o in
    let all : sum_by (λ (p : Opening). cost (es ++ e ∷ []) p.job) (openings (es ++ e ∷ [])) ≡ sum_by (λ (p : Opening). cost (es ++ e ∷ []) p.job) (openings es) + cost (es ++ e ∷ []) o.job =
    ap (λ (os : List Opening). sum_by (λ (p : Opening). cost (es ++ e ∷ []) p.job) os) (openings_append es (e ∷ [])) ∙ sum_by_push (λ (p : Opening). cost (es ++ e ∷ []) p.job) (openings es) o in
    let old = sums_agree (cost es) (cost (es ++ e ∷ [])) (openings es)
    (λ p h. cost_still p.job es e (let l = s.job_numbers p h in let n = d.next in unequal_number o.job p.job (λ y. absurd (omega (arith, l, n, y))))) in
    let new : cost (es ++ e ∷ []) o.job ≡ 8388608 = unclosed_cost (es ++ e ∷ []) o.job (closed_still o.job es e refl refl ∙ new_is_unclosed es o.job s d.next) in
    let a = need_is (es ++ e ∷ []) in
    let b = need_is es in
    omega (arith, all, old, new, a, b)

-- the entry is of the job, and of no other
abbrev IsOf : ℕ → Entry → Type 0
IsOf j e = (x : ℕ) → (j == x) ≡ false → is_of_job x e ≡ false

-- where the entry opens no job, and is of one that was opened
need_changed : (es : List Entry) (e : Entry) (j : ℕ) (o : Opening) → IsLegal es → openings (e ∷ []) ≡ [] → IsOf j e → Has (openings es) o → o.job ≡ j → need (es ++ e ∷ []) + cost es j ≡ need es + cost (es ++ e ∷ []) j
need_changed es e j o l none of h same =
    let still : openings (es ++ e ∷ []) ≡ openings es = openings_append es (e ∷ []) ∙ ap (λ (os : List Opening). openings es ++ os) none ∙ append-nil (openings es) in
    let a : need (es ++ e ∷ []) ≡ sum_by (λ (p : Opening). cost (es ++ e ∷ []) p.job) (openings es) = need_is (es ++ e ∷ []) ∙ ap (λ (os : List Opening). sum_by (λ (p : Opening). cost (es ++ e ∷ []) p.job) os) still in
    let b = need_is es in
    let d = sums_differ (cost es) (cost (es ++ e ∷ [])) j 1 (openings es) o (numbered es l) (λ x n. cost_still x es e (of x n)) h same in
    omega (arith, a, b, d)

-- an entry of an open job that doesn't close it
need_kept : (es : List Entry) (e : Entry) (j : ℕ) (o : Opening) → IsLegal es → openings (e ∷ []) ≡ [] → IsOf j e → opening_of j es ≡ Some o → is_closed j es ≡ false → holdings (e ∷ []) ≡ [] → endings (e ∷ []) ≡ []
    → need (es ++ e ∷ []) ≡ need es
need_kept es e j o l none of at u h k =
    let has = opening_has es j o at in
    let c = need_changed es e j o l none of has.0 has.1 in
    let a = unclosed_cost es j u in
    let b = unclosed_cost (es ++ e ∷ []) j (closed_still j es e h k ∙ u) in
    omega (arith, a, b, c)

-- an entry of no job
need_still : (es : List Entry) (e : Entry) → openings (e ∷ []) ≡ [] → ((x : ℕ) → is_of_job x e ≡ false) → need (es ++ e ∷ []) ≡ need es
need_still es e none of =
    let still : openings (es ++ e ∷ []) ≡ openings es = openings_append es (e ∷ []) ∙ ap (λ (os : List Opening). openings es ++ os) none ∙ append-nil (openings es) in
    need_is (es ++ e ∷ []) ∙ ap (λ (os : List Opening). sum_by (λ (p : Opening). cost (es ++ e ∷ []) p.job) os) still
    ∙ sums_agree (cost es) (cost (es ++ e ∷ [])) (openings es) (λ p h. cost_still p.job es e (of p.job))
    ∙ sym (need_is es)

-- the bytes that are kept free grow by what the entry takes, and fall by what it releases
pub need_grows : (es : List Entry) (e : Entry) → IsLegal es → IsDue es e → need (es ++ e ∷ []) + released e ≡ need es + taken es e
need_grows es (Enters.Owner owner) l m = let a = need_still es (Enters.Owner owner) refl (λ x. refl) in omega (arith, a)
need_grows es (Opened o) l m = let a = need_opened es o (legal_is_orderly es l) m in omega (arith, a)
need_grows es (TicketOpen job) l m =
    let a = need_kept es (TicketOpen job) job m.opening l refl (λ x n. n) m.unfinished.opened m.unfinished.unclosed refl refl in omega (arith, a)
need_grows es (Pending t) l m =
    let a = need_kept es (Pending t) t.job m.opening l refl (λ x n. n) m.unfinished.opened m.unfinished.unclosed refl refl in omega (arith, a)
need_grows es (Deciding d) l m =
    let a = need_kept es (Deciding d) d.job m.opening l refl (λ x n. n) m.unfinished.opened m.unfinished.unclosed refl refl in omega (arith, a)
need_grows es (Held h) l m =
    let o = open_parts es h.job m.unfinished in
    let has = opening_has es h.job o.0 o.1 in
    let x : Holding = h in
    let c = need_changed es (Held h) h.job o.0 l refl (λ x n. n) has.0 has.1 in
    let a = unclosed_cost es h.job o.2 in
    let b = held_cost es x l o.2 in
    omega (arith, a, b, c)
need_grows es (Done d) l m =
    let has = opening_has es d.job m.opening m.opened in
    let c = need_changed es (Done d) d.job m.opening l refl (λ x n. n) has.0 has.1 in
    let a = unclosed_cost es d.job m.unclosed in
    let b = done_cost es d l m.unclosed in
    omega (arith, a, b, c)
need_grows es (TicketGone job) l m =
    let o = closed_is_opened es job (legal_is_orderly es l) m.closed in
    let c = need_changed es (TicketGone job) job o.0 l refl (λ x n. n) o.1 o.2 in
    let a = gone_cost es job m in
    omega (arith, a, c)
need_grows es (Sent sending) l m =
    let o = closed_is_opened es sending.job (legal_is_orderly es l) m.closed in
    let c = need_changed es (Sent sending) sending.job o.0 l refl (λ x n. n) o.1 o.2 in
    let a = sent_cost es sending.job sending.index m in
    omega (arith, a, c)
