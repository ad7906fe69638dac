-- That the test of how a job may end says the same as the fact, and that the comparison of endings decides whether they are the same.
use Rattle.std.proofs.Common.{ℕ, ◌==◌, Bool, true, false, not, ◌||◌, ◌&&◌, List, ◌≡◌, ◌⊎◌, inl, inr, length, refl, ap, ◌∙◌, subst, Option, Some, None}
use Rattle.std.specs.Bool.{Decides}
use Rattle.std.specs.Cmp.{unsigned_Decides}
use Rattle.std.specs.Cmp.Lexicographic.{pointwise, pointwise_decides}
use Rattle.std.proofs.lemmas.Bool.{and_parts, and_from, not-true, not_from_false, eqb-true, eq-eqb}
use Rattle.std.proofs.lemmas.List.{nil_from_length}
use Rattle.uss_intent.specs.Same.{same_text}
use Rattle.uss_intent.specs.SameLaws.{text_is_same}
use Rattle.uss_intent.specs.declared.records.Subscriber.{Subscriber}
use Rattle.uss_event.specs.declared.rules.Verdict.{Verdict}
use Rattle.uss_event.specs.declared.rules.Verdict.TheVariants.{Clear, EqualForbidden, HigherStands}
use Rattle.uss_event.specs.declared.asks.Wish.{Wish}
use Rattle.uss_event.specs.declared.asks.Wish.TheVariants.{Put, End}
use Rattle.uss_event.specs.declared.entries.Ending.{Ending}
use Rattle.uss_event.specs.declared.entries.Ending.TheVariants.{Conflict, Stale, Cancelled, Ended}
use Rattle.uss_event.specs.declared.entries.Entry.{Entry}
use Rattle.uss_event.specs.declared.entries.Opening.{Opening}
use Rattle.uss_event.specs.declared.entries.Closing.{Closing}
use Rattle.uss_law_book.specs.Contents.{opening_of, is_closed, trials_of, decision_of, is_ticket_open, is_ended}
use Rattle.uss_law_book.specs.Legal.{EndsFlight, EndsUntried, EndsPut, EndsWish, MayEnd}
use Rattle.uss_book_rules.specs.Ends.{same_rule, same_subscriber, same_ending, is_decided_so, ends_untried, ends_put, ends_wish, ends_opening, may_end}

-- ---- two endings are the same

rule_parts : (a b : Verdict) → same_rule a b ≡ true → a ≡ b
rule_parts Clear Clear h = refl
rule_parts EqualForbidden EqualForbidden h = refl
rule_parts HigherStands HigherStands h = refl
rule_parts _ _ h = cc

rule_itself : (a : Verdict) → same_rule a a ≡ true
rule_itself Clear = refl
rule_itself EqualForbidden = refl
rule_itself HigherStands = refl

subscriber_parts : (a b : Subscriber) → same_subscriber a b ≡ true → a ≡ b
subscriber_parts a b h =
    let p = and_parts (same_text a.base b.base) ((a.ticket == b.ticket) && (a.index == b.index)) h in
    let q = and_parts (a.ticket == b.ticket) (a.index == b.index) p.1 in
    let base = (text_is_same a.base b.base).0 p.0 in
    let ticket = (unsigned_Decides a.ticket b.ticket).0 q.0 in
    let index = (unsigned_Decides a.index b.index).0 q.1 in
    λ i. record { base = base i; ticket = ticket i; index = index i }

subscriber_itself : (a : Subscriber) → same_subscriber a a ≡ true
subscriber_itself a =
    and_from (same_text a.base a.base) _ ((text_is_same a.base a.base).1 refl)
    (and_from (a.ticket == a.ticket) (a.index == a.index) ((unsigned_Decides a.ticket a.ticket).1 refl) ((unsigned_Decides a.index a.index).1 refl))

subscriber_is_same : (a b : Subscriber) → Decides (same_subscriber a b) (a ≡ b)
subscriber_is_same a b = (subscriber_parts a b, λ e. subst (λ (x : Subscriber). same_subscriber a x ≡ true) e (subscriber_itself a))

owed_is_same : (a b : List Subscriber) → Decides (pointwise same_subscriber a b) (a ≡ b)
owed_is_same a b = pointwise_decides {E = same_subscriber} subscriber_is_same a b

ending_parts : (a b : Ending) → same_ending a b ≡ true → a ≡ b
ending_parts (Conflict f m r) (Conflict f' m' r') h =
    let p = and_parts (f == f') (same_text m m' && same_rule r r') h in
    let q = and_parts (same_text m m') (same_rule r r') p.1 in
    let flight = (unsigned_Decides f f').0 p.0 in
    let manager = (text_is_same m m').0 q.0 in
    let rule = rule_parts r r' q.1 in
    λ i. Conflict (flight i) (manager i) (rule i)
ending_parts (Stale m) (Stale m') h = ap Stale ((text_is_same m m').0 h)
ending_parts Cancelled Cancelled h = refl
ending_parts (Ended o) (Ended o') h = ap Ended ((owed_is_same o o').0 h)
ending_parts _ _ h = cc

ending_itself : (a : Ending) → same_ending a a ≡ true
ending_itself (Conflict f m r) =
    and_from (f == f) _ ((unsigned_Decides f f).1 refl) (and_from (same_text m m) (same_rule r r) ((text_is_same m m).1 refl) (rule_itself r))
ending_itself (Stale m) = (text_is_same m m).1 refl
ending_itself Cancelled = refl
ending_itself (Ended o) = (owed_is_same o o).1 refl

pub ending_is_same : (a b : Ending) → Decides (same_ending a b) (a ≡ b)
ending_is_same a b = (ending_parts a b, λ e. subst (λ (x : Ending). same_ending a x ≡ true) e (ending_itself a))

-- ---- how a job ends

decided_from : (job : ℕ) (end : Ending) (d : Option Closing) → is_decided_so job end d ≡ true → d ≡ Some (record { job = job; end = end })
decided_from job end None h = cc
decided_from job end (Some d) h =
    let p = and_parts (d.job == job) (same_ending d.end end) h in
    let by = eqb-true d.job job p.0 in
    let so = ending_parts d.end end p.1 in
    ap Some (λ i. record { job = by i; end = so i })

decided_true : (job : ℕ) (end : Ending) (d : Option Closing) → d ≡ Some (record { job = job; end = end }) → is_decided_so job end d ≡ true
decided_true job end d e = ap (is_decided_so job end) e ∙ and_from (job == job) (same_ending end end) (eq-eqb job job refl) (ending_itself end)

untried_from : (ticket_open : Bool) (end : Ending) → ends_untried ticket_open end ≡ true → EndsUntried ticket_open end
untried_from ticket_open (Conflict flight manager rule) h = h
untried_from ticket_open (Stale missing) h = absurd cc
untried_from ticket_open Cancelled h = tt
untried_from ticket_open (Ended owed) h = absurd cc

untried_true : (ticket_open : Bool) (end : Ending) → EndsUntried ticket_open end → ends_untried ticket_open end ≡ true
untried_true ticket_open (Conflict flight manager rule) h = h
untried_true ticket_open (Stale missing) h = absurd h
untried_true ticket_open Cancelled h = refl
untried_true ticket_open (Ended owed) h = absurd h

flight_from : (end : Ending) → is_ended end ≡ true → EndsFlight end
flight_from (Conflict flight manager rule) h = absurd cc
flight_from (Stale missing) h = absurd cc
flight_from Cancelled h = absurd cc
flight_from (Ended owed) h = tt

flight_true : (end : Ending) → EndsFlight end → is_ended end ≡ true
flight_true (Conflict flight manager rule) h = absurd h
flight_true (Stale missing) h = absurd h
flight_true Cancelled h = absurd h
flight_true (Ended owed) h = refl

either : (a b : Bool) → (a || b) ≡ true → (a ≡ true) ⊎ (b ≡ true)
either true b h = inl refl
either false b h = inr h

left_true : (a b : Bool) → a ≡ true → (a || b) ≡ true
left_true a b h = rw h refl

right_true : (a b : Bool) → b ≡ true → (a || b) ≡ true
right_true true b h = refl
right_true false b h = h

put_from : (es : List Entry) (job : ℕ) (end : Ending) → ends_put es job end ≡ true → EndsPut es job end
put_from es job end h = by_case (either (is_decided_so job end (decision_of job es)) _ h)
  where
    by_case : (is_decided_so job end (decision_of job es) ≡ true) ⊎ (((length (trials_of job es) == 0) && ends_untried (is_ticket_open job es) end) ≡ true) → EndsPut es job end
    by_case (inl d) = inl (decided_from job end (decision_of job es) d)
    by_case (inr u) =
        let p = and_parts (length (trials_of job es) == 0) (ends_untried (is_ticket_open job es) end) u in
        inr (nil_from_length (trials_of job es) (eqb-true (length (trials_of job es)) 0 p.0), untried_from (is_ticket_open job es) end p.1)

put_true : (es : List Entry) (job : ℕ) (end : Ending) → EndsPut es job end → ends_put es job end ≡ true
put_true es job end (inl d) = left_true (is_decided_so job end (decision_of job es)) _ (decided_true job end (decision_of job es) d)
put_true es job end (inr u) =
    right_true (is_decided_so job end (decision_of job es)) _
    (and_from (length (trials_of job es) == 0) (ends_untried (is_ticket_open job es) end) (eq-eqb (length (trials_of job es)) 0 (ap length u.0)) (untried_true (is_ticket_open job es) end u.1))

wish_from : (es : List Entry) (job : ℕ) (end : Ending) (w : Wish) → ends_wish es job end w ≡ true → EndsWish es job end w
wish_from es job end (Put to priority rounds proposals) h = put_from es job end h
wish_from es job end End h = flight_from end h

wish_true : (es : List Entry) (job : ℕ) (end : Ending) (w : Wish) → EndsWish es job end w → ends_wish es job end w ≡ true
wish_true es job end (Put to priority rounds proposals) h = put_true es job end h
wish_true es job end End h = flight_true end h

record EndsOpened (es : List Entry) (job : ℕ) (end : Ending) (o : Option Opening) : Type 0 where
  pub opening : Opening
  pub is : o ≡ Some opening
  pub wish : EndsWish es job end opening.ask.wish

opening_from : (es : List Entry) (job : ℕ) (end : Ending) (o : Option Opening) → ends_opening es job end o ≡ true → EndsOpened es job end o
opening_from es job end None h = absurd cc
opening_from es job end (Some o) h = record { opening = o; is = refl; wish = wish_from es job end o.ask.wish h }

pub end_from : (es : List Entry) (job : ℕ) (end : Ending) → may_end es job end ≡ true → MayEnd es job end
unfolding may_end
end_from es job end h =
    let a = and_parts (not (is_closed job es)) (ends_opening es job end (opening_of job es)) h in
    let f = opening_from es job end (opening_of job es) a.1 in
    record { opening = f.opening; opened = f.is; unclosed = not-true (is_closed job es) a.0; wish = f.wish }

pub end_true : (es : List Entry) (job : ℕ) (end : Ending) → MayEnd es job end → may_end es job end ≡ true
unfolding may_end
end_true es job end h =
    and_from (not (is_closed job es)) _ (not_from_false (is_closed job es) h.unclosed)
    (ap (ends_opening es job end) h.opened ∙ wish_true es job end h.opening.ask.wish h.wish)
