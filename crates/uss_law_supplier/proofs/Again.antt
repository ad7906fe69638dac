-- A request that was answered is answered again.
use Rattle.std.proofs.Common.{arith, ℕ, ◌==◌, Bool, false, cond, nat_lt, ◌≡◌, refl, ap, sym, ◌∙◌, Option}
use Rattle.std.proofs.lemmas.Bool.Decides.{nat_tests}
use Rattle.uss_event.specs.declared.asks.AskField.{AskField}
use Rattle.uss_event.specs.declared.asks.AskRefusal.TheVariants as Refuses
use Rattle.uss_event.specs.declared.entries.Opening.{Opening}
use Rattle.uss_law_book.specs.Contents.{is_closed}
use Rattle.uss_law_dss.proofs.Tests.{equal_number}
use Rattle.uss_law_duty.specs.Duties.{clamped}
use Rattle.uss_law_supplier.specs.Turns.{Standing}
use Rattle.uss_law_supplier.specs.Asks.{refusing, asked_anew, asked_with, asked_after, repeated, repeated_by, asked_for}
use Rattle.uss_law_supplier.specs.Cancels.{cancelled_after, cancelled_job}
use Rattle.uss_law_supplier.specs.Again.{RepeatsAreAnswered, LateCancelsAreAnswered}

not_less_than_itself : (n : ℕ) → nat_lt n n ≡ false
not_less_than_itself n = grind (arith, nat_tests)

pub repeats_are_answered : RepeatsAreAnswered
repeats_are_answered owner book values moment ask o plan d =
    let s : Standing = record { owner = owner; book = book; values = values } in
    let at = clamped moment in
    let less : nat_lt ask.number o.ask.number ≡ false = ap (nat_lt ask.number) (sym d.number) ∙ not_less_than_itself ask.number in
    ap (λ (x : Option ℕ). asked_with s at ask x) plan
    ∙ ap (λ (x : Option Opening). asked_after s at ask x) d.last
    ∙ ap (λ (b : Bool). cond b (refusing s (Refuses.OldNumber o.ask.number)) (cond (ask.number == o.ask.number) (repeated s o ask) (asked_anew s at ask))) less
    ∙ ap (λ (b : Bool). cond b (repeated s o ask) (asked_anew s at ask)) (equal_number ask.number o.ask.number d.number)
    ∙ ap (λ (x : Option AskField). repeated_by s o x) d.wish
    ∙ ap (λ (b : Bool). asked_for s o b) d.closed

pub late_cancels_are_answered : LateCancelsAreAnswered
late_cancels_are_answered owner book values moment flight o last closed =
    let s : Standing = record { owner = owner; book = book; values = values } in
    ap (λ (x : Option Opening). cancelled_after s o.ask.number x) last
    ∙ ap (λ (b : Bool). cond b (cancelled_job s o (is_closed o.job book)) (refusing s (Refuses.NotAsked o.ask.number))) (equal_number o.ask.number o.ask.number refl)
    ∙ ap (λ (b : Bool). cancelled_job s o b) closed
