-- What the limit of the journal bounds.
use Rattle.std.proofs.Common.{ℕ, ◌+◌, ◌≤◌, ◌↔◌, List, [], ◌∷◌, ◌++◌, ◌≡◌, arith, true, nat_le}
use Rattle.std.proofs.lemmas.Bool.Decides.{nat_tests}
use Rattle.uss_event.specs.declared.entries.Entry.{Entry}
use Rattle.uss_law_book.specs.Coding.{journal_length}
use Rattle.uss_law_book.specs.Reserve.{need, settled, reserved, ReserveCovers}
use Rattle.uss_law_book.specs.Legal.{IsDue, MayFollow, IsLegal}
use Rattle.uss_law_book.specs.Changes.{settled_by, taken, released}
use Rattle.uss_law_dss.proofs.Tests.{le_test}
use Rattle.uss_law_book.proofs.Needed.{need_grows}
use Rattle.uss_law_book.proofs.Settled.{settled_grows}

pub need_fits : (es : List Entry) (e : Entry) → MayFollow es e → need es ≤ 536870912
unfolding reserved
need_fits es e m = let r = m.room_before in omega (arith, r)

pub settled_fits : (es : List Entry) (e : Entry) → IsLegal es → MayFollow es e → journal_length (settled es) + settled_by es e ≤ 536870912
unfolding reserved
settled_fits es e l m =
    let r = m.room_after in
    let g = settled_grows es e l m.due in
    omega (arith, r, g)

pub covered_after : (es : List Entry) (e : Entry) (n s k : ℕ) → IsLegal es → IsDue es e → n ≡ need es → s ≡ journal_length (settled es) → k + released e ≡ (s + settled_by es e) + (n + taken es e) → (k ≤ 536870912) ↔ ReserveCovers (es ++ e ∷ [])
unfolding reserved
covered_after es e n s k l d needs settles sum =
    let g = need_grows es e l d in
    let h = settled_grows es e l d in
    (λ a. omega (arith, g, h, needs, settles, sum, a), λ a. omega (arith, g, h, needs, settles, sum, a))

pub at_most : (a b : ℕ) → nat_le a b ≡ true → a ≤ b
at_most a b h = grind (arith, nat_tests)

-- the test of a sum says so
pub covered_by_test : (es : List Entry) (e : Entry) (k : ℕ) → (k ≤ 536870912) ↔ ReserveCovers (es ++ e ∷ []) → (nat_le k 536870912 ≡ true) ↔ ReserveCovers (es ++ e ∷ [])
covered_by_test es e k i = (λ h. i.0 (at_most k 536870912 h), λ h. le_test k 536870912 (i.1 h))
