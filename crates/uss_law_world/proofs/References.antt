-- A reference is what its parts are.
use Rattle.std.proofs.Common.{ℕ, List, ◌≡◌, refl, sym, ◌∙◌, Option}
use Rattle.std.specs.Prelude.{ℤ}
use Rattle.uss_intent.specs.declared.records.Reference.{Reference}
use Rattle.uss_intent.specs.declared.records.State.{State}

from_parts : ℕ → List ℕ → ℕ → State → Option (List ℕ) → ℤ → ℤ → List ℕ → ℕ → Reference
from_parts flight manager version state ovn start end base ticket =
    record { flight = flight; manager = manager; version = version; state = state; ovn = ovn; start = start; end = end; base = base; ticket = ticket }

of_parts : (r : Reference) → from_parts r.flight r.manager r.version r.state r.ovn r.start r.end r.base r.ticket ≡ r
unfolding from_parts
of_parts r = refl

pub same_reference : (r q : Reference) → r.flight ≡ q.flight → r.manager ≡ q.manager → r.version ≡ q.version → r.state ≡ q.state → r.ovn ≡ q.ovn → r.start ≡ q.start → r.end ≡ q.end → r.base ≡ q.base → r.ticket ≡ q.ticket → r ≡ q
same_reference r q a b c d e f g h i = sym (of_parts r) ∙ (same a b c d e f g h i ∙ of_parts q)
  where
    same : r.flight ≡ q.flight → r.manager ≡ q.manager → r.version ≡ q.version → r.state ≡ q.state → r.ovn ≡ q.ovn → r.start ≡ q.start → r.end ≡ q.end → r.base ≡ q.base → r.ticket ≡ q.ticket
        → from_parts r.flight r.manager r.version r.state r.ovn r.start r.end r.base r.ticket ≡ from_parts q.flight q.manager q.version q.state q.ovn q.start q.end q.base q.ticket
    same a b c d e f g h i = cc
