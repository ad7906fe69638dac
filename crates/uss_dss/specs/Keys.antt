-- When an ordered set of texts stands for a key.
use Rattle.std.specs.Prelude.{◌≡◌, ℕ, Bool, List, is_some}
use Rattle.std.specs.Borrow.{Bor}
use Rattle.std.specs.Cmp.Lexicographic.{slice_cmp}
use Rattle.std.specs.Ordering.{nat_cmp}
use Rattle.std.specs.List.{list_any}
use Rattle.std.specs.BTreeMap.{BTreeMap, get_by}
use Rattle.uss_intent.specs.Same.{same_text}

-- it finds the OVNs of the key, and no others
abbrev pub Finds : BTreeMap (Bor (List ℕ)) Bool → List (List ℕ) → Type 0
Finds set key = (q : List ℕ) → is_some (get_by (λ k. slice_cmp nat_cmp q k.now) set) ≡ list_any (λ o. same_text q o) key
