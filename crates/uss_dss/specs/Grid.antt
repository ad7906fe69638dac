-- The index of the recorded references' boxes, as the service shows it. This project's own.
use Rattle.std.specs.Prelude.{◌≡◌, ℕ, zero, suc, Bool, true, false, ◌==◌, List, [], ◌∷◌, Some}
use Rattle.uss_vol4.specs.declared.Box4.{Box4}
use Rattle.uss_vol4.specs.Bounding.{bounding_box}
use Rattle.uss_index.specs.Boxes.{Boxes, box_at}
use Rattle.uss_intent.specs.declared.records.Landing.{Landing}
use Rattle.uss_intent.specs.declared.records.Recorded.{Recorded}
use Rattle.uss_law_dss.specs.Lists.{Has}
use Rattle.uss_law_dss.specs.Service.{Service}

-- with one landing before the others: their number is one more, and the landing itself has number 1 where it is the flight's and no
-- later one is
abbrev pub number_after : ℕ → Bool → ℕ
number_after (suc n) own = suc (suc n)
number_after zero true = 1
number_after zero false = 0

-- the number of a flight's last landing, counted from 1; 0 where it has none
abbrev pub last_number : ℕ → List Landing → ℕ
last_number flight [] = 0
last_number flight (l ∷ ls) = number_after (last_number flight ls) (l.flight == flight)

-- for each recorded reference there is the bounding box of its extents under the number of its last landing, and there is no other box
pub record HasReferences (s : Service) (boxes : Boxes) : Type 0 where
  pub all : (r : Recorded) → Has s.references r → box_at boxes (last_number r.reference.flight s.landings) ≡ Some (bounding_box r.extents)
  pub only : (n : ℕ) (b : Box4) → box_at boxes n ≡ Some b → (r : Recorded) × Has s.references r × (n ≡ last_number r.reference.flight s.landings) × (b ≡ bounding_box r.extents)
