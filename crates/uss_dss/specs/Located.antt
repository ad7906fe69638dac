-- Things with an identifier and volumes each, as the service finds them by boxes: the bounding box of the volumes stands in an index
-- under a number, and beside it whose it is. This project's own.
use Rattle.std.specs.Prelude.{◌≡◌, ℕ, ◌<◌, ◌||◌, Bool, false, nat_eq, List, [], ◌∷◌, find, ◌==◌, length, Option, Some, None, if◌then◌else◌}
use Rattle.std.specs.Option.{option_map, option_to_list}
use Rattle.std.specs.List.{flat_map}
use Rattle.std.specs.Ordering.{nat_cmp}
use Rattle.std.specs.BTreeMap.{get}
use Rattle.uss_vol4.specs.declared.Box4.{Box4}
use Rattle.uss_vol4.specs.Volume.{Volume4D}
use Rattle.uss_vol4.specs.Bounding.{IsBoundingBox, bounding_box}
use Rattle.uss_index.specs.Boxes.{box_at}
use Rattle.uss_index.specs.Points.{have_common_point}
use Rattle.uss_intent.specs.declared.records.Recorded.{Recorded}
use Rattle.uss_intent.specs.declared.records.Ticket.{Ticket}
use Rattle.uss_dss.specs.declared.located.Located.{Located}

-- the number of an identifier's box, where it has one
abbrev pub number_of : ℕ → Located → Option ℕ
number_of id l = get nat_cmp l.numbers id

-- whose box stands under a number
abbrev pub whose : ℕ → Located → Option ℕ
whose n l = get nat_cmp l.ids n

-- the box under a number
abbrev pub box_under : ℕ → Located → Option Box4
box_under n l = box_at l.boxes n

-- the extents of a flight's recorded reference, and the area of a ticket
abbrev pub extents_in : List Recorded → ℕ → Option (List Volume4D)
extents_in rs flight = option_map (λ r. r.extents) (find (λ r. r.reference.flight == flight) rs)

abbrev pub area_in : List Ticket → ℕ → Option (List Volume4D)
area_in ts id = option_map (λ t. t.area ∷ []) (find (λ t. t.id == id) ts)

-- the box of the thing with this identifier and these volumes stands under its number
pub record Stands (l : Located) (id : ℕ) (volumes : List Volume4D) : Type 0 where
  pub number : ℕ
  pub named : number_of id l ≡ Some number
  pub owned : whose number l ≡ Some id
  pub boxed : box_under number l ≡ Some (bounding_box volumes)
  pub bounding : IsBoundingBox volumes (bounding_box volumes)

-- the box under a number is that of one of the things
pub record BelongsTo (what : ℕ → Option (List Volume4D)) (l : Located) (number : ℕ) (b : Box4) : Type 0 where
  pub id : ℕ
  pub volumes : List Volume4D
  pub there : what id ≡ Some volumes
  pub boxed : b ≡ bounding_box volumes
  pub named : number_of id l ≡ Some number
  pub owned : whose number l ≡ Some id

-- each thing's box stands, and no other box and no other number does
pub record IsLocated (what : ℕ → Option (List Volume4D)) (l : Located) : Type 0 where
  pub all : (id : ℕ) (volumes : List Volume4D) → what id ≡ Some volumes → Stands l id volumes
  pub only : (n : ℕ) (b : Box4) → box_under n l ≡ Some b → BelongsTo what l n b
  pub named : (id n : ℕ) → number_of id l ≡ Some n → (volumes : List Volume4D) × (what id ≡ Some volumes)

-- a box more stands, and its identifier has its number now
pub record IsEntered (number id : ℕ) (b : Box4) (old new : Located) : Type 0 where
  pub boxes : (k : ℕ) → box_under k new ≡ (if nat_eq k number then Some b else box_under k old)
  pub ids : (k : ℕ) → whose k new ≡ (if nat_eq k number then Some id else whose k old)
  pub numbers : (k : ℕ) → number_of k new ≡ (if nat_eq k id then Some number else number_of k old)

-- nothing but what is beside a number without a box has changed
pub record IsAlike (number : ℕ) (old new : Located) : Type 0 where
  pub boxes : (k : ℕ) → box_under k new ≡ box_under k old
  pub ids : (k : ℕ) → nat_eq k number ≡ false → whose k new ≡ whose k old
  pub numbers : (k : ℕ) → number_of k new ≡ number_of k old

-- it is this number
abbrev pub is_that : Option ℕ → ℕ → Bool
is_that None k = false
is_that (Some n) k = nat_eq k n

-- nothing stands under that number any more
pub record IsWithout (number : Option ℕ) (old new : Located) : Type 0 where
  pub boxes : (k : ℕ) → box_under k new ≡ (if is_that number k then None else box_under k old)
  pub ids : (k : ℕ) → whose k new ≡ (if is_that number k then None else whose k old)

-- the numbers of identifiers are what they were
abbrev pub AreNumbersKept : Located → Located → Type 0
AreNumbersKept old new = (k : ℕ) → number_of k new ≡ number_of k old

-- this identifier has this number, or none, and the others have what they had
abbrev pub IsNumbered : ℕ → Option ℕ → Located → Located → Type 0
IsNumbered id number old new = (k : ℕ) → number_of k new ≡ (if nat_eq k id then number else number_of k old)

-- the box of these volumes, where there are any, has a point in common with q
abbrev pub is_near : Box4 → Option (List Volume4D) → Bool
is_near q None = false
is_near q (Some volumes) = have_common_point q (bounding_box volumes)

-- the box of the first volumes, where there are any, has a point in common with that of the second
abbrev pub meets : List Volume4D → Option (List Volume4D) → Bool
meets [] w = false
meets (v ∷ vs) w = is_near (bounding_box (v ∷ vs)) w

-- the volumes, where there are any, lie in their bounding box
abbrev pub IsBounded : List Volume4D → Type 0
IsBounded vs = 0 < length vs → IsBoundingBox vs (bounding_box vs)

-- whether the ticket's area meets the old extents or the new ones, all taken as boxes
abbrev pub is_met : List Volume4D → List Volume4D → Ticket → Bool
is_met old new t = meets old (Some (t.area ∷ [])) || meets new (Some (t.area ∷ []))

-- the things with these numbers, in the order of the numbers, without those that aren't there
abbrev pub those_of : {X : Type 0} → (X → ℕ) → List ℕ → List X → List X
those_of number ks xs = flat_map (λ k. option_to_list (find (λ x. number x == k) xs)) ks
