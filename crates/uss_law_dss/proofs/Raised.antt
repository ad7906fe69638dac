-- The tickets after the index of some of them rose.
use Rattle.std.proofs.Common.{ℕ, ◌≤◌, ◌+◌, ◌≡◌, Bool, true, false, List, length, filter, refl, sym, subst, arith, if◌then◌else◌}
use Rattle.uss_vol4.specs.Volume.{Volume4D}
use Rattle.uss_intent.specs.declared.records.Ticket.{Ticket}
use Rattle.uss_law_dss.specs.Lists.{Has}
use Rattle.uss_law_dss.specs.Orderly.{Ascend, id_of}
use Rattle.uss_law_dss.specs.Step.{is_notified, raised, subscribers}
use Rattle.uss_law_dss.proofs.Lists.{has_map, mapped, length-map, length-filter_le}
use Rattle.uss_law_dss.proofs.Placed.{ascend_map}

-- the ticket, with its index raised or not
pub record IsRaised (t u : Ticket) : Type 0 where
  pub id : u.id ≡ t.id
  pub manager : u.manager ≡ t.manager
  pub index : u.index ≤ t.index + 1

raise : (b : Bool) (t : Ticket) → IsRaised t (if b then record t { index = t.index + 1 } else t)
raise true t = record { id = refl; manager = refl; index = omega arith }
raise false t = record { id = refl; manager = refl; index = omega arith }

pub raised_from : (client : List ℕ) (extents : List Volume4D) (ts : List Ticket) (u : Ticket) → Has (raised client extents ts) u → (t : Ticket) × Has ts t × IsRaised t u
raised_from client extents ts u h =
    let m = has_map (λ t. if is_notified client extents t then record t { index = t.index + 1 } else t) ts u h in
    (m.0, m.1, subst (λ (x : Ticket). IsRaised m.0 x) m.2 (raise (is_notified client extents m.0) m.0))

pub raised_to : (client : List ℕ) (extents : List Volume4D) (ts : List Ticket) (t : Ticket) → Has ts t → (u : Ticket) × Has (raised client extents ts) u × IsRaised t u
raised_to client extents ts t h =
    let f : Ticket → Ticket = λ t. if is_notified client extents t then record t { index = t.index + 1 } else t in
    (f t, mapped f ts t h, raise (is_notified client extents t) t)

pub ascend_raised : (client : List ℕ) (extents : List Volume4D) (ts : List Ticket) → Ascend id_of ts → Ascend id_of (raised client extents ts)
ascend_raised client extents ts a =
    ascend_map (λ t. if is_notified client extents t then record t { index = t.index + 1 } else t) id_of id_of (λ t. (raise (is_notified client extents t) t).id) ts a

pub length-raised : (client : List ℕ) (extents : List Volume4D) (ts : List Ticket) → length (raised client extents ts) ≡ length ts
length-raised client extents ts = length-map (λ t. if is_notified client extents t then record t { index = t.index + 1 } else t) ts

pub length-subscribers : (client : List ℕ) (extents : List Volume4D) (ts : List Ticket) → length (subscribers client extents ts) ≤ length ts
length-subscribers client extents ts =
    let len = length-filter_le (is_notified client extents) ts in
    subst (λ (n : ℕ). n ≤ length ts) (sym (length-map (λ t. record { base = t.base; ticket = t.id; index = t.index + 1 }) (filter (is_notified client extents) ts))) len
