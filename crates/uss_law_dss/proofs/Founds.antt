-- Look-ups in ascending lists find what is there.
use Rattle.std.proofs.Common.{ℕ, ◌≡◌, ◌≢◌, ◌==◌, ◌⊎◌, inl, inr, Bool, true, false, cond, List, [], ◌∷◌, Some, None, refl, ap, ◌∙◌, arith}
use Rattle.std.specs.List.{find}
use Rattle.uss_intent.specs.declared.records.Recorded.{Recorded}
use Rattle.uss_intent.specs.declared.records.Ticket.{Ticket}
use Rattle.uss_law_dss.specs.Lists.{Has}
use Rattle.uss_law_dss.specs.Service.{Service, recorded_of, ticket_of}
use Rattle.uss_law_dss.specs.Orderly.{Ascend, IsOrderly, id_of, flight_recorded}
use Rattle.uss_law_dss.proofs.Lists.{find_has, find_none}
use Rattle.uss_law_dss.proofs.Tests.{same_number, other_number}
use Rattle.uss_law_dss.proofs.Placed.{above_has}

find_one : {X : Type 0} (number : X → ℕ) (n : ℕ) (xs : List X) (x : X) → Ascend number xs → Has xs x → number x ≡ n → find (λ y. number y == n) xs ≡ Some x
find_one number n [] x a h e = absurd h
find_one {X} number n (y ∷ ys) x a h e = go (number y == n) refl (λ k. find_one number n ys x a.1 k e) h
  where
    go : (b : Bool) → (number y == n) ≡ b → (Has ys x → find (λ z. number z == n) ys ≡ Some x) → (y ≡ x) ⊎ Has ys x → cond b (Some y) (find (λ z. number z == n) ys) ≡ Some x
    go true t rec (inl q) = ap Some q
    go true t rec (inr k) = absurd (let l = above_has number (number y) ys x a.0 k in let m = same_number (number y) n t in omega arith)
    go false t rec (inl q) = absurd (other_number (number y) n t (ap number q ∙ e))
    go false t rec (inr k) = rec k

pub recorded_is : (s : Service) (flight : ℕ) (r : Recorded) → IsOrderly s → Has s.references r → r.reference.flight ≡ flight → recorded_of flight s ≡ Some r
recorded_is s flight r j h e = find_one flight_recorded flight s.references r j.references_ascend h e

pub ticket_is : (s : Service) (id : ℕ) (t : Ticket) → IsOrderly s → Has s.tickets t → t.id ≡ id → ticket_of id s ≡ Some t
ticket_is s id t j h e = find_one id_of id s.tickets t j.tickets_ascend h e

pub recorded_has : (s : Service) (flight : ℕ) (r : Recorded) → recorded_of flight s ≡ Some r → Has s.references r × (r.reference.flight ≡ flight)
recorded_has s flight r e = let h = find_has (λ r. r.reference.flight == flight) s.references r e in (h.0, same_number r.reference.flight flight h.1)

pub ticket_has : (s : Service) (id : ℕ) (t : Ticket) → ticket_of id s ≡ Some t → Has s.tickets t × (t.id ≡ id)
ticket_has s id t e = let h = find_has (λ t. t.id == id) s.tickets t e in (h.0, same_number t.id id h.1)

pub not_recorded : (s : Service) (flight : ℕ) → recorded_of flight s ≡ None → (r : Recorded) → Has s.references r → r.reference.flight ≢ flight
not_recorded s flight e r h = other_number r.reference.flight flight (find_none (λ r. r.reference.flight == flight) s.references r e h)

pub no_ticket : (s : Service) (id : ℕ) → ticket_of id s ≡ None → (t : Ticket) → Has s.tickets t → t.id ≢ id
no_ticket s id e t h = other_number t.id id (find_none (λ t. t.id == id) s.tickets t e h)
