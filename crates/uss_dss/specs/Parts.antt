-- The tests of a Put in parts, each asked by a function of its own. Together, after that of a bad call, they are the tests of a
-- Put in their order, by the law below.
use Rattle.std.specs.Prelude.{◌≡◌, ℕ, Bool, true, false, not, ◌&&◌, ◌==◌, nat_le, List, [], ◌∷◌, ◌++◌, length, filter, Option, Some, None, is_some, is_none, if◌then◌else◌}
use Rattle.std.proofs.Common.{cond, suc, refl, sym, ap, ◌∙◌}
use Rattle.uss_vol4.specs.Volume.{Volume4D}
use Rattle.uss_intent.specs.Limits.{most_references, last_version, most_landings}
use Rattle.uss_intent.specs.declared.records.Recorded.{Recorded}
use Rattle.uss_intent.specs.declared.records.Reference.{Reference}
use Rattle.uss_intent.specs.declared.records.State.{State}
use Rattle.uss_intent.specs.declared.calls.DssRefusal.{DssRefusal}
use Rattle.uss_intent.specs.declared.calls.DssRefusal.TheVariants.{BadCall, NotYours, Exists, Retired, Absent, StaleOvn, NoTicket, NotCovered, MissingKey, Full}
use Rattle.uss_law_dss.specs.Service.{Service, recorded_of, ticket_of, in_key, relevant, lacking}
use Rattle.uss_law_dss.specs.Refusals.{is_bad_put, is_others, is_stale_change, is_no_ticket_of, is_uncovered, is_at_last_version, shown_all, put_tests, first_of}
use Rattle.uss_vol4.specs.Sharing.{any_shares}
use Rattle.uss_intent.specs.States.{is_strategic}
use Rattle.uss_intent.specs.Numbers.{is_one_of}

-- of the flight
abbrev pub flight_tests : Service → List ℕ → ℕ → Option (List ℕ) → List (Bool × DssRefusal)
flight_tests s client flight ovn =
    let r = recorded_of flight s in
    (is_others client r, NotYours)
    ∷ (is_none ovn && is_some r, Exists)
    ∷ (is_one_of flight s.retired_flights, Retired)
    ∷ (is_some ovn && is_none r, Absent)
    ∷ (is_stale_change r ovn, StaleOvn)
    ∷ []

-- of the cited ticket
abbrev pub ticket_tests : Service → List ℕ → List Volume4D → ℕ → List (Bool × DssRefusal)
ticket_tests s client extents ticket =
    let t = ticket_of ticket s in (is_no_ticket_of client t, NoTicket) ∷ (is_uncovered t extents, NotCovered) ∷ []

-- of the key
abbrev pub key_tests : Service → List ℕ → ℕ → List Volume4D → List (List ℕ) → State → List (Bool × DssRefusal)
key_tests s client flight extents key state =
    let missing = lacking key (relevant flight extents s) in
    (is_strategic state && not (length missing == 0), MissingKey (shown_all client missing)) ∷ []

-- of the room that is left
abbrev pub room_tests : Service → ℕ → Option (List ℕ) → List (Bool × DssRefusal)
room_tests s flight ovn =
    (is_none ovn && nat_le most_references (length s.references), Full most_references)
    ∷ (is_at_last_version (recorded_of flight s), Full last_version)
    ∷ (nat_le most_landings (length s.landings), Full most_landings)
    ∷ []

-- a recorded reference of another flight of which the key lacks the OVN, though some of its extents shares with some of these
abbrev pub is_missing : ℕ → List Volume4D → List (List ℕ) → Recorded → Bool
is_missing flight extents key r = (not (r.reference.flight == flight) && any_shares r.extents extents) && not (in_key key r.reference)

-- the answer to a change that lacks the OVNs of these
abbrev pub key_answer : Bool → List Reference → Option DssRefusal
key_answer keyed missing = if keyed && not (length missing == 0) then Some (MissingKey missing) else None

-- the first refusal of each part
unfoldable pub flight_refusal : Service → List ℕ → ℕ → Option (List ℕ) → Option DssRefusal
flight_refusal s client flight ovn = first_of (flight_tests s client flight ovn)

unfoldable pub ticket_refusal : Service → List ℕ → List Volume4D → ℕ → Option DssRefusal
ticket_refusal s client extents ticket = first_of (ticket_tests s client extents ticket)

unfoldable pub key_refusal : Service → List ℕ → ℕ → List Volume4D → List (List ℕ) → State → Option DssRefusal
key_refusal s client flight extents key state = key_answer (is_strategic state) (shown_all client (filter (is_missing flight extents key) s.references))

unfoldable pub room_refusal : Service → ℕ → Option (List ℕ) → Option DssRefusal
room_refusal s flight ovn = first_of (room_tests s flight ovn)

-- the first that there is
abbrev pub or_else : Option DssRefusal → Option DssRefusal → Option DssRefusal
or_else None b = b
or_else (Some a) b = Some a

abbrev pub by_parts : Bool → Option DssRefusal → Option DssRefusal → Option DssRefusal → Option DssRefusal → Option DssRefusal
by_parts true a b c d = Some BadCall
by_parts false a b c d = or_else a (or_else b (or_else c d))

-- the first refusal of a Put
abbrev pub put_refusal : Service → List ℕ → ℕ → Option (List ℕ) → List Volume4D → List (List ℕ) → State → ℕ → Option DssRefusal
put_refusal s client flight ovn extents key state ticket =
    by_parts (is_bad_put extents key) (flight_refusal s client flight ovn) (ticket_refusal s client extents ticket)
    (key_refusal s client flight extents key state) (room_refusal s flight ovn)

filtered_twice : {X : Type 0} (p q : X → Bool) (xs : List X) → filter p (filter q xs) ≡ filter (λ x. q x && p x) xs
filtered_twice p q [] = refl
filtered_twice {X} p q (x ∷ xs) = go (q x) (filtered_twice p q xs)
  where
    go : (a : Bool) → filter p (filter q xs) ≡ filter (λ x. q x && p x) xs
        → filter p (cond a (x ∷ filter q xs) (filter q xs)) ≡ cond (a && p x) (x ∷ filter (λ x. q x && p x) xs) (filter (λ x. q x && p x) xs)
    go true e = ap (λ l. cond (p x) (x ∷ l) l) e
    go false e = e

length-shown : (client : List ℕ) (rs : List Recorded) → length (shown_all client rs) ≡ length rs
length-shown client [] = refl
length-shown client (r ∷ rs) = ap suc (length-shown client rs)

key_refusal_is : (s : Service) (client : List ℕ) (flight : ℕ) (extents : List Volume4D) (key : List (List ℕ)) (state : State)
    → key_refusal s client flight extents key state ≡ first_of (key_tests s client flight extents key state)
unfolding key_refusal
key_refusal_is s client flight extents key state =
    let same = filtered_twice (λ r. not (in_key key r.reference)) (λ r. not (r.reference.flight == flight) && any_shares r.extents extents) s.references in
    rw (← same, length-shown client (lacking key (relevant flight extents s))) refl

first_of_both : (xs ys : List (Bool × DssRefusal)) → first_of (xs ++ ys) ≡ or_else (first_of xs) (first_of ys)
first_of_both [] ys = refl
first_of_both ((true, r) ∷ xs) ys = refl
first_of_both ((false, r) ∷ xs) ys = first_of_both xs ys

parts_together : (b : Bool) (xs ys zs ws : List (Bool × DssRefusal))
    → by_parts b (first_of xs) (first_of ys) (first_of zs) (first_of ws) ≡ first_of ((b, BadCall) ∷ (xs ++ (ys ++ (zs ++ ws))))
parts_together true xs ys zs ws = refl
parts_together false xs ys zs ws =
    sym (first_of_both xs (ys ++ (zs ++ ws)) ∙ ap (or_else (first_of xs)) (first_of_both ys (zs ++ ws) ∙ ap (or_else (first_of ys)) (first_of_both zs ws)))

-- it is that of the definition
pub put_refusal_is : (s : Service) (client : List ℕ) (flight : ℕ) (ovn : Option (List ℕ)) (extents : List Volume4D) (key : List (List ℕ)) (state : State) (ticket : ℕ)
    → put_refusal s client flight ovn extents key state ticket ≡ first_of (put_tests s client flight ovn extents key state ticket)
unfolding flight_refusal ticket_refusal room_refusal
put_refusal_is s client flight ovn extents key state ticket =
    rw (key_refusal_is s client flight extents key state)
    (parts_together (is_bad_put extents key) (flight_tests s client flight ovn) (ticket_tests s client extents ticket)
    (key_tests s client flight extents key state) (room_tests s flight ovn))
