-- What hearing a pair leaves of other flights.
use Rattle.std.proofs.Common.{◌≡◌, ◌≢◌, ℕ, Bool, true, false, ◌||◌, List, [], ◌∷◌, ◌++◌, length, Option, Some, None, refl, ap, sym, ◌∙◌, arith, find, leb}
use Rattle.std.specs.Prelude.{IfNone}
use Rattle.std.specs.List.{list_any}
use Rattle.std.specs.Option.{option_or}
use Rattle.std.proofs.lemmas.Bool.Decides.{nat_tests}
use Rattle.std.proofs.lemmas.List.Folds.{find-append, list_any-append}
use Rattle.uss_event.specs.Pairs.{OperationalIntent}
use Rattle.uss_event.specs.Heard.{is_of, without, after_news}
use Rattle.uss_event.specs.Heard.News.{Heard}
use Rattle.uss_key.specs.Kept.{room_for, is_older, forgotten_for}
use Rattle.uss_key.proofs.Rooms.{heard_new, heard_old, forgotten_of_known}
use Rattle.uss_key.proofs.Caches.{or_none}

not_of : (flight other : ℕ) (p : OperationalIntent) → is_of flight p ≡ true → other ≢ flight → is_of other p ≡ false
not_of flight other p is apart = grind (arith, nat_tests)

is_of_own : (p : OperationalIntent) → is_of p.reference.flight p ≡ true
is_of_own p = grind (arith, nat_tests)

found_further : (other : ℕ) (p : OperationalIntent) (ps qs : List OperationalIntent) (b : Bool) → is_of other p ≡ b → find (is_of other) ps ≡ find (is_of other) qs → find (is_of other) (p ∷ ps) ≡ find (is_of other) (p ∷ qs)
found_further other p ps qs true is same = rw is refl
found_further other p ps qs false is same = rw is same

found_without_at : (flight other : ℕ) (p : OperationalIntent) (ps : List OperationalIntent) (b : Bool) → is_of flight p ≡ b → other ≢ flight → find (is_of other) (without flight ps) ≡ find (is_of other) ps
    → find (is_of other) (without flight (p ∷ ps)) ≡ find (is_of other) (p ∷ ps)
found_without_at flight other p ps true is apart rest =
    let elsewhere : is_of other p ≡ false = not_of flight other p is apart in
    rw (is, elsewhere) rest
found_without_at flight other p ps false is apart rest = rw is (found_further other p (without flight ps) ps (is_of other p) refl rest)

found_without : (flight other : ℕ) (ps : List OperationalIntent) → other ≢ flight → find (is_of other) (without flight ps) ≡ find (is_of other) ps
found_without flight other [] apart = refl
found_without flight other (p ∷ ps) apart = found_without_at flight other p ps (is_of flight p) refl apart (found_without flight other ps apart)

found_with_room : (flight other : ℕ) (p : OperationalIntent) (ps : List OperationalIntent) (b : Bool) → leb 4096 (length (p ∷ ps)) ≡ b → list_any (is_of flight) (p ∷ ps) ≡ false → forgotten_for flight (p ∷ ps) ≡ None
    → find (is_of other) (room_for flight (p ∷ ps)) ≡ find (is_of other) (p ∷ ps)
found_with_room flight other p ps true full none nothing = absurd (let same : Some p.reference.flight ≡ None = rw (none, full) at nothing in cc)
found_with_room flight other p ps false room none nothing = rw (none, room) refl

-- where no flight is forgotten, making room takes no other flight's pair
found_in_room : (flight other : ℕ) (ps : List OperationalIntent) (b : Bool) → list_any (is_of flight) ps ≡ b → forgotten_for flight ps ≡ None → other ≢ flight → find (is_of other) (room_for flight ps) ≡ find (is_of other) ps
found_in_room flight other ps true there nothing apart = rw there (found_without flight other ps apart)
found_in_room flight other [] false none nothing apart = refl
found_in_room flight other (p ∷ ps) false none nothing apart = found_with_room flight other p ps (leb 4096 (length (p ∷ ps))) refl none nothing

found_after : (p : OperationalIntent) (kept : List OperationalIntent) (other : ℕ) (b : Bool) → is_older p (find (is_of p.reference.flight) kept) ≡ b → forgotten_for p.reference.flight kept ≡ None → other ≢ p.reference.flight
    → find (is_of other) (after_news kept (Heard p)) ≡ find (is_of other) kept
found_after p kept other true older nothing apart = ap (find (is_of other)) (heard_old p kept older)
found_after p kept other false newer nothing apart =
    let left = room_for p.reference.flight kept in
    let elsewhere : is_of other p ≡ false = not_of p.reference.flight other p (is_of_own p) apart in
    let last : option_or (find (is_of other) left) (find (is_of other) (p ∷ [])) ≡ find (is_of other) left = rw elsewhere (or_none (find (is_of other) left)) in
    let room : find (is_of other) left ≡ find (is_of other) kept = found_in_room p.reference.flight other kept (list_any (is_of p.reference.flight) kept) refl nothing apart in
    ap (find (is_of other)) (heard_new p kept newer) ∙ (find-append (is_of other) left (p ∷ []) ∙ (last ∙ room))

-- where no flight is forgotten, the kept pair of each other flight stays
pub others_stay : (flight : ℕ) (kept : List OperationalIntent) (o : Option ℕ) → o ≡ forgotten_for flight kept → (p : OperationalIntent) (other : ℕ) → p.reference.flight ≡ flight → other ≢ flight
    → IfNone o (find (is_of other) (after_news kept (Heard p)) ≡ find (is_of other) kept)
others_stay flight kept None is p other of apart =
    let nothing : forgotten_for p.reference.flight kept ≡ None = rw of (sym is) in
    let apart' : other ≢ p.reference.flight = rw of apart in
    found_after p kept other (is_older p (find (is_of p.reference.flight) kept)) refl nothing apart'
others_stay flight kept (Some forgotten) is p other of apart = tt

-- a flight whose pair is kept makes none be forgotten
any_or : (b : Bool) → (b || true) ≡ true
any_or true = refl
any_or false = refl

pub forgotten_of_earlier : (flight : ℕ) (ps qs : List OperationalIntent) → list_any (is_of flight) ps ≡ true → None ≡ forgotten_for flight (ps ++ qs)
forgotten_of_earlier flight ps qs there =
    let any : list_any (is_of flight) (ps ++ qs) ≡ true = list_any-append (is_of flight) ps qs ∙ rw there refl in
    sym (forgotten_of_known flight (ps ++ qs) any)

pub forgotten_of_last : (flight : ℕ) (ps qs : List OperationalIntent) → list_any (is_of flight) qs ≡ true → None ≡ forgotten_for flight (ps ++ qs)
forgotten_of_last flight ps qs there =
    let any : list_any (is_of flight) (ps ++ qs) ≡ true = list_any-append (is_of flight) ps qs ∙ rw there (any_or (list_any (is_of flight) ps)) in
    sym (forgotten_of_known flight (ps ++ qs) any)
