-- Room for one more pair, and what hearing a pair leaves.
use Rattle.std.proofs.Common.{◌≡◌, ℕ, ◌+◌, ◌<◌, ◌≤◌, Bool, true, false, List, [], ◌∷◌, ◌++◌, length, drop, Option, Some, None, is_some, refl, ap, sym, ◌∙◌, arith, find, slice_get, length-append, leb}
use Rattle.std.specs.List.{list_any}
use Rattle.std.specs.Option.{option_map, IfSome}
use Rattle.std.proofs.lemmas.Bool.Decides.{nat_tests}
use Rattle.uss_event.specs.Pairs.{OperationalIntent}
use Rattle.uss_event.specs.Heard.{News, is_of, without, in_place, after_news, kept_from, kept_pairs}
use Rattle.uss_event.specs.Heard.News.{Heard}
use Rattle.uss_key.specs.Kept.{room_for, is_older, are_of_different_flights, may_be_kept, forgotten_for}
use Rattle.uss_key.proofs.Lists.{any_is_found, without_absent, first_alone, one_more_flight, still_apart, none_left, one_less}
use Rattle.uss_key.proofs.Numbers.{none_from_no_some}
use Rattle.uss_key.proofs.Stores.{few, apart, may_keep}

pub room_where_heard : (flight : ℕ) (ps : List OperationalIntent) → list_any (is_of flight) ps ≡ true → room_for flight ps ≡ without flight ps
room_where_heard flight ps there = rw there refl

pub room_of_the_first : (flight : ℕ) (ps : List OperationalIntent) → list_any (is_of flight) ps ≡ false → 4096 ≤ length ps → room_for flight ps ≡ drop 1 ps
room_of_the_first flight [] none full = refl
room_of_the_first flight (p ∷ ps) none full =
    let at : leb 4096 (length (p ∷ ps)) ≡ true = grind (arith, nat_tests) in
    rw (none, at) refl

pub room_enough : (flight : ℕ) (ps : List OperationalIntent) → list_any (is_of flight) ps ≡ false → length ps < 4096 → room_for flight ps ≡ ps
room_enough flight [] none room = refl
room_enough flight (p ∷ ps) none room =
    let at : leb 4096 (length (p ∷ ps)) ≡ false = grind (arith, nat_tests) in
    rw (none, at) refl

-- a pair that isn't older than the kept one is put at the end
heard_at : (p : OperationalIntent) (kept : List OperationalIntent) (o : Option OperationalIntent) → find (is_of p.reference.flight) kept ≡ o → is_older p o ≡ false → in_place p kept o ≡ room_for p.reference.flight kept ++ p ∷ []
heard_at p kept None at newer =
    let none : list_any (is_of p.reference.flight) kept ≡ false = any_is_found (is_of p.reference.flight) kept ∙ ap is_some at in
    rw none refl
heard_at p kept (Some old) at newer =
    let there : list_any (is_of p.reference.flight) kept ≡ true = any_is_found (is_of p.reference.flight) kept ∙ ap is_some at in
    rw (newer, there) refl

pub heard_new : (p : OperationalIntent) (kept : List OperationalIntent) → is_older p (find (is_of p.reference.flight) kept) ≡ false → after_news kept (Heard p) ≡ room_for p.reference.flight kept ++ p ∷ []
heard_new p kept newer = heard_at p kept (find (is_of p.reference.flight) kept) refl newer

older_at : (p : OperationalIntent) (kept : List OperationalIntent) (o : Option OperationalIntent) → is_older p o ≡ true → in_place p kept o ≡ kept
older_at p kept None older = absurd (cc)
older_at p kept (Some old) older = rw older refl

-- an older pair changes nothing
pub heard_old : (p : OperationalIntent) (kept : List OperationalIntent) → is_older p (find (is_of p.reference.flight) kept) ≡ true → after_news kept (Heard p) ≡ kept
heard_old p kept older = older_at p kept (find (is_of p.reference.flight) kept) older

-- one more piece of news
kept_from_more : (kept : List OperationalIntent) (heard : List News) (n : News) → kept_from kept (heard ++ n ∷ []) ≡ after_news (kept_from kept heard) n
kept_from_more kept [] n = refl
kept_from_more kept (m ∷ ms) n = kept_from_more (after_news kept m) ms n

pub kept_pairs_more : (heard : List News) (n : News) → kept_pairs (heard ++ n ∷ []) ≡ after_news (kept_pairs heard) n
unfolding kept_pairs
kept_pairs_more heard n = kept_from_more [] heard n

-- what may be kept after a pair was heard

left_of_first : (flight : ℕ) (p : OperationalIntent) (ps : List OperationalIntent) (b : Bool) → leb 4096 (length (p ∷ ps)) ≡ b → list_any (is_of flight) (p ∷ ps) ≡ false → may_be_kept (p ∷ ps) ≡ true → (length (room_for flight (p ∷ ps)) < 4096) × (are_of_different_flights (room_for flight (p ∷ ps)) ≡ true) × (list_any (is_of flight) (room_for flight (p ∷ ps)) ≡ false)
left_of_first flight p ps true full none kept =
    let most : length (p ∷ ps) ≤ 4096 = few (p ∷ ps) kept in
    let none' : list_any (is_of flight) ps ≡ false = grind (arith, nat_tests) in
    rw (none, full) (omega arith, (first_alone p ps (apart (p ∷ ps) kept)).1, none')
left_of_first flight p ps false room none kept =
    let less : length (p ∷ ps) < 4096 = grind (arith, nat_tests) in
    rw (none, room) (less, apart (p ∷ ps) kept, none)

room_left : (flight : ℕ) (ps : List OperationalIntent) (b : Bool) → list_any (is_of flight) ps ≡ b → may_be_kept ps ≡ true → (length (room_for flight ps) < 4096) × (are_of_different_flights (room_for flight ps) ≡ true) × (list_any (is_of flight) (room_for flight ps) ≡ false)
room_left flight ps true there kept =
    let less : length (without flight ps) + 1 ≤ length ps = one_less flight ps there in
    let most : length ps ≤ 4096 = few ps kept in
    rw there (omega arith, still_apart flight ps (apart ps kept), none_left flight ps)
room_left flight [] false none kept = (omega arith, refl, refl)
room_left flight (p ∷ ps) false none kept = left_of_first flight p ps (leb 4096 (length (p ∷ ps))) refl none kept

pub kept_with : (p : OperationalIntent) (ps : List OperationalIntent) → may_be_kept ps ≡ true → may_be_kept (room_for p.reference.flight ps ++ p ∷ []) ≡ true
kept_with p ps kept =
    let left = room_left p.reference.flight ps (list_any (is_of p.reference.flight) ps) refl kept in
    let room : length (room_for p.reference.flight ps) < 4096 = left.0 in
    let most : length (room_for p.reference.flight ps ++ p ∷ []) ≤ 4096 = simp length-append (omega arith) in
    may_keep (room_for p.reference.flight ps ++ p ∷ []) most (one_more_flight (room_for p.reference.flight ps) p left.1 left.2)

-- whose pair is forgotten

pub forgotten_of_known : (flight : ℕ) (ps : List OperationalIntent) → list_any (is_of flight) ps ≡ true → forgotten_for flight ps ≡ None
forgotten_of_known flight ps there = rw there refl

pub forgotten_with_room : (flight : ℕ) (ps : List OperationalIntent) → length ps < 4096 → list_any (is_of flight) ps ≡ false → forgotten_for flight ps ≡ None
forgotten_with_room flight [] room none = refl
forgotten_with_room flight (p ∷ ps) room none =
    let at : leb 4096 (length (p ∷ ps)) ≡ false = grind (arith, nat_tests) in
    rw (none, at) refl

pub forgotten_first : (flight : ℕ) (ps qs : List OperationalIntent) → list_any (is_of flight) (ps ++ qs) ≡ false → 4096 ≤ length (ps ++ qs) → length qs ≤ 1 → forgotten_for flight (ps ++ qs) ≡ option_map (λ p. p.reference.flight) (slice_get ps 0)
forgotten_first flight [] qs none full one = absurd (omega arith)
forgotten_first flight (p ∷ ps) qs none full one =
    let at : leb 4096 (length (p ∷ (ps ++ qs))) ≡ true = grind (arith, nat_tests) in
    rw (none, at) refl

only_first_out : (p q : OperationalIntent) (qs : List OperationalIntent) (other : ℕ) (b : Bool) → leb 4096 (length (q ∷ qs)) ≡ b → list_any (is_of p.reference.flight) (q ∷ qs) ≡ false → forgotten_for p.reference.flight (q ∷ qs) ≡ Some other → may_be_kept (q ∷ qs) ≡ true → room_for p.reference.flight (q ∷ qs) ≡ without other (q ∷ qs)
only_first_out p q qs other true full none is kept =
    let here : Some q.reference.flight ≡ Some other = rw (none, full) at is in
    let same : q.reference.flight ≡ other = cc in
    let alone : list_any (is_of q.reference.flight) qs ≡ false = (first_alone q qs (apart (q ∷ qs) kept)).0 in
    let alone' : list_any (is_of other) qs ≡ false = rw same at alone in
    let of : is_of other q ≡ true = grind (arith, nat_tests) in
    rw (none, full, of) (sym (without_absent other qs alone'))
only_first_out p q qs other false room none is kept = absurd (let no : None ≡ Some other = rw (none, room) at is in cc)

only_out : (p : OperationalIntent) (kept : List OperationalIntent) (other : ℕ) (b : Bool) → list_any (is_of p.reference.flight) kept ≡ b → forgotten_for p.reference.flight kept ≡ Some other → may_be_kept kept ≡ true → after_news kept (Heard p) ≡ without other kept ++ p ∷ []
only_out p kept other true there is may = absurd (let no : None ≡ Some other = rw there at is in cc)
only_out p [] other false none is may = absurd (cc)
only_out p (q ∷ qs) other false none is may =
    let absent : find (is_of p.reference.flight) (q ∷ qs) ≡ None = none_from_no_some (find (is_of p.reference.flight) (q ∷ qs)) (sym (any_is_found (is_of p.reference.flight) (q ∷ qs)) ∙ none) in
    let newer : is_older p (find (is_of p.reference.flight) (q ∷ qs)) ≡ false = rw absent refl in
    let room : room_for p.reference.flight (q ∷ qs) ≡ without other (q ∷ qs) = only_first_out p q qs other (leb 4096 (length (q ∷ qs))) refl none is may in
    heard_new p (q ∷ qs) newer ∙ ap (λ rest. rest ++ p ∷ []) room

-- hearing a pair forgets the named flight, and no other
pub only_forgotten : (flight : ℕ) (kept : List OperationalIntent) (o : Option ℕ) → o ≡ forgotten_for flight kept → may_be_kept kept ≡ true → (p : OperationalIntent) → p.reference.flight ≡ flight → IfSome o (λ other. after_news kept (Heard p) ≡ without other kept ++ p ∷ [])
only_forgotten flight kept None is may p of = tt
only_forgotten flight kept (Some other) is may p of =
    let is' : forgotten_for p.reference.flight kept ≡ Some other = rw of (sym is) in
    only_out p kept other (list_any (is_of p.reference.flight) kept) refl is' may
