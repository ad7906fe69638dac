use Rattle.std.proofs.Common.{None, ◌≡◌, ◌<◌, ◌≤◌, ◌++◌, true, false, sym, ◌∙◌, refl, length, length-append, arith}
use Rattle.std.specs.List.{list_any}
use Rattle.std.specs.Option.{option_to_list}
use Rattle.std.proofs.lemmas.List.Folds.{list_any-append}
use Rattle.uss_event.specs.Heard.{is_of}
use Rattle.uss_key.specs.Kept.{may_be_kept}
use Rattle.uss_key.proofs.Rooms.{forgotten_first, forgotten_with_room, only_forgotten}
use Rattle.uss_key.proofs.Others.{forgotten_of_earlier, forgotten_of_last, others_stay}
use Rattle.uss_key.proofs.cache.Cache.next_forgotten.Goals as goal
use Rattle.uss_key.proofs.cache.Cache.next_forgotten.Goals.{then-is_of-via-then-is_of, then-is_of-via-else-is_of+then-has}

pub returns-clause-forgotten : goal.returns-clause-forgotten
returns-clause-forgotten c =
    let earlier = c.self.inside.earlier in
    let last = option_to_list c.self.inside.newest in
    let no_earlier : list_any (is_of c.args.flight) earlier ≡ false = sym c.has.ensures ∙ c.if-has.false in
    let no_last : list_any (is_of c.args.flight) last ≡ false = sym c.is_of.ensures ∙ c.if-is_of.false in
    let none : list_any (is_of c.args.flight) (earlier ++ last) ≡ false = list_any-append (is_of c.args.flight) earlier last ∙ rw (no_earlier, no_last) refl in
    let one : length last ≤ 1 = omega arith in
    let full : 4096 ≤ length (earlier ++ last) = simp length-append (omega arith) in
    rw (← c.self.view_is) (c.first_flight.ensures ∙ sym (forgotten_first c.args.flight earlier last none full one))

pub returns-clause-only : goal.returns-clause-only
returns-clause-only c =
    let valid : may_be_kept c.args.self.now.pairs ≡ true = rw (← c.self.view_is) c.self.invariant in
    only_forgotten c.args.flight c.args.self.now.pairs c.first_flight.result (returns-clause-forgotten c) valid

pub returns-then-is_of-clause-forgotten : goal.returns-then-is_of-clause-forgotten
returns-then-is_of-clause-forgotten c =
    let earlier = c.self.inside.earlier in
    let last = option_to_list c.self.inside.newest in
    rw (← c.self.view_is) (elim c.then-is_of.branch [
      | then-is_of-via-then-is_of w ↦ forgotten_of_last c.args.flight earlier last (sym c.is_of.ensures ∙ w.if-is_of.true)
      | then-is_of-via-else-is_of+then-has w ↦ forgotten_of_earlier c.args.flight earlier last (sym w.has.ensures ∙ w.if-has.true)
    ])

pub returns-then-is_of-clause-none : goal.returns-then-is_of-clause-none
returns-then-is_of-clause-none c = others_stay c.args.flight c.args.self.now.pairs None (returns-then-is_of-clause-forgotten c)

pub returns-then-len-count-lt-MOST_REFERENCES-clause-forgotten : goal.returns-then-len-count-lt-MOST_REFERENCES-clause-forgotten
returns-then-len-count-lt-MOST_REFERENCES-clause-forgotten c =
    let earlier = c.self.inside.earlier in
    let last = option_to_list c.self.inside.newest in
    let no_earlier : list_any (is_of c.args.flight) earlier ≡ false = sym c.has.ensures ∙ c.if-has.false in
    let no_last : list_any (is_of c.args.flight) last ≡ false = sym c.is_of.ensures ∙ c.if-is_of.false in
    let none : list_any (is_of c.args.flight) (earlier ++ last) ≡ false = list_any-append (is_of c.args.flight) earlier last ∙ rw (no_earlier, no_last) refl in
    let room : length (earlier ++ last) < 4096 = simp length-append (omega arith) in
    rw (← c.self.view_is) (sym (forgotten_with_room c.args.flight (earlier ++ last) room none))

pub returns-then-len-count-lt-MOST_REFERENCES-clause-none : goal.returns-then-len-count-lt-MOST_REFERENCES-clause-none
returns-then-len-count-lt-MOST_REFERENCES-clause-none c = others_stay c.args.flight c.args.self.now.pairs None (returns-then-len-count-lt-MOST_REFERENCES-clause-forgotten c)

pub returns-clause-none : goal.returns-clause-none
returns-clause-none c = others_stay c.args.flight c.args.self.now.pairs c.first_flight.result (returns-clause-forgotten c)
