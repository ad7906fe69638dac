use Rattle.std.proofs.Common.{ℕ, ◌<◌, ◌^◌, ◌≡◌, ◌++◌, ◌∷◌, [], ◌∙◌, length, sym, subst, ap, Some}
use Rattle.uss_law_dss.proofs.Tests.{some_same}
use Rattle.uss_law_book.specs.Coding.{journal_length}
use Rattle.uss_law_book.specs.Reserve.{need, settled}
use Rattle.uss_law_book.specs.Legal.{MayFollow}
use Rattle.uss_law_book.proofs.EachOrderly.{legal_is_orderly, legal_longer}
use Rattle.uss_book_index.specs.declared.room.Room.{Room}
use Rattle.uss_book_index.specs.Index.{room_for}
use Rattle.uss_book_index.proofs.Numbered.{can_grow}
use Rattle.uss_book_index.proofs.entries.Entries.enter.Goals as goal

pub enter-requires-clause-fits : goal.enter-requires-clause-fits
enter-requires-clause-fits c =
    let es = c.self.inside.entries.items in
    let m : MayFollow es c.args.e = rw (← c.self.view_is) at c.requires.follows in
    let placed : c.count-place.result ≡ length es = c.count-place.ensures ∙ ap length c.deref.ensures.value in
    can_grow c.self.inside.index.tallies.tallies es c.args.e c.self.invariant.index.tallies m (subst (λ (n : ℕ). n < 2 ^ 64) placed c.count-place.type_inv)

pub invariant_of-self-2 : goal.invariant_of-self-2
invariant_of-self-2 c =
    let es = c.self.inside.entries.items in
    let m : MayFollow es c.args.e = rw (← c.self.view_is) at c.requires.follows in
    let ready : c.self.inside.ready ≡ Some (room_for es c.args.e) = rw (← c.self.view_is) at c.requires.room in
    let same : c.in-Some.room ≡ room_for es c.args.e = some_same c.in-Some.room (room_for es c.args.e) (sym c.in-Some.is ∙ c.take.ensures.value ∙ ready) in
    rw (c.put.ensures, c.take.ensures.after)
    (record {
      legal = legal_longer [] es c.args.e c.self.invariant.legal m;
      index = c.enter.ensures es c.self.invariant.index (legal_is_orderly es c.self.invariant.legal) m (ap (λ (r : Room). r.flight) same) (ap (λ (r : Room). r.ordinal) same) (ap (λ (r : Room). r.pair) same) (sym (c.count-place.ensures ∙ ap length c.deref.ensures.value));
      room = tt;
      needed_is = c.need_after-self-inside.ensures ∙ ap (λ l. need (l ++ c.args.e ∷ [])) c.deref-2.ensures.value;
      settled_is = c.settled_after-self-inside.ensures ∙ ap (λ l. journal_length (settled (l ++ c.args.e ∷ []))) c.deref-3.ensures.value;
    })
