use Rattle.std.proofs.Common.{◌≡◌, ◌∙◌, ◌++◌, sym, subst, List, ℕ, Option}
use Rattle.std.specs.Prelude.{MatchOption}
use Rattle.uss_book.specs.Reread.{BeginsWith, IsFirstChange}
use Rattle.uss_book.proofs.Records.{legal_coded}
use Rattle.uss_book.proofs.Rereading.{begins_with, other_owner, not_none, read_differently}
use Rattle.uss_book.proofs.reread.entries_after.Goals as goal

pub into_owner-requires-clause-some : goal.into_owner-requires-clause-some
into_owner-requires-clause-some c = not_none c.in_ok-kept.kept.entries c.args.entries.now.entries (c.are_anothers.ensures.0 c.if-are_anothers.true)

pub returns-then-are_anothers-clause-refused : goal.returns-then-are_anothers-clause-refused
returns-then-are_anothers-clause-refused c =
    other_owner c.args.entries.now.entries c.in_ok-kept.kept.entries c.args.found.now c.into_owner.result (c.are_anothers.ensures.0 c.if-are_anothers.true) c.in_ok-kept.ensures.legal c.in_ok-kept.ensures.found c.into_owner.ensures

pub returns-in-None-clause-begins : goal.returns-in-None-clause-begins
returns-in-None-clause-begins c =
    let known = c.args.entries.now.entries in
    let kept = c.in_ok-kept.kept.entries in
    let b = subst (λ (o : Option ℕ). MatchOption o (BeginsWith c.args.found.now c.args.known.now) (IsFirstChange c.args.known.now c.args.found.now)) c.in-None.is c.first_change.ensures in
    begins_with kept known b.more (legal_coded kept c.in_ok-kept.ensures.legal) (legal_coded known c.requires.legal) (c.in_ok-kept.ensures.found ∙ subst (λ (rs : List (List ℕ)). c.args.found.now ≡ rs ++ b.more) c.requires.same b.is)

pub returns-in-Some-clause-refused : goal.returns-in-Some-clause-refused
returns-in-Some-clause-refused c =
    read_differently c.args.entries.now.entries c.in_ok-kept.kept.entries c.args.found.now c.args.known.now c.in-Some.n c.requires.same c.in_ok-kept.ensures.legal c.in_ok-kept.ensures.found
    (λ another. let e = sym (c.are_anothers.ensures.1 another) ∙ c.if-are_anothers.false in cc)
    (subst (λ (o : Option ℕ). MatchOption o (BeginsWith c.args.found.now c.args.known.now) (IsFirstChange c.args.known.now c.args.found.now)) c.in-Some.is c.first_change.ensures)
