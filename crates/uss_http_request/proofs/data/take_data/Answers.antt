use Rattle.std.proofs.Common.{◌≡◌, ◌∙◌, ◌+◌, ◌-◌, sym, subst, arith}
use Rattle.std.specs.Prelude.{List, ℕ}
use Rattle.uss_http_request.specs.Streams.{Moves}
use Rattle.uss_http_request.proofs.Passing.{lacks_from, moves_more, hears_then}
use Rattle.uss_http_request.proofs.Prompting.{moved_open}
use Rattle.uss_http_request.proofs.data.take_data.Goals as goal

pub moving-preserved : goal.moving-preserved
moving-preserved g c =
    let was = c.moving.invariant in
    let past = c.in-Ok.ensures in
    let empty = was.empty c.moving-test.true in
    let gave = g.T.Stream.gave in
    let sum : (c.args.count - c.moving.missing) + c.in-Ok.came ≡ c.args.count - (c.moving.missing - c.in-Ok.came) = omega (arith, was.some_left, past.within) in
    let moved = moves_more gave c.args.stream.now c.moving.stream c.read_past.new.stream c.args.intake.now c.moving.intake c.args.body.now.items c.moving.body.items c.read_past.new.body.items (c.args.count - c.moving.missing) c.in-Ok.came was.moves empty past.adds in
    record {
      some_left = omega (arith, was.some_left);
      moves = subst (λ (left : List ℕ). Moves gave c.args.stream.now c.args.intake.now c.read_past.new.stream left c.args.body.now.items c.read_past.new.body.items (c.args.count - (c.moving.missing - c.in-Ok.came))) (sym past.same) (subst (λ (n : ℕ). Moves gave c.args.stream.now c.args.intake.now c.read_past.new.stream c.moving.intake c.args.body.now.items c.read_past.new.body.items n) sum moved);
      empty = λ more. past.same ∙ empty;
      prompt = moved_open gave c.args.stream.now c.moving.stream c.read_past.new.stream c.args.intake.now c.moving.intake c.args.body.now.items c.moving.body.items c.read_past.new.body.items c.args.count c.moving.missing c.in-Ok.came was.moves empty c.moving-test.true was.some_left past.adds past.one_call;
      heard = hears_then was.heard past.heard;
      calm = past.calm (λ e. cc) ∙ was.calm;
    }

pub returns-then-came-eq0-clause-cut : goal.returns-then-came-eq0-clause-cut
returns-then-came-eq0-clause-cut g c = λ _. lacks_from g.T.Stream.gave g.T.Stream.ended _ _ _ _ _ _ _ _ _ _ _ _ c.moving.invariant.moves (c.moving.invariant.empty c.moving-test.true) c.moving-test.true c.moving.invariant.some_left c.in-Ok.ensures.adds c.if-came-eq0.true (c.in-Ok.ensures.ended c.if-came-eq0.true)
