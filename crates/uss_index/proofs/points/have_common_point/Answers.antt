use Rattle.uss_index.proofs.points.have_common_point.Goals as goal
use Rattle.uss_index.proofs.Meeting.{common_point_tells, tells_as, times_apart, heights_apart, across_apart, all_four}
use Rattle.std.proofs.Common.{arith}
use Rattle.std.proofs.lemmas.Int.{to_z-of_z}

pub returns-then-not-share-clause-test : goal.returns-then-not-share-clause-test
returns-then-not-share-clause-test c = times_apart c.args.a.now c.args.b.now c.share.result (grind (arith, to_z-of_z)) c.if-not-share.true

pub returns-then-not-share-2-clause-test : goal.returns-then-not-share-2-clause-test
returns-then-not-share-2-clause-test c = heights_apart c.args.a.now c.args.b.now c.share-2.result (grind (arith, to_z-of_z)) c.if-not-share-2.true

pub returns-then-not-touch-clause-test : goal.returns-then-not-touch-clause-test
returns-then-not-touch-clause-test c = across_apart c.args.a.now c.args.b.now c.touch.result (grind (arith, to_z-of_z)) c.if-not-touch.true

pub returns-clause-test : goal.returns-clause-test
returns-clause-test c =
    all_four c.args.a.now c.args.b.now c.share.result c.share-2.result c.touch.result c.touch-2.result (grind (arith, to_z-of_z)) c.if-not-share.false (grind (arith, to_z-of_z)) c.if-not-share-2.false (grind (arith, to_z-of_z)) c.if-not-touch.false (grind (arith, to_z-of_z))

pub returns-then-not-share-clause-claim : goal.returns-then-not-share-clause-claim
returns-then-not-share-clause-claim c = tells_as _ _ _ (returns-then-not-share-clause-test c) (common_point_tells c.args.a.now c.args.b.now)

pub returns-then-not-share-2-clause-claim : goal.returns-then-not-share-2-clause-claim
returns-then-not-share-2-clause-claim c = tells_as _ _ _ (returns-then-not-share-2-clause-test c) (common_point_tells c.args.a.now c.args.b.now)

pub returns-then-not-touch-clause-claim : goal.returns-then-not-touch-clause-claim
returns-then-not-touch-clause-claim c = tells_as _ _ _ (returns-then-not-touch-clause-test c) (common_point_tells c.args.a.now c.args.b.now)

pub returns-clause-claim : goal.returns-clause-claim
returns-clause-claim c = tells_as _ _ _ (returns-clause-test c) (common_point_tells c.args.a.now c.args.b.now)
