use Rattle.std.proofs.Common.{ℕ, get_or, below_more, arith, refl}
use Rattle.std.proofs.lemmas.List.Elements.{at_read}
use Rattle.uss_vol4.specs.Volume.{Volume4D, NoneSharedWith, IsFirstShared, NoneShared, IsLeastShared}
use Rattle.uss_shape.proofs.Within.{false_true}
use Rattle.uss_vol4.proofs.Share.{none_is, least_is, none_test, least_test}
use Rattle.uss_vol4.proofs.Volume4.any_shared.Goals as goal
use Rattle.uss_vol4.proofs.Volume4.any_shared.Goals.{In-Some, After-loop-i}

pub loop-i-preserved : goal.loop-i-preserved
loop-i-preserved c = λ k x h.
    below_more (λ (k : ℕ). (x : Volume4D) → NoneSharedWith (get_or c.args.a.now k x) c.args.b.now) _
    (λ k l x. c.loop-i.invariant k x l)
    (at_read c.args.a.now (λ v. NoneSharedWith v c.args.b.now) c.loop-i.i c.index-a-i.result c.loop-i-test.true c.index-a-i.is c.in_default.ensures)
    k h x

least : (c : In-Some) → IsLeastShared c.args.a.now c.args.b.now c.loop-i.i c.in-Some.j
least c = record {
  within = c.loop-i-test.true;
  earlier = λ k x h. c.loop-i.invariant k x h;
  first = at_read c.args.a.now (λ v. IsFirstShared v c.args.b.now c.in-Some.j) c.loop-i.i c.index-a-i.result c.loop-i-test.true c.index-a-i.is c.in-Some.ensures;
}

none : (c : After-loop-i) → NoneShared c.args.a.now c.args.b.now
none c = λ k x l. c.loop-i.invariant k x (omega (arith, l))

pub returns-in-Some-clause-some : goal.returns-in-Some-clause-some
returns-in-Some-clause-some c = (λ _. least_is c.args.a.now c.args.b.now c.loop-i.i c.in-Some.j (least c), λ _. refl)

pub returns-in-Some-clause-test : goal.returns-in-Some-clause-test
returns-in-Some-clause-test c = least_test c.args.a.now c.args.b.now c.loop-i.i c.in-Some.j (least c)

pub returns-clause-some : goal.returns-clause-some
returns-clause-some c = (λ h. absurd (false_true h), λ s. absurd (none_is c.args.a.now c.args.b.now (none c) s))

pub returns-clause-test : goal.returns-clause-test
returns-clause-test c = none_test c.args.a.now c.args.b.now (none c)
