use Rattle.std.proofs.Common.{◌≡◌, ◌∙◌, ap, refl}
use Rattle.uss_intent.specs.declared.records.Reference.{Reference}
use Rattle.uss_event.specs.declared.details.Details.{Details}
use Rattle.uss_event.specs.Pairs.{OperationalIntent, pair_from}
use Rattle.uss_book_index.specs.Records.{pair_by_proposal}
use Rattle.uss_book_index.proofs.Lasting.{plan_has_some}
use Rattle.uss_book_index.proofs.Planned.{planned_is_pair}
use Rattle.uss_book_index.proofs.made.pair_by_proposal.Goals as goal

pub times_of-times-requires-clause-some : goal.times_of-times-requires-clause-some
times_of-times-requires-clause-some c =
    let p = c.args.proposal.now in
    rw (c.as_slice.ensures, c.as_slice-2.ensures) (plan_has_some c.args.to p.volumes p.off_nominal c.args.priority c.requires.plan.plan)

pub returns : goal.returns
returns c =
    let x : OperationalIntent = pair_by_proposal c.args.owner.now c.args.flight c.args.tried c.args.ovn.now c.args.to c.args.priority c.args.proposal.now in
    let r : c.in_ok-reference.reference ≡ x.reference =
    c.in_ok-reference.ensures ∙ rw (c.times_of-times.ensures.start, c.times_of-times.ensures.end, c.as_slice.ensures, c.as_slice-2.ensures) refl in
    let d : c.in_ok-details.details ≡ x.details = c.in_ok-details.ensures in
    c.of.ensures ∙ ap (λ (y : Reference). pair_from y c.in_ok-details.details) r ∙ ap (λ (y : Details). pair_from x.reference y) d
    ∙ planned_is_pair c.args.owner.now c.args.flight c.args.tried c.args.ovn.now c.args.to c.args.priority c.args.proposal.now c.requires.plan
