use Rattle.std.proofs.Common.{◌≡◌, ◌∙◌, ap, sym, refl, List, Some, None}
use Rattle.std.specs.List.{slice_get}
use Rattle.uss_event.specs.declared.details.Proposal.{Proposal}
use Rattle.uss_job.proofs.calls.put_by_wish.Goals as goal

pub returns-in_ok-put-in-Some : goal.returns-in_ok-put-in-Some
returns-in_ok-put-in-Some c =
    let found : slice_get c.in-Put.proposals c.args.trial.now.alternative ≡ Some c.in-Some.proposal.now =
    ap (λ (ps : List Proposal). slice_get ps c.args.trial.now.alternative) (sym c.as_slice.ensures) ∙ sym c.in-Some.ensures in
    rw (c.in-Put.is, found, c.in_ok-put-in-Some.ensures c.in-Put.priority) refl

pub returns-in-None : goal.returns-in-None
returns-in-None c =
    let found : slice_get c.in-Put.proposals c.args.trial.now.alternative ≡ None =
    ap (λ (ps : List Proposal). slice_get ps c.args.trial.now.alternative) (sym c.as_slice.ensures) ∙ sym c.in-None.ensures in
    rw (c.in-Put.is, found) refl
