-- A Put that isn't refused is allowed to land.
use Rattle.std.proofs.Common.{◌≡◌, None, subst}
use Rattle.uss_intent.specs.declared.calls.DssAsk.{DssAsk}
use Rattle.uss_intent.specs.declared.calls.DssAsk.TheVariants.{Put}
use Rattle.uss_law_dss.specs.Refusals.{refusal_of}
use Rattle.uss_law_dss.specs.Orderly.{IsOrderly}
use Rattle.uss_dss.proofs.Orderly.{accepted_orderly, put_last}
use Rattle.uss_dss.proofs.Dss.perform.Goals as goal

pub put-requires-clause-last : goal.put-requires-clause-last
put-requires-clause-last c =
    put_last c.args.self.now c.args.client.now c.in-Put.flight c.in-Put.ovn c.in-Put.extents c.in-Put.key c.in-Put.state c.in-Put.base c.in-Put.ticket
    (subst (λ (a : DssAsk). refusal_of c.args.self.now c.args.client.now a ≡ None) c.in-Put.is c.requires)

pub put-requires-clause-orderly : goal.put-requires-clause-orderly
put-requires-clause-orderly c =
    accepted_orderly c.args.self.now c.args.client.now (Put c.in-Put.flight c.in-Put.ovn c.in-Put.extents c.in-Put.key c.in-Put.state c.in-Put.base c.in-Put.ticket)
    (subst IsOrderly c.self.view_is c.self.invariant.orderly)
    (subst (λ (a : DssAsk). refusal_of c.args.self.now c.args.client.now a ≡ None) c.in-Put.is c.requires)
