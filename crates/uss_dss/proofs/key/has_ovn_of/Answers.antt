-- The set finds what the key has.
use Rattle.std.proofs.Common.{Some, ap, ◌∙◌, sym}
use Rattle.uss_dss.proofs.KeyLemmas.{key_with, key_without}
use Rattle.uss_dss.proofs.key.has_ovn_of.Goals as goal

pub returns-in-Some : goal.returns-in-Some
returns-in-Some c =
    λ key f. c.finds.ensures ∙ f c.as_str.result.now ∙ key_with c.args.r.now c.as_str.result.now key (ap Some c.as_str.ensures.value ∙ sym c.in-Some.is)

pub returns-in-None : goal.returns-in-None
returns-in-None c = λ key f. key_without c.args.r.now key c.in-None.is
