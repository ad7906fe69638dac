use Rattle.std.proofs.Common.{◌≡◌, ◌∙◌, sym}
use Rattle.std.specs.Cmp.Lexicographic.{pointwise, pointwise_decides}
use Rattle.uss_intent.proofs.lists.SequencePartialEq.eq.Goals as goal

pub returns-clause-same : goal.returns-clause-same
returns-clause-same g c = λ exact.
    let told : c.eq.result ≡ pointwise g.T.PartialEq.eq c.args.self.now c.args.other.now = rw (← c.self.view_is, ← c.other.view_is) c.eq.ensures in
    let decides = pointwise_decides {E = g.T.PartialEq.eq} exact c.args.self.now c.args.other.now in
    (λ same. decides.0 (sym told ∙ same), λ equal. told ∙ decides.1 equal)
