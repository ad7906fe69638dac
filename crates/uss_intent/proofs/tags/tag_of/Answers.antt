use Rattle.std.proofs.Common.{◌≡◌, ℕ, ◌∙◌, sym, ap, Option, Some, None, List}
use Rattle.std.specs.Prelude.{IfSome}
use Rattle.uss_intent.specs.Tags.{HasTag, tag_of}
use Rattle.uss_intent.proofs.TagLemmas.{tag_is_there, tag_is_read}
use Rattle.uss_intent.proofs.tags.tag_of.Goals as goal

found : (text : List ℕ) (r : Option ℕ) → tag_of text ≡ r → IfSome r (λ tag. HasTag text tag)
found text None h = tt
found text (Some tag) h = tag_is_there text tag h

pub returns-clause-found : goal.returns-clause-found
returns-clause-found c = found c.args.base.now c.tag_at_end.result (ap tag_of (sym c.as_bytes.ensures.value) ∙ sym c.tag_at_end.ensures)

pub returns-clause-every : goal.returns-clause-every
returns-clause-every c = λ tag has. c.tag_at_end.ensures ∙ ap tag_of c.as_bytes.ensures.value ∙ tag_is_read c.args.base.now tag has
