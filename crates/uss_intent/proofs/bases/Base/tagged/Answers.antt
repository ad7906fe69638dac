use Rattle.std.proofs.Common.{◌≡◌, ◌++◌, subst, sym, ◌∙◌, ap}
use Rattle.std.specs.Prelude.{List, ℕ, codes, decimal, string_bytes}
use Rattle.uss_intent.specs.Tags.{tag_of}
use Rattle.uss_intent.specs.Texts.{IsBase, tagged_base}
use Rattle.uss_intent.proofs.BaseClosure.{tagged_is_base}
use Rattle.uss_intent.proofs.TagLemmas.{tagged_is_read}
use Rattle.uss_intent.proofs.bases.Base.tagged.Goals as goal

pub invariant_of-result : goal.invariant_of-result
invariant_of-result c =
    let text = string_bytes c.self.inside.text in
    let made : string_bytes c.write.new.self ≡ tagged_base text c.args.tag =
    c.in_ok-write.ensures.bytes ∙ ap (λ (t : List ℕ). t ++ decimal c.args.tag) (c.in_ok-push_str.ensures.bytes ∙ ap (λ (t : List ℕ). t ++ codes "/a/") (c.in_ok-text.ensures.ok ∙ c.as_str.ensures.value)) in
    subst IsBase (sym made) (tagged_is_base text c.args.tag c.self.invariant (rw c.self.view_is c.requires) c.ranges.tag.fits)

pub returns-clause-tag : goal.returns-clause-tag
returns-clause-tag c = λ positive.
    let text = string_bytes c.self.inside.text in
    let made : string_bytes c.write.new.self ≡ tagged_base text c.args.tag =
    c.in_ok-write.ensures.bytes ∙ ap (λ (t : List ℕ). t ++ decimal c.args.tag) (c.in_ok-push_str.ensures.bytes ∙ ap (λ (t : List ℕ). t ++ codes "/a/") (c.in_ok-text.ensures.ok ∙ c.as_str.ensures.value)) in
    ap tag_of made ∙ tagged_is_read text c.args.tag positive c.ranges.tag.fits
