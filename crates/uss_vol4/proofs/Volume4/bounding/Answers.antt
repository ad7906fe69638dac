use Rattle.std.proofs.Common.{◌≡◌, ℕ, ◌∙◌, ap, sym, List, arith, get_or, take, below_more}
use Rattle.std.specs.Prelude.{All}
use Rattle.std.proofs.lemmas.List.{get_or_default, take_all}
use Rattle.std.proofs.lemmas.List.Sums.{fold_more}
use Rattle.std.proofs.lemmas.List.Elements.{at_read}
use Rattle.uss_vol4.specs.declared.Box4.{Box4}
use Rattle.uss_vol4.specs.Volume.{Volume4D, IsVolume}
use Rattle.uss_vol4.specs.Bounding.{IsBoundingBox, bounding_box, box_of, joined}
use Rattle.uss_vol4.proofs.Share.{nowhere}
use Rattle.uss_vol4.proofs.Round.{grown_box, grown_is, bounding_box_is}
use Rattle.uss_vol4.proofs.Volume4.bounding.Goals as goal
use Rattle.uss_vol4.proofs.Volume4.bounding.Goals.{After-loop-v}

pub loop-v-init : goal.loop-v-init
loop-v-init c = record {
  box = c.bounds-b.ensures.value ∙ ap box_of (c.index-list-0.is ∙ get_or_default c.args.list.now 0 c.index-list-0.result nowhere c.requires);
  sound = λ k d l. absurd (omega (arith, l));
}

pub loop-v-preserved : goal.loop-v-preserved
loop-v-preserved c =
    let list = c.args.list.now in
    let first = box_of (get_or list 0 nowhere) in
    let i = c.loop-v.v-index in
    record {
      box =
          c.join-b.ensures
          ∙ ap (λ (b : Box4). joined b c.bounds.result) c.loop-v.invariant.box
          ∙ ap (λ (b : Box4). joined (grown_box first (take i list)) b) (c.bounds.ensures.value ∙ ap box_of (c.v-item.is ∙ get_or_default list i c.v-item.result nowhere c.loop-v-test.true))
          ∙ sym (fold_more (λ (b : Box4) (w : Volume4D). joined b (box_of w)) first list i nowhere c.loop-v-test.true);
      sound = λ k d h.
          below_more (λ (k : ℕ). (d : Volume4D) → IsVolume (get_or list k d)) i
          (λ k l d. c.loop-v.invariant.sound k d l)
          (at_read list IsVolume i c.v-item.result c.loop-v-test.true c.v-item.is c.bounds.ensures.volume)
          k h d;
    }

box_is : (c : After-loop-v) → c.loop-v.b ≡ bounding_box c.args.list.now
box_is c =
    c.loop-v.invariant.box
    ∙ ap (λ (vs : List Volume4D). grown_box (box_of (get_or c.args.list.now 0 nowhere)) vs) (take_all c.loop-v.v-index c.args.list.now c.loop-v-test.false)
    ∙ grown_is c.args.list.now nowhere c.requires

all_volumes : (c : After-loop-v) → All IsVolume c.args.list.now
all_volumes c = λ k d l. c.loop-v.invariant.sound k d (omega (arith, l))

box_bounds : (c : After-loop-v) → IsBoundingBox c.args.list.now c.loop-v.b
box_bounds c = rw (box_is c) (bounding_box_is c.args.list.now c.requires (all_volumes c))

pub returns-clause-value : goal.returns-clause-value
returns-clause-value c = box_is c

pub returns-clause-least : goal.returns-clause-least
returns-clause-least c = box_bounds c

pub returns-clause-some : goal.returns-clause-some
returns-clause-some c = record { volumes = c.args.list.now; some = c.requires; well_formed = all_volumes c; bounding = box_bounds c }
