use Rattle.std.proofs.Common.{ℕ, ◌<◌, ◌≡◌, get_or, take}
use Rattle.std.specs.List.{fold}
use Rattle.uss_vol4.specs.declared.Box4.{Box4}
use Rattle.uss_vol4.specs.Volume.{Volume4D, IsVolume}
use Rattle.uss_vol4.specs.Bounding.{box_of, joined}
use Rattle.uss_vol4.proofs.Share.{nowhere}
use Rattle.uss_vol4.proofs.Volume4.bounding.Given as goal

abbrev pub invariant-loop-v : goal.invariant-loop-v
invariant-loop-v l = record {
  box : l.b ≡ fold (λ (b : Box4) (w : Volume4D). joined b (box_of w)) (box_of (get_or l.list 0 nowhere)) (take l.v-index l.list);
  sound : (k : ℕ) (d : Volume4D) → k < l.v-index → IsVolume (get_or l.list k d);
}
