use Rattle.std.proofs.Common.{rules, ◌<◌, ◌∙◌, ap, length}
use Rattle.std.specs.Int.{int_min, int_max}
use Rattle.uss_vol4.specs.declared.Box4.{Box4}
use Rattle.uss_vol4.specs.Bounding.{bounding_box}
use Rattle.uss_book_index.proofs.Lasting.{start_of_both, end_of_both}
use Rattle.uss_book_index.proofs.times.times_of.Goals as goal

pub returns-clause-start : goal.returns-clause-start
returns-clause-start c =
    let vs = c.args.volumes.now in
    let ws = c.args.off_nominal.now in
    let v : 0 < length vs = search rules in
    let w : 0 < length ws = search rules in
    c.both.ensures.start
    ∙ ap (λ (b : Box4). int_min b.start c.bounding-2.result.start) c.bounding.ensures.value
    ∙ ap (λ (b : Box4). int_min (bounding_box vs).start b.start) c.bounding-2.ensures.value
    ∙ start_of_both vs ws v w c.requires.volumes c.requires.off_nominal

pub returns-clause-end : goal.returns-clause-end
returns-clause-end c =
    let vs = c.args.volumes.now in
    let ws = c.args.off_nominal.now in
    let v : 0 < length vs = search rules in
    let w : 0 < length ws = search rules in
    c.both.ensures.end
    ∙ ap (λ (b : Box4). int_max b.end c.bounding-2.result.end) c.bounding.ensures.value
    ∙ ap (λ (b : Box4). int_max (bounding_box vs).end b.end) c.bounding-2.ensures.value
    ∙ end_of_both vs ws v w c.requires.volumes c.requires.off_nominal
