use Rattle.std.proofs.Common.{◌≡◌, true, Some, sym, ◌∙◌, [], ◌∷◌, ◌++◌}
use Rattle.std.specs.Option.{option_to_list}
use Rattle.uss_key.specs.Kept.{may_be_kept}
use Rattle.uss_key.proofs.Caches.{may_settle}
use Rattle.uss_key.proofs.cache.Cache.reserve.Goals as goal

pub push-requires-clause-new : goal.push-requires-clause-new
push-requires-clause-new c =
    let at : c.self.inside.newest ≡ Some c.in-Some.pair = sym c.take.ensures.value ∙ c.in-Some.is in
    let all : may_be_kept (c.self.inside.earlier ++ option_to_list c.self.inside.newest) ≡ true = c.self.invariant in
    let kept : may_be_kept (c.self.inside.earlier ++ c.in-Some.pair ∷ []) ≡ true = rw at at all in
    (may_settle c.self.inside.earlier c.in-Some.pair kept).0
