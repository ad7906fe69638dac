use Rattle.std.proofs.Common.{sym, ◌∙◌}
use Rattle.uss_key.proofs.Caches.{newest_found, earlier_found}
use Rattle.uss_key.proofs.cache.Cache.pair.Goals as goal

pub returns-then-is_of-clause-value : goal.returns-then-is_of-clause-value
returns-then-is_of-clause-value c =
    rw (← c.self.view_is) (c.as_ref.ensures.value ∙ newest_found c.args.flight c.self.inside.earlier c.self.inside.newest c.self.invariant (sym c.is_of.ensures ∙ c.if-is_of.true))

pub returns-clause-value : goal.returns-clause-value
returns-clause-value c =
    rw (← c.self.view_is) (c.get.ensures ∙ earlier_found c.args.flight c.self.inside.earlier c.self.inside.newest (sym c.is_of.ensures ∙ c.if-is_of.false))
