use Rattle.std.proofs.Common.{◌≡◌, true, sym, ◌∙◌, List, [], ◌∷◌, ◌++◌}
use Rattle.std.specs.Option.{option_to_list}
use Rattle.uss_event.specs.Heard.{News, without, kept_pairs}
use Rattle.uss_event.specs.Heard.News.{Forgotten}
use Rattle.uss_key.specs.Kept.{may_be_kept}
use Rattle.uss_key.proofs.Stores.{kept_without}
use Rattle.uss_key.proofs.Rooms.{kept_pairs_more}
use Rattle.uss_key.proofs.Caches.{newest_out, earlier_out}
use Rattle.uss_key.proofs.cache.Cache.forget.Goals as goal

pub invariant_of-self : goal.invariant_of-self
invariant_of-self c =
    let out = newest_out c.args.flight c.self.inside.earlier c.self.inside.newest c.self.invariant (sym c.is_of.ensures ∙ c.if-is_of.true) in
    let kept : may_be_kept (c.self.inside.earlier ++ []) ≡ true = rw out (kept_without c.args.flight (c.self.inside.earlier ++ option_to_list c.self.inside.newest) c.self.invariant) in
    kept

pub returns-then-is_of-clause-forgotten : goal.returns-then-is_of-clause-forgotten
returns-then-is_of-clause-forgotten c =
    rw (← c.self.view_is) (newest_out c.args.flight c.self.inside.earlier c.self.inside.newest c.self.invariant (sym c.is_of.ensures ∙ c.if-is_of.true))

pub returns-then-is_of-clause-every : goal.returns-then-is_of-clause-every
returns-then-is_of-clause-every c = λ (list : List News) e.
    let out : c.self.inside.earlier ++ [] ≡ without c.args.flight c.args.self.now.pairs = returns-then-is_of-clause-forgotten c in
    let then : without c.args.flight c.args.self.now.pairs ≡ kept_pairs (list ++ Forgotten c.args.flight ∷ []) = rw e (sym (kept_pairs_more list (Forgotten c.args.flight))) in
    out ∙ then

pub invariant_of-self-2 : goal.invariant_of-self-2
invariant_of-self-2 c =
    let out = earlier_out c.args.flight c.self.inside.earlier c.self.inside.newest (sym c.is_of.ensures ∙ c.if-is_of.false) in
    let kept : may_be_kept (c.remove.new.self ++ option_to_list c.self.inside.newest) ≡ true = rw (c.remove.ensures, out) (kept_without c.args.flight (c.self.inside.earlier ++ option_to_list c.self.inside.newest) c.self.invariant) in
    kept

pub returns-clause-every : goal.returns-clause-every
returns-clause-every c = λ (list : List News) e.
    let out : c.remove.new.self ++ option_to_list c.self.inside.newest ≡ without c.args.flight c.args.self.now.pairs =
    rw (c.remove.ensures, ← c.self.view_is) (earlier_out c.args.flight c.self.inside.earlier c.self.inside.newest (sym c.is_of.ensures ∙ c.if-is_of.false)) in
    let then : without c.args.flight c.args.self.now.pairs ≡ kept_pairs (list ++ Forgotten c.args.flight ∷ []) = rw e (sym (kept_pairs_more list (Forgotten c.args.flight))) in
    out ∙ then
