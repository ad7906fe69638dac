use Rattle.std.proofs.Common.{◌≡◌, true, false, sym, ◌∙◌, List, [], ◌∷◌, ◌++◌, find, arith}
use Rattle.uss_event.specs.Heard.{News, is_of, after_news, kept_pairs}
use Rattle.uss_event.specs.Heard.News.{Heard}
use Rattle.uss_key.specs.Kept.{is_older}
use Rattle.uss_key.proofs.Rooms.{heard_old, heard_new, kept_pairs_more}
use Rattle.uss_key.proofs.cache.Cache.hear.Goals as goal

pub returns-then-keeps_newer-clause-every : goal.returns-then-keeps_newer-clause-every
returns-then-keeps_newer-clause-every c = λ (list : List News) e.
    let older : is_older c.args.p (find (is_of c.args.p.reference.flight) c.args.self.now.pairs) ≡ true = sym c.keeps_newer.ensures ∙ c.if-keeps_newer.true in
    let then : after_news c.args.self.now.pairs (Heard c.args.p) ≡ kept_pairs (list ++ Heard c.args.p ∷ []) = rw e (sym (kept_pairs_more list (Heard c.args.p))) in
    sym (heard_old c.args.p c.args.self.now.pairs older) ∙ then

pub returns-in-Ok-clause-heard : goal.returns-in-Ok-clause-heard
returns-in-Ok-clause-heard c =
    let newer : is_older c.args.p (find (is_of c.args.p.reference.flight) c.args.self.now.pairs) ≡ false = sym c.keeps_newer.ensures ∙ c.if-keeps_newer.false in
    c.put.ensures ∙ rw c.reserve.ensures.pairs (sym (heard_new c.args.p c.args.self.now.pairs newer))

pub returns-in-Ok-clause-every : goal.returns-in-Ok-clause-every
returns-in-Ok-clause-every c = λ (list : List News) e.
    let heard : c.put.new.self.pairs ≡ after_news c.args.self.now.pairs (Heard c.args.p) = returns-in-Ok-clause-heard c in
    let then : after_news c.args.self.now.pairs (Heard c.args.p) ≡ kept_pairs (list ++ Heard c.args.p ∷ []) = rw e (sym (kept_pairs_more list (Heard c.args.p))) in
    heard ∙ then

pub returns-in-Ok-clause-spare : goal.returns-in-Ok-clause-spare
returns-in-Ok-clause-spare c = omega (arith, c.in-Ok.ensures.room, c.reserve.ensures.spare)
