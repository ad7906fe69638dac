use Rattle.std.proofs.Common.{◌≡◌, true, ◌∙◌, ap, None, [], ◌∷◌, ◌++◌, append-nil}
use Rattle.std.specs.Option.{option_to_list}
use Rattle.uss_intent.specs.declared.records.Reference.{Reference}
use Rattle.uss_key.specs.Kept.{may_be_kept, room_for}
use Rattle.uss_key.proofs.Rooms.{kept_with}
use Rattle.uss_key.proofs.Caches.{spare_is_none}
use Rattle.uss_key.proofs.cache.Cache.put.Goals as goal

pub invariant_of-self : goal.invariant_of-self
invariant_of-self c =
    let earlier = c.self.inside.earlier in
    let none : c.self.inside.newest ≡ None = spare_is_none c.self.inside.newest (rw (← c.self.view_is) at c.requires) in
    let all : may_be_kept (earlier ++ option_to_list c.self.inside.newest) ≡ true = c.self.invariant in
    let first : may_be_kept (earlier ++ []) ≡ true = rw none at all in
    let kept : may_be_kept earlier ≡ true = rw (append-nil earlier) at first in
    let room : c.make_room.new.self ≡ room_for c.args.p.reference.flight earlier = c.make_room.ensures ∙ ap (λ (r : Reference). room_for r.flight earlier) c.reference.ensures.value in
    let done : may_be_kept (c.make_room.new.self ++ c.args.p ∷ []) ≡ true = rw room (kept_with c.args.p earlier kept) in
    done
