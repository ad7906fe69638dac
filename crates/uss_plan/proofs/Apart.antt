-- What lasts within a range of time shares with nothing outside of it.
use Rattle.std.proofs.Common.{◌≡◌, ◌⊎◌, inl, inr, Bool, true, false, ◌&&◌, ℤ, List, [], ◌∷◌, ◌++◌, refl, subst, cond, arith}
use Rattle.std.specs.Prelude.{◌≤ℤ◌, ◌<ℤ◌, int_le, is_some}
use Rattle.std.specs.List.{list_all, list_any}
use Rattle.std.proofs.lemmas.Bool.{and_parts, and_from}
use Rattle.std.proofs.lemmas.Int.{ints}
use lib.Signed.{lt_z}
use Rattle.uss_shape.proofs.Ring.{linc}
use Rattle.uss_shape.proofs.Sides.{le_is}
use Rattle.uss_vol4.specs.Volume.{Volume4D, Shares}
use Rattle.uss_vol4.specs.Sharing.{shares, any_shares}
use Rattle.uss_vol4.proofs.Share.{shares_tells}
use Rattle.uss_event.specs.declared.rules.Verdict.TheVariants.{Clear, EqualForbidden, HigherStands}
use Rattle.uss_event.specs.declared.details.Proposal.{Proposal}
use Rattle.uss_intent.specs.declared.records.Reference.{Reference}
use Rattle.uss_event.specs.Plans.{is_plan, extents_of, is_least_start, is_greatest_end}
use Rattle.uss_event.specs.Pairs.{OperationalIntent, is_pair}
use Rattle.uss_plan.specs.declared.times.Times.{Times}
use Rattle.uss_plan.specs.Choice.{Wanted, verdict_on}
use Rattle.uss_plan.specs.Times.{joined, all_joined, is_within, are_within}

-- ---- the range of volumes

within : (t : Times) (v : Volume4D) → t.start ≤ℤ v.start → v.end ≤ℤ t.end → is_within t v ≡ true
within t v h k = and_from (int_le t.start v.start) (int_le v.end t.end) ((le_is t.start v.start).1 h) ((le_is v.end t.end).1 k)

is_in : (t : Times) (v : Volume4D) → is_within t v ≡ true → (t.start ≤ℤ v.start) × (v.end ≤ℤ t.end)
is_in t v h = let a = and_parts (int_le t.start v.start) (int_le v.end t.end) h in ((le_is t.start v.start).0 a.0, (le_is v.end t.end).0 a.1)

own : (t : Times) (v : Volume4D) → is_within (joined t v) v ≡ true
own t v = within (joined t v) v (omega linc) (omega linc)

kept : (t : Times) (v w : Volume4D) → is_within t w ≡ true → is_within (joined t v) w ≡ true
kept t v w h = let i = is_in t w h in let a : t.start ≤ℤ w.start = i.0 in let b : w.end ≤ℤ t.end = i.1 in within (joined t v) w (omega linc) (omega linc)

all_kept : (t : Times) (vs : List Volume4D) (w : Volume4D) → is_within t w ≡ true → is_within (all_joined t vs) w ≡ true
all_kept t [] w h = h
all_kept t (v ∷ vs) w h = all_kept (joined t v) vs w (kept t v w h)

each_kept : (t : Times) (vs ws : List Volume4D) → are_within t ws ≡ true → are_within (all_joined t vs) ws ≡ true
each_kept t vs [] h = refl
each_kept t vs (w ∷ ws) h =
    let a = and_parts (is_within t w) (are_within t ws) h in
    and_from (is_within (all_joined t vs) w) (are_within (all_joined t vs) ws) (all_kept t vs w a.0) (each_kept t vs ws a.1)

all_own : (t : Times) (vs : List Volume4D) → are_within (all_joined t vs) vs ≡ true
all_own t [] = refl
all_own t (v ∷ vs) =
    and_from (is_within (all_joined (joined t v) vs) v) (are_within (all_joined (joined t v) vs) vs) (all_kept (joined t v) vs v (own t v)) (all_own (joined t v) vs)

within_appended : (t : Times) (vs ws : List Volume4D) → are_within t vs ≡ true → are_within t ws ≡ true → are_within t (vs ++ ws) ≡ true
within_appended t [] ws h k = k
within_appended t (v ∷ vs) ws h k =
    let a = and_parts (is_within t v) (are_within t vs) h in
    and_from (is_within t v) (are_within t (vs ++ ws)) a.0 (within_appended t vs ws a.1 k)

pub within_both : (t : Times) (vs ws : List Volume4D) → are_within (all_joined (all_joined t vs) ws) (vs ++ ws) ≡ true
within_both t vs ws = within_appended (all_joined (all_joined t vs) ws) vs ws (each_kept (all_joined t vs) ws vs (all_own t vs)) (all_own (all_joined t vs) ws)

-- ---- outside of it

-- it is over before, or begins after
abbrev pub IsApart : Times → (start end : ℤ) → Type 0
IsApart t start end = (end <ℤ t.start) ⊎ (t.end <ℤ start)

not_shared : (t : Times) (start end : ℤ) (v u : Volume4D) → IsApart t start end → is_within t v ≡ true → int_le start u.start ≡ true → int_le u.end end ≡ true → shares v u ≡ false
not_shared t start end v u h w s e = go (shares v u) refl
  where
    go : (b : Bool) → shares v u ≡ b → b ≡ false
    go false q = refl
    go true q =
        let point : Shares v u = (shares_tells v u).0 q in
        let i = is_in t v w in
        let a : t.start ≤ℤ v.start = i.0 in
        let b : v.end ≤ℤ t.end = i.1 in
        let c : start ≤ℤ u.start = (le_is start u.start).0 s in
        let d : u.end ≤ℤ end = (le_is u.end end).0 e in
        let m : v.start ≤ℤ point.moment = point.in_first.time.0 in
        let n : point.moment ≤ℤ v.end = point.in_first.time.1 in
        let o : u.start ≤ℤ point.moment = point.in_second.time.0 in
        let p : point.moment ≤ℤ u.end = point.in_second.time.1 in
        absurd (elim h [ inl k ↦ omega linc | inr k ↦ omega linc ])

none_of : (t : Times) (start end : ℤ) (v : Volume4D) (us : List Volume4D) → IsApart t start end → is_within t v ≡ true → list_all (λ u. int_le start u.start) us ≡ true → list_all (λ u. int_le u.end end) us ≡ true
    → list_any (shares v) us ≡ false
none_of t start end v [] h w s e = refl
none_of t start end v (u ∷ us) h w s e =
    let a = and_parts (int_le start u.start) (list_all (λ (x : Volume4D). int_le start x.start) us) s in
    let b = and_parts (int_le u.end end) (list_all (λ (x : Volume4D). int_le x.end end) us) e in
    rw (not_shared t start end v u h w a.0 b.0) (none_of t start end v us h w a.1 b.1)

none_share : (t : Times) (start end : ℤ) (vs us : List Volume4D) → IsApart t start end → are_within t vs ≡ true → list_all (λ u. int_le start u.start) us ≡ true → list_all (λ u. int_le u.end end) us ≡ true
    → any_shares vs us ≡ false
unfolding any_shares
none_share t start end [] us h w s e = refl
none_share t start end (v ∷ vs) us h w s e =
    let a = and_parts (is_within t v) (are_within t vs) w in
    rw (none_of t start end v us h a.0 s e) (none_share t start end vs us h a.1 s e)

-- an intent's times are those of its extents
pub apart : (t : Times) (p : OperationalIntent) → is_pair p.reference p.details ≡ true → IsApart t p.reference.start p.reference.end → (vs : List Volume4D) → are_within t vs ≡ true
    → any_shares vs (extents_of p.details) ≡ false
unfolding is_pair
apart t p valid h vs w =
    let a = and_parts (is_some p.reference.ovn) _ valid in
    let b = and_parts (is_plan p.reference.state p.details.volumes p.details.off_nominal p.details.priority) _ a.1 in
    let c = and_parts (is_least_start p.reference.start (extents_of p.details)) (is_greatest_end p.reference.end (extents_of p.details)) b.1 in
    let s = and_parts (list_all (λ (v : Volume4D). int_le p.reference.start v.start) (extents_of p.details)) _ c.0 in
    let e = and_parts (list_all (λ (v : Volume4D). int_le v.end p.reference.end) (extents_of p.details)) _ c.1 in
    none_share t p.reference.start p.reference.end vs (extents_of p.details) h w s.0 e.0

pub apart_by : (t : Times) (r : Reference) (p : OperationalIntent) → r ≡ p.reference → is_pair p.reference p.details ≡ true → IsApart t r.start r.end → (vs : List Volume4D) → are_within t vs ≡ true
    → any_shares vs (extents_of p.details) ≡ false
apart_by t r p same valid h = apart t p valid (subst (λ (x : Reference). IsApart t x.start x.end) same h)

pub less : (a b : ℤ) → lt_z a b ≡ true → a <ℤ b
less a b h = grind (arith, ints)

-- ---- nothing stands where nothing shares

clear_by : (a b x y : Bool) → Clear ≡ cond ((a && (b && false)) && x) EqualForbidden (cond ((a && (b && false)) && y) HigherStands Clear)
clear_by true true x y = refl
clear_by true false x y = refl
clear_by false b x y = refl

pub clear_apart : (w : Wanted) (proposal : Proposal) (p : OperationalIntent) → any_shares (proposal.volumes ++ proposal.off_nominal) (extents_of p.details) ≡ false → Clear ≡ verdict_on w proposal p
unfolding verdict_on
clear_apart w proposal p none = rw none (clear_by _ _ _ _)
