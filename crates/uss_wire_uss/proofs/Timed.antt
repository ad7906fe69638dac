-- A reference and details that its state allows are a pair exactly where the times fit.
use Rattle.std.proofs.Common.{◌≡◌, Bool, true, false, Some, None, Ok, Err, refl, arith}
use Rattle.std.specs.Prelude.{not, if◌then◌else◌, is_some}
use Rattle.uss_intent.specs.declared.records.Reference.{Reference}
use Rattle.uss_event.specs.declared.details.Details.{Details}
use Rattle.uss_event.specs.Plans.{is_plan, extents_of, is_least_start, is_greatest_end}
use Rattle.uss_event.specs.Pairs.{OperationalIntent, is_pair, pair_from}
use Rattle.uss_wire_base.specs.declared.refusal.Member.TheVariants.{TimeEnd}
use Rattle.uss_wire_base.specs.declared.refusal.WireRefusal.TheVariants.{WrongKind}
use Rattle.uss_wire_uss.specs.Intents.{timed}

-- the reference shows its OVN, its state allows the details, and it begins with them
pub record Begins (r : Reference) (d : Details) : Type 0 where
  pub shown : is_some r.ovn ≡ true
  pub plan : is_plan r.state d.volumes d.off_nominal d.priority ≡ true
  pub start : is_least_start r.start (extents_of d) ≡ true

pair_when : (r : Reference) (d : Details) → Begins r d → is_pair r d ≡ is_greatest_end r.end (extents_of d)
unfolding is_pair
pair_when r d h = rw (h.shown, h.plan, h.start) refl

found_when : (e : Bool) (given p : OperationalIntent) → Some p ≡ (if e then Some given else None) → Ok p ≡ (if not e then Err (WrongKind TimeEnd) else Ok given)
found_when true given p h = grind (arith, h)
found_when false given p h = absurd (grind (arith, h))

none_when : (e : Bool) (given : OperationalIntent) → None ≡ (if e then Some given else None) → Err (WrongKind TimeEnd) ≡ (if not e then Err (WrongKind TimeEnd) else Ok given)
none_when true given h = absurd (grind (arith, h))
none_when false given h = refl

pub timed_found : (r : Reference) (d : Details) (p : OperationalIntent) → Begins r d → Some p ≡ pair_from r d → Ok p ≡ timed r d
timed_found r d p h found =
    rw h.start (found_when (is_greatest_end r.end (extents_of d)) (record { reference = r; details = d }) p (rw (pair_when r d h) at found))

pub timed_none : (r : Reference) (d : Details) → Begins r d → None ≡ pair_from r d → Err (WrongKind TimeEnd) ≡ timed r d
timed_none r d h none =
    rw h.start (none_when (is_greatest_end r.end (extents_of d)) (record { reference = r; details = d }) (rw (pair_when r d h) at none))
