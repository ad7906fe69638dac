-- How a run of calls on a disk goes on: laws of what a crash at any moment in it leaves, for the layers above.
use Rattle.std.specs.Prelude.{ℕ, ◌≤◌, ◌⊎◌, List, Option, Result, Ok, Err, OnOk, OnErr}
use Rattle.std.proofs.Common.{arith, inl, inr, ⊎_elim, subst, sym}
use Rattle.uss_disk.specs.Disk.{Only, SameMeaning, TimePasses, CrashLeaves}

module _ {D : Type 0} (may_leave : D → List ℕ → Type 0) (moment : D → ℕ) (left_since : D → ℕ → List ℕ → Type 0) where
  -- before the first call
  pub crash_begins : (disk : D) (P : List ℕ → Type 0) → ((image : List ℕ) → left_since disk (moment disk) image → may_leave disk image) → ((image : List ℕ) → may_leave disk image → P image)
      → CrashLeaves moment left_since P disk disk
  crash_begins disk P only_now now = record { later = omega arith; each = λ image left. now image (only_now image left); earlier = λ t image le left. inl left }

  -- one call more, after which a crash leaves a file that has P
  pub crash_goes_on : (old mid new : D) (P : List ℕ → Type 0) → CrashLeaves moment left_since P old mid → TimePasses may_leave moment left_since mid new → ((image : List ℕ) → may_leave new image → P image)
      → CrashLeaves moment left_since P old new
  crash_goes_on old mid new P so_far time now = record {
    later = omega (arith, so_far.later, time.later);
    each = λ image left. ⊎_elim (so_far.each image) (now image) (time.nothing_else (moment old) image so_far.later left);
    earlier = λ t image le left. ⊎_elim (so_far.earlier t image le) (λ h. inr (now image h)) (time.nothing_else t image (omega (arith, le, so_far.later)) left);
  }

  -- one call more that changes no meaning
  pub crash_stays : (reads : D → Option (List ℕ)) (old mid new : D) (P : List ℕ → Type 0) → CrashLeaves moment left_since P old mid → SameMeaning reads may_leave moment left_since mid new
      → CrashLeaves moment left_since P old new
  crash_stays reads old mid new P so_far same = record {
    later = omega (arith, so_far.later, same.later);
    each = λ image left. so_far.each image ((same.since (moment old) image so_far.later).0 left);
    earlier = λ t image le left. so_far.earlier t image le ((same.since t image (omega (arith, le, so_far.later))).0 left);
  }

-- a sync, done or refused, leaves nothing that a crash couldn't have left before
pub sync_leaves : {D T E : Type 0} (reads : D → Option (List ℕ)) (may_leave : D → List ℕ → Type 0) (moment : D → ℕ) (left_since : D → ℕ → List ℕ → Type 0) (old new : D) (file : List ℕ) (result : Result T E)
    → may_leave old file → OnOk result (Only file (may_leave new)) → OnErr result (SameMeaning reads may_leave moment left_since old new) → (image : List ℕ) → may_leave new image → may_leave old image
sync_leaves reads may_leave moment left_since old new file (Ok x) was done refused image left = subst (λ (i : List ℕ). may_leave old i) (sym (done image left)) was
sync_leaves reads may_leave moment left_since old new file (Err e) was done refused image left = (refused.now image).0 left

module _ {D : Type 0} (moment : D → ℕ) (left_since : D → ℕ → List ℕ → Type 0) (old : D) where
  -- what has P has Q
  pub crash_weaker : (new : D) (P Q : List ℕ → Type 0) → ((image : List ℕ) → P image → Q image) → CrashLeaves moment left_since P old new → CrashLeaves moment left_since Q old new
  crash_weaker new P Q weaker leaves = record {
    later = leaves.later;
    each = λ image left. weaker image (leaves.each image left);
    earlier = λ t image le left. ⊎_elim (λ h. inl h) (λ h. inr (weaker image h)) (leaves.earlier t image le left);
  }

  -- one run after another
  pub crash_then : (mid new : D) (P : List ℕ → Type 0) → CrashLeaves moment left_since P old mid → CrashLeaves moment left_since P mid new → CrashLeaves moment left_since P old new
  crash_then mid new P first second = record {
    later = omega (arith, first.later, second.later);
    each = λ image left. ⊎_elim (first.each image) (λ h. h) (second.earlier (moment old) image first.later left);
    earlier = λ t image le left. ⊎_elim (first.earlier t image le) (λ h. inr h) (second.earlier t image (omega (arith, le, first.later)) left);
  }
