-- What one call more does to the meanings of a disk in memory.
use Rattle.std.proofs.Common.{◌≡◌, ◌⊎◌, inl, inr, ⊎_elim, ℕ, ◌≤◌, Bool, true, false, List, [], ◌∷◌, ◌++◌, length, take, arith, refl, subst, sym, ◌∙◌, ap, Result, Ok, Err, is_ok, OnOk, OnErr, cond, Some}
use Rattle.std.specs.Prelude.{◌↔◌}
use Rattle.std.proofs.lemmas.Bool.{cases_lt}
use Rattle.std.proofs.lemmas.List.{take_all, take-append-le, length_push}
use Rattle.std.specs.Bool.{MatchBool}
use Rattle.uss_cause.specs.Cause.{Counts}
use Rattle.uss_disk.specs.Disk.{written, Torn, Shortened, Follows, Only, SameMeaning, TimePasses}
use Rattle.uss_disk.specs.Memory.{MemoryView, after_act, after_call, reading, LeftByAct, LeftByCall, Left, LeftAfter, LeftSince, memory_reads, memory_may_leave, memory_moment, memory_left_since, WasDone, Recorded}
use Rattle.uss_disk.specs.Left.{Torn-same, Shortened-same}
use Rattle.uss_disk.specs.declared.act.Act.{Act}
use Rattle.uss_disk.specs.declared.act.Act.TheVariants.{Len, Read, Write, Cut, Sync}
use Rattle.uss_disk.specs.declared.act.Call.{Call}
use Rattle.uss_disk.specs.declared.act.DiskFault.{DiskFault}

pub reading_push : (calls : List Call) (call : Call) (file : List ℕ) → reading file (calls ++ call ∷ []) ≡ after_call call (reading file calls)
reading_push [] call file = refl
reading_push (c ∷ calls) call file = reading_push calls call (after_call c file)

pub left_push : (calls : List Call) (call : Call) (file : List ℕ) (could : List ℕ → Type 0) (image : List ℕ) → Left file could (calls ++ call ∷ []) image → LeftByCall call (reading file calls) (Left file could calls) image
left_push [] call file could image left = left
left_push (c ∷ calls) call file could image left = left_push calls call (after_call c file) (LeftByCall c file could) image left

pub push_left : (calls : List Call) (call : Call) (file : List ℕ) (could : List ℕ → Type 0) (image : List ℕ) → LeftByCall call (reading file calls) (Left file could calls) image → Left file could (calls ++ call ∷ []) image
push_left [] call file could image left = left
push_left (c ∷ calls) call file could image left = push_left calls call (after_call c file) (LeftByCall c file could) image left

-- the calls are the same, or one more
abbrev pub Grows : (calls more : List Call) → Type 0
Grows calls more = (more ≡ calls) ⊎ ((call : Call) × (more ≡ calls ++ call ∷ []))

module _ (first : List ℕ) (calls : List Call) (t : ℕ) (image : List ℕ) where
  since_push : (call : Call) → LeftSince first (calls ++ call ∷ []) t image → LeftSince first calls t image ⊎ LeftAfter first (calls ++ call ∷ []) image
  since_push call since = ⊎_elim
      (λ high. inr (subst (λ (cs : List Call). LeftAfter first cs image) (take_all since.0 (calls ++ call ∷ []) (omega (arith, high, length_push calls call))) since.3))
      (λ low. inl (since.0, since.1, low, subst (λ (cs : List Call). LeftAfter first cs image) (take-append-le since.0 calls (call ∷ []) low) since.3))
      (cases_lt (length calls) since.0)

  pub since_grown : (more : List Call) → Grows calls more → LeftSince first more t image → LeftSince first calls t image ⊎ LeftAfter first more image
  since_grown more grows since = ⊎_elim
      (λ same. inl (subst (λ (cs : List Call). LeftSince first cs t image) same since))
      (λ pushed. subst (λ (cs : List Call). LeftSince first calls t image ⊎ LeftAfter first cs image) (sym pushed.1) (since_push pushed.0 (subst (λ (cs : List Call). LeftSince first cs t image) pushed.1 since)))
      grows

  kept_push : (call : Call) → LeftSince first calls t image → LeftSince first (calls ++ call ∷ []) t image
  kept_push call since =
      (since.0, since.1, omega (arith, since.2, length_push calls call), subst (λ (cs : List Call). LeftAfter first cs image) (sym (take-append-le since.0 calls (call ∷ []) since.2)) since.3)

  pub kept_grown : (more : List Call) → Grows calls more → LeftSince first calls t image → LeftSince first more t image
  kept_grown more grows since = ⊎_elim
      (λ same. subst (λ (cs : List Call). LeftSince first cs t image) (sym same) since)
      (λ pushed. subst (λ (cs : List Call). LeftSince first cs t image) (sym pushed.1) (kept_push pushed.0 since))
      grows

length_grown : (calls more : List Call) → Grows calls more → length calls ≤ length more
length_grown calls more grows = ⊎_elim
    (λ same. omega (arith, ap length same))
    (λ pushed. omega (arith, ap length pushed.1, length_push calls pushed.0))
    grows

-- the record has grown by at most a call
pub record Grown (old new : MemoryView) : Type 0 where
  pub first : new.first ≡ old.first
  pub calls : Grows old.calls new.calls

pub time_passes : (old new : MemoryView) → Grown old new → TimePasses memory_may_leave memory_moment memory_left_since old new
time_passes old new grown = record {
  later = length_grown old.calls new.calls grown.calls;
  nothing_else = λ t image le since.
      subst (λ (f : List ℕ). LeftSince old.first old.calls t image ⊎ LeftAfter f new.calls image) (sym grown.first)
      (since_grown old.first old.calls t image new.calls grown.calls (subst (λ (f : List ℕ). LeftSince f new.calls t image) grown.first since));
  kept = λ t image le since. subst (λ (f : List ℕ). LeftSince f new.calls t image) (sym grown.first) (kept_grown old.first old.calls t image new.calls grown.calls since);
}

-- how a call that was made grows the record
pub grown : (old : MemoryView) (act : Act) (answer : Bool) (new : MemoryView) → Recorded old act answer new → Grown old new
grown old act true new done = record { first = done.first; calls = inr (_, done.calls) }
grown old act false new (inl failed) = record { first = failed.first; calls = inr (_, failed.calls) }
grown old act false new (inr none) = record { first = none.first; calls = inl none.calls }

-- the act changes no byte
abbrev pub IsIdle : Act → Type 0
IsIdle Len = Unit {0}
IsIdle (Read at len) = Unit {0}
IsIdle (Write at bytes) = ⊥
IsIdle (Cut len) = ⊥
IsIdle Sync = ⊥

abbrev pub IsIdleCall : Call → Type 0
IsIdleCall call = MatchBool call.done (IsIdle call.act) (Unit {0})

idle_act : (act : Act) → IsIdle act → (file : List ℕ) (could : List ℕ → Type 0) (image : List ℕ) → (LeftByAct act file could image → could image) × (could image → LeftByAct act file could image)
idle_act Len idle file could image = (λ h. h, λ h. h)
idle_act (Read at len) idle file could image = (λ h. h, λ h. h)
idle_act (Write at bytes) idle file could image = absurd idle
idle_act (Cut len) idle file could image = absurd idle
idle_act Sync idle file could image = absurd idle

idle_call : (act : Act) (done : Bool) → MatchBool done (IsIdle act) (Unit {0}) → (file : List ℕ) (could : List ℕ → Type 0) (image : List ℕ)
    → (MatchBool done (LeftByAct act file could image) (could image) → could image) × (could image → MatchBool done (LeftByAct act file could image) (could image))
idle_call act true idle file could image = idle_act act idle file could image
idle_call act false idle file could image = (λ h. h, λ h. h)

idle_file : (act : Act) (done : Bool) → MatchBool done (IsIdle act) (Unit {0}) → (file : List ℕ) → cond done (after_act act file) file ≡ file
idle_file Len true idle file = refl
idle_file (Read at len) true idle file = refl
idle_file (Write at bytes) true idle file = absurd idle
idle_file (Cut len) true idle file = absurd idle
idle_file Sync true idle file = absurd idle
idle_file act false idle file = refl

-- a call that changes no byte, or was refused
module _ (first : List ℕ) (calls : List Call) (act : Act) (done : Bool) (idle : MatchBool done (IsIdle act) (Unit {0})) where
  idle_reading : reading first (calls ++ record { act = act; done = done } ∷ []) ≡ reading first calls
  idle_reading = reading_push calls (record { act = act; done = done }) first ∙ idle_file act done idle (reading first calls)

  idle_left : (image : List ℕ) → LeftAfter first (calls ++ record { act = act; done = done } ∷ []) image ↔ LeftAfter first calls image
  idle_left image =
      let both = idle_call act done idle (reading first calls) (Left first (λ i. i ≡ first) calls) image in
      (λ left. both.0 (left_push calls (record { act = act; done = done }) first (λ i. i ≡ first) image left), λ left. push_left calls (record { act = act; done = done }) first (λ i. i ≡ first) image (both.1 left))

  idle_since : (t : ℕ) (image : List ℕ) → t ≤ length calls → LeftSince first (calls ++ record { act = act; done = done } ∷ []) t image ↔ LeftSince first calls t image
  idle_since t image le = (
    λ since. ⊎_elim (λ before. before)
        (λ now. (length calls, le, omega arith, subst (λ (cs : List Call). LeftAfter first cs image) (sym (take_all (length calls) calls (omega arith))) ((idle_left image).0 now)))
        (since_grown first calls t image (calls ++ record { act = act; done = done } ∷ []) (inr (record { act = act; done = done }, refl)) since),
    λ since. kept_grown first calls t image (calls ++ record { act = act; done = done } ∷ []) (inr (record { act = act; done = done }, refl)) since,
  )

-- the record is the same, or one call more that changes no byte
pub record Idled (old new : MemoryView) : Type 0 where
  pub first : new.first ≡ old.first
  pub calls : (new.calls ≡ old.calls) ⊎ ((act : Act) × (done : Bool) × MatchBool done (IsIdle act) (Unit {0}) × (new.calls ≡ old.calls ++ record { act = act; done = done } ∷ []))

-- what the meanings of a disk with these bytes and calls have in common with those of one with others
record SameAs (first first' : List ℕ) (calls calls' : List Call) : Type 0 where
  reading : reading first' calls' ≡ reading first calls
  now : (image : List ℕ) → LeftAfter first' calls' image ↔ LeftAfter first calls image
  since : (t : ℕ) (image : List ℕ) → t ≤ length calls → LeftSince first' calls' t image ↔ LeftSince first calls t image

same_as : (old new : MemoryView) → Idled old new → SameAs old.first new.first old.calls new.calls
same_as old new idled =
    subst (λ (f : List ℕ). SameAs old.first f old.calls new.calls) (sym idled.first)
    (⊎_elim
    (λ same. subst (λ (cs : List Call). SameAs old.first old.first old.calls cs) (sym same)
    (record { reading = refl; now = λ image. (λ h. h, λ h. h); since = λ t image le. (λ h. h, λ h. h) }))
    (λ more. subst (λ (cs : List Call). SameAs old.first old.first old.calls cs) (sym more.3)
    (record { reading = idle_reading old.first old.calls more.0 more.1 more.2; now = idle_left old.first old.calls more.0 more.1 more.2; since = idle_since old.first old.calls more.0 more.1 more.2 }))
    idled.calls)

pub idled_reading : (old new : MemoryView) → Idled old new → reading new.first new.calls ≡ reading old.first old.calls
idled_reading old new idled = (same_as old new idled).reading

grows_idly : (old new : MemoryView) → Idled old new → Grows old.calls new.calls
grows_idly old new idled = ⊎_elim (λ same. inl same) (λ more. inr (record { act = more.0; done = more.1 }, more.3)) idled.calls

pub same_meaning : (old new : MemoryView) → Idled old new → SameMeaning memory_reads memory_may_leave memory_moment memory_left_since old new
same_meaning old new idled =
    let same = same_as old new idled in
    record { reading = ap Some same.reading; now = same.now; later = length_grown old.calls new.calls (grows_idly old new idled); since = same.since }

-- a call that was refused, or that changes no byte
pub idled : (old : MemoryView) (act : Act) (answer : Bool) (new : MemoryView) → MatchBool answer (IsIdle act) (Unit {0}) → Recorded old act answer new → Idled old new
idled old act true new idle done = record { first = done.first; calls = inr (act, true, idle, done.calls) }
idled old act false new idle (inl failed) = record { first = failed.first; calls = inr (act, false, tt, failed.calls) }
idled old act false new idle (inr none) = record { first = none.first; calls = inl none.calls }

-- the reading after a call
pub reading_after : (old : MemoryView) (act : Act) (answer : Bool) (new : MemoryView) → Recorded old act answer new
    → reading new.first new.calls ≡ cond answer (after_act act (reading old.first old.calls)) (reading old.first old.calls)
reading_after old act true new done =
    ap (λ (f : List ℕ). reading f new.calls) done.first ∙ ap (λ (cs : List Call). reading old.first cs) done.calls ∙ reading_push old.calls (record { act = act; done = true }) old.first
reading_after old act false new rec = idled_reading old new (idled old act false new tt rec)

-- what a crash may leave after a call that was done
pub left_after : (old : MemoryView) (act : Act) (new : MemoryView) (done : WasDone old act new) (image : List ℕ)
    → memory_may_leave new image → LeftByAct act (reading old.first old.calls) (memory_may_leave old) image
left_after old act new done image left =
    left_push old.calls (record { act = act; done = true }) old.first (λ i. i ≡ old.first) image
    (subst (λ (cs : List Call). LeftAfter old.first cs image) done.calls (subst (λ (f : List ℕ). LeftAfter f new.calls image) done.first left))

pub count_after : {T : Type 0} (old : MemoryView) (act : Act) (result : Result T DiskFault) (new : MemoryView) → Recorded old act (is_ok result) new → Counts old.faults new.faults result
count_after old act (Ok x) new done = record { kept = omega (arith, done.faults); cause = tt; calm = done.faults }
count_after old act (Err e) new (inl failed) = record { kept = failed.counted.no_lower; cause = failed.counted.rose; calm = tt }
count_after old act (Err e) new (inr none) = record { kept = none.counted.no_lower; cause = none.counted.rose; calm = tt }

pub write_done : {T : Type 0} (old : MemoryView) (at : ℕ) (bytes : List ℕ) (result : Result T DiskFault) (new : MemoryView) → Recorded old (Write at bytes) (is_ok result) new
    → OnOk result (reading new.first new.calls ≡ written at bytes (reading old.first old.calls))
write_done old at bytes (Ok x) new rec = reading_after old (Write at bytes) true new rec
write_done old at bytes (Err e) new rec = tt

pub write_in_part : {T : Type 0} (old : MemoryView) (at : ℕ) (bytes : List ℕ) (result : Result T DiskFault) (new : MemoryView) → Recorded old (Write at bytes) (is_ok result) new
    → OnErr result (Torn at (length bytes) (reading old.first old.calls) (reading new.first new.calls))
write_in_part old at bytes (Ok x) new rec = tt
write_in_part old at bytes (Err e) new rec =
    subst (λ (file : List ℕ). Torn at (length bytes) (reading old.first old.calls) file) (sym (reading_after old (Write at bytes) false new rec)) (Torn-same at (length bytes) (reading old.first old.calls))

pub write_crash : (old : MemoryView) (at : ℕ) (bytes : List ℕ) (answer : Bool) (new : MemoryView) → Recorded old (Write at bytes) answer new
    → Follows (Torn at (length bytes)) (memory_may_leave old) (memory_may_leave new)
write_crash old at bytes true new rec = λ image left. left_after old (Write at bytes) new rec image left
write_crash old at bytes false new rec = λ image left. (image, ((same_meaning old new (idled old (Write at bytes) false new tt rec)).now image).0 left, Torn-same at (length bytes) image)

pub cut_done : {T : Type 0} (old : MemoryView) (len : ℕ) (result : Result T DiskFault) (new : MemoryView) → Recorded old (Cut len) (is_ok result) new
    → OnOk result (reading new.first new.calls ≡ take len (reading old.first old.calls))
cut_done old len (Ok x) new rec = reading_after old (Cut len) true new rec
cut_done old len (Err e) new rec = tt

pub cut_in_part : {T : Type 0} (old : MemoryView) (len : ℕ) (result : Result T DiskFault) (new : MemoryView) → Recorded old (Cut len) (is_ok result) new
    → OnErr result (Shortened len (reading old.first old.calls) (reading new.first new.calls))
cut_in_part old len (Ok x) new rec = tt
cut_in_part old len (Err e) new rec =
    subst (λ (file : List ℕ). Shortened len (reading old.first old.calls) file) (sym (reading_after old (Cut len) false new rec)) (Shortened-same len (reading old.first old.calls))

pub cut_crash : (old : MemoryView) (len : ℕ) (answer : Bool) (new : MemoryView) → Recorded old (Cut len) answer new
    → Follows (Shortened len) (memory_may_leave old) (memory_may_leave new)
cut_crash old len true new rec = λ image left. left_after old (Cut len) new rec image left
cut_crash old len false new rec = λ image left. (image, ((same_meaning old new (idled old (Cut len) false new tt rec)).now image).0 left, Shortened-same len image)

pub sync_reading : (old : MemoryView) (answer : Bool) (new : MemoryView) → Recorded old Sync answer new → memory_reads new ≡ memory_reads old
sync_reading old true new rec = ap Some (reading_after old Sync true new rec)
sync_reading old false new rec = ap Some (reading_after old Sync false new rec)

pub sync_durable : {T : Type 0} (old : MemoryView) (result : Result T DiskFault) (new : MemoryView) → Recorded old Sync (is_ok result) new
    → OnOk result (Only (reading old.first old.calls) (memory_may_leave new))
sync_durable old (Ok x) new rec = λ image left. left_after old Sync new rec image left
sync_durable old (Err e) new rec = tt

pub sync_refused : {T : Type 0} (old : MemoryView) (result : Result T DiskFault) (new : MemoryView) → Recorded old Sync (is_ok result) new
    → OnErr result (SameMeaning memory_reads memory_may_leave memory_moment memory_left_since old new)
sync_refused old (Ok x) new rec = tt
sync_refused old (Err e) new rec = same_meaning old new (idled old Sync false new tt rec)
