-- The laws of what a crash may leave of a disk in memory, which its `impl` cites.
use Rattle.std.specs.Prelude.{◌≡◌, ℕ, ◌+◌, ◌-◌, ◌<◌, ◌≤◌, min, true, false, List, [], ◌∷◌, ◌++◌, length, take, drop, slice_index, if◌then◌else◌}
use Rattle.std.proofs.Common.{arith, refl, subst, sym, ◌∙◌, ap, length-append, length-take, length-drop, get_or, get_or-take, get_or-drop}
use Rattle.std.proofs.lemmas.List.{take_all, get_or_append_left, get_or-append_right, take_min}
use Rattle.std.specs.Bool.{MatchBool}
use Rattle.uss_disk.specs.Disk.{written, Torn, Shortened}
use Rattle.uss_disk.specs.Memory.{MemoryView, after_act, after_call, reading, LeftByAct, LeftByCall, Left, LeftAfter, memory_may_leave, memory_moment, memory_left_since}
use Rattle.uss_disk.specs.declared.act.Act.{Act}
use Rattle.uss_disk.specs.declared.act.Act.TheVariants.{Len, Read, Write, Cut, Sync}
use Rattle.uss_disk.specs.declared.act.Call.{Call}

module _ (at : ℕ) (bytes file : List ℕ) where
  length-written : length (written at bytes file) ≡ min at (length file) + length bytes + (length file - (at + length bytes))
  length-written = simp (length-append, length-take, length-drop)

  written_before : (k : ℕ) → k < at → k < length file → slice_index (written at bytes file) k ≡ slice_index file k
  written_before k low within =
      let front : k < length (take at file) = omega (arith, length-take at file) in
      let both : k < length (take at file ++ bytes) = omega (arith, front, length-append (take at file) bytes) in
      get_or_append_left (take at file ++ bytes) (drop (at + length bytes) file) 0 k both
      ∙ get_or_append_left (take at file) bytes 0 k front
      ∙ get_or-take at file k 0 low

  written_behind : (k : ℕ) → at + length bytes ≤ k → k < length file → slice_index (written at bytes file) k ≡ slice_index file k
  written_behind k high within =
      let both : length (take at file ++ bytes) ≡ at + length bytes = omega (arith, length-take at file, length-append (take at file) bytes) in
      let same : at + length bytes + (k - (at + length bytes)) ≡ k = omega arith in
      get_or-append_right (take at file ++ bytes) (drop (at + length bytes) file) (at + length bytes) k 0 both high
      ∙ get_or-drop (at + length bytes) file (k - (at + length bytes)) 0
      ∙ ap (λ (n : ℕ). get_or file n 0) same

  -- a write that was done is among those that a crash cuts short
  pub Torn-written : Torn at (length bytes) file (written at bytes file)
  Torn-written = record {
    before = written_before;
    behind = written_behind;
    no_shorter = omega (arith, length-written);
    no_longer = omega (arith, length-written);
  }

-- and so is one that was not begun
pub Torn-same : (at n : ℕ) (file : List ℕ) → Torn at n file file
Torn-same at n file = record { before = λ k low within. refl; behind = λ k high within. refl; no_shorter = omega arith; no_longer = omega arith }

pub Shortened-take : (n : ℕ) (file : List ℕ) → Shortened n file (take n file)
Shortened-take n file = record {
  no_shorter = omega (arith, length-take n file);
  front = sym (ap (λ (k : ℕ). take k file) (length-take n file) ∙ take_min n file);
}

pub Shortened-same : (n : ℕ) (file : List ℕ) → Shortened n file file
Shortened-same n file = record { no_shorter = omega arith; front = sym (take_all (length file) file (omega arith)) }

-- an act that is done leaves, among others, the file as it then reads
left_by_act : (act : Act) (file : List ℕ) (could : List ℕ → Type 0) → could file → LeftByAct act file could (after_act act file)
left_by_act Len file could now = now
left_by_act (Read at len) file could now = now
left_by_act (Write at bytes) file could now = (file, now, Torn-written at bytes file)
left_by_act (Cut len) file could now = (file, now, Shortened-take len file)
left_by_act Sync file could now = refl

left_by_call : (call : Call) (file : List ℕ) (could : List ℕ → Type 0) → could file → LeftByCall call file could (after_call call file)
left_by_call call file could now =
    elim call.done as (λ b. MatchBool b (LeftByAct call.act file could (if b then after_act call.act file else file)) (could (if b then after_act call.act file else file))) [
      | true ↦ left_by_act call.act file could now
      | false ↦ now
    ]

left_reading : (calls : List Call) (file : List ℕ) (could : List ℕ → Type 0) → could file → Left file could calls (reading file calls)
left_reading [] file could now = now
left_reading (call ∷ calls) file could now = left_reading calls (after_call call file) (LeftByCall call file could) (left_by_call call file could now)

pub reading_is_left : (disk : MemoryView) → memory_may_leave disk (reading disk.first disk.calls)
reading_is_left disk = left_reading disk.calls disk.first (λ image. image ≡ disk.first) refl

pub left_now : (disk : MemoryView) (t : ℕ) (image : List ℕ) → t ≤ memory_moment disk → memory_may_leave disk image → memory_left_since disk t image
left_now disk t image le now =
    (length disk.calls, le, omega arith, subst (λ (cs : List Call). LeftAfter disk.first cs image) (sym (take_all (length disk.calls) disk.calls (omega arith))) now)

pub since_now : (disk : MemoryView) (image : List ℕ) → memory_left_since disk (memory_moment disk) image → memory_may_leave disk image
since_now disk image since = subst (λ (cs : List Call). LeftAfter disk.first cs image) (take_all since.0 disk.calls since.1) since.3
