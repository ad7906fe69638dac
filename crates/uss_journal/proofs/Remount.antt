-- What is known of a journal whose file is read again, and what a crash within that leaves.
use Rattle.std.proofs.Common.{◌≡◌, ◌⊎◌, inl, inr, ⊎_elim, ℕ, ◌+◌, ◌≤◌, Bool, List, [], ◌∷◌, ◌++◌, length, take, drop, get_or, Option, Some, None, cond, sym, ap, ◌∙◌, arith, take-append-drop, drop_of_length-le}
use Rattle.std.proofs.lemmas.List.{take_all}
use Rattle.std.proofs.Math.Seq.{drop-cons}
use Rattle.std.proofs.lemmas.Bool.Decides.{leb_tells}
use Rattle.uss_disk.specs.Disk.{bytes_of, Only, CrashLeaves}
use Rattle.uss_disk.specs.Crash.{crash_weaker}
use Rattle.uss_journal.specs.Format.{mark, new_journal, stands_for}
use Rattle.uss_journal.specs.Gates.{Gated, records_between, tried_of}
use Rattle.uss_journal.specs.Journal.{StandsFor, WithOrWithout, mounted}
use Rattle.uss_journal.specs.Sound.{IsSound, IsSynced, IsReady, Untouched}
use Rattle.uss_journal.specs.declared.known.Known.{Known}
use Rattle.uss_journal.proofs.Stands.{gate_low}

-- a file that stands for the same
same_file : (records : List (List ℕ)) (tried : Option (List ℕ)) (a b : List ℕ) → stands_for a ≡ stands_for b → WithOrWithout records tried b → WithOrWithout records tried a
same_file records tried a b same (inl without) = inl (same ∙ without)
same_file records None a b same (inr with') = absurd with'
same_file records (Some entry) a b same (inr with') = inr (same ∙ with')

pub crash_known : {D : Type 0} (moment : D → ℕ) (left_since : D → ℕ → List ℕ → Type 0) (old new : D) (may_leave : List ℕ → Type 0) (records : List (List ℕ)) (tried : Option (List ℕ)) (file : List ℕ)
    → ((image : List ℕ) → may_leave image → WithOrWithout records tried image) → may_leave file
    → CrashLeaves moment left_since (λ image. may_leave image ⊎ (stands_for image ≡ stands_for file)) old new
    → CrashLeaves moment left_since (WithOrWithout records tried) old new
crash_known moment left_since old new may_leave records tried file left now leaves =
    crash_weaker moment left_since old new (λ image. may_leave image ⊎ (stands_for image ≡ stands_for file)) (WithOrWithout records tried)
    (λ image p. ⊎_elim (left image) (λ same. same_file records tried image file same (left file now)) p)
    leaves

-- ---- what is known stays so

-- nine bytes, of which the first eight are the mark and the last is a closed gate
nine_bytes : (file : List ℕ) → length file ≡ 9 → take 8 file ≡ mark → get_or file 8 0 ≡ 0 → file ≡ new_journal
nine_bytes file size marked closed =
    let last : drop 8 file ≡ 0 ∷ [] =
    drop-cons file 8 0 (omega (arith, size)) ∙ ap (λ (b : ℕ). b ∷ drop 9 file) closed ∙ ap (λ (l : List ℕ). 0 ∷ l) (drop_of_length-le file {i = 9} (omega (arith, size))) in
    sym (take-append-drop 8 file) ∙ ap (λ (l : List ℕ). l ++ drop 8 file) marked ∙ ap (λ (l : List ℕ). mark ++ l) last

-- the file of a journal that isn't spent stays as it is when it is mounted again
stays_mounted : (known gates file : List ℕ) (gate : ℕ) → Gated known gates gate → length known ≡ gate + 1 → take (length known) file ≡ known → mounted file ≡ file
stays_mounted known gates file gate gated whole front = elim (leb_tells (length file) 9) [
  | inl short ↦
      let low : 8 ≤ gate = gate_low known gates gate gated in
      let same : file ≡ known = sym (take_all (length known) file (omega (arith, whole, low, short.1))) ∙ front in
      let size : length file ≡ gate + 1 = ap length same ∙ whole in
      let eight : gate ≡ 8 = omega (arith, size, low, short.1) in
      ap (λ (t : Bool). cond t new_journal file) short.0
      ∙ sym (nine_bytes file (omega (arith, size, eight)) (ap (λ (l : List ℕ). take 8 l) same ∙ gated.marked)
      (ap (λ (l : List ℕ). get_or l 8 0) same ∙ ap (λ (n : ℕ). get_or known n 0) (sym eight) ∙ gated.closed))
  | inr long ↦ ap (λ (t : Bool). cond t new_journal file) long.0
]

module _ {D : Type 0} (reads : D → Option (List ℕ)) (may_leave : D → List ℕ → Type 0) (is_honest : D → Type 0) (old new : D) (known gates : List ℕ) (last : ℕ) (spent : Option ℕ)
    (sound : IsSound reads may_leave is_honest old known gates last spent) (still : is_honest new → is_honest old) where
  -- the disk reads as it did
  pub sound_untouched : (is_honest old → Untouched reads may_leave old new) → IsSound reads may_leave is_honest new known gates last spent
  sound_untouched same =
      record {
        gated = sound.gated;
        whole = sound.whole;
        synced = λ honest none.
            let synced = sound.synced (still honest) none in
            let now = same (still honest) in
            record {
              front = ap (λ (r : Option (List ℕ)). take (length known) (bytes_of r)) now.reading ∙ synced.front;
              durable = λ image may. synced.durable image (now.images image may) ∙ ap bytes_of (sym now.reading);
            };
        left = λ honest image may. sound.left (still honest) image ((same (still honest)).images image may);
      }

  -- the file was mounted again
  pub sound_mounted : (is_honest old → may_leave old (bytes_of (reads old))) → (is_honest old → bytes_of (reads new) ≡ mounted (bytes_of (reads old)))
      → (is_honest old → stands_for (bytes_of (reads new)) ≡ stands_for (bytes_of (reads old))) → (is_honest old → Only (bytes_of (reads new)) (may_leave new))
      → IsSound reads may_leave is_honest new known gates last spent
  sound_mounted now file kept durable =
      record {
        gated = sound.gated;
        whole = sound.whole;
        synced = λ honest none.
            let synced = sound.synced (still honest) none in
            let same : bytes_of (reads new) ≡ bytes_of (reads old) = file (still honest) ∙ stays_mounted known gates (bytes_of (reads old)) last sound.gated (sound.whole none) synced.front in
            record { front = ap (λ (l : List ℕ). take (length known) l) same ∙ synced.front; durable = durable (still honest) };
        left = λ honest image may.
            same_file (records_between known 8 gates) (tried_of known last) image (bytes_of (reads old)) (ap stands_for (durable (still honest) image may) ∙ kept (still honest))
            (sound.left (still honest) (bytes_of (reads old)) (now (still honest)));
      }

-- what was read is as a journal that was just mounted has it
pub ready : {D : Type 0} (reads : D → Option (List ℕ)) (may_leave : D → List ℕ → Type 0) (is_honest : D → Type 0) (old new : D) (found : Known) → (is_honest new → is_honest old)
    → Gated found.bytes.items found.gates.items found.last → length found.bytes.items ≡ found.last + 1
    → (is_honest old → StandsFor (records_between found.bytes.items 8 found.gates.items) (bytes_of (reads old)))
    → (is_honest old → stands_for (bytes_of (reads new)) ≡ stands_for (bytes_of (reads old)))
    → (is_honest old → IsSynced found.bytes.items (bytes_of (reads new)) (may_leave new))
    → IsReady reads may_leave is_honest new found
ready reads may_leave is_honest old new found still gated whole stands kept synced =
    record {
      gated = gated;
      whole = whole;
      synced = λ honest. synced (still honest);
      left = λ honest image may. ap stands_for ((synced (still honest)).durable image may) ∙ kept (still honest) ∙ stands (still honest);
    }
