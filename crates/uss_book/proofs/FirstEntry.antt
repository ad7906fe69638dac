-- A new book.
use Rattle.std.proofs.Common.{ℕ, ◌+◌, ◌≤◌, List, [], ◌∷◌, ◌++◌, ◌≡◌, ◌⊎◌, inl, inr, ⊎_elim, length, refl, sym, ap, subst, ◌∙◌, arith, Some, None, Ok}
use Rattle.uss_disk.specs.Disk.{CrashLeaves}
use Rattle.uss_disk.specs.Crash.{crash_weaker}
use Rattle.uss_event.specs.declared.entries.Owner.{Owner}
use Rattle.uss_event.specs.declared.entries.Entry.{Entry}
use Rattle.uss_event.specs.declared.entries.Entry.TheVariants as Enters
use Rattle.uss_journal.specs.Format.{stands_for, used_of, limit}
use Rattle.uss_journal.specs.Journal.{JournalView, WithOrWithout}
use Rattle.uss_journal.specs.Refusal.{AppendRefused}
use Rattle.uss_journal.specs.declared.refusal.JournalRefusal.{JournalRefusal}
use Rattle.uss_journal.specs.declared.refusal.JournalRefusal.TheVariants.{DiskFault, JournalFull, NotAJournal, Spent, Memory}
use Rattle.uss_law_book.specs.Coding.{HasCoding}
use Rattle.uss_law_book.specs.Legal.{MayFollow, IsLegal}
use Rattle.uss_law_book.proofs.Room.{next_follows}
use Rattle.uss_book_codec.specs.Coding.{coding_of}
use Rattle.uss_book.specs.Book.{StandsForBook, new_book}
use Rattle.uss_book.specs.Refusal.{IsPassedOn, UnlessFault, passed_on}
use Rattle.uss_book.proofs.Lengths.{fits_after}

pub first_follows : (o : Owner) → HasCoding (Enters.Owner o) → MayFollow [] (Enters.Owner o)
first_follows o h = next_follows [] (Enters.Owner o) tt (record { first = refl; coding = h; due = tt; spared = tt })

-- it may follow where there are none
pub follows_none : (o : Owner) (e : Entry) (es : List Entry) → e ≡ Enters.Owner o → HasCoding e → es ≡ [] → MayFollow es e
follows_none o e es is h none =
    subst (λ (l : List Entry). MayFollow l e) (sym none) (subst (MayFollow []) (sym is) (first_follows o (subst HasCoding is h)))

pub first_legal : (o : Owner) (e : Entry) (es : List Entry) → e ≡ Enters.Owner o → HasCoding e → es ≡ e ∷ [] → IsLegal es
first_legal o e es is h whole =
    let coded = subst HasCoding is h in
    subst IsLegal (sym (whole ∙ ap (λ (x : Entry). x ∷ []) is)) (first_follows o coded, tt)

pub first_fits : (o : Owner) (e : Entry) (records : List (List ℕ)) (bytes : List ℕ) → e ≡ Enters.Owner o → HasCoding e → records ≡ [] → bytes ≡ coding_of e → used_of records + 5 + length bytes ≤ limit
first_fits o e records bytes is h none coded =
    let fits = fits_after [] e records tt (subst (MayFollow []) (sym is) (first_follows o (subst HasCoding is h))) none in
    omega (arith, fits, ap length coded)

-- what a journal that isn't spent answers to a record that fits
pub append_passed : {D : Type 0} (fault_count : D → ℕ) (old : JournalView D) (bytes : List ℕ) (r : JournalRefusal) (new : JournalView D) → AppendRefused fault_count old bytes r new → old.spent ≡ None
    → used_of old.records + 5 + length bytes ≤ limit → IsPassedOn r
append_passed fault_count old bytes DiskFault new h unspent fits = tt
append_passed fault_count old bytes (NotAJournal place) new h unspent fits = tt
append_passed fault_count old bytes Memory new h unspent fits = tt
append_passed fault_count old bytes JournalFull new h unspent fits = omega (arith, fits, h.1)
append_passed fault_count old bytes (Spent count) new h unspent fits = let e = sym unspent ∙ h.0 in cc

-- an append that is refused but for a fault leaves the disk as it was
pub append_untouched : {D : Type 0} (fault_count : D → ℕ) (old : JournalView D) (bytes : List ℕ) (r : JournalRefusal) (new : JournalView D) → AppendRefused fault_count old bytes r new → UnlessFault (passed_on r) (new.disk ≡ old.disk)
append_untouched fault_count old bytes DiskFault new h = tt
append_untouched fault_count old bytes (NotAJournal place) new h = absurd h
append_untouched {D} fault_count old bytes Memory new h = ap (λ (j : JournalView D). j.disk) h.2
append_untouched {D} fault_count old bytes JournalFull new h = ap (λ (j : JournalView D). j.disk) h.2
append_untouched {D} fault_count old bytes (Spent count) new h = ap (λ (j : JournalView D). j.disk) h.1

-- what a crash leaves of an empty journal, while the first entry is appended
pub start_crash : {D : Type 0} (may_leave : D → List ℕ → Type 0) (moment : D → ℕ) (left_since : D → ℕ → List ℕ → Type 0) (old new : D) (o : Owner) (records : List (List ℕ)) (bytes : List ℕ)
    → records ≡ [] → bytes ≡ coding_of (Enters.Owner o)
    → CrashLeaves moment left_since (WithOrWithout records (Some bytes)) old new
    → CrashLeaves moment left_since (λ image. may_leave old image ⊎ (stands_for image ≡ Ok []) ⊎ StandsForBook (new_book o) image) old new
start_crash may_leave moment left_since old new o records bytes none coded leaves =
    crash_weaker moment left_since old new (WithOrWithout records (Some bytes)) (λ image. may_leave old image ⊎ (stands_for image ≡ Ok []) ⊎ StandsForBook (new_book o) image)
    (λ image p. ⊎_elim
    (λ without. inr (inl (without ∙ ap (λ (rs : List (List ℕ)). Ok rs) none)))
    (λ with'. inr (inr (with' ∙ ap (λ (rs : List (List ℕ)). Ok (rs ++ bytes ∷ [])) none ∙ ap (λ (b : List ℕ). Ok (b ∷ [])) coded))) p)
    leaves
