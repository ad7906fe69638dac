-- A further entry of a book.
use Rattle.std.proofs.Common.{ℕ, ◌+◌, ◌≤◌, List, [], ◌∷◌, ◌++◌, ◌≡◌, inl, inr, ⊎_elim, length, refl, sym, ap, subst, ◌∙◌, arith, Option, Some, None, IfSome, Ok}
use Rattle.std.proofs.lemmas.List.{map-append}
use Rattle.std.specs.Prelude.{IsSomeAnd}
use Rattle.uss_disk.specs.Disk.{CrashLeaves}
use Rattle.uss_disk.specs.Crash.{crash_weaker}
use Rattle.uss_event.specs.declared.entries.Entry.{Entry}
use Rattle.uss_journal.specs.Format.{used_of, limit}
use Rattle.uss_journal.specs.Journal.{JournalView, StandsFor, WithOrWithout}
use Rattle.uss_journal.specs.Refusal.{Appended, AppendRefused, AppendFaulted}
use Rattle.uss_journal.specs.declared.refusal.JournalRefusal.{JournalRefusal}
use Rattle.uss_journal.specs.declared.refusal.JournalRefusal.TheVariants.{DiskFault, JournalFull, NotAJournal, Spent, Memory}
use Rattle.uss_law_book.specs.Legal.{MayFollow, IsLegal}
use Rattle.uss_law_book.proofs.EachOrderly.{legal_longer}
use Rattle.uss_book_codec.specs.Coding.{coding_of}
use Rattle.uss_book.specs.Append.{Came, IsRefusalThatFits, outcome_of}
use Rattle.uss_book.specs.Book.{BookWithOrWithout, records_of}
use Rattle.uss_book.specs.Whole.{IsWhole}

pub refusal_fits : {D : Type 0} (fault_count : D → ℕ) (old : JournalView D) (bytes : List ℕ) (r : JournalRefusal) (new : JournalView D) → AppendRefused fault_count old bytes r new → old.spent ≡ None
    → used_of old.records + 5 + length bytes ≤ limit → IsRefusalThatFits r
refusal_fits fault_count old bytes DiskFault new h unspent fits = tt
refusal_fits fault_count old bytes Memory new h unspent fits = tt
refusal_fits fault_count old bytes (NotAJournal place) new h unspent fits = h
refusal_fits fault_count old bytes JournalFull new h unspent fits = omega (arith, fits, h.1)
refusal_fits fault_count old bytes (Spent count) new h unspent fits = let e = sym unspent ∙ h.0 in cc

pub refusal_came : {D : Type 0} (fault_count : D → ℕ) (old : JournalView D) (bytes : List ℕ) (r : JournalRefusal) (new : JournalView D) → AppendRefused fault_count old bytes r new → IsRefusalThatFits r
    → Came fault_count old bytes (outcome_of r) new
refusal_came fault_count old bytes DiskFault new h fits = h
refusal_came fault_count old bytes Memory new h fits = h.2
refusal_came fault_count old bytes (NotAJournal place) new h fits = absurd fits
refusal_came fault_count old bytes JournalFull new h fits = absurd fits
refusal_came fault_count old bytes (Spent count) new h fits = absurd fits

-- the records with one more
records_after : (es : List Entry) (e : Entry) (records : List (List ℕ)) (bytes : List ℕ) → records ≡ records_of es → bytes ≡ coding_of e → records ++ bytes ∷ [] ≡ records_of (es ++ e ∷ [])
records_after es e records bytes is coded =
    ap (λ (rs : List (List ℕ)). rs ++ bytes ∷ []) is
    ∙ ap (λ (b : List ℕ). records_of es ++ b ∷ []) coded
    ∙ sym (map-append coding_of es (e ∷ []))

pub with_book : (es : List Entry) (e : Entry) (records : List (List ℕ)) (bytes image : List ℕ) → records ≡ records_of es → bytes ≡ coding_of e → WithOrWithout records (Some bytes) image → BookWithOrWithout es (Some e) image
with_book es e records bytes image is coded (inl without) = inl (without ∙ ap (λ (rs : List (List ℕ)). Ok rs) is)
with_book es e records bytes image is coded (inr with') = inr (with' ∙ ap (λ (rs : List (List ℕ)). Ok rs) (records_after es e records bytes is coded))

-- a journal that wasn't tried stands for the book
pub as_read : (es : List Entry) (records : List (List ℕ)) (tried : Option (List ℕ)) (t : Option Entry) (image : List ℕ) → records ≡ records_of es → tried ≡ None → WithOrWithout records tried image → BookWithOrWithout es t image
as_read es records tried t image is none p =
    ⊎_elim (λ without. inl (without ∙ ap (λ (rs : List (List ℕ)). Ok rs) is))
    (λ with'. absurd (subst (λ (x : Option (List ℕ)). IsSomeAnd x (λ entry. StandsFor (records ++ entry ∷ []) image)) none with')) p

pub enter_crash : {D : Type 0} (moment : D → ℕ) (left_since : D → ℕ → List ℕ → Type 0) (old new : D) (es : List Entry) (e : Entry) (records : List (List ℕ)) (bytes : List ℕ) → records ≡ records_of es → bytes ≡ coding_of e
    → CrashLeaves moment left_since (WithOrWithout records (Some bytes)) old new → CrashLeaves moment left_since (BookWithOrWithout es (Some e)) old new
enter_crash moment left_since old new es e records bytes is coded leaves =
    crash_weaker moment left_since old new (WithOrWithout records (Some bytes)) (BookWithOrWithout es (Some e)) (λ image p. with_book es e records bytes image is coded p) leaves

module _ {D : Type 0} (may_leave : D → List ℕ → Type 0) (is_honest : D → Type 0) (old new : JournalView D) (es : List Entry) (e : Entry) (tried : Option Entry)
    (whole : IsWhole may_leave is_honest old es tried) (unspent : old.spent ≡ None) (bytes : List ℕ) (coded : bytes ≡ coding_of e) (m : MayFollow es e) where
  pub entered_whole : (now : List Entry) → Appended old bytes new → now ≡ es ++ e ∷ []
      → (is_honest new.disk → (image : List ℕ) → may_leave new.disk image → StandsFor new.records image)
      → IsWhole may_leave is_honest new now tried
  entered_whole now done last durable =
      let records : new.records ≡ records_of now = done.last ∙ records_after es e old.records bytes whole.records coded ∙ ap records_of (sym last) in
      record {
        legal = subst IsLegal (sym last) (legal_longer [] es e whole.legal m);
        records = records;
        untried = λ none. whole.untried unspent;
        follows = subst (λ (t : Option Entry). IfSome t (MayFollow now)) (sym (whole.untried unspent)) tt;
        left = λ honest image may. inl (durable honest image may ∙ ap (λ (rs : List (List ℕ)). Ok rs) records);
        agrees = λ honest image p. as_read now new.records new.tried tried image records done.untried p;
      }

  pub faulted_whole : (fault_count : D → ℕ) (now : List Entry) → AppendFaulted fault_count old bytes new → now ≡ es
      → (is_honest new.disk → (image : List ℕ) → may_leave new.disk image → WithOrWithout old.records (Some bytes) image)
      → IsWhole may_leave is_honest new now (Some e)
  faulted_whole fault_count now fault same left =
      subst (λ (l : List Entry). IsWhole may_leave is_honest new l (Some e)) (sym same)
      (record {
        legal = whole.legal;
        records = fault.records ∙ whole.records;
        untried = λ none. let e = sym fault.spent ∙ none in absurd (cc);
        follows = m;
        left = λ honest image may. with_book es e old.records bytes image whole.records coded (left honest image may);
        agrees = λ honest image p. with_book es e old.records bytes image whole.records coded
            (subst (λ (t : Option (List ℕ)). WithOrWithout old.records t image) fault.tried (subst (λ (rs : List (List ℕ)). WithOrWithout rs new.tried image) fault.records p));
      })

pub none_from_not : {X : Type 0} (o : Option X) → ((x : X) → o ≡ Some x → ⊥) → o ≡ None
none_from_not None h = refl
none_from_not (Some x) h = absurd (h x refl)
