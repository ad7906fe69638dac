-- A book whose journal was mounted again.
use Rattle.std.proofs.Common.{ℕ, List, [], ◌∷◌, ◌++◌, ◌≡◌, inl, inr, refl, sym, ap, subst, ◌∙◌, append-nil, Option, Some, None, IfSome, Result, Ok, Err}
use Rattle.uss_event.specs.declared.entries.Entry.{Entry}
use Rattle.uss_journal.specs.Format.{stands_for}
use Rattle.uss_journal.specs.Journal.{JournalView, StandsFor, WithOrWithout}
use Rattle.uss_law_book.specs.Legal.{MayFollow, IsLegal}
use Rattle.uss_law_book.proofs.EachOrderly.{legal_longer}
use Rattle.uss_book.specs.Book.{StandsForBook, BookWithOrWithout, records_of}
use Rattle.uss_book.specs.Whole.{IsWhole}
use Rattle.uss_book.specs.Refusal.{SaysNothing, IsLeft, UnlessFault}
use Rattle.uss_book.specs.Reread.{IsByRecords, IsByFound, IsOfReading, NoPlace, IsUnread, IsTaken, StaysKnown}
use Rattle.uss_book.specs.declared.refusal.BookFault.{BookFault}
use Rattle.uss_book.specs.declared.refusal.BookFault.TheVariants.{DiskFault, NotAJournal, Spent, BadEntry, OtherOwner, Changed, Memory}
use Rattle.uss_book.proofs.Entering.{as_read}
use Rattle.uss_book.proofs.Rereading.{read_on}

-- files that stand for the same
same_book : (es : List Entry) (tried : Option Entry) (a b : List ℕ) → stands_for a ≡ stands_for b → BookWithOrWithout es tried b → BookWithOrWithout es tried a
same_book es tried a b same (inl without) = inl (same ∙ without)
same_book es None a b same (inr with') = absurd with'
same_book es (Some e) a b same (inr with') = inr (same ∙ with')

abbrev read_records : Result (List (List ℕ)) ℕ → List (List ℕ)
read_records (Ok records) = records
read_records (Err place) = []

one_reading : (a b : List (List ℕ)) (r : Result (List (List ℕ)) ℕ) → r ≡ Ok a → r ≡ Ok b → a ≡ b
one_reading a b r e f = ap read_records (sym e ∙ f)

module _ {D : Type 0} (may_leave : D → List ℕ → Type 0) (is_honest : D → Type 0) (old new : JournalView D) (es : List Entry) (tried : Option Entry)
    (whole : IsWhole may_leave is_honest old es tried) (still : is_honest new.disk → is_honest old.disk) where
  same_journal : new.records ≡ old.records → new.tried ≡ old.tried → (new.spent ≡ None → old.spent ≡ None)
      → (is_honest new.disk → (image : List ℕ) → may_leave new.disk image → WithOrWithout old.records old.tried image)
      → IsWhole may_leave is_honest new es tried
  same_journal records same_tried unspent left =
      record {
        legal = whole.legal;
        records = records ∙ whole.records;
        untried = λ none. whole.untried (unspent none);
        follows = whole.follows;
        left = λ honest image may. whole.agrees (still honest) image (left honest image may);
        agrees = λ honest image p. whole.agrees (still honest) image
            (subst (λ (t : Option (List ℕ)). WithOrWithout old.records t image) same_tried (subst (λ (rs : List (List ℕ)). WithOrWithout rs new.tried image) records p));
      }

  -- the book wasn't mounted again
  pub refused_whole : (fault_count : D → ℕ) (fault : BookFault) → StaysKnown fault_count old fault new
      → (is_honest new.disk → (image : List ℕ) → may_leave new.disk image → WithOrWithout old.records old.tried image)
      → IsWhole may_leave is_honest new es tried
  refused_whole fault_count DiskFault h left = same_journal h.records h.tried (λ none. let e = sym h.spent ∙ none in absurd (cc)) left
  refused_whole fault_count (NotAJournal place) h left = same_journal h.records h.tried (λ none. sym h.spent ∙ none) left
  refused_whole fault_count Memory h left = same_journal h.records h.tried (λ none. sym h.spent ∙ none) left
  refused_whole fault_count (BadEntry n) h left = same_journal h.records h.tried (λ none. sym h.spent ∙ none) left
  refused_whole fault_count (OtherOwner kept) h left = same_journal h.records h.tried (λ none. sym h.spent ∙ none) left
  refused_whole fault_count (Changed n) h left = same_journal h.records h.tried (λ none. sym h.spent ∙ none) left
  refused_whole fault_count (Spent count) h left = absurd h

  -- it was mounted again
  pub reread_whole : (kept : List Entry) → IsLegal kept → IsTaken kept new → (is_honest new.disk → (image : List ℕ) → may_leave new.disk image → StandsForBook kept image) → IsWhole may_leave is_honest new kept None
  reread_whole kept legal taken durable =
      record {
        legal = legal;
        records = taken.records;
        untried = λ none. refl;
        follows = tt;
        left = λ honest image may. inl (durable honest image may);
        agrees = λ honest image p. as_read kept new.records new.tried None image taken.records taken.untried p;
      }

  -- on an honest disk what is found is refused only when memory runs out
  for_memory : (file : List ℕ) (records : List (List ℕ)) (fault : BookFault) → is_honest old.disk → StandsFor records file → WithOrWithout old.records old.tried file → IsByRecords es records fault → IsOfReading fault
      → SaysNothing fault
  for_memory file records fault honest found kept by reading = go tried refl (whole.agrees honest file kept)
    where
      go : (t : Option Entry) → tried ≡ t → BookWithOrWithout es t file → SaysNothing fault
      go t e (inl without) =
          let same : records ≡ records_of es = one_reading records (records_of es) (stands_for file) found without in
          read_on es [] fault (subst IsLegal (sym (append-nil es)) whole.legal) (subst (λ (rs : List (List ℕ)). IsByRecords es rs fault) (same ∙ ap records_of (sym (append-nil es))) by) reading
      go None e (inr with') = absurd with'
      go (Some x) e (inr with') =
          let same : records ≡ records_of (es ++ x ∷ []) = one_reading records (records_of (es ++ x ∷ [])) (stands_for file) found with' in
          read_on es (x ∷ []) fault (legal_longer [] es x whole.legal (subst (λ (t : Option Entry). IfSome t (MayFollow es)) e whole.follows)) (subst (λ (rs : List (List ℕ)). IsByRecords es rs fault) same by) reading

  by_found : (file : List ℕ) (found : Option (List (List ℕ))) (fault : BookFault) → is_honest old.disk → IfSome found (λ records. StandsFor records file) → WithOrWithout old.records old.tried file
      → IsByFound es found fault → IsOfReading fault → (IsUnread fault → ⊥) → SaysNothing fault
  by_found file None fault honest stands kept by reading found = absurd (found by)
  by_found file (Some records) fault honest stands kept by reading found = for_memory file records fault honest stands kept by reading

  -- on an honest disk a book is refused only by a fault or when memory runs out
  pub says_nothing : (fault_count : D → ℕ) (file : List ℕ) (found : Option (List (List ℕ))) (fault : BookFault) → is_honest old.disk → StaysKnown fault_count old fault new → NoPlace fault
      → IfSome found (λ records. StandsFor records file) → WithOrWithout old.records old.tried file → IsByFound es found fault → SaysNothing fault
  says_nothing fault_count file found DiskFault honest stays readable stands kept by = tt
  says_nothing fault_count file found Memory honest stays readable stands kept by = tt
  says_nothing fault_count file found (NotAJournal place) honest stays readable stands kept by = absurd readable
  says_nothing fault_count file found (Spent count) honest stays readable stands kept by = absurd stays
  says_nothing fault_count file found (BadEntry n) honest stays readable stands kept by = by_found file found (BadEntry n) honest stands kept by tt (λ u. u)
  says_nothing fault_count file found (OtherOwner owner) honest stays readable stands kept by = by_found file found (OtherOwner owner) honest stands kept by tt (λ u. u)
  says_nothing fault_count file found (Changed n) honest stays readable stands kept by = by_found file found (Changed n) honest stands kept by tt (λ u. u)

-- a book that is refused as out of memory leaves it so
pub left_for_memory : (file after : List ℕ) (fault : BookFault) → SaysNothing fault → UnlessFault fault (IsLeft file after Memory) → IsLeft file after fault
left_for_memory file after DiskFault nothing h = tt
left_for_memory file after Memory nothing h = h
left_for_memory file after (NotAJournal place) nothing h = absurd nothing
left_for_memory file after (Spent count) nothing h = absurd nothing
left_for_memory file after (BadEntry n) nothing h = absurd nothing
left_for_memory file after (OtherOwner kept) nothing h = absurd nothing
left_for_memory file after (Changed n) nothing h = absurd nothing
