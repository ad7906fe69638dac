-- What a mount finds, and what a crash within it leaves.
use Rattle.std.proofs.Common.{ℕ, ◌<◌, Bool, true, false, nat_le, List, [], ◌∷◌, length, ◌≡◌, ◌⊎◌, inl, inr, ⊎_elim, refl, sym, ap, subst, ◌∙◌, arith, Some, Result, Ok, Err}
use Rattle.std.specs.Prelude.{IfOk, IfErr, MatchResult}
use Rattle.uss_disk.specs.Disk.{CrashLeaves}
use Rattle.uss_disk.specs.Crash.{crash_weaker, crash_then}
use Rattle.uss_event.specs.declared.entries.Owner.{Owner}
use Rattle.uss_event.specs.declared.entries.Entry.{Entry}
use Rattle.uss_journal.specs.Format.{stands_for}
use Rattle.uss_journal.specs.Journal.{mounted}
use Rattle.uss_journal.specs.Refusal.{UnlessFault as JournalsUnlessFault}
use Rattle.uss_journal.specs.declared.refusal.JournalRefusal.{JournalRefusal}
use Rattle.uss_journal.specs.declared.refusal.JournalRefusal.TheVariants as Journals
use Rattle.uss_law_book.specs.Lists.{owner_of}
use Rattle.uss_law_book.specs.Legal.{IsLegal}
use Rattle.uss_book.specs.Book.{BookView, StandsForBook, IsFound, MountLeaves, new_book, records_of}
use Rattle.uss_book.specs.Refusal.{IsAnothers, RefusedBy, IsLeft, UnlessFault, Misread, SaysNothing, passed_on, disk_after}
use Rattle.uss_book.specs.declared.refusal.BookFault.{BookFault}
use Rattle.uss_book.specs.declared.refusal.BookFault.TheVariants.{DiskFault, NotAJournal, Spent, BadEntry, OtherOwner, Changed, Memory}
use Rattle.uss_book.specs.declared.refusal.BookRefusal.{BookRefusal}

-- another owner's book
another_found : (owner : Owner) (file : List ℕ) (items : List Entry) (fault : BookFault) → IsLegal items → StandsForBook items file → IsAnothers items owner fault → RefusedBy owner file fault
another_found owner file items (OtherOwner kept) legal stands h =
    record { records = records_of items; found = stands; so = record { entries = items; legal = legal; found = refl; is = h.0; other = h.1 } }
another_found owner file items DiskFault legal stands h = absurd h
another_found owner file items Memory legal stands h = absurd h
another_found owner file items (NotAJournal place) legal stands h = absurd h
another_found owner file items (Spent count) legal stands h = absurd h
another_found owner file items (BadEntry n) legal stands h = absurd h
another_found owner file items (Changed n) legal stands h = absurd h

pub owned_found : {D : Type 0} (owner : Owner) (file : List ℕ) (items : List Entry) (result : Result (BookView D) (BookRefusal D)) → IsLegal items → StandsForBook items file
    → IfOk result (λ b. b.entries ≡ items) → IfErr result (λ r. IsAnothers items owner r.refusal)
    → MatchResult result (λ b. IsFound owner file b.entries) (λ r. RefusedBy owner file r.refusal)
owned_found owner file items (Ok b) legal stands own another = inl (subst (λ (es : List Entry). StandsForBook es file) (sym own) stands)
owned_found owner file items (Err r) legal stands own another = another_found owner file items r.refusal legal stands another

-- the file was read, which stands for no entries, and the new book was begun in it
pub begun_crash : {D : Type 0} (may_leave : D → List ℕ → Type 0) (moment : D → ℕ) (left_since : D → ℕ → List ℕ → Type 0) (old mid new : D) (owner : Owner) (file : List ℕ) (items : List Entry) → items ≡ []
    → StandsForBook items file → ((image : List ℕ) → may_leave mid image → StandsForBook items image)
    → CrashLeaves moment left_since (λ image. may_leave old image ⊎ (stands_for image ≡ stands_for file)) old mid
    → CrashLeaves moment left_since (λ image. may_leave mid image ⊎ (stands_for image ≡ Ok []) ⊎ StandsForBook (new_book owner) image) mid new
    → CrashLeaves moment left_since (MountLeaves (may_leave old) owner file) old new
begun_crash may_leave moment left_since old mid new owner file items none stands left first second =
    let P : List ℕ → Type 0 = MountLeaves (may_leave old) owner file in
    let empty : stands_for file ≡ Ok [] = stands ∙ ap (λ (es : List Entry). Ok (records_of es)) none in
    crash_then moment left_since old mid new P
    (crash_weaker moment left_since old mid (λ image. may_leave old image ⊎ (stands_for image ≡ stands_for file)) P (λ image p. ⊎_elim (λ a. inl a) (λ b. inr (inl b)) p) first)
    (crash_weaker moment left_since mid new (λ image. may_leave mid image ⊎ (stands_for image ≡ Ok []) ⊎ StandsForBook (new_book owner) image) P
    (λ image p. ⊎_elim (λ a. inr (inl (left image a ∙ sym stands))) (λ q. ⊎_elim (λ b. inr (inl (b ∙ sym empty))) (λ d. inr (inr (empty, d))) q) p) second)

-- nothing was begun
pub unbegun_crash : {D : Type 0} (may_leave : D → List ℕ → Type 0) (moment : D → ℕ) (left_since : D → ℕ → List ℕ → Type 0) (old new : D) (owner : Owner) (file : List ℕ)
    → CrashLeaves moment left_since (λ image. may_leave old image ⊎ (stands_for image ≡ stands_for file)) old new
    → CrashLeaves moment left_since (MountLeaves (may_leave old) owner file) old new
unbegun_crash may_leave moment left_since old new owner file leaves =
    crash_weaker moment left_since old new (λ image. may_leave old image ⊎ (stands_for image ≡ stands_for file)) (MountLeaves (may_leave old) owner file) (λ image p. ⊎_elim (λ a. inl a) (λ b. inr (inl b)) p) leaves

-- ---- what a refused mount leaves of a file

-- a file of some record stays what it is
with_records : (file : List ℕ) (records : List (List ℕ)) → stands_for file ≡ Ok records → (records ≡ [] → ⊥) → mounted file ≡ file
with_records file records h some = go (nat_le (length file) 9) refl
  where
    go : (b : Bool) → nat_le (length file) 9 ≡ b → mounted file ≡ file
    go true e =
        let none : stands_for file ≡ Ok [] = rw e refl in
        absurd (some (cc))
    go false e = rw e refl

-- the journal refused to be mounted
pub journal_left : {X : Type 0} (bytes : X → List ℕ) (old new : X) (r : JournalRefusal) → JournalsUnlessFault r (new ≡ old) → IsLeft (bytes old) (bytes new) (passed_on r)
journal_left bytes old new Journals.DiskFault h = tt
journal_left bytes old new (Journals.NotAJournal place) h = ap bytes h
journal_left bytes old new Journals.Memory h = inl (ap bytes h)
journal_left bytes old new Journals.JournalFull h = inl (ap bytes h)
journal_left bytes old new (Journals.Spent count) h = inl (ap bytes h)

-- its records aren't those of a legal book
pub misread_left : (file after : List ℕ) (records : List (List ℕ)) (fault : BookFault) → stands_for file ≡ Ok records → after ≡ mounted file → Misread records fault → IsLeft file after fault
misread_left file after records (BadEntry n) stands is h =
    is ∙ with_records file records stands (λ none. let low : n < length {A = List ℕ} [] = subst (λ (rs : List (List ℕ)). n < length rs) none h.within in omega (arith, low))
misread_left file after records Memory stands is h = inr is
misread_left file after records DiskFault stands is h = absurd h
misread_left file after records (NotAJournal place) stands is h = absurd h
misread_left file after records (Spent count) stands is h = absurd h
misread_left file after records (OtherOwner kept) stands is h = absurd h
misread_left file after records (Changed n) stands is h = absurd h

left_as_begun : {D : Type 0} (bytes : D → List ℕ) (file : List ℕ) (mid back : D) (fault : BookFault) → bytes mid ≡ mounted file → SaysNothing fault → UnlessFault fault (back ≡ mid) → IsLeft file (bytes back) fault
left_as_begun bytes file mid back DiskFault is nothing h = tt
left_as_begun bytes file mid back Memory is nothing h = inr (ap bytes h ∙ is)
left_as_begun bytes file mid back (NotAJournal place) is nothing h = absurd nothing
left_as_begun bytes file mid back (BadEntry n) is nothing h = absurd nothing
left_as_begun bytes file mid back (OtherOwner kept) is nothing h = absurd nothing
left_as_begun bytes file mid back (Spent count) is nothing h = absurd nothing
left_as_begun bytes file mid back (Changed n) is nothing h = absurd nothing

-- the new book couldn't be begun
pub begun_left : {D : Type 0} (bytes : D → List ℕ) (file : List ℕ) (mid : D) (result : Result (BookView D) (BookRefusal D)) → bytes mid ≡ mounted file
    → IfErr result (λ r. SaysNothing r.refusal) → IfErr result (λ r. UnlessFault r.refusal (r.back ≡ mid)) → IfErr result (λ r. IsLeft file (bytes r.back) r.refusal)
begun_left bytes file mid (Ok b) is nothing h = tt
begun_left bytes file mid (Err r) is nothing h = left_as_begun bytes file mid r.back r.refusal is nothing h

some_items : (items : List Entry) (kept : Owner) → owner_of items ≡ Some kept → records_of items ≡ [] → ⊥
some_items [] kept h none = cc
some_items (x ∷ xs) kept h none = cc

left_as_anothers : {D : Type 0} (bytes : D → List ℕ) (owner : Owner) (file : List ℕ) (items : List Entry) (mid back : D) (fault : BookFault) → bytes mid ≡ mounted file → StandsForBook items file
    → back ≡ mid → IsAnothers items owner fault → IsLeft file (bytes back) fault
left_as_anothers bytes owner file items mid back (OtherOwner kept) is stands same h = ap bytes same ∙ is ∙ with_records file (records_of items) stands (some_items items kept h.0)
left_as_anothers bytes owner file items mid back DiskFault is stands same h = absurd h
left_as_anothers bytes owner file items mid back Memory is stands same h = absurd h
left_as_anothers bytes owner file items mid back (NotAJournal place) is stands same h = absurd h
left_as_anothers bytes owner file items mid back (Spent count) is stands same h = absurd h
left_as_anothers bytes owner file items mid back (BadEntry n) is stands same h = absurd h
left_as_anothers bytes owner file items mid back (Changed n) is stands same h = absurd h

-- the book is another owner's
pub owned_left : {D : Type 0} (bytes : D → List ℕ) (owner : Owner) (file : List ℕ) (items : List Entry) (mid : D) (result : Result (BookView D) (BookRefusal D)) → bytes mid ≡ mounted file → StandsForBook items file
    → disk_after result ≡ mid → IfErr result (λ r. IsAnothers items owner r.refusal) → IfErr result (λ r. IsLeft file (bytes r.back) r.refusal)
owned_left bytes owner file items mid (Ok b) is stands same h = tt
owned_left bytes owner file items mid (Err r) is stands same h = left_as_anothers bytes owner file items mid r.back r.refusal is stands same h

-- ---- what an accepted mount leaves of a file

-- the book was there
pub owned_stays : {D : Type 0} (bytes : D → List ℕ) (owner : Owner) (file : List ℕ) (mid : D) (result : Result (BookView D) (BookRefusal D)) → bytes mid ≡ mounted file
    → disk_after result ≡ mid → IfOk result (λ b. owner_of b.entries ≡ Some owner) → IfOk result (λ b. StandsForBook b.entries file → bytes b.disk ≡ file)
owned_stays bytes owner file mid (Ok b) is same own = λ h. ap bytes same ∙ is ∙ with_records file (records_of b.entries) h (some_items b.entries owner own)
owned_stays bytes owner file mid (Err r) is same own = tt

-- the new book wasn't there
pub begun_stays : {D : Type 0} (bytes : D → List ℕ) (owner : Owner) (file : List ℕ) (items : List Entry) (result : Result (BookView D) (BookRefusal D)) → items ≡ [] → StandsForBook items file
    → IfOk result (λ b. b.entries ≡ new_book owner) → IfOk result (λ b. StandsForBook b.entries file → bytes b.disk ≡ file)
begun_stays bytes owner file items (Ok b) none stands new = λ h.
    let empty : stands_for file ≡ Ok [] = stands ∙ ap (λ (es : List Entry). Ok (records_of es)) none in
    let full : stands_for file ≡ Ok (records_of (new_book owner)) = h ∙ ap (λ (es : List Entry). Ok (records_of es)) new in
    absurd (cc)
begun_stays bytes owner file items (Err r) none stands new = tt
