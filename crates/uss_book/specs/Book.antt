-- What a book over a journal is seen as, and what a file says of it. This project's own.
use Rattle.std.specs.Prelude.{◌≡◌, ◌⊎◌, ℕ, ◌<◌, List, [], ◌∷◌, ◌++◌, length, map, take, slice_get, Option, Some, IsSomeAnd, Ok}
use Rattle.uss_event.specs.declared.entries.Owner.{Owner}
use Rattle.uss_event.specs.declared.entries.Entry.{Entry}
use Rattle.uss_event.specs.declared.entries.Entry.TheVariants as Enters
use Rattle.uss_journal.specs.Format.{stands_for}
use Rattle.uss_law_book.specs.Lists.{owner_of}
use Rattle.uss_law_book.specs.Legal.{MayFollow, IsLegal}
use Rattle.uss_book_codec.specs.Coding.{coding_of}

-- a book: its disk; its entries, the oldest first; where it is spent, its disk's count of faults when it last answered a fault; the
-- entry that it had tried to enter when it answered a fault, if it had tried one; and the records that a remount found which was
-- refused, unless an entry was tried or its disk was read again since
pub record BookView (D : Type 0) : Type 0 where
  pub disk : D
  pub entries : List Entry
  pub spent : Option ℕ
  pub tried : Option Entry
  pub found : Option (List (List ℕ))

-- the records of a book
abbrev pub records_of : List Entry → List (List ℕ)
records_of entries = map coding_of entries

-- the file stands for these entries
abbrev pub StandsForBook : List Entry → List ℕ → Type 0
StandsForBook entries file = stands_for file ≡ Ok (records_of entries)

-- the file stands for these entries, or for these with the one that was tried
abbrev pub BookWithOrWithout : List Entry → Option Entry → List ℕ → Type 0
BookWithOrWithout entries tried file = StandsForBook entries file ⊎ IsSomeAnd tried (λ e. StandsForBook (entries ++ e ∷ []) file)

-- the book of a new journal: it says whose it is
abbrev pub new_book : Owner → List Entry
new_book owner = Enters.Owner owner ∷ []

-- what a mount finds in a file: the entries that it stands for, or a new book where it stands for none
abbrev pub IsFound : Owner → List ℕ → List Entry → Type 0
IsFound owner file entries = StandsForBook entries file ⊎ ((stands_for file ≡ Ok []) × (entries ≡ new_book owner))

-- what a crash within a mount may leave: what could be left before it, what stands for the same as the file, or, where that stands for
-- no record, the new book
abbrev pub MountLeaves : (may_leave : List ℕ → Type 0) (owner : Owner) (file image : List ℕ) → Type 0
MountLeaves may_leave owner file image = may_leave image ⊎ (stands_for image ≡ stands_for file) ⊎ ((stands_for file ≡ Ok []) × StandsForBook (new_book owner) image)

-- the record with number n is the first that isn't the coding of an entry that may follow those before it
pub record IsBadEntry (records : List (List ℕ)) (n : ℕ) : Type 0 where
  pub within : n < length records
  pub before : List Entry
  pub legal : IsLegal before
  pub front : records_of before ≡ take n records
  pub bad : (e : Entry) → MayFollow before e → slice_get records n ≡ Some (coding_of e) → ⊥

-- the records are those of a legal book of another owner
pub record IsOtherOwner (owner kept : Owner) (records : List (List ℕ)) : Type 0 where
  pub entries : List Entry
  pub legal : IsLegal entries
  pub found : records_of entries ≡ records
  pub is : owner_of entries ≡ Some kept
  pub other : kept ≡ owner → ⊥

-- the record with number n is the first that isn't that of the known entry with this number, or isn't there
pub record IsChanged (known : List Entry) (n : ℕ) (records : List (List ℕ)) : Type 0 where
  pub within : n < length known
  pub front : take n records ≡ take n (records_of known)
  pub changed : slice_get records n ≡ slice_get (records_of known) n → ⊥
