-- What comes of judging a further record. This project's own.
use Rattle.std.specs.Prelude.{◌≡◌, ℕ, Bool, true, false, List, [], ◌∷◌, ◌++◌}
use Rattle.uss_event.specs.declared.entries.Entry.{Entry}
use Rattle.uss_law_book.specs.Legal.{MayFollow}
use Rattle.uss_book_codec.specs.Coding.{coding_of}

-- the record is the coding of an entry that may follow, and that is the last now
pub record IsFollowed (before : List Entry) (bytes : List ℕ) (after : List Entry) : Type 0 where
  pub entry : Entry
  pub follows : MayFollow before entry
  pub coding : bytes ≡ coding_of entry
  pub last : after ≡ before ++ entry ∷ []

-- whether it is
abbrev pub IsJudged : (before : List Entry) (bytes : List ℕ) (after : List Entry) → Bool → Type 0
IsJudged before bytes after true = IsFollowed before bytes after
IsJudged before bytes after false = (e : Entry) → MayFollow before e → bytes ≡ coding_of e → ⊥
