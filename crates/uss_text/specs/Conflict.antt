-- The script of `uss conflict`: each line is `a VOLUME` or `b VOLUME`. This project's own.
use Rattle.std.specs.Prelude.{ℕ, ◌+◌, List, [], ◌∷◌, ◌++◌, Result, Ok, Err, nat_lt, length, bytes_eq, codes, if◌then◌else◌}
use Rattle.uss_vol4.specs.Volume.{Volume4D}
use Rattle.uss_text.specs.declared.refusal.WordRefusal.{WordRefusal}
use Rattle.uss_text.specs.declared.refusal.WordRefusal.TheVariants.{BadLine}
use Rattle.uss_text.specs.declared.refusal.ScriptRefusal.{ScriptRefusal}
use Rattle.uss_text.specs.declared.refusal.ScriptRefusal.TheVariants.{TextTooLarge}
use Rattle.uss_text.specs.declared.conflict.Placed.{Placed}
use Rattle.uss_text.specs.declared.conflict.Side.{Side}
use Rattle.uss_text.specs.declared.conflict.Side.TheVariants.{A, B}
use Rattle.uss_text.specs.Lines.{most_bytes, lines_of, words_of}
use Rattle.uss_text.specs.Refusals.{at_line}
use Rattle.uss_text.specs.Reading.{◌>>=◌, read, Reader, word_at, end_at}
use Rattle.uss_text.specs.Volumes.{volume_at}

-- the list that the line adds to
abbrev pub side_of : List ℕ → Reader Side
side_of word ws = if bytes_eq word (codes "a") then Ok (read A ws)
    else (if bytes_eq word (codes "b") then Ok (read B ws) else Err BadLine)

unfoldable pub side_at : Reader Side
side_at ws = do
  word ← word_at ws
  side_of word.value word.rest

unfoldable pub conflict_line : List ℕ → Result Placed WordRefusal
conflict_line line = do
  side ← side_at (words_of line)
  volume ← volume_at side.rest
  _ ← end_at volume.rest
  Ok (record { side = side.value; volume = volume.value })

-- the two lists of volumes, in the order of the lines
pub record Lists : Type 0 where
  pub a : List Volume4D
  pub b : List Volume4D

abbrev pub lists : List Volume4D → List Volume4D → Lists
lists a b = record { a = a; b = b }

abbrev pub onto_side : Side → Volume4D → Lists → Lists
onto_side A v ls = lists (v ∷ ls.a) ls.b
onto_side B v ls = lists ls.a (v ∷ ls.b)

abbrev pub with_first : Placed → Lists → Lists
with_first placed ls = onto_side placed.side placed.volume ls

abbrev pub behind_side : Side → Volume4D → Lists → Lists
behind_side A v ls = lists (ls.a ++ v ∷ []) ls.b
behind_side B v ls = lists ls.a (ls.b ++ v ∷ [])

abbrev pub with_last : Lists → Placed → Lists
with_last ls placed = behind_side placed.side placed.volume ls

-- the lists of the lines after so many others, or the refusal of the first of them that is refused
unfoldable pub lists_behind : ℕ → List (List ℕ) → Result Lists ScriptRefusal
lists_behind n [] = Ok (lists [] [])
lists_behind n (line ∷ lines) = do
  placed ← at_line (n + 1) (conflict_line line)
  others ← lists_behind (n + 1) lines
  Ok (with_first placed others)

-- 64 MiB at the most
unfoldable pub conflict_script : List ℕ → Result Lists ScriptRefusal
conflict_script text = if nat_lt most_bytes (length text) then Err TextTooLarge else lists_behind 0 (lines_of text)
