-- A file that was written record by record stands for those records.
use Rattle.std.proofs.Common.{◌≡◌, ◌≢◌, ℕ, zero, suc, ◌+◌, ◌-◌, ◌<◌, ◌≤◌, ◌^◌, Bool, List, [], ◌∷◌, ◌++◌, length, get_or, take, drop, arith, refl, sym, ◌∙◌, ap, slice_range, inl, inr, Option, Ok, Err, cond, ltb, eq-eqb, length-append, append_assoc, All}
use Rattle.std.proofs.lemmas.Bool.{lt-leb}
use Rattle.std.proofs.lemmas.Bool.Decides.{leb_tells}
use Rattle.std.proofs.lemmas.List.{take_at, drop_at, get_or_at}
use Rattle.std.proofs.lemmas.Nat.{from_be_bytes-to_be_bytes_4}
use Rattle.std.specs.Int.{w32, from_be_bytes, to_be_bytes}
use Rattle.uss_journal.specs.Format.{mark, next_gate, record_at, with_first, reached, first_difference, unless_differs, stands_for, blocks, journal_of}
use Rattle.uss_journal.proofs.Chain.{step_open}
use Rattle.uss_journal.proofs.Stands.{same_front}

module _ (front head entry tail : List ℕ) (gate n : ℕ) (front_length : length front ≡ gate + 1) (head_length : length head ≡ 4) (entry_length : length entry ≡ n) where
  head_at : slice_range (front ++ (head ++ (entry ++ tail))) (gate + 1) (gate + 5) ≡ head
  head_at =
      let four : gate + 5 - (gate + 1) ≡ 4 = omega arith in
      ap (λ (w : List ℕ). take (gate + 5 - (gate + 1)) w) (drop_at front (head ++ (entry ++ tail)) (gate + 1) front_length) ∙ take_at head (entry ++ tail) (gate + 5 - (gate + 1)) (head_length ∙ sym four)

  entry_at : slice_range (front ++ (head ++ (entry ++ tail))) (gate + 5) (gate + 5 + n) ≡ entry
  entry_at =
      let size : gate + 5 + n - (gate + 5) ≡ n = omega arith in
      ap (λ (w : List ℕ). take (gate + 5 + n - (gate + 5)) (drop (gate + 5) w)) (sym (append_assoc front head (entry ++ tail)))
      ∙ ap (λ (w : List ℕ). take (gate + 5 + n - (gate + 5)) w) (drop_at (front ++ head) (entry ++ tail) (gate + 5) (omega (arith, length-append front head, front_length, head_length)))
      ∙ take_at entry tail (gate + 5 + n - (gate + 5)) (entry_length ∙ sym size)

-- the records after some bytes
reached_blocks : (records : List (List ℕ)) (front rest : List ℕ) (gate steps : ℕ) → length front ≡ gate → All (λ r. length r < 2 ^ 32) records → length records < steps
    → reached steps (front ++ (blocks records ++ 0 ∷ rest)) gate ≡ Ok records
reached_blocks records front rest gate zero size small enough = absurd (omega arith)
reached_blocks [] front rest gate (suc steps) size small enough =
    let file = front ++ 0 ∷ rest in
    ap (λ (b : Bool). cond b (Ok []) (cond (ltb (next_gate file gate) (length file)) (with_first (record_at file gate) (reached steps file (next_gate file gate))) (Err gate)))
    (eq-eqb (get_or file gate 0) 0 (get_or_at front 0 rest 0 gate size))
reached_blocks (r ∷ records) front rest gate (suc steps) size small enough =
    let head = to_be_bytes w32 (length r) in
    let tail = blocks records ++ 0 ∷ rest in
    let file = front ++ (blocks (r ∷ records) ++ 0 ∷ rest) in
    let next = gate + 5 + length r in
    let behind : file ≡ (front ++ 1 ∷ []) ++ (head ++ (r ++ tail)) = simp append_assoc in
    let front_size : length (front ++ 1 ∷ []) ≡ gate + 1 = omega (arith, length-append front (1 ∷ []), size) in
    let is_head : slice_range file (gate + 1) (gate + 5) ≡ head = ap (λ (f : List ℕ). slice_range f (gate + 1) (gate + 5)) behind ∙ head_at (front ++ 1 ∷ []) head r tail gate (length r) front_size refl refl in
    let is_entry : slice_range file (gate + 5) next ≡ r = ap (λ (f : List ℕ). slice_range f (gate + 5) next) behind ∙ entry_at (front ++ 1 ∷ []) head r tail gate (length r) front_size refl refl in
    let is_next : next ≡ next_gate file gate =
    ap (λ (n : ℕ). gate + 5 + n) (sym (from_be_bytes-to_be_bytes_4 (length r) (small 0 [] (omega arith)))) ∙ ap (λ (b : List ℕ). gate + 5 + from_be_bytes w32 b) (sym is_head) in
    let flat : file ≡ front ++ 1 ∷ (head ++ (r ++ tail)) = simp append_assoc in
    let one : get_or file gate 0 ≡ 1 = ap (λ (f : List ℕ). get_or f gate 0) flat ∙ get_or_at front 1 (head ++ (r ++ tail)) 0 gate size in
    let is_open : get_or file gate 0 ≢ 0 = λ shut. omega (arith, one, shut) in
    let more = front ++ (1 ∷ head ++ r) in
    let more_size : length more ≡ next = omega (arith, length-append front (1 ∷ head ++ r), length-append head r, size) in
    let regroup : file ≡ more ++ (blocks records ++ 0 ∷ rest) = simp append_assoc in
    let low : next < length file = omega (arith, ap length regroup, more_size, length-append more (blocks records ++ 0 ∷ rest), length-append (blocks records) (0 ∷ rest)) in
    let found : reached steps file next ≡ Ok records = ap (λ (f : List ℕ). reached steps f next) regroup ∙ reached_blocks records more rest next steps more_size (λ k d low. small (suc k) d (omega arith)) (omega arith) in
    step_open file gate steps next records is_open is_next low found ∙ ap (λ (e : List ℕ). Ok (e ∷ records)) is_entry

length-blocks : (records : List (List ℕ)) → length records ≤ length (blocks records)
length-blocks [] = omega arith
length-blocks (r ∷ records) = omega (arith, length-blocks records, length-append (1 ∷ to_be_bytes w32 (length r) ++ r) (blocks records))

-- a file of more than nine bytes
stands_long : (file : List ℕ) (records : List (List ℕ)) (rest : List ℕ) → file ≡ mark ++ (blocks records ++ 0 ∷ rest) → All (λ r. length r < 2 ^ 32) records → 9 < length file → stands_for file ≡ Ok records
stands_long file records rest is small long =
    let front : take 8 file ≡ mark = ap (λ (f : List ℕ). take 8 f) is ∙ take_at mark (blocks records ++ 0 ∷ rest) 8 refl in
    let enough : length records < length file = omega (arith, ap length is, length-append mark (blocks records ++ 0 ∷ rest), length-append (blocks records) (0 ∷ rest), length-blocks records) in
    ap (λ (t : Bool). cond t (Ok []) (unless_differs (first_difference 0 mark file) (reached (length file) file 8))) (lt-leb (length file) 9 long)
    ∙ ap (λ (d : Option ℕ). unless_differs d (reached (length file) file 8)) (same_front mark file 0 front)
    ∙ ap (λ (f : List ℕ). reached (length file) f 8) is
    ∙ reached_blocks records mark rest 8 (length file) refl small enough

-- the law, for a file that is one of those
stands_written : (file : List ℕ) (records : List (List ℕ)) (rest : List ℕ) → file ≡ mark ++ (blocks records ++ 0 ∷ rest) → All (λ r. length r < 2 ^ 32) records → stands_for file ≡ Ok records
stands_written file [] rest is small = elim (leb_tells (length file) 9) [
  | inl short ↦ ap (λ (t : Bool). cond t (Ok []) (unless_differs (first_difference 0 mark file) (reached (length file) file 8))) short.0
  | inr long ↦ stands_long file [] rest is small long.1
]
stands_written file (r ∷ records) rest is small =
    stands_long file (r ∷ records) rest is small
    (omega (arith, ap length is, length-append mark (blocks (r ∷ records) ++ 0 ∷ rest), length-append (blocks (r ∷ records)) (0 ∷ rest), length-append (1 ∷ to_be_bytes w32 (length r) ++ r) (blocks records)))

pub written_stands : (records : List (List ℕ)) (rest : List ℕ) → All (λ r. length r < 2 ^ 32) records → stands_for (journal_of records rest) ≡ Ok records
written_stands records rest small = stands_written (journal_of records rest) records rest refl small
