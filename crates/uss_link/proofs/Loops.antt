-- What the loops over a source and a sink keep, and how one call goes on from it.
use Rattle.std.proofs.Common.{◌≡◌, ℕ, ◌+◌, ◌<◌, ◌≤◌, ◌++◌, List, [], length, take, drop, Option, Some, Ok, refl, sym, ◌∙◌, ap, arith, append_assoc, append-nil, length-append, length-take, length-drop}
use Rattle.std.proofs.Math.Seq.{take-add, take-nil, drop-nil}
use Rattle.std.proofs.lemmas.List.{take-append-drop}
use Rattle.uss_link.specs.Bytes.{Writes, Appended}

-- a sink that had taken some bytes before has taken the first n of these since
pub record Took (before now : Option (List ℕ)) (bytes : List ℕ) (n : ℕ) : Type 0 where
  pub told : (taken : List ℕ) → before ≡ Some taken → now ≡ Some (taken ++ take n bytes)

-- a source gave these bytes since, and the rest is left
pub record Parts (left : List ℕ) (now : Option (List ℕ)) (bytes : List ℕ) : Type 0 where
  pub rest : List ℕ
  pub is_left : now ≡ Some rest
  pub parts : left ≡ bytes ++ rest

pub record Gave (before now : Option (List ℕ)) (bytes : List ℕ) : Type 0 where
  pub told : (left : List ℕ) → before ≡ Some left → Parts left now bytes

-- what one more read does
pub record ReadOn (now after : Option (List ℕ)) (bytes more : List ℕ) (n : ℕ) : Type 0 where
  pub told : (left : List ℕ) → now ≡ Some left → Appended left after bytes more n

pub gave_none : (now : Option (List ℕ)) → Gave now now []
gave_none now = record { told = λ left is. record { rest = left; is_left = is; parts = refl } }

-- one more write goes on from the bytes taken so far
pub took_more : {E : Type 0} (before now after : Option (List ℕ)) (bytes piece : List ℕ) (n k : ℕ) → Took before now bytes n → piece ≡ drop n bytes → Writes {E = E} now after piece (Ok k) → Took before after bytes (n + k)
took_more before now after bytes piece n k took is_piece write =
    record { told = λ taken is. write.told (taken ++ take n bytes) (took.told taken is) ∙ ap Some (append_assoc taken (take n bytes) (take k piece) ∙ ap (λ (front : List ℕ). taken ++ front) (ap (λ (p : List ℕ). take n bytes ++ take k p) is_piece ∙ sym (take-add n k bytes))) }

-- one more read goes on from the bytes given so far
pub gave_more : (before now after : Option (List ℕ)) (bytes more : List ℕ) (n : ℕ) → Gave before now bytes → ReadOn now after bytes more n → Gave before after more
gave_more before now after bytes more n gave read =
    record {
      told = λ left is.
          let had = gave.told left is in
          let on = read.told had.rest had.is_left in
          record {
            rest = drop n had.rest;
            is_left = on.rest;
            parts = had.parts ∙ ap (λ (rest : List ℕ). bytes ++ rest) (sym (take-append-drop n had.rest)) ∙ sym (append_assoc bytes (take n had.rest) (drop n had.rest)) ∙ ap (λ (front : List ℕ). front ++ drop n had.rest) (sym on.bytes);
          };
    }

-- at the end of a source all that it had was given, and nothing is left
pub record GaveAll (left : List ℕ) (after : Option (List ℕ)) (more : List ℕ) : Type 0 where
  pub bytes : more ≡ left
  pub none : after ≡ Some []

pub gave_all : (before now after : Option (List ℕ)) (bytes more : List ℕ) (n : ℕ) → Gave before now bytes → ReadOn now after bytes more n → n ≡ 0 → (left : List ℕ) → before ≡ Some left → GaveAll left after more
gave_all before now after bytes more n gave read zero_read left is =
    let had = gave.told left is in
    let on = read.told had.rest had.is_left in
    let nothing : had.rest ≡ [] = on.ended zero_read in
    record {
      bytes = on.bytes ∙ ap (λ (rest : List ℕ). bytes ++ take n rest) nothing ∙ ap (λ (rest : List ℕ). bytes ++ rest) (take-nil n) ∙ append-nil bytes ∙ sym (had.parts ∙ ap (λ (rest : List ℕ). bytes ++ rest) nothing ∙ append-nil bytes);
      none = on.rest ∙ ap Some (ap (λ (rest : List ℕ). drop n rest) nothing ∙ drop-nil n);
    }

-- what was given is no more than there was
pub gave_some : (before now : Option (List ℕ)) (bytes : List ℕ) (limit : ℕ) → Gave before now bytes → limit < length bytes → (left : List ℕ) → before ≡ Some left → limit < length left
gave_some before now bytes limit gave much left is =
    let had = gave.told left is in
    omega (arith, length-append bytes had.rest, ap length had.parts)

-- what is left is what there was but for what was given
pub gave_at_most : (before now : Option (List ℕ)) (bytes : List ℕ) (limit more : ℕ) → Gave before now bytes → length bytes ≤ limit + more → (left : List ℕ) → before ≡ Some left
    → (rest : List ℕ) × (now ≡ Some rest) × (length left ≤ length rest + limit + more)
gave_at_most before now bytes limit more gave few left is =
    let had = gave.told left is in
    (had.rest, had.is_left, omega (arith, length-append bytes had.rest, ap length had.parts, few))

-- a buffer that was written over keeps its length
pub room_stays : (n : ℕ) (front items : List ℕ) → n ≡ length items → length front ≡ n → length (take n (front ++ drop (length front) items)) ≡ length items
room_stays n front items is_len is_front = simp (length-take, length-append, length-drop) (omega (arith, is_len, is_front))
