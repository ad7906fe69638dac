-- The file of a journal after whose last gate a record was written, and what it stands for.
use Rattle.std.proofs.Common.{◌≡◌, ◌≢◌, inl, inr, ⊎_elim, ℕ, ◌+◌, ◌-◌, ◌<◌, ◌≤◌, ◌^◌, List, [], ◌∷◌, ◌++◌, length, get_or, take, drop, arith, refl, sym, ◌∙◌, ap, slice_range, Ok, Some, length-append, append_assoc}
use Rattle.std.proofs.lemmas.Bool.{cases_eq}
use Rattle.std.proofs.lemmas.List.{take_at, drop_at, get_or_at, length-take-le}
use Rattle.std.proofs.lemmas.Nat.{from_be_bytes-to_be_bytes_4}
use Rattle.std.specs.Int.{w32, from_be_bytes, to_be_bytes}
use Rattle.uss_disk.specs.Disk.{written, Torn}
use Rattle.uss_disk.specs.Left.{Torn-written}
use Rattle.uss_journal.specs.Format.{next_gate, stands_for}
use Rattle.uss_journal.specs.Gates.{records_between, Gated}
use Rattle.uss_journal.specs.Journal.{WithOrWithout, staged_of, IsStaged}
use Rattle.uss_journal.proofs.Bytes.{Agree, agree_less, same_range}
use Rattle.uss_journal.proofs.Stands.{stands_agree, stands_gated, gated_more, records_with}

-- four parts, the last but one of which is a closed gate
module _ (front head entry rest : List ℕ) (gate n : ℕ) (front_length : length front ≡ gate + 1) (head_length : length head ≡ 4) (entry_length : length entry ≡ n) where
  abbrev pub parts : List ℕ
  parts = front ++ (head ++ entry ++ 0 ∷ []) ++ rest

  regroup : parts ≡ front ++ (head ++ (entry ++ 0 ∷ rest))
  regroup = simp append_assoc

  pub parts_head : slice_range parts (gate + 1) (gate + 5) ≡ head
  parts_head =
      let four : gate + 5 - (gate + 1) ≡ 4 = omega arith in
      ap (λ (w : List ℕ). take (gate + 5 - (gate + 1)) (drop (gate + 1) w)) regroup
      ∙ ap (λ (w : List ℕ). take (gate + 5 - (gate + 1)) w) (drop_at front (head ++ (entry ++ 0 ∷ rest)) (gate + 1) front_length)
      ∙ take_at head (entry ++ 0 ∷ rest) (gate + 5 - (gate + 1)) (head_length ∙ sym four)

  regroup-entry : parts ≡ (front ++ head) ++ (entry ++ 0 ∷ rest)
  regroup-entry = simp append_assoc

  pub parts_entry : slice_range parts (gate + 5) (gate + 5 + n) ≡ entry
  parts_entry =
      let size : gate + 5 + n - (gate + 5) ≡ n = omega arith in
      ap (λ (w : List ℕ). take (gate + 5 + n - (gate + 5)) (drop (gate + 5) w)) regroup-entry
      ∙ ap (λ (w : List ℕ). take (gate + 5 + n - (gate + 5)) w) (drop_at (front ++ head) (entry ++ 0 ∷ rest) (gate + 5) (omega (arith, length-append front head, front_length, head_length)))
      ∙ take_at entry (0 ∷ rest) (gate + 5 + n - (gate + 5)) (entry_length ∙ sym size)

  regroup-gate : parts ≡ (front ++ head ++ entry) ++ 0 ∷ rest
  regroup-gate = simp append_assoc

  pub parts_gate : get_or parts (gate + 5 + n) 0 ≡ 0
  parts_gate =
      ap (λ (w : List ℕ). get_or w (gate + 5 + n) 0) regroup-gate
      ∙ get_or_at (front ++ head ++ entry) 0 rest 0 (gate + 5 + n) (omega (arith, length-append (front ++ head) entry, length-append front head, front_length, head_length, entry_length))

  pub parts_low : gate + 5 + n < length parts
  parts_low = omega (arith, ap length regroup-gate, length-append (front ++ head ++ entry) (0 ∷ rest), length-append (front ++ head) entry, length-append front head, front_length, head_length, entry_length)

module _ (file gates : List ℕ) (gate : ℕ) (gated : Gated file gates gate) (inside : gate < length file) (entry : List ℕ) (small : length entry < 2 ^ 32) where
  abbrev more : ℕ
  more = gate + 5 + length entry

  abbrev whole : List ℕ
  whole = written (gate + 1) (staged_of entry) file

  abbrev rest : List ℕ
  rest = drop (gate + 1 + length (staged_of entry)) file

  front_length : length (take (gate + 1) file) ≡ gate + 1
  front_length = length-take-le (gate + 1) file (omega arith)

  whole_head : slice_range whole (gate + 1) (gate + 5) ≡ to_be_bytes w32 (length entry)
  whole_head = parts_head (take (gate + 1) file) (to_be_bytes w32 (length entry)) entry rest gate (length entry) front_length refl refl

  whole_entry : slice_range whole (gate + 5) more ≡ entry
  whole_entry = parts_entry (take (gate + 1) file) (to_be_bytes w32 (length entry)) entry rest gate (length entry) front_length refl refl

  whole_gate : get_or whole more 0 ≡ 0
  whole_gate = parts_gate (take (gate + 1) file) (to_be_bytes w32 (length entry)) entry rest gate (length entry) front_length refl refl

  whole_low : more < length whole
  whole_low = parts_low (take (gate + 1) file) (to_be_bytes w32 (length entry)) entry rest gate (length entry) front_length refl refl

  -- the first gates stay
  whole_agree : Agree (gate + 1) file whole
  whole_agree =
      let torn = Torn-written (gate + 1) (staged_of entry) file in
      record { in_first = omega arith; in_second = omega (arith, whole_low); same = λ k low. torn.before k low (omega arith) }

  torn_agree : (image : List ℕ) (n : ℕ) → Torn (gate + 1) n file image → Agree (gate + 1) file image
  torn_agree image n torn = record { in_first = omega arith; in_second = omega (arith, torn.no_shorter); same = λ k low. torn.before k low (omega arith) }

  -- an image of the first write
  pub stands_behind : (image : List ℕ) (n : ℕ) → Torn (gate + 1) n file image → stands_for image ≡ Ok (records_between file 8 gates)
  stands_behind image n torn =
      let agree = torn_agree image n torn in
      stands_agree file gates gate gated image (agree_less (gate + 1) file image agree gate (omega arith)) (omega (arith, agree.in_second)) (agree.same gate (omega arith) ∙ gated.closed)

  -- a file that is the whole record's but for the last gate
  module _ (image : List ℕ) (torn : Torn gate 1 whole image) where
    below : Agree gate file image
    below = record {
      in_first = omega arith;
      in_second = omega (arith, torn.no_shorter, whole_low);
      same = λ k low. torn.before k low (omega (arith, whole_low)) ∙ whole_agree.same k (omega arith);
    }

    image_low : more < length image
    image_low = omega (arith, whole_low, torn.no_shorter)

    above : (k : ℕ) → gate + 1 ≤ k → k < length whole → get_or image k 0 ≡ get_or whole k 0
    above k high low = torn.behind k high low

    range_above : (i j : ℕ) → gate + 1 ≤ i → j ≤ length whole → slice_range image i j ≡ slice_range whole i j
    range_above i j high low = same_range whole image i j low (omega (arith, torn.no_shorter)) (λ k from to. above k (omega arith) (omega arith))

    image_next : more ≡ next_gate image gate
    image_next =
        ap (λ (n : ℕ). gate + 5 + n) (sym (from_be_bytes-to_be_bytes_4 (length entry) small))
        ∙ ap (λ (bytes : List ℕ). gate + 5 + from_be_bytes w32 bytes) (sym (range_above (gate + 1) (gate + 5) (omega arith) (omega (arith, whole_low)) ∙ whole_head))

    image_gate : get_or image more 0 ≡ 0
    image_gate = above more (omega arith) whole_low ∙ whole_gate

    image_entry : slice_range image (gate + 5) more ≡ entry
    image_entry = range_above (gate + 5) more (omega arith) (omega (arith, whole_low)) ∙ whole_entry

    pub gated_opened : get_or image gate 0 ≢ 0 → Gated image (gates ++ more ∷ []) more
    gated_opened is_open = gated_more file gates gate gated image below (omega (arith, image_low)) more is_open image_next image_low image_gate

    pub records_opened : get_or image gate 0 ≢ 0 → records_between image 8 (gates ++ more ∷ []) ≡ records_between file 8 gates ++ entry ∷ []
    records_opened is_open =
        records_with file gates gate gated image below (omega (arith, image_low)) more is_open image_next image_low image_gate
        ∙ ap (λ (e : List ℕ). records_between file 8 gates ++ e ∷ []) image_entry

    stands_opened : WithOrWithout (records_between file 8 gates) (Some entry) image
    stands_opened = ⊎_elim
        (λ shut. inl (stands_agree file gates gate gated image below (omega (arith, image_low)) shut))
        (λ is_open. inr (stands_gated image (gates ++ more ∷ []) more (gated_opened is_open) ∙ ap (λ (rs : List (List ℕ)). Ok rs) (records_opened is_open)))
        (cases_eq (get_or image gate 0) 0)

  pub stands_staged : (image : List ℕ) → IsStaged gate (staged_of entry) file image → WithOrWithout (records_between file 8 gates) (Some entry) image
  stands_staged image staged = ⊎_elim (λ torn. inl (stands_behind image (length (staged_of entry)) torn)) (λ torn. stands_opened image torn) staged
