-- The gates of a journal, and what its file stands for by them.
use Rattle.std.proofs.Common.{◌≡◌, ◌≢◌, ℕ, zero, suc, ◌+◌, ◌*◌, ◌<◌, ◌≤◌, Bool, true, false, List, [], ◌∷◌, ◌++◌, length, get_or, arith, refl, sym, subst, ◌∙◌, ap, slice_range, Result, Ok, Err, Some, None, sum_by, cond, eqb, ltb, eq-eqb}
use Rattle.std.specs.Prelude.{slice_get}
use Rattle.std.specs.Int.{w32, from_be_bytes}
use Rattle.std.proofs.lemmas.Bool.{ne_eqb, lt-ltb, le-ltb}
use Rattle.std.proofs.lemmas.List.Edits.{length-between}
use Rattle.std.proofs.lemmas.List.Sums.{sum_by-cons}
use Rattle.uss_journal.specs.Format.{next_gate, record_at, with_first, reached}
use Rattle.uss_journal.specs.Gates.{Reaches, last_gate, records_between}
use Rattle.uss_journal.proofs.Bytes.{Agree, agree_range}

pub last_is_later : (file : List ℕ) (gate : ℕ) (gates : List ℕ) → Reaches file gate gates → gate + 5 * length gates ≤ last_gate gate gates
last_is_later file gate [] r = omega arith
last_is_later file gate (next ∷ gates) r = omega (arith, r.1, last_is_later file next gates r.2)

pub last_in_file : (file : List ℕ) (gate : ℕ) (gates : List ℕ) → Reaches file gate gates → last_gate gate gates < length file
last_in_file file gate [] r = r
last_in_file file gate (next ∷ gates) r = last_in_file file next gates r.2

-- one step of the definition, by the facts that its tests stand for
pub step_open : (file : List ℕ) (gate steps next : ℕ) (rest : List (List ℕ)) → get_or file gate 0 ≢ 0 → next ≡ next_gate file gate → next < length file → reached steps file next ≡ Ok rest
    → reached (suc steps) file gate ≡ Ok (slice_range file (gate + 5) next ∷ rest)
step_open file gate steps next rest is_open is_next low found =
    let shut : eqb (get_or file gate 0) 0 ≡ false = ne_eqb _ _ is_open in
    let inside : ltb (next_gate file gate) (length file) ≡ true = lt-ltb _ _ (subst (λ (n : ℕ). n < length file) is_next low) in
    let found' : reached steps file (next_gate file gate) ≡ Ok rest = subst (λ (n : ℕ). reached steps file n ≡ Ok rest) is_next found in
    ap (λ (b : Bool). cond b (Ok []) (cond (ltb (next_gate file gate) (length file)) (with_first (record_at file gate) (reached steps file (next_gate file gate))) (Err gate))) shut
    ∙ ap (λ (b : Bool). cond b (with_first (record_at file gate) (reached steps file (next_gate file gate))) (Err gate)) inside
    ∙ ap (λ (r : Result (List (List ℕ)) ℕ). with_first (record_at file gate) r) found'
    ∙ ap (λ (n : ℕ). Ok (slice_range file (gate + 5) n ∷ rest)) (sym is_next)

-- the records are those reached, where the last gate is closed
pub reached_is : (file : List ℕ) (gates : List ℕ) (gate steps : ℕ) → Reaches file gate gates → get_or file (last_gate gate gates) 0 ≡ 0 → length gates < steps
    → reached steps file gate ≡ Ok (records_between file gate gates)
reached_is file gates gate zero r closed enough = absurd (omega arith)
reached_is file [] gate (suc steps) r closed enough = ap (λ (b : Bool). cond b (Ok []) (cond (ltb (next_gate file gate) (length file)) (with_first (record_at file gate) (reached steps file (next_gate file gate))) (Err gate))) (eq-eqb (get_or file gate 0) 0 closed)
reached_is file (next ∷ gates) gate (suc steps) r closed enough =
    step_open file gate steps next (records_between file next gates) r.0 r.1
    (omega (arith, last_in_file file next gates r.2, last_is_later file next gates r.2))
    (reached_is file gates next steps r.2 closed (omega arith))

-- the same gates in a file that agrees below the last of them
module _ (a b : List ℕ) where
  pub reaches_agree : (gates : List ℕ) (gate : ℕ) → Reaches a gate gates → Agree (last_gate gate gates) a b → last_gate gate gates < length b → Reaches b gate gates
  reaches_agree [] gate r agree low = low
  reaches_agree (next ∷ gates) gate r agree low =
      let later = last_is_later a next gates r.2 in
      let below : gate + 5 ≤ last_gate next gates = omega (arith, r.1, later) in (
        λ shut. r.0 (sym (agree.same gate (omega (arith, below))) ∙ shut),
        r.1 ∙ ap (λ (bytes : List ℕ). gate + 5 + from_be_bytes w32 bytes) (sym (agree_range (last_gate next gates) a b agree (gate + 1) (gate + 5) below)),
        reaches_agree gates next r.2 agree low,
      )

  pub records_agree : (gates : List ℕ) (gate : ℕ) → Reaches a gate gates → Agree (last_gate gate gates) a b → records_between b gate gates ≡ records_between a gate gates
  records_agree [] gate r agree = refl
  records_agree (next ∷ gates) gate r agree =
      let later = last_is_later a next gates r.2 in
      ap (λ (first : List ℕ). first ∷ records_between b next gates) (agree_range (last_gate next gates) a b agree (gate + 5) next (omega (arith, later)))
      ∙ ap (λ (rest : List (List ℕ)). slice_range a (gate + 5) next ∷ rest) (records_agree gates next r.2 agree)

-- one gate more
module _ (file : List ℕ) (more : ℕ) where
  pub reaches_more : (gates : List ℕ) (gate : ℕ) → Reaches file gate gates → get_or file (last_gate gate gates) 0 ≢ 0 → more ≡ next_gate file (last_gate gate gates) → more < length file → Reaches file gate (gates ++ more ∷ [])
  reaches_more [] gate r is_open is_next low = (is_open, is_next, low)
  reaches_more (next ∷ gates) gate r is_open is_next low = (r.0, r.1, reaches_more gates next r.2 is_open is_next low)

  pub last_more : (gates : List ℕ) (gate : ℕ) → last_gate gate (gates ++ more ∷ []) ≡ more
  last_more [] gate = refl
  last_more (next ∷ gates) gate = last_more gates next

  pub records_more : (gates : List ℕ) (gate : ℕ) → records_between file gate (gates ++ more ∷ []) ≡ records_between file gate gates ++ slice_range file (last_gate gate gates + 5) more ∷ []
  records_more [] gate = refl
  records_more (next ∷ gates) gate = ap (λ (rest : List (List ℕ)). slice_range file (gate + 5) next ∷ rest) (records_more gates next)

  pub length_records : (gates : List ℕ) (gate : ℕ) → length (records_between file gate gates) ≡ length gates
  length_records [] gate = refl
  length_records (next ∷ gates) gate = ap suc (length_records gates next)

-- the record with a number stands between two gates
pub record Between (file gates : List ℕ) (gate n : ℕ) : Type 0 where
  pub start : get_or (gate ∷ gates) n 0 + 5 ≤ get_or gates n 0
  pub end : get_or gates n 0 < length file
  pub found : slice_get (records_between file gate gates) n ≡ Some (slice_range file (get_or (gate ∷ gates) n 0 + 5) (get_or gates n 0))

pub between_gates : (file gates : List ℕ) (gate n : ℕ) → Reaches file gate gates → n < length gates → Between file gates gate n
between_gates file [] gate n r low = absurd (omega arith)
between_gates file (next ∷ gates) gate zero r low = record { start = omega (arith, r.1); end = omega (arith, last_is_later file next gates r.2, last_in_file file next gates r.2); found = refl }
between_gates file (next ∷ gates) gate (suc n) r low = let b = between_gates file gates next n r.2 (omega arith) in record { start = b.start; end = b.end; found = b.found }

pub no_record : (file gates : List ℕ) (gate n : ℕ) → length gates ≤ n → slice_get (records_between file gate gates) n ≡ None
no_record file [] gate n past = refl
no_record file (next ∷ gates) gate zero past = absurd (omega arith)
no_record file (next ∷ gates) gate (suc n) past = no_record file gates next n (omega arith)

-- the bytes up to a gate are those of the records before it, and five for each
pub used_between : (file gates : List ℕ) (gate : ℕ) → Reaches file gate gates → gate + sum_by (λ (r : List ℕ). 5 + length r) (records_between file gate gates) ≡ last_gate gate gates
used_between file [] gate r = omega arith
used_between file (next ∷ gates) gate r =
    let low : next ≤ length file = omega (arith, last_is_later file next gates r.2, last_in_file file next gates r.2) in
    let size = length-between file (gate + 5) next low in
    let split = sum_by-cons (λ (r : List ℕ). 5 + length r) (slice_range file (gate + 5) next) (records_between file next gates) in
    omega (arith, used_between file gates next r.2, r.1, size, split)

-- the last gate is open, and its record runs past the end
pub reached_past : (file gates : List ℕ) (gate steps : ℕ) → Reaches file gate gates → get_or file (last_gate gate gates) 0 ≢ 0 → length file ≤ next_gate file (last_gate gate gates) → length gates < steps
    → reached steps file gate ≡ Err (last_gate gate gates)
reached_past file gates gate zero r is_open past enough = absurd (omega arith)
reached_past file [] gate (suc steps) r is_open past enough =
    let shut : eqb (get_or file gate 0) 0 ≡ false = ne_eqb _ _ is_open in
    let outside : ltb (next_gate file gate) (length file) ≡ false = le-ltb (next_gate file gate) (length file) past in
    ap (λ (b : Bool). cond b (Ok []) (cond (ltb (next_gate file gate) (length file)) (with_first (record_at file gate) (reached steps file (next_gate file gate))) (Err gate))) shut
    ∙ ap (λ (b : Bool). cond b (with_first (record_at file gate) (reached steps file (next_gate file gate))) (Err gate)) outside
reached_past file (next ∷ gates) gate (suc steps) r is_open past enough =
    let shut : eqb (get_or file gate 0) 0 ≡ false = ne_eqb _ _ r.0 in
    let low : next < length file = omega (arith, last_in_file file next gates r.2, last_is_later file next gates r.2) in
    let inside : ltb (next_gate file gate) (length file) ≡ true = lt-ltb _ _ (subst (λ (n : ℕ). n < length file) r.1 low) in
    let rest : reached steps file (next_gate file gate) ≡ Err (last_gate next gates) = subst (λ (n : ℕ). reached steps file n ≡ Err (last_gate next gates)) r.1 (reached_past file gates next steps r.2 is_open past (omega arith)) in
    ap (λ (b : Bool). cond b (Ok []) (cond (ltb (next_gate file gate) (length file)) (with_first (record_at file gate) (reached steps file (next_gate file gate))) (Err gate))) shut
    ∙ ap (λ (b : Bool). cond b (with_first (record_at file gate) (reached steps file (next_gate file gate))) (Err gate)) inside
    ∙ ap (λ (r : Result (List (List ℕ)) ℕ). with_first (record_at file gate) r) rest
