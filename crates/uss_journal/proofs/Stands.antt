-- What the file of a journal stands for while a record is appended.
use Rattle.std.proofs.Common.{◌≡◌, ◌≢◌, inl, inr, ℕ, ◌+◌, ◌<◌, ◌≤◌, Bool, List, [], ◌∷◌, ◌++◌, length, get_or, take, drop, arith, refl, sym, subst, ◌∙◌, ap, slice_range, Ok, Err, Option, Some, None, cond, length-take, get_or-take, eqb, eq-eqb}
use Rattle.std.proofs.lemmas.Bool.{le-leb, lt-leb}
use Rattle.std.proofs.lemmas.Bool.Decides.{leb_tells}
use Rattle.std.proofs.lemmas.List.{drop_more, length-take-le}
use Rattle.uss_journal.specs.Format.{mark, next_gate, reached, first_difference, unless_differs, stands_for}
use Rattle.uss_journal.specs.Gates.{Reaches, last_gate, records_between, Gated, Leads}
use Rattle.uss_journal.specs.Refusal.{RefusedBy, PastTheEnd}
use Rattle.uss_journal.specs.declared.refusal.JournalRefusal.{JournalRefusal}
use Rattle.uss_journal.specs.declared.refusal.JournalRefusal.TheVariants.{DiskFault, JournalFull, NotAJournal, Spent, Memory}
use Rattle.uss_journal.proofs.Bytes.{Agree, agree_less, agree_take}
use Rattle.uss_journal.proofs.Chain.{last_is_later, last_in_file, reached_is, reaches_agree, records_agree, reaches_more, last_more, records_more, reached_past}

pub same_front : (wanted bytes : List ℕ) (n : ℕ) → take (length wanted) bytes ≡ wanted → first_difference n wanted bytes ≡ None
same_front [] bytes n same = refl
same_front (w ∷ wanted) [] n same = absurd (omega (arith, ap length same))
same_front (w ∷ wanted) (b ∷ bytes) n same =
    let first : b ≡ w = cc in
    let rest : take (length wanted) bytes ≡ wanted = cc in
    ap (λ (t : Bool). cond t (first_difference (n + 1) wanted bytes) (Some n)) (eq-eqb b w first) ∙ same_front wanted bytes (n + 1) rest

none_reached : (file gates : List ℕ) → Reaches file 8 gates → length file ≤ 9 → records_between file 8 gates ≡ []
none_reached file [] r short = refl
none_reached file (next ∷ gates) r short = absurd (omega (arith, last_is_later file 8 (next ∷ gates) r, last_in_file file 8 (next ∷ gates) r))

-- a file that begins with the mark, and whose gates lead to a closed one
pub stands_reached : (file gates : List ℕ) → take 8 file ≡ mark → Reaches file 8 gates → get_or file (last_gate 8 gates) 0 ≡ 0 → stands_for file ≡ Ok (records_between file 8 gates)
stands_reached file gates marked r closed = elim (leb_tells (length file) 9) [
  | inl short ↦
      ap (λ (t : Bool). cond t (Ok []) (unless_differs (first_difference 0 mark file) (reached (length file) file 8))) short.0
      ∙ ap (λ (rs : List (List ℕ)). Ok rs) (sym (none_reached file gates r short.1))
  | inr long ↦
      ap (λ (t : Bool). cond t (Ok []) (unless_differs (first_difference 0 mark file) (reached (length file) file 8))) long.0
      ∙ ap (λ (d : Option ℕ). unless_differs d (reached (length file) file 8)) (same_front mark file 0 marked)
      ∙ reached_is file gates 8 (length file) r closed (omega (arith, last_is_later file 8 gates r, last_in_file file 8 gates r))
]

-- a file of at most nine bytes
pub stands_short : (file : List ℕ) → length file ≤ 9 → stands_for file ≡ Ok []
stands_short file short = ap (λ (t : Bool). cond t (Ok []) (unless_differs (first_difference 0 mark file) (reached (length file) file 8))) (le-leb (length file) 9 short)

module _ (file gates : List ℕ) (gate : ℕ) (gated : Gated file gates gate) where
  pub gate_low : 8 ≤ gate
  gate_low = omega (arith, gated.is_last, last_is_later file 8 gates gated.reaches)

  pub gate_inside : gate < length file
  gate_inside = omega (arith, gated.is_last, last_in_file file 8 gates gated.reaches)

  pub stands_gated : stands_for file ≡ Ok (records_between file 8 gates)
  stands_gated = stands_reached file gates gated.marked gated.reaches (ap (λ (n : ℕ). get_or file n 0) (sym gated.is_last) ∙ gated.closed)

  -- another file that agrees below the last gate, where that gate is closed too
  module _ (other : List ℕ) (agree : Agree gate file other) (inside : gate < length other) where
    other_reaches : Reaches other 8 gates
    other_reaches =
        let last = gated.is_last in
        reaches_agree file other gates 8 gated.reaches (subst (λ (n : ℕ). Agree n file other) last agree) (omega (arith, inside, last))

    other_marked : take 8 other ≡ mark
    other_marked = agree_take 8 file other (agree_less gate file other agree 8 gate_low) ∙ gated.marked

    pub other_records : records_between other 8 gates ≡ records_between file 8 gates
    other_records = records_agree file other gates 8 gated.reaches (subst (λ (n : ℕ). Agree n file other) gated.is_last agree)

    pub gated_agree : get_or other gate 0 ≡ 0 → Gated other gates gate
    gated_agree closed = record { marked = other_marked; reaches = other_reaches; is_last = gated.is_last; closed = closed }

    pub stands_agree : get_or other gate 0 ≡ 0 → stands_for other ≡ Ok (records_between file 8 gates)
    stands_agree closed =
        stands_reached other gates other_marked other_reaches (ap (λ (n : ℕ). get_or other n 0) (sym gated.is_last) ∙ closed)
        ∙ ap (λ (rs : List (List ℕ)). Ok rs) other_records

    -- and one where it is open, and a whole record with a closed gate stands after it
    module _ (more : ℕ) (is_open : get_or other gate 0 ≢ 0) (is_next : more ≡ next_gate other gate) (low : more < length other) (closed : get_or other more 0 ≡ 0) where
      more_reaches : Reaches other 8 (gates ++ more ∷ [])
      more_reaches =
          let last = gated.is_last in
          reaches_more other more gates 8 other_reaches (λ shut. is_open (ap (λ (n : ℕ). get_or other n 0) last ∙ shut)) (is_next ∙ ap (λ (n : ℕ). next_gate other n) last) low

      pub gated_more : Gated other (gates ++ more ∷ []) more
      gated_more = record { marked = other_marked; reaches = more_reaches; is_last = sym (last_more other more gates 8); closed = closed }

      pub records_with : records_between other 8 (gates ++ more ∷ []) ≡ records_between file 8 gates ++ slice_range other (gate + 5) more ∷ []
      records_with =
          records_more other more gates 8
          ∙ ap (λ (rs : List (List ℕ)). rs ++ slice_range other (last_gate 8 gates + 5) more ∷ []) other_records
          ∙ ap (λ (n : ℕ). records_between file 8 gates ++ slice_range other (n + 5) more ∷ []) (sym gated.is_last)

-- one byte of the mark more
pub first_difference_more : (bytes : List ℕ) (i : ℕ) → i < 8 → i < length bytes
    → first_difference i (drop i mark) (drop i bytes) ≡ cond (eqb (get_or bytes i 0) (get_or mark i 0)) (first_difference (i + 1) (drop (i + 1) mark) (drop (i + 1) bytes)) (Some i)
first_difference_more bytes i low inside =
    ap (λ (w : List ℕ). first_difference i w (drop i bytes)) (drop_more mark i 0 low)
    ∙ ap (λ (b : List ℕ). first_difference i (get_or mark i 0 ∷ drop (i + 1) mark) b) (drop_more bytes i 0 inside)

-- the gates that were followed in the start of a file are gates of the file
pub front_agrees : (a b : List ℕ) → take (length a) b ≡ a → Agree (length a) a b
front_agrees a b front = record {
  in_first = omega arith;
  in_second = omega (arith, length-take (length a) b, ap length front);
  same = λ k low. sym (get_or-take (length a) b k 0 low) ∙ ap (λ (l : List ℕ). get_or l k 0) front;
}

module _ (a b gates : List ℕ) (gate : ℕ) (leads : Leads a gates gate) (front : take (length a) b ≡ a) where
  agree : Agree (length a) a b
  agree = front_agrees a b front

  leads_low : gate < length a
  leads_low = omega (arith, leads.is_last, last_in_file a 8 gates leads.reaches)

  leads_high : 8 ≤ gate
  leads_high = omega (arith, leads.is_last, last_is_later a 8 gates leads.reaches)

  pub leads_agree : Leads b gates gate
  leads_agree = record {
    marked = agree_take 8 a b (agree_less (length a) a b agree 8 (omega (arith, leads_low, leads_high))) ∙ leads.marked;
    reaches = reaches_agree a b gates 8 leads.reaches
        (agree_less (length a) a b agree (last_gate 8 gates) (omega (arith, leads_low, leads.is_last)))
        (omega (arith, leads_low, leads.is_last, agree.in_second));
    is_last = leads.is_last;
  }

  same_gate : get_or b gate 0 ≡ get_or a gate 0
  same_gate = agree.same gate leads_low

  pub leads_more : (more : ℕ) → get_or a gate 0 ≢ 0 → more ≡ next_gate b gate → more < length b → Leads b (gates ++ more ∷ []) more
  leads_more more is_open is_next low = record {
    marked = leads_agree.marked;
    reaches = reaches_more b more gates 8 leads_agree.reaches
        (λ shut. is_open (sym same_gate ∙ ap (λ (n : ℕ). get_or b n 0) leads.is_last ∙ shut))
        (is_next ∙ ap (λ (n : ℕ). next_gate b n) leads.is_last)
        low;
    is_last = sym (last_more b more gates 8);
  }

  pub stands_past : get_or a gate 0 ≢ 0 → 9 < length b → length b ≤ next_gate b gate → stands_for b ≡ Err gate
  stands_past is_open long past =
      let last = leads.is_last in
      ap (λ (t : Bool). cond t (Ok []) (unless_differs (first_difference 0 mark b) (reached (length b) b 8))) (lt-leb (length b) 9 long)
      ∙ ap (λ (d : Option ℕ). unless_differs d (reached (length b) b 8)) (same_front mark b 0 leads_agree.marked)
      ∙ reached_past b gates 8 (length b) leads_agree.reaches
      (λ shut. is_open (sym same_gate ∙ ap (λ (n : ℕ). get_or b n 0) last ∙ shut))
      (subst (λ (n : ℕ). length b ≤ next_gate b n) last past)
      (omega (arith, last_is_later b 8 gates leads_agree.reaches, last_in_file b 8 gates leads_agree.reaches))
      ∙ ap (λ (n : ℕ). Err n) (sym last)

pub refused_past : (a b gates : List ℕ) (gate : ℕ) → Leads a gates gate → take (length a) b ≡ a → get_or a gate 0 ≢ 0 → 9 < length b → (refusal : JournalRefusal) → PastTheEnd b gate refusal → RefusedBy b refusal
refused_past a b gates gate leads front is_open long (NotAJournal place) past =
    stands_past a b gates gate leads front is_open long past.1 ∙ ap (λ (n : ℕ). Err n) (sym past.0)
refused_past a b gates gate leads front is_open long DiskFault past = tt
refused_past a b gates gate leads front is_open long Memory past = tt
refused_past a b gates gate leads front is_open long JournalFull past = tt
refused_past a b gates gate leads front is_open long (Spent count) past = tt

pub leads_inside : (file gates : List ℕ) (gate : ℕ) → Leads file gates gate → gate < length file
leads_inside file gates gate leads = omega (arith, leads.is_last, last_in_file file 8 gates leads.reaches)

-- the bytes up to a closed gate are enough
pub gated_cut : (file gates : List ℕ) (gate : ℕ) → Leads file gates gate → get_or file gate 0 ≡ 0 → Gated (take (gate + 1) file) gates gate
gated_cut file gates gate leads closed =
    let inside = leads_inside file gates gate leads in
    let size : length (take (gate + 1) file) ≡ gate + 1 = length-take-le (gate + 1) file (omega arith) in
    let high : 8 ≤ gate = omega (arith, leads.is_last, last_is_later file 8 gates leads.reaches) in
    let agree : Agree (gate + 1) file (take (gate + 1) file) = record { in_first = omega arith; in_second = omega arith; same = λ k low. get_or-take (gate + 1) file k 0 low } in
    record {
      marked = agree_take 8 file (take (gate + 1) file) (agree_less (gate + 1) file (take (gate + 1) file) agree 8 (omega arith)) ∙ leads.marked;
      reaches = reaches_agree file (take (gate + 1) file) gates 8 leads.reaches
          (agree_less (gate + 1) file (take (gate + 1) file) agree (last_gate 8 gates) (omega (arith, leads.is_last)))
          (omega (arith, leads.is_last, size));
      is_last = leads.is_last;
      closed = agree.same gate (omega arith) ∙ closed;
    }

-- a file that begins with the bytes up to a closed gate stands for the records before it
pub stands_front : (known file gates : List ℕ) (gate : ℕ) → Gated known gates gate → take (length known) file ≡ known → stands_for file ≡ Ok (records_between known 8 gates)
stands_front known file gates gate gated front =
    let agree = front_agrees known file front in
    let inside = gate_inside known gates gate gated in
    stands_agree known gates gate gated file (agree_less (length known) known file agree gate (omega (arith, inside))) (omega (arith, inside, agree.in_second)) (agree.same gate inside ∙ gated.closed)
