-- What a journal knows, and what its file stands for, after a record was tried or appended.
use Rattle.std.proofs.Common.{◌≡◌, ◌≢◌, inl, ⊎_elim, ℕ, ◌+◌, ◌-◌, ◌<◌, ◌≤◌, ◌^◌, Bool, List, [], ◌∷◌, ◌++◌, length, get_or, set, take, drop, arith, refl, sym, subst, ◌∙◌, ap, slice_range, Option, Some, None, Ok, cond, vec_len, length-append, length-set, get_or-set_same, get_or-set_other}
use Rattle.std.proofs.lemmas.Bool.{cases_eq, cases_lt, lt-ltb, le-ltb}
use Rattle.std.proofs.lemmas.List.{drop_at, take_all, drop_all, append-nil, get_or_append_left, get_or_at, length-take-le}
use Rattle.std.specs.Int.{w32, to_be_bytes}
use Rattle.uss_disk.specs.Disk.{bytes_of, written, Torn, Only, CrashLeaves}
use Rattle.uss_disk.specs.Crash.{crash_weaker}
use Rattle.uss_disk.specs.Left.{Torn-written}
use Rattle.uss_journal.specs.Format.{stands_for, used_of}
use Rattle.uss_journal.specs.Gates.{records_between, Gated, tried_of}
use Rattle.uss_journal.specs.Journal.{StandsFor, WithOrWithout, staged_of, IsStaged, with_appended}
use Rattle.uss_journal.specs.Sound.{IsSound, IsSynced}
use Rattle.uss_journal.specs.Known.{IsAccepted}
use Rattle.uss_journal.specs.declared.known.Known.{Known}
use Rattle.uss_journal.proofs.Bytes.{Agree, agree_less, agree_take}
use Rattle.uss_journal.proofs.Chain.{used_between}
use Rattle.uss_journal.proofs.Stands.{gated_agree, other_records, stands_front, front_agrees}
use Rattle.uss_journal.proofs.Behind.{stands_staged, gated_opened, records_opened, parts_entry}

-- the one byte that was written
written_at : (at byte : ℕ) (file : List ℕ) → at ≤ length file → get_or (written at (byte ∷ []) file) at 0 ≡ byte
written_at at byte file inside =
    let size : length (take at file) ≡ at = length-take-le at file inside in
    get_or_append_left (take at file ++ byte ∷ []) (drop (at + 1) file) 0 at (omega (arith, size, length-append (take at file) (byte ∷ []))) ∙ get_or_at (take at file) byte [] 0 at size

module _ (known gates : List ℕ) (gate : ℕ) (gated : Gated known gates gate) (whole : length known ≡ gate + 1) (entry : List ℕ) (small : length entry < 2 ^ 32) where
  abbrev pub tried : List ℕ
  tried = known ++ staged_of entry

  abbrev pub more : ℕ
  more = gate + 5 + length entry

  length-staged : length (staged_of entry) ≡ 5 + length entry
  length-staged = omega (arith, length-append (to_be_bytes w32 (length entry) ++ entry) (0 ∷ []), length-append (to_be_bytes w32 (length entry)) entry)

  pub length-tried : length tried ≡ more + 1
  length-tried = omega (arith, length-append known (staged_of entry), length-staged, whole)

  pub staged_is : drop (gate + 1) tried ≡ staged_of entry
  staged_is = drop_at known (staged_of entry) (gate + 1) whole

  -- while it was tried
  tried_agree : Agree gate known tried
  tried_agree = record { in_first = omega (arith, whole); in_second = omega (arith, length-tried); same = λ k low. get_or_append_left known (staged_of entry) 0 k (omega (arith, whole)) }

  tried_inside : gate < length tried
  tried_inside = omega (arith, length-tried)

  pub gated_tried : Gated tried gates gate
  gated_tried = gated_agree known gates gate gated tried tried_agree tried_inside (get_or_append_left known (staged_of entry) 0 gate (omega (arith, whole)) ∙ gated.closed)

  pub records_tried : records_between tried 8 gates ≡ records_between known 8 gates
  records_tried = other_records known gates gate gated tried tried_agree tried_inside

  tried_entry : slice_range tried (gate + 5) more ≡ entry
  tried_entry =
      ap (λ (l : List ℕ). slice_range l (gate + 5) more) (sym (append-nil tried))
      ∙ parts_entry known (to_be_bytes w32 (length entry)) entry [] gate (length entry) whole refl refl

  pub tried_is : tried_of tried gate ≡ Some entry
  tried_is =
      let last : length tried - 1 ≡ more = omega (arith, length-tried) in
      ap (λ (b : Bool). cond b (Some (slice_range tried (gate + 5) (length tried - 1))) None) (lt-ltb (gate + 1) (length tried) (omega (arith, length-tried)))
      ∙ ap (λ (n : ℕ). Some (slice_range tried (gate + 5) n)) last
      ∙ ap (λ (e : List ℕ). Some e) tried_entry

  -- once it was appended
  abbrev pub appended : List ℕ
  appended = set tried gate 1

  written_known : written (gate + 1) (staged_of entry) known ≡ tried
  written_known =
      ap (λ (l : List ℕ). l ++ staged_of entry ++ drop (gate + 1 + length (staged_of entry)) known) (take_all (gate + 1) known (omega (arith, whole)))
      ∙ ap (λ (l : List ℕ). known ++ staged_of entry ++ l) (drop_all (gate + 1 + length (staged_of entry)) known (omega (arith, whole)))
      ∙ append-nil (known ++ staged_of entry)

  other_byte : (k : ℕ) → k ≢ gate → get_or appended k 0 ≡ get_or tried k 0
  other_byte k other = get_or-set_other tried gate k 1 0 other

  appended_torn : Torn gate 1 tried appended
  appended_torn = record {
    before = λ k low within. other_byte k (omega arith);
    behind = λ k high within. other_byte k (omega arith);
    no_shorter = omega (arith, length-set tried gate 1);
    no_longer = omega (arith, length-set tried gate 1);
  }

  torn_known : Torn gate 1 (written (gate + 1) (staged_of entry) known) appended
  torn_known = subst (λ (l : List ℕ). Torn gate 1 l appended) (sym written_known) appended_torn

  is_open : get_or appended gate 0 ≢ 0
  is_open = λ shut. let one : get_or appended gate 0 ≡ 1 = get_or-set_same tried gate 1 0 tried_inside in omega (arith, one, shut)

  inside_known : gate < length known
  inside_known = omega (arith, whole)

  pub gated_appended : Gated appended (gates ++ more ∷ []) more
  gated_appended = gated_opened known gates gate gated inside_known entry small appended torn_known is_open

  pub records_appended : records_between appended 8 (gates ++ more ∷ []) ≡ records_between known 8 gates ++ entry ∷ []
  records_appended = records_opened known gates gate gated inside_known entry small appended torn_known is_open

  pub length-appended : length appended ≡ more + 1
  length-appended = length-set tried gate 1 ∙ length-tried

  pub none_tried : tried_of appended more ≡ None
  none_tried = ap (λ (b : Bool). cond b (Some (slice_range appended (more + 5) (length appended - 1))) None) (le-ltb (more + 1) (length appended) (omega (arith, length-appended)))

  -- over a file that begins with the known bytes
  module _ (file : List ℕ) (front : take (length known) file ≡ known) where
    file_agree : Agree (length known) known file
    file_agree = front_agrees known file front

    file_inside : gate < length file
    file_inside = omega (arith, file_agree.in_second, whole)

    below : Agree gate known file
    below = agree_less (length known) known file file_agree gate (omega (arith, whole))

    gated_file : Gated file gates gate
    gated_file = gated_agree known gates gate gated file below file_inside (file_agree.same gate inside_known ∙ gated.closed)

    -- what a crash leaves
    pub crash_stands : (image : List ℕ) → IsStaged gate (drop (gate + 1) tried) file image → WithOrWithout (records_between known 8 gates) (Some entry) image
    crash_stands image staged =
        subst (λ (rs : List (List ℕ)). WithOrWithout rs (Some entry) image) (other_records known gates gate gated file below file_inside)
        (stands_staged file gates gate gated_file file_inside entry small image (subst (λ (s : List ℕ). IsStaged gate s file image) staged_is staged))

    -- what the file is then
    abbrev pub opened : List ℕ
    opened = written gate (1 ∷ []) (written (gate + 1) (staged_of entry) file)

    abbrev rest : List ℕ
    rest = drop (gate + 1 + length (staged_of entry)) file

    behind_is : written (gate + 1) (staged_of entry) file ≡ tried ++ rest
    behind_is = ap (λ (l : List ℕ). l ++ staged_of entry ++ rest) (ap (λ (n : ℕ). take n file) (sym whole) ∙ front)

    length-behind : length tried ≤ length (written (gate + 1) (staged_of entry) file)
    length-behind = omega (arith, ap length behind_is, length-append tried rest)

    behind_same : (k : ℕ) → k < length tried → get_or (written (gate + 1) (staged_of entry) file) k 0 ≡ get_or tried k 0
    behind_same k low = ap (λ (l : List ℕ). get_or l k 0) behind_is ∙ get_or_append_left tried rest 0 k low

    opened_torn : Torn gate 1 (written (gate + 1) (staged_of entry) file) opened
    opened_torn = Torn-written gate (1 ∷ []) (written (gate + 1) (staged_of entry) file)

    opened_gate : get_or opened gate 0 ≡ 1
    opened_gate = written_at gate 1 (written (gate + 1) (staged_of entry) file) (omega (arith, length-behind, length-tried))

    opened_same : (k : ℕ) → k < length appended → get_or opened k 0 ≡ get_or appended k 0
    opened_same k low =
        let within : k < length tried = omega (arith, low, length-appended, length-tried) in
        let inside : k < length (written (gate + 1) (staged_of entry) file) = omega (arith, within, length-behind) in
        ⊎_elim
        (λ is. ap (λ (n : ℕ). get_or opened n 0) is ∙ opened_gate ∙ sym (get_or-set_same tried gate 1 0 tried_inside) ∙ ap (λ (n : ℕ). get_or appended n 0) (sym is))
        (λ other. ⊎_elim
        (λ lower. opened_torn.before k lower inside ∙ behind_same k within ∙ sym (other_byte k other))
        (λ higher. opened_torn.behind k (omega (arith, higher, other)) inside ∙ behind_same k within ∙ sym (other_byte k other))
        (cases_lt k gate))
        (cases_eq k gate)

    pub front_opened : take (length appended) opened ≡ appended
    front_opened =
        agree_take (length appended) appended opened
        (record { in_first = omega arith; in_second = omega (arith, length-appended, length-tried, length-behind, opened_torn.no_shorter); same = opened_same })
        ∙ take_all (length appended) appended (omega arith)

    pub stands_opened : StandsFor (records_between appended 8 (gates ++ more ∷ [])) opened
    stands_opened = stands_front appended opened (gates ++ more ∷ []) more gated_appended front_opened

-- what is true of a journal after an append
module _ {D : Type 0} (reads : D → Option (List ℕ)) (may_leave : D → List ℕ → Type 0) (is_honest : D → Type 0) (disk : D)
    (known gates : List ℕ) (gate : ℕ) (gated : Gated known gates gate) (whole : length known ≡ gate + 1) (entry : List ℕ) (small : length entry < 2 ^ 32) where
  -- that was refused with a fault
  pub sound_tried : (bytes' gates' : List ℕ) (last' n : ℕ) → bytes' ≡ known ++ staged_of entry → gates' ≡ gates → last' ≡ gate
      → (is_honest disk → (image : List ℕ) → may_leave disk image → WithOrWithout (records_between known 8 gates) (Some entry) image)
      → IsSound reads may_leave is_honest disk bytes' gates' last' (Some n)
  sound_tried bytes' gates' last' n is_bytes is_gates is_last left =
      let all = tried known gates gate gated whole entry small in
      subst (λ (b : List ℕ). IsSound reads may_leave is_honest disk b gates' last' (Some n)) (sym is_bytes)
      (subst (λ (gs : List ℕ). IsSound reads may_leave is_honest disk all gs last' (Some n)) (sym is_gates)
      (subst (λ (l : ℕ). IsSound reads may_leave is_honest disk all gates l (Some n)) (sym is_last)
      (record {
        gated = gated_tried known gates gate gated whole entry small;
        whole = λ none. absurd (cc);
        synced = λ honest none. absurd (cc);
        left = λ honest image may.
            subst (λ (rs : List (List ℕ)). WithOrWithout rs (tried_of all gate) image) (sym (records_tried known gates gate gated whole entry small))
            (subst (λ (t : Option (List ℕ)). WithOrWithout (records_between known 8 gates) t image) (sym (tried_is known gates gate gated whole entry small)) (left honest image may));
      })))

  -- that was done
  pub sound_appended : (bytes' gates' : List ℕ) (last' : ℕ) (spent : Option ℕ) → bytes' ≡ set (known ++ staged_of entry) gate 1 → gates' ≡ gates ++ (gate + 5 + length entry) ∷ [] → last' ≡ gate + 5 + length entry
      → (is_honest disk → IsSynced (set (known ++ staged_of entry) gate 1) (bytes_of (reads disk)) (may_leave disk))
      → IsSound reads may_leave is_honest disk bytes' gates' last' spent
  sound_appended bytes' gates' last' spent is_bytes is_gates is_last synced =
      let all = appended known gates gate gated whole entry small in
      let next = more known gates gate gated whole entry small in
      let behind = gates ++ next ∷ [] in
      let now_gated = gated_appended known gates gate gated whole entry small in
      subst (λ (b : List ℕ). IsSound reads may_leave is_honest disk b gates' last' spent) (sym is_bytes)
      (subst (λ (gs : List ℕ). IsSound reads may_leave is_honest disk all gs last' spent) (sym is_gates)
      (subst (λ (l : ℕ). IsSound reads may_leave is_honest disk all behind l spent) (sym is_last)
      (record {
        gated = now_gated;
        whole = λ none. length-appended known gates gate gated whole entry small;
        synced = λ honest none. synced honest;
        left = λ honest image may.
            let is = (synced honest).durable image may in
            inl (ap stands_for is ∙ stands_front all (bytes_of (reads disk)) behind next now_gated (synced honest).front);
      })))

-- what a crash at any moment of an append leaves, by the bytes and the gate that were staged
pub crash_appended : {D : Type 0} (moment : D → ℕ) (left_since : D → ℕ → List ℕ → Type 0) (old new : D)
    (known gates : List ℕ) (gate : ℕ) (gated : Gated known gates gate) (whole : length known ≡ gate + 1) (entry : List ℕ) (small : length entry < 2 ^ 32) (file : List ℕ) (front : take (length known) file ≡ known)
    (staged : List ℕ) (last : ℕ) → staged ≡ known ++ staged_of entry → last ≡ gate
    → CrashLeaves moment left_since (IsStaged last (drop (last + 1) staged) file) old new
    → CrashLeaves moment left_since (WithOrWithout (records_between known 8 gates) (Some entry)) old new
crash_appended moment left_since old new known gates gate gated whole entry small file front staged last is_staged is_last leaves =
    crash_weaker moment left_since old new (IsStaged last (drop (last + 1) staged) file) (WithOrWithout (records_between known 8 gates) (Some entry))
    (λ image left. crash_stands known gates gate gated whole entry small file front image
    (subst (λ (s : List ℕ). IsStaged gate (drop (gate + 1) s) file image) is_staged (subst (λ (n : ℕ). IsStaged n (drop (n + 1) staged) file image) is_last left)))
    leaves

-- the file after an append that was done, by what was staged
pub synced_appended : (known gates : List ℕ) (gate : ℕ) (gated : Gated known gates gate) (whole : length known ≡ gate + 1) (entry : List ℕ) (small : length entry < 2 ^ 32) (file : List ℕ) (front : take (length known) file ≡ known)
    (staged : List ℕ) (last : ℕ) → staged ≡ known ++ staged_of entry → last ≡ gate
    → (now : List ℕ) (may_leave : List ℕ → Type 0) → now ≡ written last (1 ∷ []) (written (last + 1) (drop (last + 1) staged) file) → Only now may_leave
    → IsSynced (set (known ++ staged_of entry) gate 1) now may_leave
synced_appended known gates gate gated whole entry small file front staged last is_staged is_last now may_leave is_now durable =
    let is_opened : now ≡ written gate (1 ∷ []) (written (gate + 1) (staged_of entry) file) =
    is_now
    ∙ ap (λ (n : ℕ). written n (1 ∷ []) (written (n + 1) (drop (n + 1) staged) file)) is_last
    ∙ ap (λ (s : List ℕ). written gate (1 ∷ []) (written (gate + 1) (drop (gate + 1) s) file)) is_staged
    ∙ ap (λ (s : List ℕ). written gate (1 ∷ []) (written (gate + 1) s file)) (staged_is known gates gate gated whole entry small) in
    record {
      front = subst (λ (f : List ℕ). take (length (set (known ++ staged_of entry) gate 1)) f ≡ set (known ++ staged_of entry) gate 1) (sym is_opened) (front_opened known gates gate gated whole entry small file front);
      durable = durable;
    }

-- what was staged is known
pub record NowKnown (known gates : List ℕ) (gate : ℕ) (entry : List ℕ) (bytes' gates' : List ℕ) (last' : ℕ) : Type 0 where
  pub is_bytes : bytes' ≡ set (known ++ staged_of entry) gate 1
  pub is_gates : gates' ≡ gates ++ (gate + 5 + length entry) ∷ []
  pub is_last : last' ≡ gate + 5 + length entry

pub now_known : (known gates : List ℕ) (gate : ℕ) (gated : Gated known gates gate) (whole : length known ≡ gate + 1) (entry : List ℕ) (small : length entry < 2 ^ 32)
    (staged new : Known) → staged.bytes.items ≡ known ++ staged_of entry → staged.gates.items ≡ gates → staged.last ≡ gate → IsAccepted staged new
    → NowKnown known gates gate entry new.bytes.items new.gates.items new.last
now_known known gates gate gated whole entry small staged new is_bytes is_gates is_last accepted =
    let size = length-tried known gates gate gated whole entry small in
    let next : vec_len staged.bytes - 1 ≡ gate + 5 + length entry = omega (arith, staged.bytes.ok.0, ap length is_bytes, size) in
    record {
      is_bytes = accepted.bytes ∙ ap (λ (b : List ℕ). set b staged.last 1) is_bytes ∙ ap (λ (n : ℕ). set (known ++ staged_of entry) n 1) is_last;
      is_gates = accepted.gates ∙ ap (λ (gs : List ℕ). gs ++ (vec_len staged.bytes - 1) ∷ []) is_gates ∙ ap (λ (n : ℕ). gates ++ n ∷ []) next;
      is_last = accepted.last ∙ next;
    }

-- its records, and that nothing is being tried
pub known_records : (known gates : List ℕ) (gate : ℕ) (gated : Gated known gates gate) (whole : length known ≡ gate + 1) (entry : List ℕ) (small : length entry < 2 ^ 32) (bytes' gates' : List ℕ) (last' : ℕ)
    → NowKnown known gates gate entry bytes' gates' last' → (records_between bytes' 8 gates' ≡ records_between known 8 gates ++ entry ∷ []) × (tried_of bytes' last' ≡ None)
known_records known gates gate gated whole entry small bytes' gates' last' now = (
  ap (λ (b : List ℕ). records_between b 8 gates') now.is_bytes
      ∙ ap (λ (gs : List ℕ). records_between (set (known ++ staged_of entry) gate 1) 8 gs) now.is_gates
      ∙ records_appended known gates gate gated whole entry small,
  ap (λ (b : List ℕ). tried_of b last') now.is_bytes
      ∙ ap (λ (n : ℕ). tried_of (set (known ++ staged_of entry) gate 1) n) now.is_last
      ∙ none_tried known gates gate gated whole entry small,
)

-- what a crash then leaves
pub stands_known : (known gates : List ℕ) (gate : ℕ) (gated : Gated known gates gate) (whole : length known ≡ gate + 1) (entry : List ℕ) (small : length entry < 2 ^ 32) (bytes' gates' : List ℕ) (last' : ℕ)
    → NowKnown known gates gate entry bytes' gates' last' → (file : List ℕ) (may_leave : List ℕ → Type 0) → IsSynced (set (known ++ staged_of entry) gate 1) file may_leave
    → (image : List ℕ) → may_leave image → StandsFor (records_between bytes' 8 gates') image
stands_known known gates gate gated whole entry small bytes' gates' last' now file may_leave synced image left =
    ap stands_for (synced.durable image left)
    ∙ stands_front (set (known ++ staged_of entry) gate 1) file (gates ++ (gate + 5 + length entry) ∷ []) (gate + 5 + length entry) (gated_appended known gates gate gated whole entry small) synced.front
    ∙ ap (λ (b : List ℕ). Ok (records_between b 8 (gates ++ (gate + 5 + length entry) ∷ []))) (sym now.is_bytes)
    ∙ ap (λ (gs : List ℕ). Ok (records_between bytes' 8 gs)) (sym now.is_gates)

-- a record that was staged and isn't known: the records are those before it
pub staged_records : (known gates : List ℕ) (gate : ℕ) (gated : Gated known gates gate) (whole : length known ≡ gate + 1) (entry : List ℕ) (small : length entry < 2 ^ 32) (bytes' gates' : List ℕ) (last' : ℕ)
    → bytes' ≡ known ++ staged_of entry → gates' ≡ gates → last' ≡ gate → (records_between bytes' 8 gates' ≡ records_between known 8 gates) × (tried_of bytes' last' ≡ Some entry)
staged_records known gates gate gated whole entry small bytes' gates' last' is_bytes is_gates is_last = (
  ap (λ (b : List ℕ). records_between b 8 gates') is_bytes ∙ ap (λ (gs : List ℕ). records_between (known ++ staged_of entry) 8 gs) is_gates ∙ records_tried known gates gate gated whole entry small,
  ap (λ (b : List ℕ). tried_of b last') is_bytes ∙ ap (λ (n : ℕ). tried_of (known ++ staged_of entry) n) is_last ∙ tried_is known gates gate gated whole entry small,
)

-- how many bytes are used
pub used_is : (known gates : List ℕ) (gate : ℕ) → Gated known gates gate → gate + 1 ≡ used_of (records_between known 8 gates)
used_is known gates gate gated = omega (arith, gated.is_last, used_between known gates 8 gated.reaches)

-- the file that was written, by them
pub file_appended : (known gates : List ℕ) (gate : ℕ) (gated : Gated known gates gate) (whole : length known ≡ gate + 1) (entry : List ℕ) (small : length entry < 2 ^ 32)
    (staged : List ℕ) (last : ℕ) → staged ≡ known ++ staged_of entry → last ≡ gate → (file : List ℕ) (used : ℕ) → gate + 1 ≡ used
    → written last (1 ∷ []) (written (last + 1) (drop (last + 1) staged) file) ≡ with_appended used entry file
file_appended known gates gate gated whole entry small staged last is_staged is_last file used is_used =
    let before : gate ≡ used - 1 = omega arith in
    ap (λ (n : ℕ). written n (1 ∷ []) (written (n + 1) (drop (n + 1) staged) file)) is_last
    ∙ ap (λ (s : List ℕ). written gate (1 ∷ []) (written (gate + 1) (drop (gate + 1) s) file)) is_staged
    ∙ ap (λ (s : List ℕ). written gate (1 ∷ []) (written (gate + 1) s file)) (staged_is known gates gate gated whole entry small)
    ∙ ap (λ (n : ℕ). written gate (1 ∷ []) (written n (staged_of entry) file)) is_used
    ∙ ap (λ (n : ℕ). written n (1 ∷ []) (written used (staged_of entry) file)) before

-- no value is there where none of them is it
pub none_from_not : (o : Option ℕ) → ((x : ℕ) → o ≡ Some x → ⊥) → o ≡ None
none_from_not None never = refl
none_from_not (Some x) never = absurd (never x refl)

-- what a test of the room says
pub room_is : (used size room : ℕ) → size + 5 ≤ room → room ≡ 536870912 - used → used + 5 + size ≤ 536870912
room_is used size room fits is = omega arith
