-- A book that is read again.
use Rattle.std.proofs.Common.{ℕ, suc, ◌+◌, ◌<◌, ◌≤◌, List, [], ◌∷◌, ◌++◌, ◌≡◌, length, take, drop, refl, sym, ap, subst, ◌∙◌, arith, Some, get_or, length-append}
use Rattle.std.specs.Prelude.{All, slice_get}
use Rattle.std.proofs.lemmas.List.Elements.{All-head, All-tail}
use Rattle.std.proofs.lemmas.List.{map-append, take-append-drop, take-map, get_or-map, length-map, get_or_append_left, take_more, take_all}
use Rattle.std.proofs.lemmas.Option.{slice_get-get_or, slice_get_within, get_or_from_slice_get}
use Rattle.std.proofs.Math.Seq.{drop-cons}
use Rattle.uss_event.specs.declared.entries.Entry.TheVariants.{TicketOpen}
use Rattle.uss_event.specs.declared.entries.Owner.{Owner}
use Rattle.uss_event.specs.declared.entries.Entry.{Entry}
use Rattle.uss_law_book.specs.Coding.{HasCoding}
use Rattle.uss_law_book.specs.Legal.{MayFollow, MayAllFollow, IsLegal}
use Rattle.uss_law_book.specs.Lists.{owner_of}
use Rattle.uss_law_book.proofs.Attempts.{owner_kept}
use Rattle.uss_law_book.proofs.EachOrderly.{legal_rest, legal_beginning}
use Rattle.uss_book_codec.specs.Coding.{coding_of}
use Rattle.uss_book_codec.specs.Laws.{one_coding}
use Rattle.uss_book.specs.Book.{records_of, IsBadEntry}
use Rattle.uss_book.specs.Reread.{BeginsWith, IsOther, IsFirstChange, IsReadDifferently, AreAnothers, IsByRecords, IsOfReading}
use Rattle.uss_book.specs.Refusal.{SaysNothing}
use Rattle.uss_book.specs.declared.refusal.BookFault.{BookFault}
use Rattle.uss_book.specs.declared.refusal.BookFault.TheVariants.{DiskFault, NotAJournal, Spent, BadEntry, OtherOwner, Changed, Memory}
use Rattle.uss_book.proofs.Records.{legal_coded}

head_is : {X : Type 0} (x y : X) (xs ys : List X) → x ∷ xs ≡ y ∷ ys → x ≡ y
head_is x y xs ys e = cc

tail_is : {X : Type 0} (x y : X) (xs ys : List X) → x ∷ xs ≡ y ∷ ys → xs ≡ ys
tail_is x y xs ys e = cc

-- records whose beginning is that of a book: the entries begin with the book
pub begins_with : (es known : List Entry) (more : List (List ℕ)) → All HasCoding es → All HasCoding known → records_of es ≡ records_of known ++ more → BeginsWith es known
begins_with es [] more c k is = record { more = es; is = refl }
begins_with [] (d ∷ known) more c k is = absurd (cc)
begins_with (e ∷ es) (d ∷ known) more c k is =
    let one : e ≡ d = one_coding e d (All-head HasCoding e es c) (All-head HasCoding d known k) (head_is (coding_of e) (coding_of d) (records_of es) (records_of known ++ more) is) in
    let rest = begins_with es known more (All-tail HasCoding e es c) (All-tail HasCoding d known k) (tail_is (coding_of e) (coding_of d) (records_of es) (records_of known ++ more) is) in
    record { more = rest.more; is = ap (λ (x : Entry). x ∷ es) one ∙ ap (λ (l : List Entry). d ∷ l) rest.is }

-- entries with the same records are the same
pub same_entries : (xs ys : List Entry) → All HasCoding xs → All HasCoding ys → records_of xs ≡ records_of ys → xs ≡ ys
same_entries [] [] c k is = refl
same_entries [] (y ∷ ys) c k is = absurd (cc)
same_entries (x ∷ xs) [] c k is = absurd (cc)
same_entries (x ∷ xs) (y ∷ ys) c k is =
    ap (λ (z : Entry). z ∷ xs) (one_coding x y (All-head HasCoding x xs c) (All-head HasCoding y ys k) (head_is (coding_of x) (coding_of y) (records_of xs) (records_of ys) is))
    ∙ ap (λ (l : List Entry). y ∷ l) (same_entries xs ys (All-tail HasCoding x xs c) (All-tail HasCoding y ys k) (tail_is (coding_of x) (coding_of y) (records_of xs) (records_of ys) is))

-- no record of a legal book is bad
no_bad : (es : List Entry) (n : ℕ) → IsLegal es → IsBadEntry (records_of es) n → ⊥
no_bad es n h b =
    let d = TicketOpen 0 in
    let low : n < length es = omega (arith, b.within, length-map es coding_of) in
    let x = get_or es n d in
    let parts : take n es ++ drop n es ≡ es = take-append-drop n es in
    let whole : IsLegal (take n es ++ drop n es) = subst IsLegal (sym parts) h in
    let front : IsLegal (take n es) = legal_beginning [] (take n es) (drop n es) whole in
    let rest : MayAllFollow (take n es) (drop n es) = legal_rest [] (take n es) (drop n es) whole in
    let at : drop n es ≡ x ∷ drop (suc n) es = drop-cons es n d low in
    let m : MayAllFollow (take n es) (x ∷ drop (suc n) es) = subst (MayAllFollow (take n es)) at rest in
    let same : b.before ≡ take n es = same_entries b.before (take n es) (legal_coded b.before b.legal) (legal_coded (take n es) front) (b.front ∙ take-map coding_of n es) in
    let found : slice_get (records_of es) n ≡ Some (coding_of x) =
    slice_get-get_or (records_of es) n (coding_of d) b.within ∙ ap (λ (r : List ℕ). Some r) (get_or-map coding_of es n d (coding_of d) low) in
    b.bad x (subst (λ (l : List Entry). MayFollow l x) (sym same) m.0) found

-- a legal book that goes on from the known entries, and that is read again, is refused only when memory runs out
pub read_on : (known more : List Entry) (fault : BookFault) → IsLegal (known ++ more) → IsByRecords known (records_of (known ++ more)) fault → IsOfReading fault → SaysNothing fault
read_on known more (BadEntry n) legal h r = no_bad (known ++ more) n legal h
read_on known more (OtherOwner kept) legal h r =
    let same : h.is.entries ≡ known ++ more = same_entries h.is.entries (known ++ more) (legal_coded h.is.entries h.is.legal) (legal_coded (known ++ more) legal) h.is.found in
    let is : owner_of (known ++ more) ≡ Some kept = subst (λ (l : List Entry). owner_of l ≡ Some kept) same h.is.is in
    let one : Some kept ≡ Some h.owner = sym is ∙ owner_kept known more h.owner h.known_is in
    absurd (h.is.other (cc))
read_on known more (Changed n) legal h r =
    let low : n < length (records_of known) = omega (arith, h.changed.within, length-map known coding_of) in
    let longer : n < length (records_of known ++ records_of more) = omega (arith, low, length-append (records_of known) (records_of more)) in
    absurd (h.changed.changed (ap (λ (rs : List (List ℕ)). slice_get rs n) (map-append coding_of known more)
    ∙ slice_get-get_or (records_of known ++ records_of more) n [] longer
    ∙ ap (λ (r : List ℕ). Some r) (get_or_append_left (records_of known) (records_of more) [] n low)
    ∙ sym (slice_get-get_or (records_of known) n [] low)))
read_on known more Memory legal h r = tt
read_on known more DiskFault legal h r = absurd r
read_on known more (NotAJournal place) legal h r = absurd r
read_on known more (Spent count) legal h r = absurd r

-- one more record that is the known one
pub take_step : (found known : List (List ℕ)) (n : ℕ) (r : List ℕ) → slice_get found n ≡ Some r → slice_get known n ≡ Some r → take n found ≡ take n known → take (n + 1) found ≡ take (n + 1) known
take_step found known n r there is front =
    take_more found n r (slice_get_within found n r there)
    ∙ ap (λ (x : List ℕ). take n found ++ x ∷ []) (get_or_from_slice_get found n r r there ∙ sym (get_or_from_slice_get known n r r is))
    ∙ ap (λ (rs : List (List ℕ)). rs ++ get_or known n r ∷ []) front
    ∙ sym (take_more known n r (slice_get_within known n r is))

pub all_taken : (found known : List (List ℕ)) (n : ℕ) → length known ≤ n → take n found ≡ take n known → BeginsWith found known
all_taken found known n high front = record { more = drop n found; is = sym (take-append-drop n found) ∙ ap (λ (l : List (List ℕ)). l ++ drop n found) (front ∙ take_all n known high) }

-- the first change of the records is that of the entries
pub read_differently : (es kept : List Entry) (found known : List (List ℕ)) (n : ℕ) → known ≡ records_of es → IsLegal kept → records_of kept ≡ found → (AreAnothers kept es → ⊥) → IsFirstChange known found n
    → IsReadDifferently es n found
read_differently es kept found known n is legal same own change =
    let first : IsFirstChange (records_of es) found n = subst (λ (rs : List (List ℕ)). IsFirstChange rs found n) is change in
    record {
      entries = kept;
      legal = legal;
      found = same;
      own = own;
      changed = record { within = omega (arith, first.within, length-map es coding_of); front = first.front; changed = first.changed };
    }

pub other_owner : (known kept : List Entry) (records : List (List ℕ)) (o : Owner) → AreAnothers kept known → IsLegal kept → records_of kept ≡ records → owner_of kept ≡ Some o → IsOther known o records
other_owner known kept records o h k found is =
    let one : Some o ≡ Some h.kept = sym is ∙ h.kept_is in
    let same : o ≡ h.kept = cc in
    record {
      owner = h.owner;
      known_is = h.known_is;
      is = record { entries = kept; legal = k; found = found; is = is; other = λ e. h.differ (sym same ∙ e) };
    }

pub not_none : (kept known : List Entry) → AreAnothers kept known → kept ≡ [] → ⊥
not_none kept known h none =
    let e : owner_of [] ≡ Some h.kept = subst (λ (l : List Entry). owner_of l ≡ Some h.kept) none h.kept_is in
    cc
