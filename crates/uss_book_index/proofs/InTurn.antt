-- The map of the places of attempts, as entries come.
use Rattle.std.proofs.Common.{ℕ, ◌+◌, ◌==◌, ◌≢◌, Bool, true, false, cond, ◌&&◌, List, [], ◌∷◌, ◌++◌, ◌≡◌, length, filter, refl, ap, sym, subst, ◌∙◌, arith, Option, Some, None, is_some, slice_get, zero, suc}
use Rattle.std.specs.List.{last_or}
use Rattle.std.specs.BTreeMap as tree
use Rattle.std.specs.BTreeMap.{BTreeMap, is_at}
use Rattle.std.proofs.lemmas.List.{append-nil}
use Rattle.std.proofs.lemmas.List.Elements.{filter-append}
use Rattle.uss_event.specs.declared.entries.Entry.{Entry}
use Rattle.uss_event.specs.declared.entries.Entry.TheVariants.{Pending}
use Rattle.uss_law_dss.proofs.Tests.{same_number, other_number, some_same}
use Rattle.uss_event.specs.declared.entries.Trial.{Trial}
use Rattle.uss_law_book.specs.Lists.{trials}
use Rattle.uss_law_book.specs.Contents.{trials_of}
use Rattle.uss_law_book.proofs.Entries.{trials_append}
use Rattle.uss_book_rules.specs.Speaks.{trial_in}
use Rattle.uss_book_index.specs.declared.ordinal.Ordinal.{Ordinal}
use Rattle.uss_book_index.specs.OrdinalOrder.{ordinal_cmp}
use Rattle.uss_book_index.specs.Ordinals.{place_in, IsPlaceOf, AreOrdinals, ordinal_for}
use Rattle.uss_book_index.proofs.Places.{got_last}
use Rattle.uss_book_index.proofs.Marked.{pair_ties}
use Rattle.uss_book_index.proofs.Flown.{in_stays, in_comes}

-- another place than the new last one
got_else : {X : Type 0} (xs : List X) (y : X) (n : ℕ) → length xs ≢ n → slice_get (xs ++ y ∷ []) n ≡ slice_get xs n
got_else [] y zero h = absurd (h refl)
got_else [] y (suc n) h = refl
got_else (x ∷ xs) y zero h = refl
got_else (x ∷ xs) y (suc n) h = got_else xs y n (λ e. h (ap (λ k. suc k) e))

-- the last of a list is at the place before its length
last_got : {X : Type 0} (o : Option X) (x : X) (xs : List X) → slice_get (x ∷ xs) (length xs) ≡ last_or o (x ∷ xs)
last_got o x [] = refl
last_got o x (y ∷ xs) = last_got (Some x) y xs

pub got_final : {X : Type 0} (xs : List X) (n : ℕ) → n + 1 ≡ length xs → slice_get xs n ≡ last_or None xs
got_final [] n h = absurd (omega arith)
got_final (x ∷ xs) n h =
    let e : length xs ≡ n = omega arith in
    subst (λ k. slice_get (x ∷ xs) k ≡ last_or None (x ∷ xs)) e (last_got None x xs)

pub none_final : {X : Type 0} (xs : List X) → length xs ≡ 0 → last_or None xs ≡ None
none_final [] h = refl
none_final (x ∷ xs) h = absurd (omega arith)

trials_longer : (job : ℕ) (es : List Entry) (e : Entry) → trials_of job (es ++ e ∷ []) ≡ trials_of job es ++ trials_of job (e ∷ [])
unfolding trials_of
trials_longer job es e =
    ap (λ (l : List Trial). filter (λ t. t.job == job) l) (trials_append es (e ∷ []))
    ∙ filter-append (λ (t : Trial). t.job == job) (trials es) (trials (e ∷ []))

-- the entry makes no attempt
none_tried : (job : ℕ) (es : List Entry) (e : Entry) → ordinal_for es e ≡ None → trials_of job (e ∷ []) ≡ []
unfolding trials_of
none_tried job es (Pending t) h = cc
none_tried job es _ h = refl

-- the entry that makes an attempt
abbrev by_trial : Trial → Entry
by_trial t = Pending t

tried_else : (job : ℕ) (t : Trial) → (t.job == job) ≡ false → trials_of job (by_trial t ∷ []) ≡ []
unfolding trials_of
tried_else job t h = rw h refl

tried_now : (job : ℕ) (t : Trial) → (t.job == job) ≡ true → trials_of job (by_trial t ∷ []) ≡ t ∷ []
unfolding trials_of
tried_now job t h = rw h refl

-- another job's attempts stay
else_same : (job : ℕ) (es : List Entry) (e : Entry) → trials_of job (e ∷ []) ≡ [] → trials_of job (es ++ e ∷ []) ≡ trials_of job es
else_same job es e none = trials_longer job es e ∙ ap (λ l. trials_of job es ++ l) none ∙ append-nil (trials_of job es)

-- the job has one more
now_longer : (job : ℕ) (es : List Entry) (t : Trial) → (t.job == job) ≡ true → trials_of job (es ++ by_trial t ∷ []) ≡ trials_of job es ++ t ∷ []
now_longer job es t h = trials_longer job es (by_trial t) ∙ ap (λ l. trials_of job es ++ l) (tried_now job t h)

at_ordinal : (a b : Ordinal) → is_at (ordinal_cmp a) b ≡ ((a.job == b.job) && (a.number == b.number))
at_ordinal a b = pair_ties a.job b.job a.number b.number

-- an attempt's place stays where the attempt is the same
place_stays : (es : List Entry) (e : Entry) (w : Option ℕ) (o p : Option Trial) → p ≡ o → IsPlaceOf es w o → IsPlaceOf (es ++ e ∷ []) w p
place_stays es e w o p same h = record { says = in_stays es e trial_in w o p same h.says; found = h.found ∙ ap is_some (sym same) }

pub ordinals_stay : (places : BTreeMap Ordinal (Option ℕ)) (es : List Entry) (e : Entry) → AreOrdinals places es → ordinal_for es e ≡ None → AreOrdinals places (es ++ e ∷ [])
ordinals_stay places es e are none = λ o.
    place_stays es e (place_in (tree.get ordinal_cmp places o)) (slice_get (trials_of o.job es) o.number) (slice_get (trials_of o.job (es ++ e ∷ [])) o.number)
    (ap (λ (l : List Trial). slice_get l o.number) (else_same o.job es e (none_tried o.job es e none))) (are o)

-- the attempt that comes, and the others
grown : (old new : BTreeMap Ordinal (Option ℕ)) (es : List Entry) (t : Trial) (o : Ordinal) → AreOrdinals old es → o.job ≡ t.job → o.number ≡ length (trials_of t.job es)
    → ((q : Ordinal) → tree.get ordinal_cmp new q ≡ cond (is_at (ordinal_cmp o) q) (Some (Some (length es))) (tree.get ordinal_cmp old q)) → AreOrdinals new (es ++ by_trial t ∷ [])
grown old new es t o are job number put = λ q. go q (o.job == q.job) (o.number == q.number) refl refl
  where
    e : Entry
    e = by_trial t

    Right : Ordinal → Option (Option ℕ) → Type 0
    Right q w = IsPlaceOf (es ++ e ∷ []) (place_in w) (slice_get (trials_of q.job (es ++ e ∷ [])) q.number)

    got : (q : Ordinal) (b : Bool) → ((o.job == q.job) && (o.number == q.number)) ≡ b → tree.get ordinal_cmp new q ≡ cond b (Some (Some (length es))) (tree.get ordinal_cmp old q)
    got q b h = put q ∙ ap (λ x. cond x (Some (Some (length es))) (tree.get ordinal_cmp old q)) (at_ordinal o q ∙ h)

    of_job : (q : Ordinal) (b : Bool) → (o.job == q.job) ≡ b → (t.job == q.job) ≡ b
    of_job q b h = ap (λ j. j == q.job) (sym job) ∙ h

    stays : (q : Ordinal) → ((o.job == q.job) && (o.number == q.number)) ≡ false → slice_get (trials_of q.job (es ++ e ∷ [])) q.number ≡ slice_get (trials_of q.job es) q.number → Right q (tree.get ordinal_cmp new q)
    stays q h same =
        subst (λ w. Right q w) (sym (got q false h))
        (place_stays es e (place_in (tree.get ordinal_cmp old q)) (slice_get (trials_of q.job es) q.number) (slice_get (trials_of q.job (es ++ e ∷ [])) q.number) same (are q))

    comes : (q : Ordinal) → (o.job == q.job) ≡ true → (o.number == q.number) ≡ true → slice_get (trials_of q.job (es ++ e ∷ [])) q.number ≡ Some t
    comes q j n =
        let of : t.job ≡ q.job = sym job ∙ same_number o.job q.job j in
        let at : length (trials_of q.job es) ≡ q.number = ap (λ k. length (trials_of k es)) (sym of) ∙ sym number ∙ same_number o.number q.number n in
        ap (λ (l : List Trial). slice_get l q.number) (now_longer q.job es t (of_job q true j))
        ∙ ap (λ k. slice_get (trials_of q.job es ++ t ∷ []) k) (sym at)
        ∙ got_last (trials_of q.job es) t

    apart : (q : Ordinal) → (o.job == q.job) ≡ true → (o.number == q.number) ≡ false → length (trials_of q.job es) ≢ q.number
    apart q j n = λ at.
        let of : q.job ≡ t.job = sym (same_number o.job q.job j) ∙ job in
        other_number o.number q.number n (number ∙ ap (λ k. length (trials_of k es)) (sym of) ∙ at)

    go : (q : Ordinal) (b c : Bool) → (o.job == q.job) ≡ b → (o.number == q.number) ≡ c → Right q (tree.get ordinal_cmp new q)
    go q true true j n =
        subst (λ w. Right q w) (sym (got q true (ap (λ b. b && (o.number == q.number)) j ∙ n)))
        (record { says = in_comes es e trial_in (slice_get (trials_of q.job (es ++ e ∷ [])) q.number) (comes q j n); found = ap is_some (sym (comes q j n)) })
    go q true false j n =
        stays q (ap (λ b. b && (o.number == q.number)) j ∙ n)
        (ap (λ (l : List Trial). slice_get l q.number) (now_longer q.job es t (of_job q true j)) ∙ got_else (trials_of q.job es) t q.number (apart q j n))
    go q false c j n =
        stays q (ap (λ b. b && (o.number == q.number)) j)
        (ap (λ (l : List Trial). slice_get l q.number) (else_same q.job es e (tried_else q.job t (of_job q false j))))

pub ordinals_grow : (old new : BTreeMap Ordinal (Option ℕ)) (es : List Entry) (e : Entry) (o : Ordinal) (place : ℕ) → AreOrdinals old es → ordinal_for es e ≡ Some o → length es ≡ place
    → ((q : Ordinal) → tree.get ordinal_cmp new q ≡ cond (is_at (ordinal_cmp o) q) (Some (Some place)) (tree.get ordinal_cmp old q)) → AreOrdinals new (es ++ e ∷ [])
ordinals_grow old new es (Pending t) o place are makes at put =
    let same : record { job = t.job; number = length (trials_of t.job es) } ≡ o = some_same (record { job = t.job; number = length (trials_of t.job es) }) o makes in
    grown old new es t o are (ap (λ (p : Ordinal). p.job) (sym same)) (ap (λ (p : Ordinal). p.number) (sym same))
    (λ q. put q ∙ ap (λ n. cond (is_at (ordinal_cmp o) q) (Some (Some n)) (tree.get ordinal_cmp old q)) (sym at))
ordinals_grow old new es e o place are makes at put = cc

pub none_in_turn : (m : BTreeMap Ordinal (Option ℕ)) → m.entries ≡ [] → AreOrdinals m []
unfolding trials_of
none_in_turn m none = λ o. rw none (record { says = refl; found = refl })
