-- What a book tells, by its marks.
use Rattle.std.proofs.Common.{ℕ, ◌==◌, Bool, true, false, cond, ◌||◌, ◌&&◌, List, [], ◌∷◌, ◌≡◌, refl, ap, sym, subst, ◌∙◌, Option, Some, None, is_some, slice_get, Bor}
use Rattle.std.specs.List.{list_any, find}
use Rattle.std.specs.Option.{option_and_then, option_copied}
use Rattle.uss_event.specs.declared.entries.Entry.{Entry}
use Rattle.uss_law_dss.specs.Lists.{Has}
use Rattle.uss_law_dss.proofs.Lists.{none_passes, any_true, find_none, find_has}
use Rattle.uss_law_dss.proofs.Tests.{same_number, equal_number, and_true}
use Rattle.uss_event.specs.declared.entries.Trial.{Trial}
use Rattle.uss_event.specs.declared.entries.Closing.{Closing}
use Rattle.uss_law_book.specs.Lists.{trials}
use Rattle.uss_law_book.specs.Contents.{trial_of, owns, decision_of}
use Rattle.uss_law_book.specs.Orderly.{IsOrderly}
use Rattle.uss_book_index.specs.Flights.{IsIn}
use Rattle.uss_event.specs.declared.entries.Entry.TheVariants.{Deciding}
use Rattle.uss_book_rules.specs.Speaks.{decides}
use Rattle.uss_book_index.specs.Sent.{is_by_job}
use Rattle.uss_book_index.proofs.Places.{got_some}

-- what a place says
pub said_in : {X : Type 0} (es : List Entry) (read : Entry → Option X) (w : Option ℕ) (o : Option X) → IsIn es read w o → option_and_then read (option_and_then (slice_get es) w) ≡ o
said_in es read None o h = sym h
said_in es read (Some n) o h = h.0

-- an entry is given exactly where there is one
pub found_in : {X : Type 0} (es : List Entry) (read : Entry → Option X) (w : Option ℕ) (o : Option X) → IsIn es read w o → is_some w ≡ is_some o → is_some (option_and_then (slice_get es) w) ≡ is_some o
found_in es read None o h k = k
found_in es read (Some n) o h k = let g = got_some es n h.1 in ap is_some g.1 ∙ k

pub copied_some : {X : Type 0} (o : Option (Bor X)) → is_some o ≡ is_some (option_copied o)
copied_some None = refl
copied_some (Some x) = refl

pub owns_is : (job tag : ℕ) (es : List Entry) → IsOrderly es → is_by_job job (trial_of tag es) ≡ owns job tag es
unfolding owns trial_of
owns_is job tag es s = go (find (λ (t : Trial). t.tag == tag) (trials es)) refl
  where
    test : Trial → Bool
    test t = (t.job == job) && (t.tag == tag)

    none : (t : Trial) → (t.tag == tag) ≡ false → test t ≡ false
    none t h = by (t.job == job) h
      where
        by : (b : Bool) → (t.tag == tag) ≡ false → (b && (t.tag == tag)) ≡ false
        by true k = k
        by false k = refl

    at : (t : Trial) (b : Bool) → Has (trials es) t → t.tag ≡ tag → (t.job == job) ≡ b → b ≡ list_any test (trials es)
    at t true h k e = sym (any_true test (trials es) t h (and_true (t.job == job) (t.tag == tag) e (equal_number t.tag tag k)))
    at t false h k e = sym (none_passes test (trials es) (λ u i. other u (u.tag == tag) i refl))
      where
        other : (u : Trial) (b : Bool) → Has (trials es) u → (u.tag == tag) ≡ b → test u ≡ false
        other u true i q =
            let same : u ≡ t = s.tags u t i h (same_number u.tag tag q ∙ sym k) in
            subst (λ x. ((x.job == job) && (x.tag == tag)) ≡ false) (sym same) (rw e refl)
        other u false i q = none u q

    go : (o : Option Trial) → find (λ (t : Trial). t.tag == tag) (trials es) ≡ o → is_by_job job o ≡ list_any test (trials es)
    go None e = sym (none_passes test (trials es) (λ t h. none t (find_none (λ (x : Trial). x.tag == tag) (trials es) t e h)))
    go (Some t) e = let f = find_has (λ (x : Trial). x.tag == tag) (trials es) t e in at t (t.job == job) f.0 (same_number t.tag tag f.1) refl

pub decided_by_any : (job : ℕ) (es : List Entry) → list_any (decides job) es ≡ is_some (decision_of job es)
unfolding decision_of
decided_by_any job [] = refl
decided_by_any job (Deciding d ∷ es) = found (d.job == job) (decided_by_any job es)
  where
    o : Closing
    o = d

    found : (b : Bool) → list_any (decides job) es ≡ is_some (decision_of job es) → (b || list_any (decides job) es) ≡ is_some (cond b (Some o) (decision_of job es))
    found true h = refl
    found false h = h
decided_by_any job (_ ∷ es) = decided_by_any job es
