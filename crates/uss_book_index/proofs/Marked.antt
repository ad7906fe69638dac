-- The map of the first places, as entries come.
use Rattle.std.proofs.Common.{ℕ, ◌==◌, Bool, true, false, cond, ◌&&◌, List, [], ◌∷◌, ◌++◌, ◌≡◌, length, refl, ap, sym, subst, ◌∙◌, arith, Option, Some, None}
use Rattle.std.specs.Ordering.{nat_cmp, is_eq, ordering_then}
use Rattle.std.specs.BTreeMap as tree
use Rattle.std.specs.BTreeMap.{BTreeMap, is_at}
use Rattle.std.specs.List.{find}
use Rattle.std.specs.Cmp.{unsigned_ties}
use Rattle.std.proofs.lemmas.Bool.Decides.{nat_tests}
use Rattle.uss_event.specs.declared.entries.Entry.{Entry}
use Rattle.uss_event.specs.declared.entries.Entry.TheVariants as Enters
use Rattle.uss_law_dss.proofs.Tests.{same_number, both}
use Rattle.uss_book_index.specs.declared.marks.Mark.{Mark}
use Rattle.uss_book_index.specs.declared.marks.Mark.TheVariants as Marks
use Rattle.uss_book_index.specs.Marks.{mark_of, has_mark}
use Rattle.uss_book_index.specs.MarkOrder.{mark_cmp}
use Rattle.uss_book_index.specs.Firsts.{IsAt, AreFirsts}
use Rattle.uss_book_index.proofs.Places.{unlike_stays, first_stays, first_comes}

-- an entry has one mark
pub same_mark : (e : Entry) (m : Mark) → has_mark m e ≡ true → mark_of e ≡ m
same_mark (Enters.Owner owner) Marks.Owner h = refl
same_mark (Enters.Owner owner) _ h = cc
same_mark (Enters.Opened o) (Marks.Opened k) h = ap Marks.Opened (same_number o.job k h)
same_mark (Enters.Opened o) _ h = cc
same_mark (Enters.TicketOpen job) (Marks.TicketOpen k) h = ap Marks.TicketOpen (same_number job k h)
same_mark (Enters.TicketOpen job) _ h = cc
same_mark (Enters.Pending t) (Marks.Pending k) h = ap Marks.Pending (same_number t.tag k h)
same_mark (Enters.Pending t) _ h = cc
same_mark (Enters.Held holding) (Marks.Held k) h = ap Marks.Held (same_number holding.job k h)
same_mark (Enters.Held holding) _ h = cc
same_mark (Enters.Deciding d) (Marks.Deciding k) h = ap Marks.Deciding (same_number d.job k h)
same_mark (Enters.Deciding d) _ h = cc
same_mark (Enters.Done d) (Marks.Done k) h = ap Marks.Done (same_number d.job k h)
same_mark (Enters.Done d) _ h = cc
same_mark (Enters.TicketGone job) (Marks.TicketGone k) h = ap Marks.TicketGone (same_number job k h)
same_mark (Enters.TicketGone job) _ h = cc
same_mark (Enters.Sent n) (Marks.Sent k p) h =
    let b = both (n.job == k) (n.index == p) h in rw (same_number n.job k b.0, same_number n.index p b.1) refl
same_mark (Enters.Sent n) _ h = cc

pub pair_ties : (a b c d : ℕ) → is_eq (ordering_then (nat_cmp a b) (nat_cmp c d)) ≡ ((a == b) && (c == d))
pair_ties a b c d = grind (arith, nat_tests)

-- the order finds the mark of an entry
pub at_mark : (e : Entry) (m : Mark) → is_at (mark_cmp (mark_of e)) m ≡ has_mark m e
at_mark (Enters.Owner owner) Marks.Owner = refl
at_mark (Enters.Owner owner) _ = refl
at_mark (Enters.Opened o) (Marks.Opened k) = sym (unsigned_ties o.job k)
at_mark (Enters.Opened o) _ = refl
at_mark (Enters.TicketOpen job) (Marks.TicketOpen k) = sym (unsigned_ties job k)
at_mark (Enters.TicketOpen job) _ = refl
at_mark (Enters.Pending t) (Marks.Pending k) = sym (unsigned_ties t.tag k)
at_mark (Enters.Pending t) _ = refl
at_mark (Enters.Held h) (Marks.Held k) = sym (unsigned_ties h.job k)
at_mark (Enters.Held h) _ = refl
at_mark (Enters.Deciding d) (Marks.Deciding k) = sym (unsigned_ties d.job k)
at_mark (Enters.Deciding d) _ = refl
at_mark (Enters.Done d) (Marks.Done k) = sym (unsigned_ties d.job k)
at_mark (Enters.Done d) _ = refl
at_mark (Enters.TicketGone job) (Marks.TicketGone k) = sym (unsigned_ties job k)
at_mark (Enters.TicketGone job) _ = refl
at_mark (Enters.Sent n) (Marks.Sent k p) = pair_ties n.job k n.index p
at_mark (Enters.Sent n) _ = refl

-- there was room alone
pub entered_first : (old new : BTreeMap Mark (Option ℕ)) (mark : Mark) (place : ℕ) (es : List Entry) (e : Entry) → AreFirsts old es → mark_of e ≡ mark → length es ≡ place → tree.get mark_cmp old mark ≡ Some None
    → ((q : Mark) → tree.get mark_cmp new q ≡ cond (is_at (mark_cmp mark) q) (Some (Some place)) (tree.get mark_cmp old q)) → AreFirsts new (es ++ e ∷ [])
entered_first old new mark place es e firsts of at room put = λ m. go m (has_mark m e) refl
  where
    got : (m : Mark) (b : Bool) → has_mark m e ≡ b → tree.get mark_cmp new m ≡ cond b (Some (Some place)) (tree.get mark_cmp old m)
    got m b h = put m ∙ ap (λ x. cond x (Some (Some place)) (tree.get mark_cmp old m)) (ap (λ k. is_at (mark_cmp k) m) (sym of) ∙ at_mark e m ∙ h)

    go : (m : Mark) (b : Bool) → has_mark m e ≡ b → IsAt (es ++ e ∷ []) (tree.get mark_cmp new m) (find (has_mark m) (es ++ e ∷ []))
    go m true h =
        let same : mark ≡ m = sym of ∙ same_mark e m h in
        let here : tree.get mark_cmp old m ≡ Some None = subst (λ k. tree.get mark_cmp old k ≡ Some None) same room in
        let none : find (has_mark m) es ≡ None = subst (λ w. IsAt es w (find (has_mark m) es)) here (firsts m) in
        let now : tree.get mark_cmp new m ≡ Some (Some (length es)) = got m true h ∙ ap (λ n. Some (Some n)) (sym at) in
        subst (λ w. IsAt (es ++ e ∷ []) w (find (has_mark m) (es ++ e ∷ []))) (sym now) (first_comes (has_mark m) es e none h)
    go m false h =
        subst (λ w. IsAt (es ++ e ∷ []) w (find (has_mark m) (es ++ e ∷ []))) (sym (got m false h)) (unlike_stays (has_mark m) es e (tree.get mark_cmp old m) h (firsts m))

-- there was a first already
pub entered_again : (old : BTreeMap Mark (Option ℕ)) (mark : Mark) (n : ℕ) (es : List Entry) (e : Entry) → AreFirsts old es → mark_of e ≡ mark → tree.get mark_cmp old mark ≡ Some (Some n) → AreFirsts old (es ++ e ∷ [])
entered_again old mark n es e firsts of there = λ m. go m (has_mark m e) refl
  where
    go : (m : Mark) (b : Bool) → has_mark m e ≡ b → IsAt (es ++ e ∷ []) (tree.get mark_cmp old m) (find (has_mark m) (es ++ e ∷ []))
    go m true h =
        let same : mark ≡ m = sym of ∙ same_mark e m h in
        let here : tree.get mark_cmp old m ≡ Some (Some n) = subst (λ k. tree.get mark_cmp old k ≡ Some (Some n)) same there in
        let was : IsAt es (Some (Some n)) (find (has_mark m) es) = subst (λ w. IsAt es w (find (has_mark m) es)) here (firsts m) in
        subst (λ w. IsAt (es ++ e ∷ []) w (find (has_mark m) (es ++ e ∷ []))) (sym here) (first_stays (has_mark m) es e n was)
    go m false h = unlike_stays (has_mark m) es e (tree.get mark_cmp old m) h (firsts m)
