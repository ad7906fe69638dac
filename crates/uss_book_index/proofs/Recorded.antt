-- What was recorded last of each flight, as entries come.
use Rattle.std.proofs.Common.{ℕ, ◌==◌, Bool, true, false, cond, List, [], ◌∷◌, ◌++◌, ◌≡◌, ◌⊎◌, inl, inr, refl, ap, sym, subst, ◌∙◌, Option, Some, None, is_some}
use Rattle.std.specs.List.{last_or}
use Rattle.std.specs.Option.{option_map}
use Rattle.std.specs.Ordering.{nat_cmp}
use Rattle.std.specs.Cmp.{unsigned_ties}
use Rattle.std.specs.BTreeMap as tree
use Rattle.std.specs.BTreeMap.{BTreeMap, is_at}
use Rattle.uss_event.specs.Pairs.{OperationalIntent}
use Rattle.uss_event.specs.declared.entries.Entry.{Entry}
use Rattle.uss_event.specs.declared.entries.Entry.TheVariants.{Held}
use Rattle.uss_law_dss.specs.Lists.{Has}
use Rattle.uss_law_dss.proofs.Lists.{has_filter}
use Rattle.uss_law_dss.proofs.Tests.{same_number, equal_number}
use Rattle.uss_event.specs.declared.entries.Opening.{Opening}
use Rattle.uss_event.specs.declared.entries.Holding.{Holding}
use Rattle.uss_law_book.specs.Lists.{holdings}
use Rattle.uss_law_book.specs.Contents.{opening_of, is_job_of, holdings_of, last_holding}
use Rattle.uss_law_book.specs.Attempts.{Attempted, attempt_of, recorded_as, held_by}
use Rattle.uss_law_book.specs.Legal.{IsDue, MayHold}
use Rattle.uss_law_book.specs.Orderly.{IsOrderly}
use Rattle.uss_law_book.proofs.Attempts.{attempt_kept}
use Rattle.uss_law_book.proofs.EachOrderly.{owned}
use Rattle.uss_law_book.proofs.Kept.{open_parts}
use Rattle.uss_book_index.specs.Flights.{flight_in}
use Rattle.uss_book_index.specs.Records.{AreRecords, pair_in, pair_for}
use Rattle.uss_law_book.proofs.Grown.{last_holding_else, last_holding_new, job_of_old}

-- a flight with room isn't missing
pub not_missing : {X : Type 0} (w : Option X) → is_some w ≡ true → w ≡ None → ⊥
not_missing (Some x) h none = cc
not_missing None h none = cc

has_last_or : {X : Type 0} (o : Option X) (xs : List X) (x : X) → last_or o xs ≡ Some x → (o ≡ Some x) ⊎ Has xs x
has_last_or o [] x h = inl h
has_last_or o (y ∷ xs) x h = elim (has_last_or (Some y) xs x h) [ inl e ↦ inr (inl (cc)) | inr k ↦ inr (inr k) ]

last_has : (g : ℕ) (es : List Entry) (x : Holding) → last_holding g es ≡ Some x → Has (holdings es) x
unfolding holdings_of
last_has g es x h = elim (has_last_or None (holdings_of g es) x h) [
  | inl n ↦ cc
  | inr k ↦ has_filter (λ (y : Holding). is_job_of g y.job es) (holdings es) x k
]

-- what was recorded stays
held_stays : (es : List Entry) (e : Entry) (w : Option Holding) → IsOrderly es → ((x : Holding) → w ≡ Some x → Has (holdings es) x) → held_by (es ++ e ∷ []) w ≡ held_by es w
held_stays es e None s h = refl
held_stays es e (Some x) s h =
    let t = s.own x (h x refl) in
    let a = s.attempted t.0 t.1 in
    let at : attempt_of x.tag es ≡ Some a.0 = subst (λ n. attempt_of n es ≡ Some a.0) t.3 a.1 in
    ap (option_map (λ (y : Attempted). recorded_as y x.ovn x.version)) (attempt_kept es (e ∷ []) x.tag a.0 at ∙ sym at)

else_stays : (es : List Entry) (e : Entry) (g : ℕ) → IsOrderly es → ((x : Holding) → Has (holdings (e ∷ [])) x → is_job_of g x.job (es ++ e ∷ []) ≡ false) → held_by es (last_holding g es) ≡ held_by (es ++ e ∷ []) (last_holding g (es ++ e ∷ []))
else_stays es e g s none =
    sym (held_stays es e (last_holding g es) s (λ x h. last_has g es x h)) ∙ sym (ap (held_by (es ++ e ∷ [])) (last_holding_else g es e s none))

-- an attempt that may be held
held_attempt : (es : List Entry) (job tag : ℕ) → IsOrderly es → MayHold es job tag → (a : Attempted) × (attempt_of tag es ≡ Some a)
held_attempt es job tag s d =
    let t = owned es job tag d.own in
    let a = s.attempted t.0 t.1 in
    (a.0, subst (λ n. attempt_of n es ≡ Some a.0) t.3 a.1)

mapped_none : {X Y P : Type 0} (f : X → Y) (w : Option X) (x : X) → w ≡ Some x → option_map f w ≡ None → P
mapped_none f w x at none = absurd (let e : option_map f (Some x) ≡ None = subst (λ y. option_map f y ≡ None) at none in cc)

pub records_stay : (pairs : BTreeMap ℕ (Option OperationalIntent)) (es : List Entry) (e : Entry) → AreRecords pairs es → IsOrderly es → IsDue es e → pair_for es e ≡ None → AreRecords pairs (es ++ e ∷ [])
records_stay pairs es (Held h) are s d none =
    let a = held_attempt es h.job h.tag s d in mapped_none (λ (y : Attempted). recorded_as y h.ovn h.version) (attempt_of h.tag es) a.0 a.1 none
records_stay pairs es e are s d none = λ g. are g ∙ else_stays es e g s (λ x h. absurd h)

-- what is recorded is of a flight
pub recorded_of_flight : {P : Type 0} (es : List Entry) (e : Entry) (p : OperationalIntent) → IsDue es e → flight_in es e ≡ None → pair_for es e ≡ Some p → P
recorded_of_flight es (Held h) p d none some =
    let o = open_parts es h.job d.unfinished in mapped_none (λ (p : Opening). p.ask.flight) (opening_of h.job es) o.0 o.1 none
recorded_of_flight es e p d none some = cc

new_pair : (es : List Entry) (x : Holding) (o : Opening) → IsOrderly es → MayHold es x.job x.tag → opening_of x.job es ≡ Some o
    → held_by (es ++ Held x ∷ []) (last_holding o.ask.flight (es ++ Held x ∷ [])) ≡ pair_for es (Held x)
new_pair es x o s d at =
    let e : Entry = Held x in
    let own : is_job_of o.ask.flight x.job (es ++ e ∷ []) ≡ true = job_of_old es e o.ask.flight x.job o at ∙ equal_number o.ask.flight o.ask.flight refl in
    let a = held_attempt es x.job x.tag s d in
    ap (held_by (es ++ e ∷ [])) (last_holding_new o.ask.flight es x s own)
    ∙ ap (option_map (λ (y : Attempted). recorded_as y x.ovn x.version)) (attempt_kept es (e ∷ []) x.tag a.0 a.1 ∙ sym a.1)

the_holding : (P : Holding → Type 0) (x : Holding) → P x → (y : Holding) → Has (x ∷ []) y → P y
the_holding P x p y (inl q) = subst P q p
the_holding P x p y (inr n) = absurd n

mapped_flight : (w : Option Opening) (flight : ℕ) → option_map (λ (o : Opening). o.ask.flight) w ≡ Some flight → (o : Opening) × (w ≡ Some o) × (o.ask.flight ≡ flight)
mapped_flight None flight h = cc
mapped_flight (Some o) flight h = (o, refl, cc)

-- the flight's own, and the others'
pub record Rows (es : List Entry) (e : Entry) (flight : ℕ) : Type 0 where
  pub own : held_by (es ++ e ∷ []) (last_holding flight (es ++ e ∷ [])) ≡ pair_for es e
  pub others : (g : ℕ) → (flight == g) ≡ false → held_by es (last_holding g es) ≡ held_by (es ++ e ∷ []) (last_holding g (es ++ e ∷ []))

rows_after : (es : List Entry) (e : Entry) (flight : ℕ) (p : OperationalIntent) → IsOrderly es → IsDue es e → flight_in es e ≡ Some flight → pair_for es e ≡ Some p → Rows es e flight
rows_after es (Held holding) flight p s d at some =
    let e : Entry = Held holding in
    let x : Holding = holding in
    let o = mapped_flight (opening_of holding.job es) flight at in
    subst (λ f. Rows es e f) o.2
    (record {
      own = new_pair es x o.0 s d o.1;
      others = λ g other. else_stays es e g s (λ y h. the_holding (λ z. is_job_of g z.job (es ++ e ∷ []) ≡ false) x (job_of_old es e g holding.job o.0 o.1 ∙ other) y h);
    })
rows_after es e flight p s d at some = cc

pub recorded : (old new : BTreeMap ℕ (Option OperationalIntent)) (es : List Entry) (e : Entry) (flight : ℕ) (p : OperationalIntent) → AreRecords old es → IsOrderly es → IsDue es e → flight_in es e ≡ Some flight → pair_for es e ≡ Some p
    → ((q : ℕ) → tree.get nat_cmp new q ≡ cond (is_at (nat_cmp flight) q) (Some (Some p)) (tree.get nat_cmp old q)) → AreRecords new (es ++ e ∷ [])
recorded old new es e flight p are s d here some put = λ g. go g (flight == g) refl
  where
    rows : Rows es e flight
    rows = rows_after es e flight p s d here some

    got : (g : ℕ) (b : Bool) → (flight == g) ≡ b → tree.get nat_cmp new g ≡ cond b (Some (Some p)) (tree.get nat_cmp old g)
    got g b h = put g ∙ ap (λ x. cond x (Some (Some p)) (tree.get nat_cmp old g)) (sym (unsigned_ties flight g) ∙ h)

    go : (g : ℕ) (b : Bool) → (flight == g) ≡ b → pair_in (tree.get nat_cmp new g) ≡ held_by (es ++ e ∷ []) (last_holding g (es ++ e ∷ []))
    go g true h =
        let own : Some p ≡ held_by (es ++ e ∷ []) (last_holding flight (es ++ e ∷ [])) = sym some ∙ sym rows.own in
        ap pair_in (got g true h) ∙ subst (λ k. Some p ≡ held_by (es ++ e ∷ []) (last_holding k (es ++ e ∷ []))) (same_number flight g h) own
    go g false h = ap pair_in (got g false h) ∙ are g ∙ rows.others g h

pub none_recorded : (m : BTreeMap ℕ (Option OperationalIntent)) → m.entries ≡ [] → AreRecords m []
unfolding holdings_of
none_recorded m none = λ g. rw none refl
