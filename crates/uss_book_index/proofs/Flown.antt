-- What is kept of each flight, as entries come.
use Rattle.std.proofs.Common.{ℕ, ◌==◌, Bool, true, false, cond, ◌||◌, ◌&&◌, List, [], ◌∷◌, ◌++◌, ◌≡◌, inl, inr, length, refl, ap, sym, subst, ◌∙◌, Option, Some, None, is_some}
use Rattle.std.specs.Option.{option_and_then, option_map}
use Rattle.std.specs.Ordering.{nat_cmp}
use Rattle.std.specs.Cmp.{unsigned_ties}
use Rattle.std.specs.BTreeMap as tree
use Rattle.std.specs.BTreeMap.{BTreeMap, is_at}
use Rattle.uss_event.specs.declared.entries.Entry.{Entry}
use Rattle.uss_event.specs.declared.entries.Entry.TheVariants.{Opened, Held, Done}
use Rattle.uss_law_dss.specs.Lists.{Has}
use Rattle.uss_law_dss.proofs.Tests.{same_number, equal_number}
use Rattle.uss_event.specs.declared.entries.Opening.{Opening}
use Rattle.uss_event.specs.declared.entries.Holding.{Holding}
use Rattle.uss_event.specs.declared.entries.Closing.{Closing}
use Rattle.uss_law_book.specs.Lists.{openings, holdings, endings}
use Rattle.uss_law_book.specs.Contents.{opening_of, jobs_of, last_of, is_ended, is_job_of, has_ended, holdings_of, last_holding}
use Rattle.uss_law_book.specs.Legal.{IsDue, MayOpen}
use Rattle.uss_law_book.specs.Orderly.{IsOrderly}
use Rattle.uss_law_book.proofs.Finds.{first_false}
use Rattle.uss_law_book.proofs.Kept.{open_parts}
use Rattle.uss_book_rules.specs.Speaks.{opening_in, holding_in}
use Rattle.uss_book_index.specs.declared.flight.Flight.{Flight}
use Rattle.uss_book_index.specs.Flights.{IsIn, last_in, recorded_in, IsFlight, AreFlights, flight_in, flight_after}
use Rattle.uss_book_index.proofs.Places.{got_left, got_last, longer, last_is_in}
use Rattle.uss_law_book.proofs.Grown.{last_else, last_new, last_holding_else, last_holding_new, ended_else, ended_new, job_of_old}

pub in_stays : {X : Type 0} (es : List Entry) (e : Entry) (read : Entry → Option X) (w : Option ℕ) (o p : Option X) → p ≡ o → IsIn es read w o → IsIn (es ++ e ∷ []) read w p
in_stays es e read None o p q h = q ∙ h
in_stays es e read (Some n) o p q h = (ap (option_and_then read) (got_left es (e ∷ []) n h.1) ∙ h.0 ∙ sym q, longer es e n h.1)

pub in_comes : {X : Type 0} (es : List Entry) (e : Entry) (read : Entry → Option X) (o : Option X) → o ≡ read e → IsIn (es ++ e ∷ []) read (Some (length es)) o
in_comes es e read o q = (ap (option_and_then read) (got_last es e) ∙ sym q, last_is_in es e)

-- of another flight
pub unchanged : (es : List Entry) (e : Entry) (g : ℕ) (row : Option Flight) → IsOrderly es → IsFlight es g row → ((o : Opening) → Has (openings (e ∷ [])) o → (o.ask.flight == g) ≡ false)
    → ((x : Holding) → Has (holdings (e ∷ [])) x → is_job_of g x.job (es ++ e ∷ []) ≡ false) → ((x : Closing) → Has (endings (e ∷ [])) x → (is_ended x.end && is_job_of g x.job (es ++ e ∷ [])) ≡ false)
    → IsFlight (es ++ e ∷ []) g row
unchanged es e g row s was opened held done =
    record {
      last = in_stays es e opening_in (last_in row) (last_of g es) (last_of g (es ++ e ∷ [])) (last_else g es e opened) was.last;
      recorded = in_stays es e holding_in (recorded_in row) (last_holding g es) (last_holding g (es ++ e ∷ [])) (last_holding_else g es e s held) was.recorded;
      ended = was.ended ∙ sym (ended_else g es e s done);
    }

-- each flight's row is right after the entry
abbrev Rows : List Entry → Entry → Flight → ℕ → Type 0
Rows es e f flight = ((g : ℕ) (row : Option Flight) → (flight == g) ≡ false → IsFlight es g row → IsFlight (es ++ e ∷ []) g row) × (IsFlight es flight (Some f) → IsFlight (es ++ e ∷ []) flight (Some (flight_after f e (length es))))

-- the one that an entry opens
the_one : {X : Type 0} (P : X → Type 0) (x : X) → P x → (y : X) → Has (x ∷ []) y → P y
the_one P x p y (inl q) = subst P q p
the_one P x p y (inr n) = absurd n

opened_rows : (es : List Entry) (o : Opening) (f : Flight) → IsOrderly es → MayOpen es o.job o.ask → Rows es (Opened o) f o.ask.flight
opened_rows es o f s d =
    let e : Entry = Opened o in (
      λ g row other was. unchanged es e g row s was (λ x h. the_one (λ y. (y.ask.flight == g) ≡ false) o other x h) (λ x h. absurd h) (λ x h. absurd h),
      λ was.
          record {
            last = in_comes es e opening_in (last_of o.ask.flight (es ++ e ∷ [])) (last_new es o d);
            recorded = in_stays es e holding_in f.recorded (last_holding o.ask.flight es) (last_holding o.ask.flight (es ++ e ∷ [])) (last_holding_else o.ask.flight es e s (λ x h. absurd h)) was.recorded;
            ended = was.ended ∙ sym (ended_else o.ask.flight es e s (λ x h. absurd h));
          },
    )

held_rows : (es : List Entry) (x : Holding) (o : Opening) (f : Flight) → IsOrderly es → opening_of x.job es ≡ Some o → Rows es (Held x) f o.ask.flight
held_rows es x o f s at =
    let e : Entry = Held x in
    let own : is_job_of o.ask.flight x.job (es ++ e ∷ []) ≡ true = job_of_old es e o.ask.flight x.job o at ∙ equal_number o.ask.flight o.ask.flight refl in (
      λ g row other was. unchanged es e g row s was (λ y h. absurd h) (λ y h. the_one (λ z. is_job_of g z.job (es ++ e ∷ []) ≡ false) x (job_of_old es e g x.job o at ∙ other) y h) (λ y h. absurd h),
      λ was.
          record {
            last = in_stays es e opening_in f.last (last_of o.ask.flight es) (last_of o.ask.flight (es ++ e ∷ [])) (last_else o.ask.flight es e (λ y h. absurd h)) was.last;
            recorded = in_comes es e holding_in (last_holding o.ask.flight (es ++ e ∷ [])) (last_holding_new o.ask.flight es x s own);
            ended = was.ended ∙ sym (ended_else o.ask.flight es e s (λ y h. absurd h));
          },
    )

done_rows : (es : List Entry) (x : Closing) (o : Opening) (f : Flight) → IsOrderly es → opening_of x.job es ≡ Some o → Rows es (Done x) f o.ask.flight
done_rows es x o f s at =
    let e : Entry = Done x in
    let own : is_job_of o.ask.flight x.job (es ++ e ∷ []) ≡ true = job_of_old es e o.ask.flight x.job o at ∙ equal_number o.ask.flight o.ask.flight refl in (
      λ g row other was. unchanged es e g row s was (λ y h. absurd h) (λ y h. absurd h)
          (λ y h. the_one (λ z. (is_ended z.end && is_job_of g z.job (es ++ e ∷ [])) ≡ false) x (first_false (is_ended x.end) (is_job_of g x.job (es ++ e ∷ [])) (job_of_old es e g x.job o at ∙ other)) y h),
      λ was.
          record {
            last = in_stays es e opening_in f.last (last_of o.ask.flight es) (last_of o.ask.flight (es ++ e ∷ [])) (last_else o.ask.flight es e (λ y h. absurd h)) was.last;
            recorded = in_stays es e holding_in f.recorded (last_holding o.ask.flight es) (last_holding o.ask.flight (es ++ e ∷ [])) (last_holding_else o.ask.flight es e s (λ y h. absurd h)) was.recorded;
            ended = ap (λ b. b || is_ended x.end) was.ended ∙ sym (ended_new o.ask.flight es x s own);
          },
    )

mapped_flight : (w : Option Opening) (flight : ℕ) → option_map (λ (o : Opening). o.ask.flight) w ≡ Some flight → (o : Opening) × (w ≡ Some o) × (o.ask.flight ≡ flight)
mapped_flight None flight h = cc
mapped_flight (Some o) flight h = (o, refl, cc)

rows_after : (es : List Entry) (e : Entry) (flight : ℕ) (f : Flight) → IsOrderly es → IsDue es e → flight_in es e ≡ Some flight → Rows es e f flight
rows_after es (Opened o) flight f s d at =
    let same : o.ask.flight ≡ flight = cc in
    subst (λ g. Rows es (Opened o) f g) same (opened_rows es o f s d)
rows_after es (Held h) flight f s d at =
    let o = mapped_flight (opening_of h.job es) flight at in
    subst (λ g. Rows es (Held h) f g) o.2 (held_rows es h o.0 f s o.1)
rows_after es (Done ending) flight f s d at =
    let o = mapped_flight (opening_of ending.job es) flight at in
    subst (λ g. Rows es (Done ending) f g) o.2 (done_rows es ending o.0 f s o.1)
rows_after es _ flight f s d at = cc

pub flown : (old new : BTreeMap ℕ Flight) (es : List Entry) (e : Entry) (flight : ℕ) (f : Flight) → AreFlights old es → IsOrderly es → IsDue es e → flight_in es e ≡ Some flight → tree.get nat_cmp old flight ≡ Some f
    → ((q : ℕ) → tree.get nat_cmp new q ≡ cond (is_at (nat_cmp flight) q) (Some (flight_after f e (length es))) (tree.get nat_cmp old q)) → AreFlights new (es ++ e ∷ [])
flown old new es e flight f are s d at here put = λ g. go g (flight == g) refl
  where
    got : (g : ℕ) (b : Bool) → (flight == g) ≡ b → tree.get nat_cmp new g ≡ cond b (Some (flight_after f e (length es))) (tree.get nat_cmp old g)
    got g b h = put g ∙ ap (λ x. cond x (Some (flight_after f e (length es))) (tree.get nat_cmp old g)) (sym (unsigned_ties flight g) ∙ h)

    go : (g : ℕ) (b : Bool) → (flight == g) ≡ b → IsFlight (es ++ e ∷ []) g (tree.get nat_cmp new g)
    go g true h =
        let was : IsFlight es flight (Some f) = subst (λ (o : Option Flight). IsFlight es flight o) here (are flight) in
        let now : IsFlight (es ++ e ∷ []) flight (Some (flight_after f e (length es))) = (rows_after es e flight f s d at).1 was in
        subst (λ (o : Option Flight). IsFlight (es ++ e ∷ []) g o) (sym (got g true h)) (subst (λ k. IsFlight (es ++ e ∷ []) k (Some (flight_after f e (length es)))) (same_number flight g h) now)
    go g false h = subst (λ (o : Option Flight). IsFlight (es ++ e ∷ []) g o) (sym (got g false h)) ((rows_after es e flight f s d at).0 g (tree.get nat_cmp old g) h (are g))

pub none_flown : (m : BTreeMap ℕ Flight) → m.entries ≡ [] → AreFlights m []
unfolding last_of has_ended jobs_of holdings_of
none_flown m none = λ g. rw none (record { last = refl; recorded = refl; ended = refl })

-- an entry that changes no flight
no_flight : {P : Type 0} (w : Option Opening) (o : Opening) → w ≡ Some o → option_map (λ (p : Opening). p.ask.flight) w ≡ None → P
no_flight w o at none = absurd (let e : option_map (λ (p : Opening). p.ask.flight) (Some o) ≡ None = subst (λ x. option_map (λ (p : Opening). p.ask.flight) x ≡ None) at none in cc)

pub flights_stay : (flights : BTreeMap ℕ Flight) (es : List Entry) (e : Entry) → AreFlights flights es → IsOrderly es → IsDue es e → flight_in es e ≡ None → AreFlights flights (es ++ e ∷ [])
flights_stay flights es (Opened o) are s d at = cc
flights_stay flights es (Held h) are s d at = let o = open_parts es h.job d.unfinished in no_flight (opening_of h.job es) o.0 o.1 at
flights_stay flights es (Done ending) are s d at = no_flight (opening_of ending.job es) d.opening d.opened at
flights_stay flights es e are s d at = λ g. unchanged es e g (tree.get nat_cmp flights g) s (are g) (λ x h. absurd h) (λ x h. absurd h) (λ x h. absurd h)
