-- What was said stays said, and each final answer is true.
use Rattle.std.proofs.Common.{ℕ, ◌≡◌, inl, inr, ◌==◌, ◌&&◌, Bool, true, false, cond, List, [], ◌∷◌, refl, ap, sym, subst, ◌∙◌, Option, Some, None, is_none}
use Rattle.uss_intent.specs.Identifiers.{flight_number}
use Rattle.uss_intent.specs.declared.records.Landing.{Landing}
use Rattle.uss_intent.specs.Numbers.{is_one_of}
use Rattle.uss_law_duty.specs.Duties.{Choice}
use Rattle.uss_event.specs.declared.entries.Owner.{Owner}
use Rattle.uss_event.specs.declared.entries.Ending.{Ending}
use Rattle.uss_event.specs.declared.entries.Ending.TheVariants as Ends
use Rattle.uss_event.specs.declared.events.Answer.{Answer}
use Rattle.uss_event.specs.declared.events.Answer.TheVariants as Answers
use Rattle.uss_event.specs.declared.events.Said.{Said}
use Rattle.uss_event.specs.declared.events.Said.TheVariants as Says
use Rattle.uss_event.specs.declared.steps.Stopped.{Stopped}
use Rattle.uss_event.specs.declared.steps.Stopped.TheVariants as Turns
use Rattle.uss_law_dss.specs.Lists.{Has}
use Rattle.uss_law_dss.proofs.Lists.{has_left, find_has}
use Rattle.uss_law_dss.proofs.Tests.{some_same, both, and_true, same_number, equal_number}
use Rattle.uss_event.specs.declared.entries.Opening.{Opening}
use Rattle.uss_event.specs.declared.entries.Trial.{Trial}
use Rattle.uss_event.specs.declared.entries.Holding.{Holding}
use Rattle.uss_law_book.specs.Lists.{openings, trials, holdings}
use Rattle.uss_law_book.specs.Contents.{is_ended}
use Rattle.uss_law_book.specs.Orderly.{IsOrderly}
use Rattle.uss_law_book.proofs.Finds.{find_found}
use Rattle.uss_law_book.proofs.Attempts.{trial_has}
use Rattle.uss_law_book.proofs.EachOrderly.{legal_is_orderly}
use Rattle.uss_law_duty.specs.Answers.{by_end, job_of_request}
use Rattle.uss_law_world.specs.World.{Post, Saying, World, book_of, post_at}
use Rattle.uss_law_world.specs.World.Post.{Called, Replied, Asked, Answered}
use Rattle.uss_law_world.specs.Moves.{Move, Arrival, arrival_by, arrival_of, arrives, brings, comes, takes, next_message, delivers_next, drains, marked_by, after_restart, after_step, stops, loses, happens, run, fault_of}
use Rattle.uss_law_world.specs.Moves.{Move as Moves}
use Rattle.uss_law_world.specs.Free.{AreSuppliers}
use Rattle.uss_law_world.specs.Claims.{IsLandingOf, IsRecordedSo, IsTrueAnswer, IsTrueOfRequest, SaysTrue}
use Rattle.uss_law_world.proofs.Facts.{IsByHolding, IsByClosing, IsKept, SaidIsKept, Facts}
use Rattle.uss_law_world.proofs.Jobs.{by_opening, flight_is, nothing_lands}

-- what was said stays said

arrives_says : (w : World) (c : Choice) (o : Option Arrival) (x : Saying) → Has w.sayings x → Has (arrives w c o).sayings x
arrives_says w c None x h = h
arrives_says w c (Some a) x h = has_left w.sayings _ x h

brings_says : (w : World) (k : ℕ) (c : Choice) (p : Post) (x : Saying) → Has w.sayings x → Has (brings w k c p).sayings x
brings_says w k c (Called from call) x h = h
brings_says w k c (Replied to answered call reply) x h = arrives_says w c (arrival_by w k (Some (Replied to answered call reply))) x h
brings_says w k c (Asked from to call) x h = arrives_says w c (arrival_by w k (Some (Asked from to call))) x h
brings_says w k c (Answered to answered call reply) x h = arrives_says w c (arrival_by w k (Some (Answered to answered call reply))) x h

comes_says : (w : World) (k : ℕ) (c : Choice) (o : Option Post) (x : Saying) → Has w.sayings x → Has (comes w k c o).sayings x
comes_says w k c None x h = h
comes_says w k c (Some p) x h = brings_says w k c p x h

takes_says : (w : World) (step : Stopped) (c : Choice) (x : Saying) → Has w.sayings x → Has (takes w step c).sayings x
takes_says w (Turns.Ask s ask) c x h = arrives_says w c (arrival_of w (Turns.Ask s ask)) x h
takes_says w (Turns.Cancel s flight number) c x h = arrives_says w c (arrival_of w (Turns.Cancel s flight number)) x h
takes_says w (Turns.Position s ask) c x h = arrives_says w c (arrival_of w (Turns.Position s ask)) x h
takes_says w (Turns.Sweep s skip) c x h = arrives_says w c (arrival_of w (Turns.Sweep s skip)) x h
takes_says w (Turns.Deliver k) c x h = comes_says w k c (post_at k w) x h

next_says : (w : World) (c : Choice) (o : Option ℕ) (x : Saying) → Has w.sayings x → Has (delivers_next w c o).sayings x
next_says w c None x h = h
next_says w c (Some k) x h = comes_says w k c (post_at k w) x h

drains_says : (cs : List Choice) (w : World) (x : Saying) → Has w.sayings x → Has (drains w cs).sayings x
drains_says [] w x h = h
drains_says (c ∷ cs) w x h = drains_says cs (delivers_next w c (next_message w)) x (next_says w c (next_message w) x h)

marked_says : (step : Stopped) (w : World) (x : Saying) → Has w.sayings x → Has (marked_by step w).sayings x
marked_says (Turns.Deliver k) w x h = h
marked_says (Turns.Ask s ask) w x h = h
marked_says (Turns.Cancel s flight number) w x h = h
marked_says (Turns.Position s ask) w x h = h
marked_says (Turns.Sweep s skip) w x h = h

stops_says : (w : World) (kept : Bool) (sent : ℕ) (step : Stopped) (c : Choice) (o : Option Arrival) (x : Saying) → Has w.sayings x → Has (stops w kept sent step c o).sayings x
stops_says w kept sent step c None x h = h
stops_says w true sent step c (Some a) x h = marked_says step (after_restart (after_step w a c _) a.supplier) x (has_left w.sayings _ x h)
stops_says w false sent step c (Some a) x h = h

loses_says : (w : World) (k : ℕ) (o : Option Post) (x : Saying) → Has w.sayings x → Has (loses w k o).sayings x
loses_says w k None x h = h
loses_says w k (Some p) x h = h

move_says : (w : World) (m : Move) (x : Saying) → Has w.sayings x → Has (happens w m).sayings x
move_says w (Moves.Now moment) x h = h
move_says w (Moves.Takes step c) x h = takes_says w step c x h
move_says w (Moves.Lose k) x h = loses_says w k (post_at k w) x h
move_says w (Moves.Drain cs) x h = drains_says cs w x h
move_says w (Moves.Fault k c) x h = arrives_says w c (fault_of w k) x h
move_says w (Moves.Restart s) x h = h
move_says w (Moves.Stop kept sent step c) x h = stops_says w kept sent step c (arrival_of w step) x h

pub run_says : (ms : List Move) (w : World) (x : Saying) → Has w.sayings x → Has (run w ms).sayings x
run_says [] w x h = h
run_says (m ∷ ms) w x h = run_says ms (happens w m) x (move_says w m x h)

-- each final answer is true

module _ (table : List ℕ) (owners : List Owner) (w : World) (names : AreSuppliers table owners) (j : Facts table owners w) where
  recorded_so : (s : ℕ) (o : Opening) (h : Holding) (t : Trial) → IsOrderly (book_of s w) → Has (openings (book_of s w)) o → Has (holdings (book_of s w)) h → h.job ≡ o.job → Has (trials (book_of s w)) t → t.tag ≡ h.tag
      → IsRecordedSo w s o.job (flight_number s o.ask.flight) h.tag t.alternative h.ovn h.version
  recorded_so s o h t r i k e n q =
      let m = j.entered s h k in
      let own = r.own h k in
      let same : own.0 ≡ t = r.tags own.0 t own.1 n (own.3 ∙ sym q) in
      let job : t.job ≡ o.job = ap (λ (z : Trial). z.job) (sym same) ∙ (own.2 ∙ e) in
      record {
        landing = m.landing;
        of_job = record { there = m.landed; manager = m.manager; trial = t; tried = n; job_is = job; tag = q ∙ sym m.tag_is };
        flight_is = flight_is table owners w names j s t m.landing o n m.landed m.manager (q ∙ sym m.tag_is) i (sym job);
        tag_is = m.tag_is;
        ovn_is = m.ovn;
        alternative_is = refl;
        version_is = m.rank;
      }

  by_holding : (s : ℕ) (o : Opening) (answer : Answer) → IsOrderly (book_of s w) → Has (openings (book_of s w)) o → IsByHolding (book_of s w) s o answer → IsTrueAnswer w s o answer
  by_holding s o answer r i b = go (is_none b.trial.previous) b.is
    where
      so : IsRecordedSo w s o.job (flight_number s o.ask.flight) b.holding.tag b.trial.alternative b.holding.ovn b.holding.version
      so = let t = trial_has (book_of s w) b.holding.tag b.trial b.tried in recorded_so s o b.holding b.trial r i b.entered b.job t.0 t.1

      go : (x : Bool)
          → cond x (Some (Answers.Planned (flight_number s o.ask.flight) b.holding.tag b.trial.alternative b.holding.ovn b.holding.version)) (Some (Answers.Changed (flight_number s o.ask.flight) b.holding.tag b.trial.alternative b.holding.ovn b.holding.version)) ≡ Some answer
          → IsTrueAnswer w s o answer
      go true e = subst (IsTrueAnswer w s o) (some_same _ answer e) (refl, so)
      go false e = subst (IsTrueAnswer w s o) (some_same _ answer e) (refl, so)

  by_closing : (s : ℕ) (o : Opening) (answer : Answer) → IsOrderly (book_of s w) → Has (openings (book_of s w)) o → IsByClosing (book_of s w) s o answer → IsTrueAnswer w s o answer
  by_closing s o answer r i b = subst (IsTrueAnswer w s o) b.is (go b.closing.end refl)
    where
      nothing : is_ended b.closing.end ≡ false → (l : Landing) → IsLandingOf w s o.job l → ⊥
      nothing e l h = nothing_lands table owners w names j s b.closing b.entered e l (subst (λ n. IsLandingOf w s n l) (sym b.job) h)

      ended : is_ended b.closing.end ≡ true → is_one_of (flight_number s o.ask.flight) w.service.retired_flights ≡ true
      ended e =
          let f = (j.closed s b.closing b.entered).ends e in
          let same : f.opening ≡ o = r.jobs f.opening o f.opened i (f.job_is ∙ b.job) in
          subst (λ (z : Opening). is_one_of (flight_number s z.ask.flight) w.service.retired_flights ≡ true) same f.retired

      go : (end : Ending) → b.closing.end ≡ end → IsTrueAnswer w s o (by_end (flight_number s o.ask.flight) end)
      go (Ends.Conflict flight manager rule) e = nothing (ap is_ended e)
      go (Ends.Stale missing) e = nothing (ap is_ended e)
      go Ends.Cancelled e = nothing (ap is_ended e)
      go (Ends.Ended owed) e = (refl, ended (ap is_ended e))

  request_found : (s : ℕ) (o : Opening) (flight number : ℕ) → IsOrderly (book_of s w) → Has (openings (book_of s w)) o → o.ask.flight ≡ flight → o.ask.number ≡ number → job_of_request flight number (book_of s w) ≡ Some o
  unfolding job_of_request
  request_found s o flight number r h e n =
      let test : Opening → Bool = λ z. (z.ask.flight == flight) && (z.ask.number == number) in
      let f = find_found test (openings (book_of s w)) o h (and_true (o.ask.flight == flight) (o.ask.number == number) (equal_number o.ask.flight flight e) (equal_number o.ask.number number n)) in
      let g = find_has test (openings (book_of s w)) f.0 f.1 in
      let b = both (f.0.ask.flight == flight) (f.0.ask.number == number) g.1 in
      let same : f.0 ≡ o = r.requests f.0 o g.0 h (same_number f.0.ask.flight flight b.0 ∙ sym e) (same_number f.0.ask.number number b.1 ∙ sym n) in
      f.1 ∙ ap Some same

  kept_is_true : (s flight number : ℕ) (answer : Answer) → IsKept (book_of s w) s flight number answer → IsTrueOfRequest w s flight number answer
  kept_is_true s flight number answer k =
      let st = by_opening table owners w names j s k.opening k.opened in
      let r = legal_is_orderly (book_of s w) st.1.legal in
      record {
        opening = k.opening;
        job = request_found s k.opening flight number r k.opened k.flight_is k.number_is;
        is_true = elim k.keeps [ inl h ↦ by_holding s k.opening answer r k.opened h | inr h ↦ by_closing s k.opening answer r k.opened h ];
      }

  says_true : (x : Saying) (said : Said) → SaidIsKept (book_of x.supplier w) x.supplier x.flight x.number said → SaysTrue w x said
  says_true x (Says.Answer answer) h = λ final. kept_is_true x.supplier x.flight x.number answer (h final)
  says_true x _ h = tt

  pub said_is_true : (x : Saying) → Has w.sayings x → SaysTrue w x x.said
  said_is_true x h = says_true x x.said (j.sayings x h)
