-- What holds beside the claims after every free list of moves: of books, calls, landings, replies and keys.
use Rattle.std.proofs.Common.{ℕ, ◌≡◌, List, ◌++◌, refl, sym, subst, ◌∙◌, Option, Some, None, IfSome}
use Rattle.uss_intent.specs.declared.records.Landing.{Landing}
use Rattle.uss_intent.specs.declared.calls.DssAsk.{DssAsk}
use Rattle.uss_intent.specs.declared.calls.DssReply.{DssReply}
use Rattle.uss_intent.specs.declared.calls.DssReply.TheVariants as Replies
use Rattle.uss_intent.specs.declared.calls.DssRefusal.{DssRefusal}
use Rattle.uss_intent.specs.declared.calls.DssRefusal.TheVariants as Refuses
use Rattle.uss_event.specs.Pairs.{OperationalIntent}
use Rattle.uss_event.specs.declared.entries.Owner.{Owner}
use Rattle.uss_law_dss.specs.Lists.{Has}
use Rattle.uss_law_dss.specs.Orderly.{IsOrderly}
use Rattle.uss_law_book.specs.Attempts.{Attempted}
use Rattle.uss_law_world.specs.World.{World, start}
use Rattle.uss_law_world.specs.World.Post.{Replied}
use Rattle.uss_law_world.specs.Moves.{Move, run}
use Rattle.uss_law_world.specs.Free.{AreSuppliers, IsFree}
use Rattle.uss_law_world.specs.Claims.{IsMade}
use Rattle.uss_law_world.specs.Invariants.{BooksAreLegal, EachCallWasDue, IsTriedAs, EachLandingIsTried, IsSo, RepliesAreSo, KeysAreClear, OpenJobsAgree, JobsLandWhatTheyHold}
use Rattle.uss_law_world.proofs.Facts.{IsPairLanded, RefusedShows, ReplyShows, Facts}
use Rattle.uss_law_world.proofs.Parts.{attempt_manager, attempt_tag, one_attempt}
use Rattle.uss_law_world.proofs.Headline.{pair_is_made}
use Rattle.uss_law_world.proofs.Posts.{run_sends}
use Rattle.uss_law_world.proofs.OpenJobs.{open_jobs_agree}
use Rattle.uss_law_world.proofs.ClosedJobs.{jobs_land_what_they_hold}
use Rattle.uss_law_world.proofs.Runs.{reached_facts, run_append}

module _ (table : List ℕ) (owners : List Owner) (w : World) (names : AreSuppliers table owners) (j : Facts table owners w) where
  pub each_landing_is_tried : EachLandingIsTried w
  each_landing_is_tried =
      record {
        some = λ l h. (let f = j.landings l h in (
          f.attempt,
          record { supplier = f.s; manager = f.manager ∙ attempt_manager table owners w names j f.s l.tag f.attempt f.found; found = f.found },
          record { manager = f.manager; tag = sym (attempt_tag table owners w names j f.s l.tag f.attempt f.found); flight = f.flight; previous = f.previous; ticket = f.ticket },
        ));
        one = λ l a b h x y. one_attempt table owners w names j x.supplier y.supplier l.tag l.tag a b x.found y.found (managers l a b x y) refl;
      }
    where
      managers : (l : Landing) (a b : Attempted) → IsTriedAs w l a → IsTriedAs w l b → a.manager ≡ b.manager
      managers l a b x y =
          attempt_manager table owners w names j x.supplier l.tag a x.found ∙ (sym x.manager ∙ y.manager)
          ∙ sym (attempt_manager table owners w names j y.supplier l.tag b y.found)

  -- what a reply showed is so
  refused_so : (s job : ℕ) (ask : DssAsk) (refusal : DssRefusal) → RefusedShows w s job ask refusal → IsSo w s ask (Replies.Refused refusal)
  refused_so s job ask Refuses.Exists h = h.there refl
  refused_so s job ask Refuses.Retired h = h.retired refl
  refused_so s job ask (Refuses.MissingKey references) h = h.missing references refl
  refused_so s job ask _ h = tt

  shown_so : (s job : ℕ) (ask : DssAsk) (reply : DssReply) → ReplyShows w s job ask reply → IsSo w s ask reply
  shown_so s job ask (Replies.Found references) h = h
  shown_so s job ask (Replies.Landed r subscribers) h = h
  shown_so s job ask (Replies.Got r) h = h
  shown_so s job ask (Replies.Removed r subscribers) h = h
  shown_so s job ask (Replies.TicketMade t) h = h
  shown_so s job ask (Replies.TicketRemoved t) h = h
  shown_so s job ask (Replies.Refused refusal) h = refused_so s job ask refusal h
  shown_so s job ask _ h = tt

  pub replies_are_so : RepliesAreSo w w
  replies_are_so s answered call reply h = shown_so s call.job call.ask reply (j.replies s answered call reply h)

  -- keys are clear
  pub keys_are_clear : KeysAreClear table w
  keys_are_clear s tag a found strategic o h =
      let c = j.keys s tag a found strategic o h in
      record {
        pair = c.pair;
        made = pair_is_made table owners w names j c.pair c.made;
        ovn_is = c.ovn_is;
        previous = c.previous;
        previous_made = each c.previous c.previous_made;
        previous_is = c.previous_is;
        clear = c.clear;
      }
    where
      each : (x : Option OperationalIntent) → IfSome x (IsPairLanded w) → IfSome x (IsMade w)
      each None k = tt
      each (Some p) k = pair_is_made table owners w names j p k

-- after every free list of moves
module _ (table : List ℕ) (owners : List Owner) (names : AreSuppliers table owners) (ms : List Move) (free : IsFree (start owners) ms) where
  abbrev w : World
  w = run (start owners) ms

  pub legal_after : BooksAreLegal owners w
  legal_after = (reached_facts table owners names ms free).suppliers

  pub due_after : EachCallWasDue w
  due_after = (reached_facts table owners names ms free).due

  pub orderly_after : IsOrderly w.service
  orderly_after = (reached_facts table owners names ms free).service

  pub tried_after : EachLandingIsTried w
  tried_after = each_landing_is_tried table owners w names (reached_facts table owners names ms free)

  pub so_now : RepliesAreSo w w
  so_now = replies_are_so table owners w names (reached_facts table owners names ms free)

  pub keys_after : KeysAreClear table w
  keys_after = keys_are_clear table owners w names (reached_facts table owners names ms free)

  pub open_jobs_after : OpenJobsAgree w
  open_jobs_after = open_jobs_agree table owners w names (reached_facts table owners names ms free)

  pub jobs_land_after : JobsLandWhatTheyHold w
  jobs_land_after = jobs_land_what_they_hold table owners w names (reached_facts table owners names ms free)

-- and what was shown stays so
pub so_ever : (table : List ℕ) (owners : List Owner) → AreSuppliers table owners → (ms more : List Move) → IsFree (start owners) (ms ++ more) → RepliesAreSo (run (start owners) ms) (run (start owners) (ms ++ more))
so_ever table owners names ms more free s answered call reply h =
    let e = run_append ms more (start owners) in
    let k : Has (run (start owners) (ms ++ more)).posts (Replied s answered call reply) =
    subst (λ (z : World). Has z.posts (Replied s answered call reply)) (sym e) (run_sends more (run (start owners) ms) (Replied s answered call reply) h) in
    replies_are_so table owners (run (start owners) (ms ++ more)) names (reached_facts table owners names (ms ++ more) free) s answered call reply k
