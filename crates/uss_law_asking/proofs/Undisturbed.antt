-- That the premises on a request that nobody disturbs are met: where nothing is recorded, where another's flight is, and where the flight is.
use Rattle.std.proofs.Common.{◌≡◌, ◌≤◌, ◌<◌, ◌⊎◌, inl, inr, true, false, [], ◌∷◌, refl, ap, sym, subst, arith, Some}
use Rattle.uss_intent.specs.declared.records.Recorded.{Recorded}
use Rattle.uss_event.specs.Pairs.{OperationalIntent}
use Rattle.uss_event.specs.declared.events.Event.TheVariants as Comes
use Rattle.uss_law_dss.specs.Service.{empty}
use Rattle.uss_law_dss.specs.Orderly.{IsOrderly}
use Rattle.uss_law_dss.proofs.Tests.{some_same}
use Rattle.uss_law_dss.proofs.EachOrderly.{empty_orderly, after_orderly}
use Rattle.uss_law_book.proofs.EachOrderly.{legal_beginning}
use Rattle.uss_event.specs.Heard.{kept_pair}
use Rattle.uss_event.specs.Heard.News.{Heard}
use Rattle.uss_law_supplier.specs.Typed.{IsIntent, IsHeard}
use Rattle.uss_law_duty.specs.Worked.{owner, now, volume, ask, new_book, held_book, held_pair, end_ask, end_opened, end_done, ticket_put, the_reference}
use Rattle.uss_law_duty.proofs.Books.{ended_is_legal}
use Rattle.uss_law_supplier.specs.Values.{no_values, progress_of}
use Rattle.uss_law_supplier.specs.Airspace.{is_own, held_as}
use Rattle.uss_law_supplier.specs.Worked.{first_put}
use Rattle.uss_law_duty.specs.Flown.{flown_ask}
use Rattle.uss_law_supplier.specs.Laws.{IsSound}
use Rattle.uss_law_supplier.proofs.Law.{start_fits}
use Rattle.uss_law_asking.specs.Complete.{IsUndisturbed, IsEnding, IsPairOf, served_of}
use Rattle.uss_law_asking.specs.Worked.{stands_on, having_heard, in_the_way, other_calls, other_there, second_ask, recorded_flight}
use Rattle.uss_law_asking.specs.Worked.{in_empty_airspace as planned_so}
use Rattle.uss_law_asking.specs.Causes.{IsCarriedOut}
use Rattle.uss_law_asking.proofs.Worked.{all, empty_airspace}

-- nothing is recorded

pub in_empty_airspace : IsUndisturbed (stands_on new_book) now ask empty []
unfolding all
in_empty_airspace =
    record {
      new = tt;
      accepted = refl;
      no_ticket = refl;
      unused_ticket = refl;
      alive = refl;
      own = tt;
      orderly = empty_orderly;
      few_references = omega arith;
      few_tickets = omega arith;
      few_versions = λ r h. absurd h;
      few_landings = omega arith;
      held_own = λ r h. absurd h;
      recorded = tt;
      served_others = λ r h. absurd h;
      heard_no_newer = λ r p h. absurd h;
      heard_same = λ r p h. absurd h;
    }

pub new_is_sound : IsSound owner new_book no_values
new_is_sound = record { owned = refl; legal = (ended_is_legal.0, tt); fit = start_fits owner new_book; heard = λ p h. absurd h }

-- another's flight is recorded, and was heard of before

other_orderly : IsOrderly other_there
other_orderly = after_orderly empty (other_calls volume) empty_orderly

-- of a service of one reference, what holds of that holds of each
each_is : (P : Recorded → Type 0) (x : Recorded) → P x → (r : Recorded) → (x ≡ r) ⊎ ⊥ → P r
each_is P x p r (inl e) = subst P e p
each_is P x p r (inr n) = absurd n

pub beside_another : IsUndisturbed (having_heard new_book) now second_ask other_there (in_the_way ∷ [])
unfolding all
beside_another =
    record {
      new = tt;
      accepted = refl;
      no_ticket = refl;
      unused_ticket = refl;
      alive = refl;
      own = tt;
      orderly = other_orderly;
      few_references = omega arith;
      few_tickets = omega arith;
      few_versions = λ r h. each_is (λ (r : Recorded). r.reference.version < 4294967295) the_other (omega arith) r h;
      few_landings = omega arith;
      held_own = λ r h o. each_is (λ (r : Recorded). is_own owner r.reference ≡ true → (p : OperationalIntent) × (held_as owner r.reference.flight new_book ≡ Some p) × (p.reference ≡ r.reference)) the_other (λ q. cc) r h o;
      recorded = tt;
      served_others = λ r h o. each_is (λ (r : Recorded). (p : OperationalIntent) × (served_of r.reference.flight r.reference.manager (in_the_way ∷ []) ≡ Some p) × IsPairOf r p) the_other (in_the_way, refl, record { version = refl; ovn = refl; state = refl; extents = refl }) r h;
      heard_no_newer = λ r p h o k. each_is (λ (r : Recorded). kept_pair r.reference.flight (Heard in_the_way ∷ []) ≡ Some p → p.reference.version ≤ r.reference.version) the_other (λ q. omega (arith, version_of p q)) r h k;
      heard_same = λ r p h o k v. each_is (λ (r : Recorded). kept_pair r.reference.flight (Heard in_the_way ∷ []) ≡ Some p → served_of r.reference.flight r.reference.manager (in_the_way ∷ []) ≡ Some p) the_other (λ q. q) r h k;
    }
  where
    the_other : Recorded
    the_other = record { reference = in_the_way.reference; extents = volume ∷ [] }

    version_of : (p : OperationalIntent) → Some in_the_way ≡ Some p → p.reference.version ≡ 1
    version_of p e = ap (λ (x : OperationalIntent). x.reference.version) (sym (some_same in_the_way p e))

same_heard : (P : OperationalIntent → Type 0) (p q : OperationalIntent) → Heard p ≡ Heard q → P p → P q
same_heard P p q e h = let same : p ≡ q = cc in subst P same h

pub heard_is_sound : IsSound owner new_book (having_heard new_book).values
unfolding progress_of
heard_is_sound = record { owned = refl; legal = (ended_is_legal.0, tt); fit = λ job call e. cc; heard = heard }
  where
    heard : IsHeard (Heard in_the_way ∷ [])
    heard p (inl e) = same_heard IsIntent in_the_way p e (record { flight = omega arith; manager = refl; version = omega arith; ovn = refl })
    heard p (inr n) = absurd n

-- the flight is recorded, and what is held of it

own_orderly : IsOrderly recorded_flight
own_orderly = after_orderly empty ((owner.name, ticket_put) ∷ (owner.name, first_put) ∷ []) empty_orderly

pub held_is_sound : IsSound owner held_book no_values
held_is_sound = record { owned = refl; legal = legal_beginning [] held_book (end_opened ∷ end_done ∷ []) ended_is_legal; fit = start_fits owner held_book; heard = λ p h. absurd h }

pub of_a_recorded_flight : IsUndisturbed (stands_on held_book) now flown_ask recorded_flight []
unfolding all
of_a_recorded_flight =
    record {
      new = omega arith;
      accepted = refl;
      no_ticket = refl;
      unused_ticket = refl;
      alive = refl;
      own = refl;
      orderly = own_orderly;
      few_references = omega arith;
      few_tickets = omega arith;
      few_versions = λ r h. each_is (λ (r : Recorded). r.reference.version < 4294967295) the_own (omega arith) r h;
      few_landings = omega arith;
      held_own = λ r h o. each_is (λ (r : Recorded). (p : OperationalIntent) × (held_as owner r.reference.flight held_book ≡ Some p) × (p.reference ≡ r.reference)) the_own (held_pair, refl, refl) r h;
      recorded = (the_own, inl refl, refl);
      served_others = λ r h o. each_is (λ (r : Recorded). is_own owner r.reference ≡ false → (p : OperationalIntent) × (served_of r.reference.flight r.reference.manager [] ≡ Some p) × IsPairOf r p) the_own (λ q. cc) r h o;
      heard_no_newer = λ r p h o k. cc;
      heard_same = λ r p h o k v. cc;
    }
  where
    the_own : Recorded
    the_own = record { reference = the_reference; extents = volume ∷ [] }

-- its end may be asked for
pub of_an_end : IsEnding (stands_on held_book) now end_ask recorded_flight
unfolding all
of_an_end = record { end = refl; accepted = refl; orderly = own_orderly; recorded = (record { reference = the_reference; extents = volume ∷ [] }, inl refl, refl) }

-- and a worked exchange is one that is carried out
pub is_carried_out : IsCarriedOut (stands_on new_book) now (Comes.Ask ask) planned_so
unfolding all
is_carried_out = record { operators = refl; sound = new_is_sound; fit = (refl, (refl, (refl, tt))); exchange = empty_airspace.exchange }
