-- Each step of a supplier keeps the duties.
use Rattle.std.proofs.Common.{arith, ℕ, ℤ, Bool, true, false, List, [], ◌∷◌, ◌++◌, ◌≡◌, inl, inr, refl, sym, subst, Option, Some, None, IfSome}
use Rattle.std.specs.Prelude.{◌≤ℤ◌, pos}
use Rattle.std.specs.Int.{int_min, int_max}
use Rattle.std.proofs.lemmas.Int.{ints}
use Rattle.uss_vol4.specs.Volume.{InRange, InTime}
use Rattle.uss_event.specs.Pairs.{OperationalIntent}
use Rattle.uss_event.specs.declared.calls.PeerReply.TheVariants as Peers
use Rattle.uss_law_dss.specs.Lists.{Has}
use Rattle.uss_law_dss.proofs.Lists.{has_append}
use Rattle.uss_event.specs.Heard.News.{Heard}
use Rattle.uss_law_supplier.specs.Typed.{IsIntent, IsEvent, IsHeard}
use Rattle.uss_event.specs.declared.entries.Owner.{Owner}
use Rattle.uss_event.specs.declared.entries.Entry.{Entry}
use Rattle.uss_event.specs.declared.calls.Note.{Note}
use Rattle.uss_event.specs.declared.events.Said.TheVariants as Says
use Rattle.uss_event.specs.declared.events.Event.{Event}
use Rattle.uss_event.specs.declared.events.Event.TheVariants as Comes
use Rattle.uss_law_book.specs.Lists.{owner_of}
use Rattle.uss_law_book.specs.Legal.{MayFollow, IsLegal}
use Rattle.uss_law_book.proofs.Attempts.{owner_kept}
use Rattle.uss_law_book.proofs.EachOrderly.{legal_is_orderly, legal_longer}
use Rattle.uss_event.specs.Heard.{News, by_pair, brought}
use Rattle.uss_law_duty.specs.Duties.{book_after, HearsOnly, MayStep, clamped}
use Rattle.uss_law_supplier.specs.Values.{Values, hearing, no_values, progress_of}
use Rattle.uss_law_supplier.specs.Turns.{Standing, Turn}
use Rattle.uss_law_supplier.specs.Jobs.{with_values}
use Rattle.uss_law_supplier.specs.Fitting.{IsFit}
use Rattle.uss_law_supplier.specs.Replies.{heard_by}
use Rattle.uss_law_supplier.specs.Step.{stepped, is_of_another, notified_by, supplier_step}
use Rattle.uss_law_supplier.specs.Laws.{IsSound, StepsKeepDuties, StepsStaySound}
use Rattle.uss_law_book.proofs.Known.{legal_known}
use Rattle.uss_law_book.proofs.Room.{covered}
use Rattle.uss_law_supplier.proofs.Good.{Sound, IsGood, may_step}
use Rattle.uss_law_supplier.proofs.Replying.{sound_with}
use Rattle.uss_law_supplier.proofs.Peering.{hears_it, fit_hearing}
use Rattle.uss_law_supplier.proofs.Asking.{good_asked, good_cancelled}
use Rattle.uss_law_supplier.proofs.Stepping.{good_positioned, good_swept, good_replied, good_replied_to_peer, good_failed, good_detailed, good_notified}

abbrev standing : Owner → List Entry → Values → Standing
standing owner book values = record { owner = owner; book = book; values = values }

pub sound_of : (owner : Owner) (book : List Entry) (values : Values) → IsSound owner book values → Sound (standing owner book values)
sound_of owner book values d =
    record { owned = d.owned; legal = d.legal; orderly = legal_is_orderly book d.legal; known = legal_known book d.legal; room = covered book d.legal; fit = d.fit; heard = d.heard }

-- what a step keeps
pub record Keeps (owner : Owner) (book : List Entry) (values : Values) (moment : ℤ) (event : Event) (t : Turn) : Type 0 where
  pub may : MayStep book values.heard moment event t.entry t.sends t.said t.values.heard
  pub fit : IsFit owner (book_after book t.entry) t.values

good_keeps : (s : Standing) (heard : List News) (moment : ℤ) (event : Event) (t : Turn) (values : Values) → Sound s → values.heard ≡ heard → HearsOnly heard event s.values.heard → IsGood s heard moment event t
    → Keeps s.owner s.book values moment event t
good_keeps s heard moment event t values d e h g =
    record { may = subst (λ l. MayStep s.book l moment event t.entry t.sends t.said t.values.heard) (sym e) (may_step s heard moment event t d h g); fit = g.fit }

-- what an event brings is of its types, so what is heard stays so

by_same : (pair p : OperationalIntent) → Heard pair ≡ Heard p → IsIntent pair → IsIntent p
by_same pair p q w = let e : pair ≡ p = cc in subst IsIntent e w

brought_typed : (event : Event) → IsEvent event → IsHeard (brought event)
brought_typed (Comes.Peer call (Peers.Served pair)) w p (inl q) = by_same pair p q w
brought_typed (Comes.Peer call (Peers.Served pair)) w p (inr n) = absurd n
brought_typed (Comes.Peer call Peers.Gone) w p h = absurd h
brought_typed (Comes.Peer call Peers.Noted) w p h = absurd h
brought_typed (Comes.Peer call (Peers.Status status)) w p h = absurd h
brought_typed (Comes.Notified client note) w p h = of_note note.flight note.pair w h
  where
    of_note : (flight : ℕ) (x : Option OperationalIntent) → IfSome x IsIntent → Has (by_pair flight x) (Heard p) → IsIntent p
    of_note flight None w (inl q) = cc
    of_note flight None w (inr n) = absurd n
    of_note flight (Some pair) w (inl q) = by_same pair p q w
    of_note flight (Some pair) w (inr n) = absurd n
brought_typed _ w p h = absurd h

heard_then : (heard : List News) (event : Event) (after : List News) → IsHeard heard → IsEvent event → HearsOnly heard event after → IsHeard after
heard_then heard event after h w (inl e) = subst IsHeard (sym e) h
heard_then heard event after h w (inr e) =
    subst IsHeard (sym e) (λ p k. elim (has_append heard (brought event) (Heard p) k) [ inl a ↦ h p a | inr b ↦ brought_typed event w p b ])

-- hearing more
hearing_keeps : (s : Standing) (news : List News) (moment : ℤ) (event : Event) (t : Turn) → Sound s → IsEvent event → HearsOnly s.values.heard event (s.values.heard ++ news)
    → (Sound (with_values s (hearing news s.values)) → IsGood (with_values s (hearing news s.values)) s.values.heard moment event t) → Keeps s.owner s.book s.values moment event t
hearing_keeps s news moment event t d w h g =
    let e = sound_with s (hearing news s.values) d (fit_hearing s.owner s.book s.values news d.fit) (heard_then s.values.heard event (s.values.heard ++ news) d.heard w h) in
    good_keeps (with_values s (hearing news s.values)) s.values.heard moment event t s.values e refl h (g e)

notified_keeps : (s : Standing) (moment : ℤ) (client : List ℕ) (note : Note) (b : Bool) → Sound s → IsEvent (Comes.Notified client note) → Keeps s.owner s.book s.values moment (Comes.Notified client note) (notified_by s note b)
notified_keeps s moment client note true d w =
    good_keeps s s.values.heard moment (Comes.Notified client note) _ s.values d refl (inl refl) (good_notified s s.values.heard moment client note Says.NotManager d refl (inr refl))
notified_keeps s moment client note false d w =
    hearing_keeps s (by_pair note.flight note.pair) moment (Comes.Notified client note) _ d w (inr refl)
    (λ e. good_notified (with_values s (hearing (by_pair note.flight note.pair) s.values)) s.values.heard moment client note Says.Noted e refl (inl refl))

keeps : (s : Standing) (moment : ℤ) (event : Event) → Sound s → IsEvent event → InTime moment → Keeps s.owner s.book s.values moment event (stepped s moment event)
keeps s moment (Comes.Ask ask) d w t = good_keeps s s.values.heard moment (Comes.Ask ask) _ s.values d refl (inl refl) (good_asked s s.values.heard moment moment (Comes.Ask ask) ask d w t (λ book. refl))
keeps s moment (Comes.Cancel flight number) d w t =
    good_keeps s s.values.heard moment (Comes.Cancel flight number) _ s.values d refl (inl refl) (good_cancelled s s.values.heard moment flight number d)
keeps s moment (Comes.Position p) d w t = good_keeps s s.values.heard moment (Comes.Position p) _ s.values d refl (inl refl) (good_positioned s moment p d w t)
keeps s moment (Comes.Sweep skip) d w t = good_keeps s s.values.heard moment (Comes.Sweep skip) _ s.values d refl (inl refl) (good_swept s moment skip d)
keeps s moment (Comes.Dss call reply) d w t = good_keeps s s.values.heard moment (Comes.Dss call reply) _ s.values d refl (inl refl) (good_replied s moment call reply d w)
keeps s moment (Comes.Peer call reply) d w t =
    hearing_keeps s (heard_by call reply) moment (Comes.Peer call reply) _ d w (hears_it s.values.heard call reply)
    (λ e. good_replied_to_peer (with_values s (hearing (heard_by call reply) s.values)) s.values.heard moment call reply e (hears_it s.values.heard call reply))
keeps s moment (Comes.Failed job) d w t = good_keeps s s.values.heard moment (Comes.Failed job) _ s.values d refl (inl refl) (good_failed s moment job d)
keeps s moment (Comes.Details client flight) d w t = good_keeps s s.values.heard moment (Comes.Details client flight) _ s.values d refl (inl refl) (good_detailed s moment client flight d)
keeps s moment (Comes.Notified client note) d w t = notified_keeps s moment client note (is_of_another client note.pair) d w

-- a moment is taken within the range of instants
in_between : (a b m : ℤ) → a ≤ℤ b → InRange a b (int_max a (int_min m b))
in_between a b m h = (grind (arith, ints), grind (arith, ints))

clamped_in_time : (moment : ℤ) → InTime (clamped moment)
unfolding clamped
clamped_in_time moment = in_between (pos 946684800000000000) (pos 7258118400000000000) moment (omega arith)

pub steps_keep_duties : StepsKeepDuties
steps_keep_duties owner book values moment event d w =
    (keeps (standing owner book values) (clamped moment) event (sound_of owner book values d) w (clamped_in_time moment)).may

legal_then : (book : List Entry) (e : Option Entry) → IsLegal book → IfSome e (MayFollow book) → IsLegal (book_after book e)
legal_then book None l m = l
legal_then book (Some e) l m = legal_longer [] book e l m

owned_then : (book : List Entry) (e : Option Entry) (owner : Owner) → owner_of book ≡ Some owner → owner_of (book_after book e) ≡ Some owner
owned_then book None owner o = o
owned_then book (Some e) owner o = owner_kept book (e ∷ []) owner o

pub steps_stay_sound : StepsStaySound
steps_stay_sound owner book values moment event d w =
    let k = keeps (standing owner book values) (clamped moment) event (sound_of owner book values d) w (clamped_in_time moment) in
    let t = supplier_step owner book values moment event in
    record { owned = owned_then book t.entry owner d.owned; legal = legal_then book t.entry d.legal k.may.acts.legal; fit = k.fit; heard = heard_then values.heard event t.values.heard d.heard w k.may.hears }

-- after a start nothing is waited for
pub start_fits : (owner : Owner) (book : List Entry) → IsFit owner book no_values
unfolding progress_of
start_fits owner book = λ job call e. cc
