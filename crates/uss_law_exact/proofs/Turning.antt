-- A step of an exact supplier is one that the duties allow, and keeps what holds.
use Rattle.std.proofs.Common.{ℕ, ◌≡◌, ◌==◌, ◌<◌, ◌^◌, Bool, true, false, List, map, inl, inr, refl, ap, sym, subst, ◌∙◌, Option, Some, None, IfSome, if◌then◌else◌}
use Rattle.uss_intent.specs.Texts.{IsBase}
use Rattle.uss_intent.specs.declared.calls.DssAsk.{DssAsk}
use Rattle.uss_intent.specs.declared.calls.DssAsk.TheVariants as Asks
use Rattle.uss_vol4.specs.Volume.{Volume4D}
use Rattle.uss_event.specs.Pairs.{OperationalIntent}
use Rattle.uss_event.specs.declared.entries.Owner.{Owner}
use Rattle.uss_event.specs.declared.entries.Entry.{Entry}
use Rattle.uss_event.specs.declared.calls.PeerCall.{PeerCall}
use Rattle.uss_event.specs.declared.calls.PeerCall.TheVariants as Calls
use Rattle.uss_event.specs.declared.calls.PeerReply.{PeerReply}
use Rattle.uss_event.specs.declared.calls.Outgoing.{Outgoing}
use Rattle.uss_event.specs.declared.calls.Outgoing.TheVariants as Goes
use Rattle.uss_event.specs.declared.events.Said.{Said}
use Rattle.uss_event.specs.declared.events.Said.TheVariants as Says
use Rattle.uss_law_dss.specs.Lists.{Has}
use Rattle.uss_law_dss.proofs.Lists.{has_append, has_map}
use Rattle.uss_law_dss.proofs.Tests.{same_number, other_number, some_same}
use Rattle.uss_law_book.proofs.Kept.{opening_has}
use Rattle.uss_law_duty.specs.Sends.{IsTicketPutOf, TicketsAreDue, IsHeldPair, NotesAreHeld}
use Rattle.uss_law_duty.specs.Sayings.{PairIsHeld}
use Rattle.uss_law_duty.specs.Duties.{book_after, MayStep, Choice, clamped}
use Rattle.uss_law_supplier.specs.Values.{Values}
use Rattle.uss_law_supplier.specs.Turns.{Turn}
use Rattle.uss_law_supplier.specs.Typed.{IsIntent, IsPeerReply}
use Rattle.uss_law_supplier.specs.Laws.{IsSound, IsAllowed}
use Rattle.uss_law_supplier.proofs.Law.{steps_keep_duties, steps_stay_sound, sound_of}
use Rattle.uss_law_supplier.proofs.Coded.{held_pair_coded, owner_coded, job_coded}
use Rattle.uss_law_world.specs.World.{Supplier, Post, World, supplier_in, book_in, heard_in, book_of, heard_of, post_of}
use Rattle.uss_law_world.specs.Moves.{Asker, Arrival, pair_reply, reply_by, answer_with, answer_to, posts_of, stepped, with_supplier, after_step, arrives}
use Rattle.uss_law_world.specs.Free.{MayTake}
use Rattle.uss_law_world.proofs.Lookups.{same_supplier, other_supplier}
use Rattle.uss_law_exact.specs.Exact.{Exact, choice_by, turn_by, chosen_by, choice_for, keeping, kept_by, kept_for}
use Rattle.uss_law_exact.proofs.Typing.{IsCall, ticket_fits}
use Rattle.uss_law_exact.proofs.Fine.{IsNoted, IsPost, IsSoundWith, IsFine, IsArrival}

-- what a step sends and says is of its types

ticket_is : (t u : ℕ) (a b : Volume4D) (x y : List ℕ) → Asks.TicketPut t a x ≡ Asks.TicketPut u b y → (t ≡ u) × (x ≡ y)
ticket_is t u a b x y e = (cc, cc)

call_typed : (owner : Owner) (book : List Entry) (v : Values) → IsSound owner book v → (job : ℕ) (ask : DssAsk) → TicketsAreDue owner book job ask
    → IsCall ask
call_typed owner book v i job (Asks.TicketPut ticket area base) d =
    let t : IsTicketPutOf owner book job (Asks.TicketPut ticket area base) = d.0 in
    let s = sound_of owner book v i in
    let o = owner_coded (record { owner = owner; book = book; values = v }) s in
    let h = opening_has book job t.opening t.opened in
    let n : job < 2 ^ 64 = subst (λ (k : ℕ). k < 2 ^ 64) h.1 (job_coded (record { owner = owner; book = book; values = v }) t.opening s h.0) in
    let e = ticket_is _ _ _ _ _ _ t.is in
    (subst (λ (k : ℕ). k < 2 ^ 128) (sym e.0) (ticket_fits owner.number job o.number n), subst IsBase (sym e.1) o.base)
call_typed owner book v i job _ d = tt

pair_typed : (owner : Owner) (book : List Entry) (v : Values) → IsSound owner book v → (p : OperationalIntent) → IsHeldPair book p → IsIntent p
pair_typed owner book v i p h = held_pair_coded (record { owner = owner; book = book; values = v }) p (sound_of owner book v i) h

note_typed : (owner : Owner) (book : List Entry) (v : Values) → IsSound owner book v → (call : PeerCall) → NotesAreHeld book call → IsNoted call
note_typed owner book v i (Calls.Details job flight manager base) h = tt
note_typed owner book v i (Calls.Notify job index base note) h = go note.pair h
  where
    go : (x : Option OperationalIntent) → IfSome x (IsHeldPair book) → IfSome x IsIntent
    go None h = tt
    go (Some p) h = pair_typed owner book v i p h

reply_of_pair : (owner : Owner) (book : List Entry) (v : Values) → IsSound owner book v → (x : Option OperationalIntent) → IfSome x (IsHeldPair book)
    → IsPeerReply (pair_reply x)
reply_of_pair owner book v i None h = tt
reply_of_pair owner book v i (Some p) h = pair_typed owner book v i p h

said_typed : (owner : Owner) (book : List Entry) (v : Values) → IsSound owner book v → (said : Said) → PairIsHeld book said → (reply : PeerReply)
    → reply_by said ≡ Some reply → IsPeerReply reply
said_typed owner book v i (Says.Pair pair) h reply e = subst IsPeerReply (some_same (pair_reply pair) reply e) (reply_of_pair owner book v i pair h)
said_typed owner book v i Says.Noted h reply e = subst IsPeerReply (some_same _ reply e) tt
said_typed owner book v i Says.NotManager h reply e = subst IsPeerReply (some_same _ reply e) tt
said_typed owner book v i _ h reply e = cc

module _ (e : Exact) (f : IsFine e.world e.kept) (a : Arrival) (i : IsArrival e.world a) (x : Supplier) (is : supplier_in a.supplier e.world.suppliers ≡ Some x) where
  abbrev s : ℕ
  s = a.supplier

  abbrev w : World
  w = e.world

  abbrev t : Turn
  t = turn_by e a x

  abbrev c : Choice
  c = choice_by t

  abbrev after : List Entry
  after = book_after x.book t.entry

  pub before : IsSoundWith x (e.kept s)
  before = f.sound s x is

  pub allowed : IsAllowed x.book (e.kept s) w.moment a.event t
  allowed = steps_keep_duties x.owner x.book (e.kept s) w.moment a.event before.sound i.event

  pub sound_then : IsSound x.owner after t.values
  sound_then = steps_stay_sound x.owner x.book (e.kept s) w.moment a.event before.sound i.event

  pub may : MayStep (book_of s w) (heard_of s w) (clamped w.moment) a.event c.entry c.sends c.said c.heard
  may =
      let h : heard_of s w ≡ (e.kept s).heard = ap heard_in is ∙ before.heard in
      let b : book_of s w ≡ x.book = ap book_in is in
      let m1 = subst (λ z. MayStep x.book z (clamped w.moment) a.event c.entry c.sends c.said c.heard) (sym h) allowed in
      subst (λ z. MayStep z (heard_of s w) (clamped w.moment) a.event c.entry c.sends c.said c.heard) (sym b) m1

  owner_is : allowed.acts.owner ≡ x.owner
  owner_is = some_same allowed.acts.owner x.owner (sym allowed.acts.owns_book ∙ before.sound.owned)

  sent_typed : (y : Outgoing) → Has t.sends y → IsPost (post_of w.suppliers s y)
  sent_typed (Goes.Dss call) h =
      let d = allowed.acts.ticket_calls (Goes.Dss call) h in
      call_typed x.owner after t.values sound_then call.job call.ask (subst (λ (z : Owner). TicketsAreDue z after call.job call.ask) owner_is d)
  sent_typed (Goes.Peer call) h = note_typed x.owner after t.values sound_then call (allowed.acts.notes (Goes.Peer call) h)

  answer_typed : (k : Option Asker) (p : Post) → Has (answer_to k c.said) p → IsPost p
  answer_typed None p h = absurd h
  answer_typed (Some k) p h = go (reply_by c.said) refl h
    where
      go : (r : Option PeerReply) → reply_by c.said ≡ r → Has (answer_with k r) p → IsPost p
      go None e h = absurd h
      go (Some reply) e (inl g) = subst IsPost g (said_typed x.owner after t.values sound_then t.said allowed.acts.pair reply e)
      go (Some reply) e (inr n) = absurd n

  new_typed : (p : Post) → Has (posts_of w a c) p → IsPost p
  new_typed p h = elim (has_append (map (post_of w.suppliers s) c.sends) (answer_to a.asker c.said) p h) [
    | inl q ↦ (let m = has_map (post_of w.suppliers s) c.sends p q in subst IsPost m.2 (sent_typed m.0 m.1))
    | inr q ↦ answer_typed a.asker p q
  ]

  stepped_sound : IsSoundWith (stepped c x) t.values
  stepped_sound = record { sound = sound_then; heard = refl }

  pub fine_step : (posts : List Post) → ((p : Post) → Has posts p → Has (posts_of w a c) p)
      → IsFine (after_step w a c posts) (keeping s t.values e.kept)
  fine_step posts sub =
      record {
        sound = λ k y g. at k (k == s) refl y g;
        sent = λ p h. elim (has_append w.posts posts p h) [ inl old ↦ f.sent p old | inr new ↦ new_typed p (sub p new) ];
        tickets = f.tickets;
      }
    where
      at : (k : ℕ) (b : Bool) → (k == s) ≡ b → (y : Supplier) → supplier_in k (with_supplier s (stepped c) w.suppliers) ≡ Some y
          → IsSoundWith y (if b then t.values else e.kept k)
      at k true q y g =
          let g' : supplier_in s (with_supplier s (stepped c) w.suppliers) ≡ Some y = subst (λ z. supplier_in z (with_supplier s (stepped c) w.suppliers) ≡ Some y) (same_number k s q) g in
          subst (λ z. IsSoundWith z t.values) (some_same (stepped c x) y (sym (same_supplier s (stepped c) w.suppliers x (λ z. refl) is) ∙ g')) stepped_sound
      at k false q y g = f.sound k y (sym (other_supplier s k (stepped c) w.suppliers (λ z. refl) (other_number k s q)) ∙ g)

-- whatever comes

pub may_take : (e : Exact) → IsFine e.world e.kept → (o : Option Arrival) → ((a : Arrival) → o ≡ Some a → IsArrival e.world a)
    → MayTake e.world (choice_for e o) o
may_take e f None i = tt
may_take e f (Some a) i =
    let x = i a refl in
    subst (λ y. MayTake e.world (chosen_by e a y) (Some a)) (sym x.there) (may e f a x x.supplier x.there)

pub fine_arrival : (e : Exact) → IsFine e.world e.kept → (a : Arrival) → IsArrival e.world a → (posts : Choice → List Post)
    → ((c : Choice) (p : Post) → Has (posts c) p → Has (posts_of e.world a c) p)
    → IsFine (after_step e.world a (choice_for e (Some a)) (posts (choice_for e (Some a)))) (kept_for e (Some a))
fine_arrival e f a i posts sub =
    subst (λ y. IsFine (after_step e.world a (chosen_by e a y) (posts (chosen_by e a y))) (kept_by e a y)) (sym i.there)
    (fine_step e f a i i.supplier i.there (posts (choice_by (turn_by e a i.supplier))) (sub (choice_by (turn_by e a i.supplier))))

pub fine_arrives : (e : Exact) → IsFine e.world e.kept → (o : Option Arrival) → ((a : Arrival) → o ≡ Some a → IsArrival e.world a)
    → IsFine (arrives e.world (choice_for e o) o) (kept_for e o)
fine_arrives e f None i = f
fine_arrives e f (Some a) i = fine_arrival e f a (i a refl) (λ c. posts_of e.world a c) (λ c p h. h)
