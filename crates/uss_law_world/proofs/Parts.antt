-- An attempt, a landing and a recorded reference tell of each other.
use Rattle.std.proofs.Common.{ℕ, List, [], ◌≡◌, refl, ap, sym, subst, ◌∙◌, Option, Some, None, slice_get, unwrap_or, ◌==◌}
use Rattle.std.specs.Prelude.{count_by}
use Rattle.uss_vol4.specs.Volume.{Volume4D}
use Rattle.uss_vol4.specs.Bounding.{bounding_box}
use Rattle.std.specs.Option.{option_map}
use Rattle.uss_intent.specs.Identifiers.{flight_number, ticket_number}
use Rattle.uss_intent.specs.Texts.{tagged_base}
use Rattle.uss_intent.specs.Tags.{tag_of}
use Rattle.uss_intent.proofs.TagLemmas.{tagged_is_read}
use Rattle.uss_intent.specs.declared.records.Recorded.{Recorded}
use Rattle.uss_intent.specs.declared.records.Landing.{Landing}
use Rattle.uss_event.specs.declared.asks.Wish.{Wish}
use Rattle.uss_event.specs.declared.asks.Wish.TheVariants.{Put, End}
use Rattle.uss_event.specs.declared.details.Proposal.{Proposal}
use Rattle.uss_event.specs.declared.entries.Owner.{Owner}
use Rattle.uss_law_dss.specs.Lists.{Has}
use Rattle.uss_law_dss.specs.Orderly.{IsAsLanded}
use Rattle.uss_law_dss.proofs.Tests.{some_same}
use Rattle.uss_law_dss.proofs.History.{last_has}
use Rattle.uss_law_dss.proofs.EachOrderly.{one_landing}
use Rattle.uss_event.specs.declared.entries.Opening.{Opening}
use Rattle.uss_event.specs.declared.entries.Trial.{Trial}
use Rattle.uss_law_book.specs.Lists.{owner_of, openings, trials}
use Rattle.uss_law_book.specs.Contents.{trial_of}
use Rattle.uss_law_book.specs.Attempts.{Attempted, attempt_of, attempted, by_wish}
use Rattle.uss_law_book.specs.Legal.{IsLegal}
use Rattle.uss_law_book.proofs.Attempts.{parts, trial_has}
use Rattle.uss_law_book.proofs.Kept.{opening_has}
use Rattle.uss_law_book.proofs.EachOrderly.{legal_is_orderly}
use Rattle.uss_law_world.specs.World.{Supplier, World, supplier_in, book_in, book_of, name_in, name_of}
use Rattle.uss_law_world.specs.Free.{AreSuppliers}
use Rattle.uss_law_world.specs.Claims.{tag_in, IsIntentOf, IsRecordOf}
use Rattle.uss_law_world.proofs.Lookups.{has_found}
use Rattle.uss_law_world.proofs.Facts.{HasLanding, RecordedFrom, Facts}

-- what an attempt has of its owner, its job's opening and its entry
pub record IsAttemptOf (owner : Owner) (opening : Opening) (trial : Trial) (a : Attempted) : Type 0 where
  pub job : a.job ≡ trial.job
  pub tag : a.tag ≡ trial.tag
  pub flight : a.flight ≡ flight_number owner.number opening.ask.flight
  pub manager : a.manager ≡ owner.name
  pub alternative : a.alternative ≡ trial.alternative
  pub previous : a.previous ≡ trial.previous
  pub key : a.key ≡ trial.key
  pub ticket : a.ticket ≡ ticket_number owner.number trial.job
  pub base : a.base ≡ tagged_base owner.base trial.tag

pub by_the_wish : (owner : Owner) (opening : Opening) (trial : Trial) (wish : Wish) (a : Attempted) → by_wish owner opening trial wish ≡ Some a → IsAttemptOf owner opening trial a
by_the_wish owner opening trial End a h = cc
by_the_wish owner opening trial (Put to priority rounds proposals) a h = go (slice_get proposals trial.alternative) h
  where
    go : (x : Option Proposal) → option_map (λ proposal. attempted owner opening trial to priority proposal) x ≡ Some a → IsAttemptOf owner opening trial a
    go None k = cc
    go (Some p) k =
        subst (IsAttemptOf owner opening trial) (some_same (attempted owner opening trial to priority p) a k)
        (record { job = refl; tag = refl; flight = refl; manager = refl; alternative = refl; previous = refl; key = refl; ticket = refl; base = refl })

-- an attempt with where it stands
pub record Placed (owners : List Owner) (w : World) (s tag : ℕ) (a : Attempted) : Type 0 where
  pub supplier : Supplier
  pub is : supplier_in s w.suppliers ≡ Some supplier
  pub one : Has owners supplier.owner
  pub number : supplier.owner.number ≡ s
  pub name_is : name_of s w ≡ supplier.owner.name
  pub legal : IsLegal (book_of s w)
  pub own : owner_of (book_of s w) ≡ Some supplier.owner
  pub opening : Opening
  pub trial : Trial
  pub opened : Has (openings (book_of s w)) opening
  pub tried : Has (trials (book_of s w)) trial
  pub found : trial_of tag (book_of s w) ≡ Some trial
  pub its_job : opening.job ≡ trial.job
  pub tag_is : trial.tag ≡ tag
  pub its : IsAttemptOf supplier.owner opening trial a

no_attempt : (tag : ℕ) (a : Attempted) → attempt_of tag [] ≡ Some a → ⊥
no_attempt tag a h = let p = parts tag [] a h in let e = p.has_owner in cc

-- a supplier with its book
pub record Stands (owners : List Owner) (w : World) (s : ℕ) (x : Supplier) : Type 0 where
  pub is : supplier_in s w.suppliers ≡ Some x
  pub one : Has owners x.owner
  pub number : x.owner.number ≡ s
  pub name_is : name_of s w ≡ x.owner.name
  pub book_is : book_of s w ≡ x.book
  pub legal : IsLegal (book_of s w)
  pub own : owner_of (book_of s w) ≡ Some x.owner

pub stands : (table : List ℕ) (owners : List Owner) (w : World) → Facts table owners w → (s : ℕ) (x : Supplier) → supplier_in s w.suppliers ≡ Some x → Stands owners w s x
stands table owners w j s x e =
    let k = j.suppliers s x e in
    let b : book_of s w ≡ x.book = ap book_in e in
    record {
      is = e;
      one = k.one;
      number = (has_found s w.suppliers x e).1;
      name_is = ap name_in e;
      book_is = b;
      legal = subst IsLegal (sym b) k.legal;
      own = subst (λ z. owner_of z ≡ Some x.owner) (sym b) k.own;
    }

pub placed : (table : List ℕ) (owners : List Owner) (w : World) → Facts table owners w → (s tag : ℕ) (a : Attempted) → attempt_of tag (book_of s w) ≡ Some a → Placed owners w s tag a
placed table owners w j s tag a h = go (supplier_in s w.suppliers) refl
  where
    go : (y : Option Supplier) → supplier_in s w.suppliers ≡ y → Placed owners w s tag a
    go None e = absurd (no_attempt tag a (subst (λ z. attempt_of tag (book_in z) ≡ Some a) e h))
    go (Some x) e =
        let st = stands table owners w j s x e in
        let p = parts tag (book_of s w) a h in
        let t = trial_has (book_of s w) tag p.trial p.has_trial in
        let o = opening_has (book_of s w) p.trial.job p.opening p.has_opening in
        let same : p.owner ≡ x.owner = some_same p.owner x.owner (sym p.has_owner ∙ st.own) in
        record {
          supplier = x;
          is = e;
          one = st.one;
          number = st.number;
          name_is = st.name_is;
          legal = st.legal;
          own = st.own;
          opening = p.opening;
          trial = p.trial;
          opened = o.0;
          tried = t.0;
          found = p.has_trial;
          its_job = o.1;
          tag_is = t.1;
          its = subst (λ z. IsAttemptOf z p.opening p.trial a) same (by_the_wish p.owner p.opening p.trial p.opening.ask.wish a p.is);
        }

module _ (table : List ℕ) (owners : List Owner) (w : World) (names : AreSuppliers table owners) (j : Facts table owners w) where
  pub at : (s tag : ℕ) (a : Attempted) → attempt_of tag (book_of s w) ≡ Some a → Placed owners w s tag a
  at s tag a h = placed table owners w j s tag a h

  -- its tag, its manager, its flight and its ticket
  pub attempt_tag : (s tag : ℕ) (a : Attempted) → attempt_of tag (book_of s w) ≡ Some a → a.tag ≡ tag
  attempt_tag s tag a h = let p = at s tag a h in p.its.tag ∙ p.tag_is

  pub attempt_manager : (s tag : ℕ) (a : Attempted) → attempt_of tag (book_of s w) ≡ Some a → a.manager ≡ name_of s w
  attempt_manager s tag a h = let p = at s tag a h in p.its.manager ∙ sym p.name_is

  pub attempt_flight : (s tag : ℕ) (a : Attempted) → (h : attempt_of tag (book_of s w) ≡ Some a) → a.flight ≡ flight_number s (at s tag a h).opening.ask.flight
  attempt_flight s tag a h = let p = at s tag a h in p.its.flight ∙ ap (λ n. flight_number n p.opening.ask.flight) p.number

  pub attempt_ticket : (s tag : ℕ) (a : Attempted) → attempt_of tag (book_of s w) ≡ Some a → a.ticket ≡ ticket_number s a.job
  attempt_ticket s tag a h = let p = at s tag a h in p.its.ticket ∙ (ap (λ n. ticket_number n p.trial.job) p.number ∙ ap (ticket_number s) (sym p.its.job))

  -- the tag is read from its base
  pub base_tag : (s tag : ℕ) (a : Attempted) → attempt_of tag (book_of s w) ≡ Some a → unwrap_or (tag_of a.base) 0 ≡ a.tag
  base_tag s tag a h =
      let p = at s tag a h in
      let o = legal_is_orderly (book_of s w) p.legal in
      let r : tag_of a.base ≡ Some p.trial.tag = ap tag_of p.its.base ∙ tagged_is_read p.supplier.owner.base p.trial.tag (o.tags_begin p.trial p.tried) (o.tags_fit p.trial p.tried) in
      ap (λ (z : Option ℕ). unwrap_or z 0) r ∙ sym p.its.tag

  -- a name is one supplier's
  pub one_supplier : (s t tag tag' : ℕ) (a b : Attempted) → attempt_of tag (book_of s w) ≡ Some a → attempt_of tag' (book_of t w) ≡ Some b → a.manager ≡ b.manager → s ≡ t
  one_supplier s t tag tag' a b h k e =
      let p = at s tag a h in
      let q = at t tag' b k in
      let n : p.supplier.owner.name ≡ q.supplier.owner.name = sym p.its.manager ∙ (e ∙ q.its.manager) in
      sym p.number ∙ (names.names p.supplier.owner q.supplier.owner p.one q.one n ∙ q.number)

  -- one attempt, where supplier and tag are the same
  pub one_attempt : (s t tag tag' : ℕ) (a b : Attempted) → attempt_of tag (book_of s w) ≡ Some a → attempt_of tag' (book_of t w) ≡ Some b → a.manager ≡ b.manager → tag ≡ tag' → a ≡ b
  one_attempt s t tag tag' a b h k e q =
      let n = one_supplier s t tag tag' a b h k e in
      let z : attempt_of tag' (book_of t w) ≡ Some a = subst (λ x. attempt_of x (book_of t w) ≡ Some a) q (subst (λ x. attempt_of tag (book_of x w) ≡ Some a) n h) in
      some_same a b (sym z ∙ k)

  -- the landing of a recorded reference
  pub recorded_landing : (r : Recorded) → Has w.service.references r → (f : RecordedFrom w r) → (l : Landing) × Has w.service.landings l × (r.reference.ovn ≡ Some l.ovn) × (l.manager ≡ f.attempt.manager) × (l.flight ≡ f.attempt.flight) × (l.tag ≡ f.attempt.tag)
  recorded_landing r h f =
      let l = j.service.landed r h in
      let i : IsAsLanded l.0 r.reference = l.2 in
      let b : l.0.tag ≡ f.attempt.tag = i.tag ∙ (ap (λ z. unwrap_or (tag_of z) 0) f.base ∙ base_tag f.s f.attempt.tag f.attempt f.found) in
      (l.0, last_has r.reference.flight w.service.landings l.0 l.1, i.ovn, sym i.manager ∙ f.manager, sym i.flight ∙ f.flight, b)

  pub recorded_tag : (r : Recorded) (f : RecordedFrom w r) → tag_in r.reference ≡ f.attempt.tag
  recorded_tag r f = ap (λ z. unwrap_or (tag_of z) 0) f.base ∙ base_tag f.s f.attempt.tag f.attempt f.found

  -- the intent of a recorded reference is its attempt
  pub intent_is : (r : Recorded) (a : Attempted) (f : RecordedFrom w r) → IsIntentOf w r a → f.attempt ≡ a
  intent_is r a f i =
      let m : f.attempt.manager ≡ a.manager = sym f.manager ∙ (i.manager ∙ sym (attempt_manager i.supplier (tag_in r.reference) a i.found)) in
      one_attempt f.s i.supplier f.attempt.tag (tag_in r.reference) f.attempt a f.found i.found m (sym (recorded_tag r f))

  pub intended : (r : Recorded) (f : RecordedFrom w r) → IsIntentOf w r f.attempt
  intended r f =
      record {
        supplier = f.s;
        manager = f.manager ∙ attempt_manager f.s f.attempt.tag f.attempt f.found;
        found = subst (λ z. attempt_of z (book_of f.s w) ≡ Some f.attempt) (sym (recorded_tag r f)) f.found;
      }

  pub is_record : (r : Recorded) → Has w.service.references r → (f : RecordedFrom w r) → IsRecordOf w r f.attempt
  is_record r h f =
      let l = recorded_landing r h f in
      record {
        flight = f.flight;
        manager = f.manager;
        state = f.state;
        extents = f.extents;
        base = f.base;
        ticket = f.ticket;
        start = j.service.start r h ∙ ap (λ (z : List Volume4D). (bounding_box z).start) f.extents;
        end = j.service.end r h ∙ ap (λ (z : List Volume4D). (bounding_box z).end) f.extents;
        version = subst (λ n. r.reference.version ≡ count_by (λ (z : Landing). z.flight == n) w.service.landings) f.flight (j.service.versions r h);
        landing = l.0;
        landed = l.1;
        ovn = l.2;
        landing_manager = l.3;
        landing_flight = l.4;
        landing_tag = l.5;
      }

  -- the attempt of a landing with an OVN is that of a recorded reference with this OVN
  pub landed_as : (r : Recorded) → Has w.service.references r → (f : RecordedFrom w r) → (s : ℕ) (b : Attempted) (o : List ℕ) (version : ℕ) → attempt_of b.tag (book_of s w) ≡ Some b → HasLanding w s b.tag o version
      → r.reference.ovn ≡ Some o → f.attempt ≡ b
  landed_as r h f s b o version k l e =
      let m = recorded_landing r h f in
      let n : m.0.ovn ≡ l.landing.ovn = some_same m.0.ovn o (sym m.2 ∙ e) ∙ sym l.ovn in
      let same : m.0 ≡ l.landing = one_landing w.service j.service m.0 l.landing m.1 l.landed n in
      let manager : f.attempt.manager ≡ b.manager = sym m.3 ∙ (ap (λ (z : Landing). z.manager) same ∙ (l.manager ∙ sym (attempt_manager s b.tag b k))) in
      let tag : f.attempt.tag ≡ b.tag = sym m.5 ∙ (ap (λ (z : Landing). z.tag) same ∙ l.tag_is) in
      one_attempt f.s s f.attempt.tag b.tag f.attempt b f.found k manager tag
