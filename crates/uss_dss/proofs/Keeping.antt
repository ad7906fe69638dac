-- What each change of the service keeps.
use Rattle.std.proofs.Common.{◌≡◌, ℕ, ◌<◌, ◌+◌, ◌==◌, nat_eq, Bool, true, false, cond, List, [], ◌∷◌, ◌++◌, length, Option, Some, None, refl, sym, ap, subst, ◌∙◌, arith}
use Rattle.std.specs.Option.{option_map}
use Rattle.std.proofs.lemmas.Bool.{eqb-true}
use Rattle.std.proofs.lemmas.Bool.Decides.{nat_tests}
use Rattle.std.proofs.lemmas.List.{length-append}
use Rattle.uss_vol4.specs.declared.Box4.{Box4}
use Rattle.uss_vol4.specs.Volume.{Volume4D}
use Rattle.uss_vol4.specs.Bounding.{bounding_box}
use Rattle.uss_intent.specs.declared.records.Landing.{Landing}
use Rattle.uss_intent.specs.declared.records.Recorded.{Recorded}
use Rattle.uss_intent.specs.declared.records.Subscriber.{Subscriber}
use Rattle.uss_intent.specs.declared.records.Ticket.{Ticket}
use Rattle.uss_law_dss.specs.Service.{Service, empty, recorded_of}
use Rattle.uss_law_dss.specs.Orderly.{IsOrderly}
use Rattle.uss_law_dss.specs.Step.{put_ticket, without_ticket, without_flight}
use Rattle.uss_law_dss.specs.Lists.{Has}
use Rattle.uss_law_dss.proofs.Founds.{recorded_is, recorded_has}
use Rattle.uss_law_dss.proofs.Tests.{equal_number}
use Rattle.uss_law_dss.proofs.EachOrderly.{empty_orderly}
use Rattle.uss_dss.specs.declared.located.Located.{Located}
use Rattle.uss_dss.specs.Effects.{with_indices}
use Rattle.uss_dss.specs.Kept.{IsKept}
use Rattle.uss_dss.specs.Grid.{last_number, HasReferences}
use Rattle.uss_dss.specs.Located.{number_of, box_under, extents_in, area_in, IsLocated, IsWithout, AreNumbersKept, IsNumbered}
use Rattle.uss_dss.proofs.Changed.{extents_without, last_more, last_le, area_without, area_indices, length_put, length_without, length_indices}
use Rattle.uss_dss.proofs.Standing.{gone, same_things}

no_number : (l : Located) (id n : ℕ) → IsLocated (λ (id : ℕ). None) l → number_of id l ≡ Some n → ⊥
no_number l id n j e = let there = j.named id n e in let none : None ≡ Some there.0 = there.1 in cc

pub kept_new : (r t : Located) → IsLocated (λ id. None) r → IsLocated (λ id. None) t → IsKept empty r t
kept_new r t i j = record {
  orderly = empty_orderly;
  references = same_things (λ id. None) (extents_in []) r (λ k. refl) i;
  last = λ id n e. absurd (no_number r id n i e);
  tickets = same_things (λ id. None) (area_in []) t (λ k. refl) j;
  below = λ id n e. absurd (no_number t id n j e);
}

-- a number beyond all that stand has no box
pub unused : (what : ℕ → Option (List Volume4D)) (l : Located) (n : ℕ) → IsLocated what l → ((id m : ℕ) → number_of id l ≡ Some m → m < n) → box_under n l ≡ None
unused what l n j below = go (box_under n l) refl
  where
    go : (w : Option Box4) → box_under n l ≡ w → w ≡ None
    go None e = refl
    go (Some b) e = absurd (let t = j.only n b e in let less = below t.id n t.named in omega (arith, less))

pub free_ticket : (s : Service) (r l : Located) (n : ℕ) → IsKept s r l → n ≡ length s.tickets + length s.retired_tickets → box_under n l ≡ None
free_ticket s r l n k e = unused (area_in s.tickets) l n k.tickets (λ id m h. let less = k.below id m h in omega (arith, less, e))

pub located_as : (ts us : List Ticket) (l : Located) → ts ≡ us → IsLocated (area_in ts) l → IsLocated (area_in us) l
located_as ts us l e j = subst (λ (x : List Ticket). IsLocated (area_in x) l) e j

pub free_landing : (s : Service) (r l : Located) → IsKept s r l → box_under (length s.landings + 1) r ≡ None
free_landing s r l k =
    unused (extents_in s.references) r (length s.landings + 1) k.references (λ id m h.
    let same = k.last id m h in
    let le = last_le id s.landings in
    omega (arith, same, le))

pub extents_as : (ts us : List Recorded) (l : Located) → ts ≡ us → IsLocated (extents_in ts) l → IsLocated (extents_in us) l
extents_as ts us l e j = subst (λ (x : List Recorded). IsLocated (extents_in x) l) e j

pub kept_same : (s : Service) (r l m : Located) → IsKept s r l → IsLocated (area_in s.tickets) m → AreNumbersKept l m → IsKept s r m
kept_same s r l m k j same = record { orderly = k.orderly; references = k.references; last = k.last; tickets = j; below = λ id n e. k.below id n (sym (same id) ∙ e) }

pub kept_same_references : (s : Service) (r q l : Located) → IsKept s r l → IsLocated (extents_in s.references) q → AreNumbersKept r q → IsKept s q l
kept_same_references s r q l k j same = record { orderly = k.orderly; references = j; last = λ id n e. k.last id n (sym (same id) ∙ e); tickets = k.tickets; below = k.below }

-- the tickets have other indices
told_tickets : (s v : Service) (notified : List Subscriber) (r l : Located) → IsKept s r l → v.tickets ≡ with_indices notified s.tickets → IsLocated (area_in v.tickets) l
told_tickets s v notified r l k e = same_things (area_in s.tickets) (area_in v.tickets) l (λ id. ap (λ ts. area_in ts id) e ∙ area_indices notified s.tickets id) k.tickets

told_below : (s v : Service) (notified : List Subscriber) (r l : Located) → IsKept s r l → v.tickets ≡ with_indices notified s.tickets → v.retired_tickets ≡ s.retired_tickets
    → (id n : ℕ) → number_of id l ≡ Some n → n < length v.tickets + length v.retired_tickets
told_below s v notified r l k e f id n g =
    let less = k.below id n g in
    let same : length v.tickets ≡ length s.tickets = ap length e ∙ length_indices notified s.tickets in
    let others : length v.retired_tickets ≡ length s.retired_tickets = ap length f in
    omega (arith, less, same, others)

-- the numbers after a landing
landed_last : (flight k n : ℕ) (ls : List Landing) (l : Landing) (r q : Located) (b : Bool) → nat_eq k flight ≡ b → l.flight ≡ flight → number_of k q ≡ cond (nat_eq k flight) (Some (length ls + 1)) (number_of k r) → number_of k q ≡ Some n
    → (number_of k r ≡ Some n → n ≡ last_number k ls) → n ≡ last_number k (ls ++ l ∷ [])
landed_last flight k n ls l r q true e f g h before =
    let same : Some (length ls + 1) ≡ Some n = sym (g ∙ ap (λ b. cond b (Some (length ls + 1)) (number_of k r)) e) ∙ h in
    let one : n ≡ length ls + 1 = cc in
    let own : (l.flight == k) ≡ true = equal_number l.flight k (f ∙ sym (eqb-true k flight e)) in
    one ∙ sym (last_more k ls l ∙ ap (λ b. cond b (length ls + 1) (last_number k ls)) own)
landed_last flight k n ls l r q false e f g h before =
    let old = before (sym (g ∙ ap (λ b. cond b (Some (length ls + 1)) (number_of k r)) e) ∙ h) in
    let other : (l.flight == k) ≡ false = ap (λ i. i == k) f ∙ other_way flight k e in
    old ∙ sym (last_more k ls l ∙ ap (λ b. cond b (length ls + 1) (last_number k ls)) other)
  where
    other_way : (a c : ℕ) → nat_eq c a ≡ false → (a == c) ≡ false
    other_way a c h = grind (arith, nat_tests)

pub kept_landed : (s v : Service) (flight : ℕ) (new : Landing) (notified : List Subscriber) (r q l : Located) → IsKept s r l → IsLocated (extents_in v.references) q → v.landings ≡ s.landings ++ new ∷ [] → new.flight ≡ flight
    → IsNumbered flight (Some (length s.landings + 1)) r q → v.tickets ≡ with_indices notified s.tickets → v.retired_tickets ≡ s.retired_tickets → IsOrderly v → IsKept v q l
kept_landed s v flight new notified r q l k at d own u e f j = record {
  orderly = j;
  references = at;
  last = λ id n g. landed_last flight id n s.landings new r q (nat_eq id flight) refl own (u id) g (λ h. k.last id n h) ∙ ap (last_number id) (sym d);
  tickets = told_tickets s v notified r l k e;
  below = told_below s v notified r l k e f;
}

gone_last : (flight k n : ℕ) (ls : List Landing) (r q : Located) (b : Bool) → nat_eq k flight ≡ b → number_of k q ≡ cond (nat_eq k flight) None (number_of k r) → number_of k q ≡ Some n → (number_of k r ≡ Some n → n ≡ last_number k ls) → n ≡ last_number k ls
gone_last flight k n ls r q true e g h before = absurd (let no_more : None ≡ Some n = sym (g ∙ ap (λ b. cond b None (number_of k r)) e) ∙ h in cc)
gone_last flight k n ls r q false e g h before = before (sym (g ∙ ap (λ b. cond b None (number_of k r)) e) ∙ h)

pub kept_ended : (s v : Service) (flight : ℕ) (notified : List Subscriber) (r q l : Located) → IsKept s r l → v.references ≡ without_flight flight s.references → v.landings ≡ s.landings
    → IsWithout (number_of flight r) r q → IsNumbered flight None r q → v.tickets ≡ with_indices notified s.tickets → v.retired_tickets ≡ s.retired_tickets → IsOrderly v → IsKept v q l
kept_ended s v flight notified r q l k d c w u e f j = record {
  orderly = j;
  references = gone (extents_in s.references) (extents_in v.references) flight r q k.references w u (λ id. ap (λ rs. extents_in rs id) d ∙ extents_without flight id s.references);
  last = λ id n g. gone_last flight id n s.landings r q (nat_eq id flight) refl (u id) g (λ h. k.last id n h) ∙ ap (last_number id) (sym c);
  tickets = told_tickets s v notified r l k e;
  below = told_below s v notified r l k e f;
}

-- what the service shows of its references' boxes
pub shows : (s : Service) (r l : Located) → IsKept s r l → HasReferences s r.boxes
shows s r l k = record { all = λ x h. all_at x h; only = λ n b e. only_at n b e }
  where
    there : (x : Recorded) → Has s.references x → extents_in s.references x.reference.flight ≡ Some x.extents
    there x h = ap (option_map (λ (y : Recorded). y.extents)) (recorded_is s x.reference.flight x k.orderly h refl)

    all_at : (x : Recorded) → Has s.references x → box_under (last_number x.reference.flight s.landings) r ≡ Some (bounding_box x.extents)
    all_at x h = let t = k.references.all x.reference.flight x.extents (there x h) in ap (λ n. box_under n r) (sym (k.last x.reference.flight t.number t.named)) ∙ t.boxed

    recorded_at : (w : Option Recorded) (flight : ℕ) (vs : List Volume4D) → recorded_of flight s ≡ w → option_map (λ (y : Recorded). y.extents) w ≡ Some vs → (x : Recorded) × (recorded_of flight s ≡ Some x) × (x.extents ≡ vs)
    recorded_at None flight vs e f = absurd (let no_more : None ≡ Some vs = f in cc)
    recorded_at (Some x) flight vs e f = (x, e, (let same : Some x.extents ≡ Some vs = f in cc))

    only_at : (n : ℕ) (b : Box4) → box_under n r ≡ Some b → (x : Recorded) × Has s.references x × (n ≡ last_number x.reference.flight s.landings) × (b ≡ bounding_box x.extents)
    only_at n b e =
        let t = k.references.only n b e in
        let x = recorded_at (recorded_of t.id s) t.id t.volumes refl t.there in
        let h = recorded_has s t.id x.0 x.1 in
        (x.0, h.0, k.last t.id n t.named ∙ ap (λ f. last_number f s.landings) (sym h.1), t.boxed ∙ ap bounding_box (sym x.2))

numbered_below : (id k n number bound : ℕ) (l m : Located) (b : Bool) → nat_eq k id ≡ b → number_of k m ≡ cond (nat_eq k id) (Some number) (number_of k l) → number_of k m ≡ Some n → number ≡ bound
    → (number_of k l ≡ Some n → n < bound) → n < bound + 1
numbered_below id k n number bound l m true e f g is below =
    let same : Some number ≡ Some n = sym (f ∙ ap (λ b. cond b (Some number) (number_of k l)) e) ∙ g in
    let one : number ≡ n = cc in
    omega (arith, one, is)
numbered_below id k n number bound l m false e f g is below =
    let less = below (sym (f ∙ ap (λ b. cond b (Some number) (number_of k l)) e) ∙ g) in omega (arith, less)

pub kept_put : (s v : Service) (t : Ticket) (number : ℕ) (r l m : Located) → IsKept s r l → v.references ≡ s.references → v.landings ≡ s.landings → v.tickets ≡ put_ticket t s.tickets → v.retired_tickets ≡ s.retired_tickets → IsOrderly v
    → IsLocated (area_in (put_ticket t s.tickets)) m → number ≡ length s.tickets + length s.retired_tickets → IsNumbered t.id (Some number) l m → IsKept v r m
kept_put s v t number r l m k a c e f j at is u = record {
  orderly = j;
  references = extents_as s.references v.references r (sym a) k.references;
  last = λ id n g. k.last id n g ∙ ap (last_number id) (sym c);
  tickets = same_things (area_in (put_ticket t s.tickets)) (area_in v.tickets) m (λ id. ap (λ ts. area_in ts id) e) at;
  below = λ id n g.
      let less = numbered_below t.id id n number (length s.tickets + length s.retired_tickets) l m (nat_eq id t.id) refl (u id) g is (λ h. k.below id n h) in
      let more : length v.tickets ≡ length s.tickets + 1 = ap length e ∙ length_put t s.tickets in
      let others : length v.retired_tickets ≡ length s.retired_tickets = ap length f in
      omega (arith, less, more, others);
}

gone_below : (id k n bound : ℕ) (l m : Located) (b : Bool) → nat_eq k id ≡ b → number_of k m ≡ cond (nat_eq k id) None (number_of k l) → number_of k m ≡ Some n → (number_of k l ≡ Some n → n < bound) → n < bound
gone_below id k n bound l m true e f g below = absurd (let no_more : None ≡ Some n = sym (f ∙ ap (λ b. cond b None (number_of k l)) e) ∙ g in cc)
gone_below id k n bound l m false e f g below = below (sym (f ∙ ap (λ b. cond b None (number_of k l)) e) ∙ g)

pub kept_removed : (s v : Service) (id : ℕ) (r l m : Located) → IsKept s r l → v.references ≡ s.references → v.landings ≡ s.landings → v.tickets ≡ without_ticket id s.tickets → v.retired_tickets ≡ s.retired_tickets ++ id ∷ [] → IsOrderly v
    → IsWithout (number_of id l) l m → IsNumbered id None l m → IsKept v r m
kept_removed s v id r l m k a c e f j w u = record {
  orderly = j;
  references = extents_as s.references v.references r (sym a) k.references;
  last = λ q n g. k.last q n g ∙ ap (last_number q) (sym c);
  tickets = gone (area_in s.tickets) (area_in v.tickets) id l m k.tickets w u (λ q. ap (λ ts. area_in ts q) e ∙ area_without id q s.tickets);
  below = λ q n g.
      let less = gone_below id q n (length s.tickets + length s.retired_tickets) l m (nat_eq q id) refl (u q) g (λ h. k.below q n h) in
      let fewer = length_without id s.tickets k.orderly.tickets_ascend in
      let left : length v.tickets ≡ length (without_ticket id s.tickets) = ap length e in
      let others : length v.retired_tickets ≡ length s.retired_tickets + 1 = ap length f ∙ length-append s.retired_tickets (id ∷ []) in
      omega (arith, less, fewer, left, others);
}
