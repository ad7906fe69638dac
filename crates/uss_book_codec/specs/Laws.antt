-- Each part of an entry is coded, and so is each entry.
use Rattle.std.proofs.Common.{◌≡◌, ℕ, zero, suc, ◌+◌, ◌^◌, ◌<◌, ◌≤◌, ℤ, true, cond, eqb, List, [], ◌∷◌, ◌++◌, length, All, Option, Some, None, refl, sym, ap, subst, ◌∙◌, append-nil, arith}
use Rattle.std.specs.Prelude.{IfSome, nat_le, nat_lt}
use Rattle.std.specs.List.{list_all}
use Rattle.std.specs.Int.{w64}
use Rattle.std.specs.Int.RustNames.{FitsSigned}
use Rattle.std.proofs.lemmas.Bool.{and_parts, leb-true, ltb-true, le-leb, eqb-true}
use Rattle.std.proofs.lemmas.List.{nil_from_length}
use Rattle.std.proofs.lemmas.List.Sums.{AllPass-from_list_all}
use Rattle.uss_vol4.specs.Volume.{Volume4D, IsVolume, InTime}
use Rattle.uss_intent.specs.Limits.{most_ovns, most_references, most_tickets}
use Rattle.uss_intent.specs.Texts.{IsName, IsOvn, IsBase}
use Rattle.uss_intent.specs.States.{state_number}
use Rattle.uss_intent.specs.declared.records.State.{State}
use Rattle.uss_intent.specs.declared.records.State.TheVariants.{Accepted, Activated, Nonconforming, Contingent}
use Rattle.uss_intent.specs.declared.records.Subscriber.{Subscriber}
use Rattle.uss_event.specs.Rules.{IsTable, is_table, ascend}
use Rattle.uss_event.specs.declared.rules.Verdict.{Verdict}
use Rattle.uss_event.specs.declared.rules.Verdict.TheVariants.{Clear, EqualForbidden, HigherStands}
use Rattle.uss_event.specs.declared.details.Proposal.{Proposal}
use Rattle.uss_event.specs.declared.asks.Wish.{Wish}
use Rattle.uss_event.specs.declared.asks.Wish.TheVariants.{Put, End}
use Rattle.uss_event.specs.declared.asks.FlightAsk.{FlightAsk}
use Rattle.uss_event.specs.declared.entries.Owner.{Owner}
use Rattle.uss_event.specs.declared.entries.Ending.{Ending}
use Rattle.uss_event.specs.declared.entries.Ending.TheVariants.{Conflict, Stale, Cancelled, Ended}
use Rattle.uss_event.specs.declared.entries.Entry.{Entry}
use Rattle.uss_event.specs.declared.entries.Entry.TheVariants.{Opened, TicketOpen, Pending, Held, Deciding, Done, TicketGone, Sent}
use Rattle.uss_event.specs.declared.entries.Entry.TheVariants as Enters
use Rattle.uss_law_book.specs.Coding.{IsOwner, IsProposal, IsWish, IsAsk, IsSubscriber, AreOwed, IsRule, IsEnding, IsDecision, HasCoding}
use Rattle.uss_codec.specs.Spelling.{in_1_byte, in_2_bytes, in_4_bytes, in_8_bytes, in_16_bytes, signed_in_8_bytes, text, optional, list, short_list, volume}
use Rattle.uss_codec.specs.Reading.{Reading, ◌>>=◌, both_at, made_at, in_1_byte_at, in_2_bytes_at, in_16_bytes_at, signed_in_8_bytes_at, list_at, short_list_at}
use Rattle.uss_codec.specs.Coded.{AreBytes, IsCoded}
use Rattle.uss_codec.specs.Laws.{bytes_left, step_some, test_some, same_value, coded_both, coded_made, coded_only, coded_in_1_byte, coded_in_2_bytes, coded_in_4_bytes, coded_in_8_bytes, coded_in_16_bytes, coded_signed}
use Rattle.uss_codec.specs.ListLaws.{coded_optional, coded_list, coded_short_list}
use Rattle.uss_codec.specs.TextLaws.{coded_name, coded_ovn, coded_base}
use Rattle.uss_vol4.specs.Ranges.{is_instant}
use Rattle.uss_codec.specs.Volumes.{volume_at}
use Rattle.uss_codec.specs.VolumeLaws.{coded_volume, instant_from, instant_true, instant_fits}
use Rattle.uss_book_codec.specs.Coding.{state, owner, proposal, wish, ask, subscriber, rule_number, rule, ending, coding_of}
use Rattle.uss_book_codec.specs.Reading.{instant_at, known_at, state_of, state_at, rule_of, rule_at, is_short_base, short_base_at, table_at, owner_of, owner_at, proposal_of, proposal_at, put_of, put_at, wish_at, ask_of, ask_at, subscriber_of, subscriber_at, owed_at, conflict_of, conflict_at, missing_at, ending_at, is_decision, decision_at, opened_at, key_at, pending_at, held_at, deciding_at, done_at, sent_at, fields_at, entry_at, all_of}

-- ---- the tools, with their arguments left to be found

both : {A B : Type 0} {f : A → Type 0} {s : A → List ℕ} {r : Reading A} {g : B → Type 0} {t : B → List ℕ} {q : Reading B}
    → IsCoded f s r → IsCoded g t q → IsCoded (λ (p : A × B). f p.0 × g p.1) (λ p. s p.0 ++ t p.1) (both_at r q)
both {f} {s} {r} {g} {t} {q} c d = coded_both f s r g t q c d

-- the same values, described otherwise
same_as : {A : Type 0} {f : A → Type 0} (g : A → Type 0) {s : A → List ℕ} {r : Reading A} → ((x : A) → f x → g x) → ((x : A) → g x → f x) → IsCoded f s r → IsCoded g s r
same_as g there back c = record {
  found = λ bytes x rest are e. let h = c.found bytes x rest are e in (h.0, there x h.1);
  again = λ x rest h. c.again x rest (back x h);
}

-- what a byte stands for
coded_known : {A : Type 0} (meaning : ℕ → Option A) (number : A → ℕ) (fits : A → Type 0) → ((n : ℕ) (x : A) → meaning n ≡ Some x → (n ≡ number x) × fits x)
    → ((x : A) → fits x → (meaning (number x) ≡ Some x) × (number x < 2 ^ 8)) → IsCoded fits (λ x. in_1_byte (number x)) (known_at meaning)
coded_known {A} meaning number fits there back = record {
  found = λ bytes x rest are e.
      let a = step_some (in_1_byte_at bytes) (λ (n : ℕ × List ℕ). meaning n.0 >>= λ (y : A). Some (y, n.1)) (x, rest) e in
      let b = step_some (meaning a.0.0) (λ (y : A). Some (y, a.0.1)) (x, rest) a.2 in
      let f = coded_in_1_byte.found bytes a.0.0 a.0.1 are a.1 in
      let t = there a.0.0 b.0 b.1 in
      let whole : bytes ≡ in_1_byte (number b.0) ++ a.0.1 = f.0 ∙ ap (λ (n : ℕ). in_1_byte n ++ a.0.1) t.0 in
      let made : A × List ℕ = (b.0, a.0.1) in
      subst (λ (y : A × List ℕ). (bytes ≡ in_1_byte (number y.0) ++ y.1) × fits y.0) (same_value made (x, rest) b.2) (whole, t.1);
  again = λ x rest h.
      let t = back x h in
      rw (coded_in_1_byte.again (number x) rest t.1, t.0) refl;
}

-- a value after the byte for its kind
module _ {A B : Type 0} {fits : A → Type 0} {spelling : A → List ℕ} {reading : Reading A} (make : A → B) (Fits : B → Type 0) (code : B → List ℕ) (kind : ℕ) where
  found_behind : IsCoded fits spelling reading → ((a : A) → code (make a) ≡ kind ∷ spelling a) → ((a : A) → fits a → Fits (make a))
      → (bytes : List ℕ) (x : B) (rest : List ℕ) → AreBytes (kind ∷ bytes) → made_at make reading bytes ≡ Some (x, rest) → (kind ∷ bytes ≡ code x ++ rest) × Fits x
  found_behind c is fit bytes x rest are e =
      let a = step_some (reading bytes) (λ (v : A × List ℕ). Some (make v.0, v.1)) (x, rest) e in
      let f = c.found bytes a.0.0 a.0.1 (bytes_left (kind ∷ bytes) (kind ∷ []) bytes are refl) a.1 in
      let whole : kind ∷ bytes ≡ code (make a.0.0) ++ a.0.1 = ap (λ (r : List ℕ). kind ∷ r) f.0 ∙ ap (λ (r : List ℕ). r ++ a.0.1) (sym (is a.0.0)) in
      let made : B × List ℕ = (make a.0.0, a.0.1) in
      subst (λ (y : B × List ℕ). (kind ∷ bytes ≡ code y.0 ++ y.1) × Fits y.0) (same_value made (x, rest) a.2) (whole, fit a.0.0 f.1)

made_again : {A B : Type 0} {fits : A → Type 0} {spelling : A → List ℕ} {reading : Reading A} (make : A → B) → IsCoded fits spelling reading → (a : A) (rest : List ℕ) → fits a
    → made_at make reading (spelling a ++ rest) ≡ Some (make a, rest)
made_again make c a rest h = rw (c.again a rest h) refl

-- ---- the parts

pub coded_instant : IsCoded InTime signed_in_8_bytes instant_at
unfolding instant_at
coded_instant = coded_only (λ z. FitsSigned w64 z) signed_in_8_bytes signed_in_8_bytes_at is_instant InTime (λ z h k. instant_from z h) (λ z h. (instant_true z h, instant_fits z h)) coded_signed

abbrev pub AnyState : State → Type 0
AnyState s = Unit {0}

state_there : (n : ℕ) (s : State) → state_of n ≡ Some s → (n ≡ state_number s) × AnyState s
state_there zero s e = absurd cc
state_there (suc zero) s e = (ap state_number (same_value Accepted s e), tt)
state_there (suc (suc zero)) s e = (ap state_number (same_value Activated s e), tt)
state_there (suc (suc (suc zero))) s e = (ap state_number (same_value Nonconforming s e), tt)
state_there (suc (suc (suc (suc zero)))) s e = (ap state_number (same_value Contingent s e), tt)
state_there (suc (suc (suc (suc (suc n))))) s e = absurd cc

state_back : (s : State) → AnyState s → (state_of (state_number s) ≡ Some s) × (state_number s < 2 ^ 8)
state_back Accepted h = (refl, omega arith)
state_back Activated h = (refl, omega arith)
state_back Nonconforming h = (refl, omega arith)
state_back Contingent h = (refl, omega arith)

pub coded_state : IsCoded AnyState state state_at
unfolding state_at
coded_state = coded_known state_of state_number AnyState state_there state_back

rule_there : (n : ℕ) (v : Verdict) → rule_of n ≡ Some v → (n ≡ rule_number v) × IsRule v
rule_there zero v e = absurd cc
rule_there (suc zero) v e = subst (λ (w : Verdict). (1 ≡ rule_number w) × IsRule w) (same_value EqualForbidden v e) (refl, tt)
rule_there (suc (suc zero)) v e = subst (λ (w : Verdict). (2 ≡ rule_number w) × IsRule w) (same_value HigherStands v e) (refl, tt)
rule_there (suc (suc (suc n))) v e = absurd cc

rule_back : (v : Verdict) → IsRule v → (rule_of (rule_number v) ≡ Some v) × (rule_number v < 2 ^ 8)
rule_back Clear h = absurd h
rule_back EqualForbidden h = (refl, omega arith)
rule_back HigherStands h = (refl, omega arith)

pub coded_rule : IsCoded IsRule rule rule_at
unfolding rule_at
coded_rule = coded_known rule_of rule_number IsRule rule_there rule_back

pub coded_short_base : IsCoded (λ (b : List ℕ). IsBase b × (length b ≤ 256)) text short_base_at
unfolding short_base_at
coded_short_base = coded_only IsBase text _ is_short_base (λ (b : List ℕ). IsBase b × (length b ≤ 256)) (λ b h k. (k, leb-true (length b) 256 h)) (λ b h. (le-leb (length b) 256 h.1, h.0)) coded_base

-- ---- tables

few_above : (n : ℕ) (ns : List ℕ) → ascend (n ∷ ns) ≡ true → list_all (λ p. nat_le p 1000) (n ∷ ns) ≡ true → n + length ns ≤ 1000
few_above n [] up all = omega (arith, leb-true n 1000 (and_parts (nat_le n 1000) true all).0)
few_above n (m ∷ ns) up all =
    let a = and_parts (nat_lt n m) (ascend (m ∷ ns)) up in
    let b = and_parts (nat_le n 1000) (list_all (λ p. nat_le p 1000) (m ∷ ns)) all in
    omega (arith, ltb-true n m a.0, few_above m ns a.1 b.1)

pub few_in_table : (t : List ℕ) → IsTable t → length t ≤ 1001
few_in_table [] h = omega arith
few_in_table (n ∷ ns) h =
    let a = and_parts (ascend (n ∷ ns)) (list_all (λ p. nat_le p 1000) (n ∷ ns)) h in
    omega (arith, few_above n ns a.0 a.1)

pub small_in_table : (t : List ℕ) → IsTable t → All (λ p. p < 2 ^ 16) t
small_in_table t h k d lt =
    let a = and_parts (ascend t) (list_all (λ p. nat_le p 1000) t) h in
    omega (arith, leb-true _ 1000 (AllPass-from_list_all (λ p. nat_le p 1000) t a.1 k d lt))

pub coded_table : IsCoded IsTable (list in_2_bytes) table_at
unfolding table_at
coded_table =
    coded_only (λ (t : List ℕ). (length t ≤ 1001) × All (λ p. p < 2 ^ 16) t) (list in_2_bytes) (list_at 1001 in_2_bytes_at) is_table IsTable
    (λ t h k. h) (λ t h. (h, (few_in_table t h, small_in_table t h))) (coded_list (λ p. p < 2 ^ 16) in_2_bytes in_2_bytes_at coded_in_2_bytes 1001 (omega arith))

pub coded_owner : IsCoded IsOwner owner owner_at
unfolding owner_at
coded_owner =
    same_as IsOwner
    (λ o h. record { number = h.0; name = h.1.0; base = h.1.1.0.0; short_base = h.1.1.0.1; table = h.1.1.1 })
    (λ o h. (h.number, (h.name, ((h.base, h.short_base), h.table))))
    (coded_made _ _ _ owner_of (λ (o : Owner). (o.number, (o.name, (o.base, o.table)))) (λ t. refl) (λ o. refl) (both coded_in_4_bytes (both coded_name (both coded_short_base coded_table))))

-- ---- wishes

coded_volumes : IsCoded (λ (vs : List Volume4D). (length vs ≤ 255) × All IsVolume vs) (short_list volume) (short_list_at volume_at)
coded_volumes = coded_short_list IsVolume volume _ coded_volume

pub coded_proposal : IsCoded IsProposal proposal proposal_at
unfolding proposal_at
coded_proposal =
    same_as IsProposal
    (λ p h. record { few_volumes = omega (arith, h.0.0); few_off_nominal = omega (arith, h.1.0); volumes = h.0.1; off_nominal = h.1.1 })
    (λ p h. ((omega (arith, h.few_volumes), h.volumes), (omega (arith, h.few_off_nominal), h.off_nominal)))
    (coded_made _ _ _ proposal_of (λ (p : Proposal). (p.volumes, p.off_nominal)) (λ t. refl) (λ p. refl) (both coded_volumes coded_volumes))

abbrev PutFields : Type 0
PutFields = State × (ℕ × (ℕ × List Proposal))

abbrev FitsPut : PutFields → Type 0
FitsPut t = AnyState t.0 × ((t.1.0 < 2 ^ 16) × ((t.1.1.0 < 2 ^ 8) × ((length t.1.1.1 ≤ 255) × All IsProposal t.1.1.1)))

abbrev put_fields : PutFields → List ℕ
put_fields t = state t.0 ++ (in_2_bytes t.1.0 ++ (in_1_byte t.1.1.0 ++ short_list proposal t.1.1.1))

coded_put : IsCoded FitsPut put_fields put_at
unfolding put_at
coded_put = both coded_state (both coded_in_2_bytes (both coded_in_1_byte (coded_short_list IsProposal proposal proposal_at coded_proposal)))

wish_found : (bytes : List ℕ) (w : Wish) (rest : List ℕ) → AreBytes bytes → wish_at bytes ≡ Some (w, rest) → (bytes ≡ wish w ++ rest) × IsWish w
unfolding wish_at
wish_found [] w rest are e = absurd cc
wish_found (zero ∷ bytes) w rest are e = absurd cc
wish_found (suc zero ∷ bytes) w rest are e =
    found_behind put_of IsWish wish 1 coded_put (λ t. refl) (λ t h. record { priority_fits = h.1.0; rounds_fit = h.1.1.0; few_proposals = omega (arith, h.1.1.1.0); valid_proposals = h.1.1.1.1 }) bytes w rest are e
wish_found (suc (suc zero) ∷ bytes) w rest are e =
    subst (λ (y : Wish × List ℕ). (2 ∷ bytes ≡ wish y.0 ++ y.1) × IsWish y.0) (same_value (End, bytes) (w, rest) e) (refl, tt)
wish_found (suc (suc (suc kind)) ∷ bytes) w rest are e = absurd cc

wish_again : (w : Wish) (rest : List ℕ) → IsWish w → wish_at (wish w ++ rest) ≡ Some (w, rest)
unfolding wish_at
wish_again (Put to priority rounds proposals) rest h =
    made_again put_of coded_put (to, (priority, (rounds, proposals))) rest (tt, (h.priority_fits, (h.rounds_fit, (omega (arith, h.few_proposals), h.valid_proposals))))
wish_again End rest h = refl

pub coded_wish : IsCoded IsWish wish wish_at
coded_wish = record { found = wish_found; again = wish_again }

pub coded_ask : IsCoded IsAsk ask ask_at
unfolding ask_at
coded_ask =
    same_as IsAsk (λ a h. record { flight = h.0; number = h.1.0; wish = h.1.1 }) (λ a h. (h.flight, (h.number, h.wish)))
    (coded_made _ _ _ ask_of (λ (a : FlightAsk). (a.flight, (a.number, a.wish))) (λ t. refl) (λ a. refl) (both coded_in_8_bytes (both coded_in_8_bytes coded_wish)))

-- ---- owed notifications and endings

pub coded_subscriber : IsCoded IsSubscriber subscriber subscriber_at
unfolding subscriber_at
coded_subscriber =
    same_as IsSubscriber (λ s h. record { base = h.0; ticket = h.1.0; index = h.1.1 }) (λ s h. (h.base, (h.ticket, h.index)))
    (coded_made _ _ _ subscriber_of (λ (s : Subscriber). (s.base, (s.ticket, s.index))) (λ t. refl) (λ s. refl) (both coded_base (both coded_in_16_bytes coded_in_8_bytes)))

pub coded_owed : IsCoded AreOwed (list subscriber) owed_at
unfolding owed_at
coded_owed = coded_list IsSubscriber subscriber subscriber_at coded_subscriber most_tickets (omega arith)

abbrev FitsConflict : ℕ × (List ℕ × Verdict) → Type 0
FitsConflict t = (t.0 < 2 ^ 128) × (IsName t.1.0 × IsRule t.1.1)

abbrev conflict_fields : ℕ × (List ℕ × Verdict) → List ℕ
conflict_fields t = in_16_bytes t.0 ++ (text t.1.0 ++ rule t.1.1)

coded_conflict : IsCoded FitsConflict conflict_fields conflict_at
unfolding conflict_at
coded_conflict = both coded_in_16_bytes (both coded_name coded_rule)

coded_missing : IsCoded (λ (m : List ℕ). (length m ≤ most_references) × All (λ flight. flight < 2 ^ 128) m) (list in_16_bytes) missing_at
unfolding missing_at
coded_missing = coded_list (λ flight. flight < 2 ^ 128) in_16_bytes in_16_bytes_at coded_in_16_bytes most_references (omega arith)

ending_found : (bytes : List ℕ) (x : Ending) (rest : List ℕ) → AreBytes bytes → ending_at bytes ≡ Some (x, rest) → (bytes ≡ ending x ++ rest) × IsEnding x
unfolding ending_at
ending_found [] x rest are e = absurd cc
ending_found (zero ∷ bytes) x rest are e = absurd cc
ending_found (suc zero ∷ bytes) x rest are e = found_behind conflict_of IsEnding ending 1 coded_conflict (λ t. refl) (λ t h. (h.0, h.1.0, h.1.1)) bytes x rest are e
ending_found (suc (suc zero) ∷ bytes) x rest are e = found_behind Stale IsEnding ending 2 coded_missing (λ t. refl) (λ t h. h) bytes x rest are e
ending_found (suc (suc (suc zero)) ∷ bytes) x rest are e =
    subst (λ (y : Ending × List ℕ). (3 ∷ bytes ≡ ending y.0 ++ y.1) × IsEnding y.0) (same_value (Cancelled, bytes) (x, rest) e) (refl, tt)
ending_found (suc (suc (suc (suc zero))) ∷ bytes) x rest are e = found_behind Ended IsEnding ending 4 coded_owed (λ t. refl) (λ t h. h) bytes x rest are e
ending_found (suc (suc (suc (suc (suc kind)))) ∷ bytes) x rest are e = absurd cc

ending_again : (x : Ending) (rest : List ℕ) → IsEnding x → ending_at (ending x ++ rest) ≡ Some (x, rest)
unfolding ending_at
ending_again (Conflict flight manager why) rest h = made_again conflict_of coded_conflict (flight, (manager, why)) rest (h.0, (h.1, h.2))
ending_again (Stale missing) rest h = made_again Stale coded_missing missing rest h
ending_again Cancelled rest h = refl
ending_again (Ended owed) rest h = made_again Ended coded_owed owed rest h

pub coded_ending : IsCoded IsEnding ending ending_at
coded_ending = record { found = ending_found; again = ending_again }

decision_there : (x : Ending) → is_decision x ≡ true → IsEnding x → IsDecision x
decision_there (Conflict flight manager why) t h = h
decision_there (Stale missing) t h = h
decision_there Cancelled t h = h
decision_there (Ended owed) t h = absurd cc

decision_back : (x : Ending) → IsDecision x → (is_decision x ≡ true) × IsEnding x
decision_back (Conflict flight manager why) h = (refl, h)
decision_back (Stale missing) h = (refl, h)
decision_back Cancelled h = (refl, h)
decision_back (Ended owed) h = absurd h

pub coded_decision : IsCoded IsDecision ending decision_at
unfolding decision_at
coded_decision = coded_only IsEnding ending ending_at is_decision IsDecision decision_there decision_back coded_ending

-- ---- the fields of the entries

coded_opened : IsCoded (λ (t : ℕ × (ℤ × FlightAsk)). (t.0 < 2 ^ 64) × (InTime t.1.0 × IsAsk t.1.1)) (λ t. in_8_bytes t.0 ++ (signed_in_8_bytes t.1.0 ++ ask t.1.1)) opened_at
unfolding opened_at
coded_opened = both coded_in_8_bytes (both coded_instant coded_ask)

coded_key : IsCoded (λ (key : List (List ℕ)). (length key ≤ most_ovns) × All IsOvn key) (list text) key_at
unfolding key_at
coded_key = coded_list IsOvn text _ coded_ovn most_ovns (omega arith)

abbrev PendingFields : Type 0
PendingFields = ℕ × (ℕ × (ℕ × (Option (List ℕ) × List (List ℕ))))

abbrev FitsPending : PendingFields → Type 0
FitsPending t = (t.0 < 2 ^ 64) × ((t.1.0 < 2 ^ 64) × ((t.1.1.0 < 2 ^ 8) × (IfSome t.1.1.1.0 IsOvn × ((length t.1.1.1.1 ≤ most_ovns) × All IsOvn t.1.1.1.1))))

abbrev pending_fields : PendingFields → List ℕ
pending_fields t = in_8_bytes t.0 ++ (in_8_bytes t.1.0 ++ (in_1_byte t.1.1.0 ++ (optional text t.1.1.1.0 ++ list text t.1.1.1.1)))

coded_pending : IsCoded FitsPending pending_fields pending_at
unfolding pending_at
coded_pending = both coded_in_8_bytes (both coded_in_8_bytes (both coded_in_1_byte (both (coded_optional IsOvn text _ coded_ovn) coded_key)))

abbrev HeldFields : Type 0
HeldFields = ℕ × (ℕ × (List ℕ × (ℕ × List Subscriber)))

abbrev FitsHeld : HeldFields → Type 0
FitsHeld t = (t.0 < 2 ^ 64) × ((t.1.0 < 2 ^ 64) × (IsOvn t.1.1.0 × ((t.1.1.1.0 < 2 ^ 32) × AreOwed t.1.1.1.1)))

abbrev held_fields : HeldFields → List ℕ
held_fields t = in_8_bytes t.0 ++ (in_8_bytes t.1.0 ++ (text t.1.1.0 ++ (in_4_bytes t.1.1.1.0 ++ list subscriber t.1.1.1.1)))

coded_held : IsCoded FitsHeld held_fields held_at
unfolding held_at
coded_held = both coded_in_8_bytes (both coded_in_8_bytes (both coded_ovn (both coded_in_4_bytes coded_owed)))

coded_deciding : IsCoded (λ (t : ℕ × Ending). (t.0 < 2 ^ 64) × IsDecision t.1) (λ t. in_8_bytes t.0 ++ ending t.1) deciding_at
unfolding deciding_at
coded_deciding = both coded_in_8_bytes coded_decision

coded_done : IsCoded (λ (t : ℕ × Ending). (t.0 < 2 ^ 64) × IsEnding t.1) (λ t. in_8_bytes t.0 ++ ending t.1) done_at
unfolding done_at
coded_done = both coded_in_8_bytes coded_ending

coded_sent : IsCoded (λ (t : ℕ × ℕ). (t.0 < 2 ^ 64) × (t.1 < 2 ^ 32)) (λ t. in_8_bytes t.0 ++ in_4_bytes t.1) sent_at
unfolding sent_at
coded_sent = both coded_in_8_bytes coded_in_4_bytes

-- ---- entries

behind_found : (kind : ℕ) (bytes : List ℕ) (x : Entry) (rest : List ℕ) → AreBytes (kind ∷ bytes) → fields_at kind bytes ≡ Some (x, rest) → (kind ∷ bytes ≡ coding_of x ++ rest) × HasCoding x
unfolding fields_at coding_of
behind_found zero bytes x rest are e = absurd cc
behind_found (suc zero) bytes x rest are e = found_behind Enters.Owner HasCoding coding_of 1 coded_owner (λ t. refl) (λ t h. h) bytes x rest are e
behind_found (suc (suc zero)) bytes x rest are e = found_behind (λ t. Opened (record { job = t.0; moment = t.1.0; ask = t.1.1 })) HasCoding coding_of 2 coded_opened (λ t. refl) (λ t h. (h.0, h.1.0, h.1.1)) bytes x rest are e
behind_found (suc (suc (suc zero))) bytes x rest are e = found_behind TicketOpen HasCoding coding_of 3 coded_in_8_bytes (λ t. refl) (λ t h. h) bytes x rest are e
behind_found (suc (suc (suc (suc zero)))) bytes x rest are e =
    found_behind (λ t. Pending (record { job = t.0; tag = t.1.0; alternative = t.1.1.0; previous = t.1.1.1.0; key = t.1.1.1.1 })) HasCoding coding_of 4 coded_pending (λ t. refl)
    (λ t h. record { job_fits = h.0; tag_fits = h.1.0; alternative_fits = h.1.1.0; valid_previous = h.1.1.1.0; few = h.1.1.1.1.0; valid_key = h.1.1.1.1.1 }) bytes x rest are e
behind_found (suc (suc (suc (suc (suc zero))))) bytes x rest are e =
    found_behind (λ t. Held (record { job = t.0; tag = t.1.0; ovn = t.1.1.0; version = t.1.1.1.0; owed = t.1.1.1.1 })) HasCoding coding_of 5 coded_held (λ t. refl)
    (λ t h. record { job_fits = h.0; tag_fits = h.1.0; valid_ovn = h.1.1.0; version_fits = h.1.1.1.0; valid_owed = h.1.1.1.1 }) bytes x rest are e
behind_found (suc (suc (suc (suc (suc (suc zero)))))) bytes x rest are e = found_behind (λ t. Deciding (record { job = t.0; end = t.1 })) HasCoding coding_of 6 coded_deciding (λ t. refl) (λ t h. (h.0, h.1)) bytes x rest are e
behind_found (suc (suc (suc (suc (suc (suc (suc zero))))))) bytes x rest are e = found_behind (λ t. Done (record { job = t.0; end = t.1 })) HasCoding coding_of 7 coded_done (λ t. refl) (λ t h. (h.0, h.1)) bytes x rest are e
behind_found (suc (suc (suc (suc (suc (suc (suc (suc zero)))))))) bytes x rest are e = found_behind TicketGone HasCoding coding_of 8 coded_in_8_bytes (λ t. refl) (λ t h. h) bytes x rest are e
behind_found (suc (suc (suc (suc (suc (suc (suc (suc (suc zero))))))))) bytes x rest are e = found_behind (λ t. Sent (record { job = t.0; index = t.1 })) HasCoding coding_of 9 coded_sent (λ t. refl) (λ t h. (h.0, h.1)) bytes x rest are e
behind_found (suc (suc (suc (suc (suc (suc (suc (suc (suc (suc kind)))))))))) bytes x rest are e = absurd cc

entry_found : (bytes : List ℕ) (x : Entry) (rest : List ℕ) → AreBytes bytes → entry_at bytes ≡ Some (x, rest) → (bytes ≡ coding_of x ++ rest) × HasCoding x
unfolding entry_at
entry_found bytes x rest are e =
    let a = step_some (in_1_byte_at bytes) (λ (k : ℕ × List ℕ). fields_at k.0 k.1) (x, rest) e in
    let f = coded_in_1_byte.found bytes a.0.0 a.0.1 are a.1 in
    let g = behind_found a.0.0 a.0.1 x rest (subst AreBytes f.0 are) a.2 in
    (f.0 ∙ g.0, g.1)

entry_again : (x : Entry) (rest : List ℕ) → HasCoding x → entry_at (coding_of x ++ rest) ≡ Some (x, rest)
unfolding entry_at fields_at coding_of in_1_byte_at
entry_again (Enters.Owner o) rest h = made_again Enters.Owner coded_owner o rest h
entry_again (Opened o) rest h = made_again (λ t. Opened (record { job = t.0; moment = t.1.0; ask = t.1.1 })) coded_opened (o.job, (o.moment, o.ask)) rest (h.0, (h.1, h.2))
entry_again (TicketOpen job) rest h = made_again TicketOpen coded_in_8_bytes job rest h
entry_again (Pending trial) rest h =
    made_again (λ t. Pending (record { job = t.0; tag = t.1.0; alternative = t.1.1.0; previous = t.1.1.1.0; key = t.1.1.1.1 })) coded_pending (trial.job, (trial.tag, (trial.alternative, (trial.previous, trial.key)))) rest
    (h.job_fits, (h.tag_fits, (h.alternative_fits, (h.valid_previous, (h.few, h.valid_key)))))
entry_again (Held holding) rest h =
    made_again (λ t. Held (record { job = t.0; tag = t.1.0; ovn = t.1.1.0; version = t.1.1.1.0; owed = t.1.1.1.1 })) coded_held (holding.job, (holding.tag, (holding.ovn, (holding.version, holding.owed)))) rest (h.job_fits, (h.tag_fits, (h.valid_ovn, (h.version_fits, h.valid_owed))))
entry_again (Deciding d) rest h = made_again (λ t. Deciding (record { job = t.0; end = t.1 })) coded_deciding (d.job, d.end) rest (h.0, h.1)
entry_again (Done d) rest h = made_again (λ t. Done (record { job = t.0; end = t.1 })) coded_done (d.job, d.end) rest (h.0, h.1)
entry_again (TicketGone job) rest h = made_again TicketGone coded_in_8_bytes job rest h
entry_again (Sent n) rest h = made_again (λ t. Sent (record { job = t.0; index = t.1 })) coded_sent (n.job, n.index) rest (h.0, h.1)

pub coded_entry : IsCoded HasCoding coding_of entry_at
coded_entry = record { found = entry_found; again = entry_again }

-- ---- all of the bytes

pub all_found : (bytes : List ℕ) (x : Entry) → AreBytes bytes → all_of bytes ≡ Some x → HasCoding x × (bytes ≡ coding_of x)
unfolding all_of
all_found bytes x are e =
    let a = step_some (entry_at bytes) (λ (y : Entry × List ℕ). cond (eqb (length y.1) 0) (Some y.0) None) x e in
    let t = test_some (eqb (length a.0.1) 0) a.0.0 x a.2 in
    let f = entry_found bytes a.0.0 a.0.1 are a.1 in
    let none : a.0.1 ≡ [] = nil_from_length a.0.1 (eqb-true _ _ t.0) in
    let whole : bytes ≡ coding_of a.0.0 = f.0 ∙ ap (λ (r : List ℕ). coding_of a.0.0 ++ r) none ∙ append-nil (coding_of a.0.0) in
    subst (λ (y : Entry). HasCoding y × (bytes ≡ coding_of y)) t.1 (f.1, whole)

pub all_again : (x : Entry) → HasCoding x → all_of (coding_of x) ≡ Some x
unfolding all_of
all_again x h =
    let r : entry_at (coding_of x) ≡ Some (x, []) = ap entry_at (sym (append-nil (coding_of x))) ∙ entry_again x [] h in
    rw r refl

pub one_coding : (x y : Entry) → HasCoding x → HasCoding y → coding_of x ≡ coding_of y → x ≡ y
one_coding x y h k e = same_value x y (sym (all_again x h) ∙ ap all_of e ∙ all_again y k)
