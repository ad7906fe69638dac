-- What is written of an intent is read again.
use Rattle.std.proofs.Common.{◌≡◌, ◌^◌, ℕ, ◌<◌, ◌≤◌, true, false, List, Some, None, Ok, refl, ap, arith}
use Rattle.std.specs.Prelude.{Option}
use Rattle.std.proofs.lemmas.Bool.{cond-true}
use Rattle.serde_json.specs.Data.{string, depth, Members, members_depth}
use Rattle.serde_json.specs.Written.{has_float, members_have_float}
use Rattle.uss_intent.specs.declared.records.State.{State}
use Rattle.uss_intent.specs.declared.records.State.TheVariants.{Accepted, Activated, Nonconforming, Contingent}
use Rattle.uss_intent.specs.declared.records.Reference.{Reference}
use Rattle.uss_intent.specs.declared.records.Ticket.{Ticket}
use Rattle.uss_intent.specs.States.{state_text}
use Rattle.uss_intent.specs.Texts.{is_name, is_base, is_ovn}
use Rattle.uss_intent.proofs.IdentifierLemmas.{identifier_is_read}
use Rattle.uss_wire_base.specs.declared.refusal.Member.{Member}
use Rattle.uss_wire_base.specs.declared.refusal.WireRefusal.TheVariants.{WrongKind}
use Rattle.uss_wire_base.specs.Reading.{some_or}
use Rattle.uss_wire_words.proofs.VolumesAgain.{time_whole, time_shallow}
use Rattle.uss_wire_words.specs.Texts.{name_of, base_of, ovn_of, state_of, name_at, base_at, ovn_at, state_at, identifier_at}
use Rattle.uss_wire_words.specs.ReferenceWriting.{identifier_json, with_ovn, behind_ovn, reference_json, ticket_json}

pub base_again : (m : Member) (base : List ℕ) → is_base base ≡ true → base_at m (string base) ≡ Ok base
unfolding base_of
base_again m base h = cond-true (is_base base) (Ok base) _ h

pub name_again : (m : Member) (text : List ℕ) → is_name text ≡ true → name_at m (string text) ≡ Ok text
unfolding name_of
name_again m text h = cond-true (is_name text) (Ok text) _ h

pub ovn_again : (m : Member) (ovn : List ℕ) → is_ovn ovn ≡ true → ovn_at m (string ovn) ≡ Ok ovn
unfolding ovn_of
ovn_again m ovn h = cond-true (is_ovn ovn) (Ok ovn) _ h

pub identifier_again : (m : Member) (id : ℕ) → id < 2 ^ 128 → identifier_at m (identifier_json id) ≡ Ok id
identifier_again m id h = ap (some_or (WrongKind m)) (identifier_is_read id h)

pub state_again : (m : Member) (state : State) → state_at m (string (state_text state)) ≡ Ok state
unfolding state_of
state_again m Accepted = refl
state_again m Activated = refl
state_again m Nonconforming = refl
state_again m Contingent = refl

pub ticket_whole : (t : Ticket) → has_float (ticket_json t) ≡ false
unfolding ticket_json
ticket_whole t = rw (time_whole t.area.end, time_whole t.area.start) refl

pub ticket_shallow : (t : Ticket) → depth (ticket_json t) ≤ 2
unfolding ticket_json
ticket_shallow t = let a = time_shallow t.area.end in let b = time_shallow t.area.start in omega arith

with_ovn_whole : (ovn : Option (List ℕ)) (ms : Members) → members_have_float ms ≡ false → members_have_float (with_ovn ovn ms) ≡ false
with_ovn_whole None ms h = h
with_ovn_whole (Some o) ms h = h

with_ovn_shallow : (ovn : Option (List ℕ)) (ms : Members) (n : ℕ) → members_depth ms ≤ n → members_depth (with_ovn ovn ms) ≤ n
with_ovn_shallow None ms n h = h
with_ovn_shallow (Some o) ms n h = omega arith

pub reference_whole : (r : Reference) → has_float (reference_json r) ≡ false
unfolding reference_json
reference_whole r = with_ovn_whole r.ovn (behind_ovn r) (rw (time_whole r.end, time_whole r.start) refl)

pub reference_shallow : (r : Reference) → depth (reference_json r) ≤ 2
unfolding reference_json
reference_shallow r = let a = time_shallow r.end in let b = time_shallow r.start in let c = with_ovn_shallow r.ovn (behind_ovn r) 1 (omega arith) in omega arith
