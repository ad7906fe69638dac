-- The reference of an intent shows its OVN.
use Rattle.std.proofs.Common.{◌≡◌, ℕ, Bool, true, List, Some, Ok, Err, Result, refl}
use Rattle.std.specs.Prelude.{Option, is_some, IfOk, IsTrue}
use Rattle.serde_json.specs.Data.{Data}
use Rattle.uss_intent.specs.declared.records.Reference.{Reference}
use Rattle.uss_wire_base.specs.declared.refusal.Member.{Member}
use Rattle.uss_wire_base.specs.declared.refusal.Member.TheVariants.{Ovn}
use Rattle.uss_wire_base.specs.declared.refusal.WireRefusal.{WireRefusal}
use Rattle.uss_wire_base.specs.Reading.{◌>>=◌, Gives, field}
use Rattle.uss_wire_words.specs.Texts.{ovn_at}
use Rattle.uss_wire_words.specs.References.{front_at, back_at, joined, intent_reference_at}

abbrev shows : Result Reference WireRefusal → Bool
shows (Ok r) = is_some r.ovn
shows (Err e) = true

shown_when : {F B : Type 0} (join : F → Option (List ℕ) → B → Reference) → ((f : F) (o : Option (List ℕ)) (b : B) → (join f o b).ovn ≡ o) → (front : Result F WireRefusal) (ovn : Result (List ℕ) WireRefusal) (back : Result B WireRefusal) → shows (front >>= λ f. ovn >>= λ o. back >>= λ b. Ok (join f (Some o) b)) ≡ true
shown_when join keeps (Err e) ovn back = refl
shown_when join keeps (Ok f) (Err e) back = refl
shown_when join keeps (Ok f) (Ok o) (Err e) = refl
shown_when join keeps (Ok f) (Ok o) (Ok b) = rw (keeps f (Some o) b) refl

shows_ovn : (place : Member) (d : Data) → shows (intent_reference_at place d) ≡ true
unfolding intent_reference_at
shows_ovn place d = shown_when joined (λ f o b. refl) (front_at place d) (field Ovn ovn_at d) (back_at d)

pub shown_if_given : (answer : Result Reference WireRefusal) (place : Member) (d : Data) → Gives answer (intent_reference_at place d) → IfOk answer (λ r. IsTrue (is_some r.ovn))
shown_if_given (Ok r) place d given = rw given at (shows_ovn place d)
shown_if_given (Err e) place d given = tt
