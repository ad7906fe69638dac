-- What a reader gives of calls and answers of the discovery service is readable, and is read again when it is written.
use Rattle.std.proofs.Common.{◌≡◌, ◌≢◌, ◌^◌, ℕ, Bool, true, false, List, [], Some, None, Ok, refl, ◌∙◌, arith}
use Rattle.std.specs.Prelude.{Option, ◌==◌, if◌then◌else◌}
use Rattle.std.proofs.lemmas.Bool.Decides.{nat_tests}
use Rattle.uss_intent.specs.Limits.{most_ovns, most_references, most_tickets}
use Rattle.serde_json.specs.Data.{Data}
use Rattle.uss_vol4.specs.Volume.{Volume4D, IsVolume}
use Rattle.uss_intent.specs.Texts.{IsBase, IsOvn}
use Rattle.uss_intent.specs.declared.records.Reference.{Reference}
use Rattle.uss_intent.specs.declared.records.Subscriber.{Subscriber}
use Rattle.uss_intent.specs.declared.records.Ticket.{Ticket}
use Rattle.uss_intent.specs.declared.calls.DssAsk.{DssAsk}
use Rattle.uss_intent.specs.declared.calls.DssAsk.TheVariants.{Query, Get, Put, Remove, TicketPut, TicketGet, TicketRemove}
use Rattle.uss_wire_base.specs.declared.refusal.Member.{Member}
use Rattle.uss_wire_base.specs.Reading.{Reader, object_at, without, without_true, field, field_or, natural_at, natural_below, text_at, list_at, few_at, whole_of, data_of, message_of}
use Rattle.uss_wire_base.specs.Writing.{IsTextOf, AllOf}
use Rattle.uss_wire_base.proofs.Again.{message_again}
use Rattle.uss_wire_words.specs.Volumes.{time_at, volume_at}
use Rattle.uss_wire_words.proofs.VolumesAgain.{in_time}
use Rattle.uss_wire_words.specs.Texts.{base_at, ovn_at, state_at, identifier_at}
use Rattle.uss_wire_words.specs.References.{answered_reference_at, references_at}
use Rattle.uss_wire_dss.specs.ChangesAndErrors.{subscribers_at, change_answer_at, missing_at, error_at}
use Rattle.uss_wire_dss.specs.ReplyWriting.{IsReadable, IsReadableSubscriber, IsReadableError}
use Rattle.uss_wire_dss.specs.Calls.{query_at, put_reference_at, put_subscription_at}
use Rattle.uss_wire_dss.specs.Replies.{query_answer_at, get_answer_at, any_text_at, ticket_at, subscription_answer_at}
use Rattle.uss_wire_dss.specs.ReplyWriting.{subscription_answer_json, IsReadableTicket}
use Rattle.uss_wire_dss.specs.CallWriting.{IsReadablePut}
use Rattle.uss_wire_dss.proofs.CallsAgain.{subscription_answer_again}
use Rattle.uss_law_wire.proofs.Yields.{Yields, given, weaken, after, behind, in_field, in_field_or, IsBelow, natural_small, in_list, FewOf, in_few}
use Rattle.uss_law_wire.proofs.Volumes.{volume_given}
use Rattle.uss_law_wire.proofs.References.{base_given, ovn_given, IsIdentifier, identifier_given, reference_given, references_given, subscribers_given}

-- ---- messages
whole_given : {A : Type 0} (P : A → Type 0) (read : Reader A) → ((d : Data) → Yields P (read Member.Whole d)) → (o : Option Data) → Yields P (whole_of read o)
whole_given P read h None = tt
whole_given P read h (Some d) = h d

pub message_given : {A : Type 0} (P : A → Type 0) (read : Reader A) → ((d : Data) → Yields P (read Member.Whole d)) → (bytes : List ℕ) → Yields P (message_of read bytes)
message_given P read h bytes = whole_given P read h (data_of bytes)

-- what one message gave is written, and read again
pub given_again : {A : Type 0} (P : A → Type 0) (read : Reader A) → ((d : Data) → Yields P (read Member.Whole d)) → (x : A) (json : Data) → (P x → read Member.Whole json ≡ Ok x) → (a b : List ℕ) → message_of read a ≡ Ok x → IsTextOf json b → message_of read b ≡ Ok x
given_again P read h x json again a b was is = message_again read json b is ∙ again (given P (message_of read a) x (message_given P read h a) was)

-- ---- calls
abbrev pub IsGivenCall : DssAsk → Type 0
IsGivenCall (Query area) = IsVolume area
IsGivenCall (Get flight) = ⊥
IsGivenCall (Put flight ovn extents key state base ticket) = IsReadablePut extents key base ticket
IsGivenCall (Remove flight ovn) = ⊥
IsGivenCall (TicketPut ticket area base) = IsVolume area × IsBase base
IsGivenCall (TicketGet ticket) = ⊥
IsGivenCall (TicketRemove ticket version) = ⊥

pub query_given : (d : Data) → Yields IsGivenCall (query_at Member.Whole d)
unfolding query_at
query_given d = behind IsGivenCall (object_at Member.Whole d) _ (λ u. after IsVolume IsGivenCall (field Member.AreaOfInterest volume_at d) _ (in_field IsVolume Member.AreaOfInterest volume_at (volume_given Member.AreaOfInterest) d) (λ (area : Volume4D) is. is))

pub put_given : (flight : ℕ) (ovn : Option (List ℕ)) (d : Data) → Yields IsGivenCall (put_reference_at flight ovn Member.Whole d)
unfolding put_reference_at
put_given flight ovn d =
    behind IsGivenCall (object_at Member.Whole d) _ (λ u. behind IsGivenCall (without Member.NewSubscription d) _ (λ v. after (AllOf IsVolume) IsGivenCall (field Member.Extents (list_at volume_at) d) _ (in_field (AllOf IsVolume) Member.Extents (list_at volume_at) (in_list IsVolume Member.Extents volume_at (volume_given Member.Extents)) d)
    (λ (extents : List Volume4D) all. after (FewOf IsOvn most_ovns) IsGivenCall (field_or [] Member.Key (few_at most_ovns ovn_at) d) _ (in_field_or (FewOf IsOvn most_ovns) [] Member.Key (few_at most_ovns ovn_at) (tt, omega arith) (in_few IsOvn most_ovns Member.Key ovn_at (ovn_given Member.Key)) d)
    (λ (key : List (List ℕ)) few. behind IsGivenCall (field Member.State state_at d) _ (λ state. after IsBase IsGivenCall (field Member.UssBaseUrl base_at d) _ (in_field IsBase Member.UssBaseUrl base_at (base_given Member.UssBaseUrl) d)
    (λ (base : List ℕ) url. after IsIdentifier IsGivenCall (field Member.SubscriptionId identifier_at d) _ (in_field IsIdentifier Member.SubscriptionId identifier_at (identifier_given Member.SubscriptionId) d)
    (λ (ticket : ℕ) id. record { extents = all; key = few.0; few = few.1; base = url; ticket = id })))))))

pub ticket_put_given : (ticket : ℕ) (d : Data) → Yields IsGivenCall (put_subscription_at ticket Member.Whole d)
unfolding put_subscription_at
ticket_put_given ticket d =
    behind IsGivenCall (object_at Member.Whole d) _ (λ u. behind IsGivenCall (without_true Member.NotifyForConstraints d) _ (λ v. after IsVolume IsGivenCall (field Member.Extents volume_at d) _ (in_field IsVolume Member.Extents volume_at (volume_given Member.Extents) d)
    (λ (area : Volume4D) is. after IsBase IsGivenCall (field Member.UssBaseUrl base_at d) _ (in_field IsBase Member.UssBaseUrl base_at (base_given Member.UssBaseUrl) d) (λ (base : List ℕ) url. (is, url)))))

-- ---- answers
pub found_given : (client : List ℕ) (d : Data) → Yields (FewOf (IsReadable client) most_references) (query_answer_at client Member.Whole d)
unfolding query_answer_at
found_given client d =
    behind (FewOf (IsReadable client) most_references) (object_at Member.Whole d) _ (λ u. in_field (FewOf (IsReadable client) most_references) Member.OperationalIntentReferences (references_at client) (references_given client Member.OperationalIntentReferences) d)

pub got_given : (client : List ℕ) (d : Data) → Yields (IsReadable client) (get_answer_at client Member.Whole d)
unfolding get_answer_at
got_given client d =
    behind (IsReadable client) (object_at Member.Whole d) _ (λ u. in_field (IsReadable client) Member.OperationalIntentReference (answered_reference_at client) (reference_given client Member.OperationalIntentReference) d)

-- a ticket of this client over this area, as a reader can give it
pub record IsTicketOf (client : List ℕ) (over : Volume4D) (t : Ticket) : Type 0 where
  pub readable : IsReadableTicket t
  pub manager : t.manager ≡ client
  pub area : t.area ≡ over

shown_given : (client : List ℕ) (area : Volume4D) (place : Member) (d : Data) → IsVolume area → Yields (IsTicketOf client area) (ticket_at client area place d)
unfolding ticket_at
shown_given client area place d is =
    behind (IsTicketOf client area) (object_at place d) _ (λ u. after IsIdentifier (IsTicketOf client area) (field Member.Id identifier_at d) _ (in_field IsIdentifier Member.Id identifier_at (identifier_given Member.Id) d)
    (λ (number : ℕ) id. behind (IsTicketOf client area) (any_text_at Member.Version d) _ (λ v. behind (IsTicketOf client area) (field Member.NotificationIndex natural_at d) _ (λ index. behind (IsTicketOf client area) (field Member.TimeStart time_at d) _ (λ start. behind (IsTicketOf client area) (field Member.TimeEnd time_at d) _ (λ end. after IsBase (IsTicketOf client area) (field Member.UssBaseUrl base_at d) _ (in_field IsBase Member.UssBaseUrl base_at (base_given Member.UssBaseUrl) d)
    (λ (base : List ℕ) url. record { readable = record { id = id; start = in_time area.start is.start; end = in_time area.end is.end; base = url }; manager = refl; area = refl })))))))

pub ticket_given : (client : List ℕ) (area : Volume4D) → IsVolume area → (d : Data) → Yields (IsTicketOf client area) (subscription_answer_at client area Member.Whole d)
unfolding subscription_answer_at
ticket_given client area is d =
    behind (IsTicketOf client area) (object_at Member.Whole d) _ (λ u. in_field (IsTicketOf client area) Member.Subscription (ticket_at client area) (λ e. shown_given client area Member.Subscription e is) d)

pub ticket_again : (client : List ℕ) (area : Volume4D) (t : Ticket) → IsTicketOf client area t → subscription_answer_at client area Member.Whole (subscription_answer_json t) ≡ Ok t
ticket_again client area t h = rw (← h.manager, ← h.area) (subscription_answer_again t h.readable)

abbrev pub IsGivenChange : List ℕ → Reference × List Subscriber → Type 0
IsGivenChange client answer = IsReadable client answer.0 × FewOf IsReadableSubscriber most_tickets answer.1

pub change_given : (client : List ℕ) (d : Data) → Yields (IsGivenChange client) (change_answer_at client Member.Whole d)
unfolding change_answer_at
change_given client d =
    behind (IsGivenChange client) (object_at Member.Whole d) _ (λ u. after (FewOf IsReadableSubscriber most_tickets) (IsGivenChange client) (field Member.Subscribers subscribers_at d) _ (in_field (FewOf IsReadableSubscriber most_tickets) Member.Subscribers subscribers_at (subscribers_given Member.Subscribers) d)
    (λ (ss : List Subscriber) all. after (IsReadable client) (IsGivenChange client) (field Member.OperationalIntentReference (answered_reference_at client) d) _ (in_field (IsReadable client) Member.OperationalIntentReference (answered_reference_at client) (reference_given client Member.OperationalIntentReference) d)
    (λ (r : Reference) is. (is, all))))

-- ---- errors
abbrev IsMissing : List ℕ → ℕ → List Reference → Type 0
IsMissing client refusal rs = FewOf (IsReadable client) most_references rs × (refusal ≢ 209 → rs ≡ [])

is_209 : (n : ℕ) → (n == 209) ≡ true → n ≡ 209
is_209 n h = grind (arith, nat_tests)

missing_with : (client : List ℕ) (refusal : ℕ) (d : Data) (b : Bool) → (refusal == 209) ≡ b → Yields (IsMissing client refusal) (if b then field Member.MissingOperationalIntents (references_at client) d else Ok [])
missing_with client refusal d true is =
    weaken (FewOf (IsReadable client) most_references) (IsMissing client refusal) (field Member.MissingOperationalIntents (references_at client) d) (in_field (FewOf (IsReadable client) most_references) Member.MissingOperationalIntents (references_at client) (references_given client Member.MissingOperationalIntents) d)
    (λ (rs : List Reference) all. (all, λ other. absurd (other (is_209 refusal is))))
missing_with client refusal d false is = ((tt, omega arith), λ other. refl)

pub error_given : (client : List ℕ) (d : Data) → Yields (IsReadableError client) (error_at client Member.Whole d)
unfolding error_at
error_given client d =
    behind (IsReadableError client) (object_at Member.Whole d) _ (λ u. behind (IsReadableError client) (field Member.Message text_at d) _ (λ message. after (IsBelow (2 ^ 16)) (IsReadableError client) (field Member.Refusal (natural_below (2 ^ 16)) d) _ (in_field (IsBelow (2 ^ 16)) Member.Refusal (natural_below (2 ^ 16)) (natural_small (2 ^ 16) Member.Refusal) d)
    (λ (refusal : ℕ) small. after (IsMissing client refusal) (IsReadableError client) (missing_at client refusal d) _ (missing_with client refusal d (refusal == 209) refl)
    (λ (missing : List Reference) all. record { refusal = small; each = all.0.0; few = all.0.1; only = all.1 }))))
