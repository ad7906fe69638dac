-- What a reader gives of calls and answers of the discovery service is readable, in the words of the laws of reading again.
use Rattle.std.proofs.Common.{◌≡◌, ◌^◌, ℕ, ◌<◌, ◌≤◌, Bool, true, false, List, [], ◌∷◌, ◌++◌, length, Some, None, Ok, ℤ, refl, arith}
use Rattle.std.specs.Prelude.{Option, nat_le, map, bytes_eq, if◌then◌else◌}
use Rattle.std.proofs.lemmas.Bool.Decides.{nat_tests}
use Rattle.uss_intent.specs.Limits.{most_references, most_tickets}
use Rattle.serde_json.specs.Data.{Data}
use Rattle.uss_intent.specs.Texts.{is_name, is_base, is_ovn, IsName, IsBase, IsOvn}
use Rattle.uss_intent.specs.Identifiers.{identifier_of}
use Rattle.uss_intent.specs.declared.records.Reference.{Reference}
use Rattle.uss_intent.specs.declared.records.Subscriber.{Subscriber}
use Rattle.uss_wire_base.specs.declared.refusal.Member.{Member}
use Rattle.uss_wire_base.specs.declared.refusal.WireRefusal.TheVariants.{BadName, BadBase, BadOvn, WrongKind, TooMany}
use Rattle.uss_vol4.specs.Ranges.{is_instant}
use Rattle.uss_wire_base.specs.Reading.{some_or, object_at, field, optional, natural_at, natural_below, text_at, list_at, few_at}
use Rattle.uss_wire_base.specs.Writing.{AllOf}
use Rattle.uss_wire_words.specs.Volumes.{time_at}
use Rattle.uss_wire_words.specs.Texts.{name_of, base_of, ovn_of, name_at, base_at, ovn_at, state_at, identifier_at}
use Rattle.uss_wire_words.specs.References.{no_ovn, dropped_ovn, ovn_for, front_at, back_at, joined, answered_reference_at, references_at}
use Rattle.uss_wire_dss.specs.ChangesAndErrors.{flatten, notified_at, notified_by, subscriber_at, at_most_tickets, subscribers_at}
use Rattle.uss_wire_dss.specs.ReplyWriting.{ShowsOvn, IsReadable, IsReadableSubscriber}
use Rattle.uss_law_wire.proofs.Identifiers.{identifier_small}
use Rattle.uss_law_wire.proofs.Yields.{Yields, weaken, after, behind, tested, found, in_field, IfAny, in_optional, IsBelow, natural_small, in_list, FewOf, in_few}
use Rattle.uss_law_wire.proofs.Volumes.{IsInstant, time_given}

-- ---- texts
name_taken : (text : List ℕ) → Yields IsName (name_of text)
unfolding name_of
name_taken text = tested IsName (is_name text) text BadName (λ is. is)

pub name_given : (m : Member) (d : Data) → Yields IsName (name_at m d)
name_given m d = behind IsName (text_at m d) name_of name_taken

base_taken : (text : List ℕ) → Yields IsBase (base_of text)
unfolding base_of
base_taken text = tested IsBase (is_base text) text BadBase (λ is. is)

pub base_given : (m : Member) (d : Data) → Yields IsBase (base_at m d)
base_given m d = behind IsBase (text_at m d) base_of base_taken

ovn_taken : (text : List ℕ) → Yields IsOvn (ovn_of text)
unfolding ovn_of
ovn_taken text = tested IsOvn (is_ovn text) text BadOvn (λ is. is)

pub ovn_given : (m : Member) (d : Data) → Yields IsOvn (ovn_at m d)
ovn_given m d = behind IsOvn (text_at m d) ovn_of ovn_taken

abbrev pub IsIdentifier : ℕ → Type 0
IsIdentifier id = id < 2 ^ 128

pub identifier_given : (m : Member) (d : Data) → Yields IsIdentifier (identifier_at m d)
identifier_given m d =
    behind IsIdentifier (text_at m d) (λ text. some_or (WrongKind m) (identifier_of text)) (λ text. found IsIdentifier (WrongKind m) (identifier_of text) (identifier_small text))

-- ---- references

-- what the members before the OVN say of a reference, and those after it
pub record HasFront (r : Reference) : Type 0 where
  pub flight : r.flight < 2 ^ 128
  pub manager : IsName r.manager
  pub version : r.version < 2 ^ 32

pub record HasBack (r : Reference) : Type 0 where
  pub start : is_instant r.start ≡ true
  pub end : is_instant r.end ≡ true
  pub base : IsBase r.base
  pub ticket : r.ticket < 2 ^ 128

-- whatever stands after the prefix, and before the back
abbrev pub KeepsFront : {F B : Type 0} → (F → Option (List ℕ) → B → Reference) → F → Type 0
KeepsFront {F} {B} join f = (o : Option (List ℕ)) (b : B) → HasFront (join f o b)

abbrev pub KeepsBack : {F B : Type 0} → (F → Option (List ℕ) → B → Reference) → B → Type 0
KeepsBack {F} {B} join b = (f : F) (o : Option (List ℕ)) → HasBack (join f o b)

pub front_given : (place : Member) (d : Data) → Yields (KeepsFront joined) (front_at place d)
unfolding front_at
front_given place d =
    behind (KeepsFront joined) (object_at place d) _ (λ u. after IsIdentifier (KeepsFront joined) (field Member.Id identifier_at d) _ (in_field IsIdentifier Member.Id identifier_at (identifier_given Member.Id) d)
    (λ (flight : ℕ) id. after IsName (KeepsFront joined) (field Member.Manager name_at d) _ (in_field IsName Member.Manager name_at (name_given Member.Manager) d)
    (λ (manager : List ℕ) name. after (IsBelow (2 ^ 32)) (KeepsFront joined) (field Member.Version (natural_below (2 ^ 32)) d) _ (in_field (IsBelow (2 ^ 32)) Member.Version (natural_below (2 ^ 32)) (natural_small (2 ^ 32) Member.Version) d)
    (λ (version : ℕ) small. behind (KeepsFront joined) (field Member.State state_at d) _ (λ state. λ o b. record { flight = id; manager = name; version = small })))))

pub back_given : (d : Data) → Yields (KeepsBack joined) (back_at d)
unfolding back_at
back_given d =
    after IsInstant (KeepsBack joined) (field Member.TimeStart time_at d) _ (in_field IsInstant Member.TimeStart time_at (time_given Member.TimeStart) d)
    (λ (first : ℤ) start. after IsInstant (KeepsBack joined) (field Member.TimeEnd time_at d) _ (in_field IsInstant Member.TimeEnd time_at (time_given Member.TimeEnd) d)
    (λ (last : ℤ) end. after IsBase (KeepsBack joined) (field Member.UssBaseUrl base_at d) _ (in_field IsBase Member.UssBaseUrl base_at (base_given Member.UssBaseUrl) d)
    (λ (url : List ℕ) base. after IsIdentifier (KeepsBack joined) (field Member.SubscriptionId identifier_at d) _ (in_field IsIdentifier Member.SubscriptionId identifier_at (identifier_given Member.SubscriptionId) d)
    (λ (id : ℕ) ticket. λ f o. record { start = start; end = end; base = base; ticket = ticket }))))

shown : (client manager : List ℕ) → bytes_eq manager client ≡ true → (o : Option (List ℕ)) → IfAny IsOvn o → ShowsOvn client manager o
shown client manager own None h = tt
shown client manager own (Some ovn) h = (own, h)

ovn_with : (client manager : List ℕ) (d : Data) (b : Bool) → bytes_eq manager client ≡ b → Yields (ShowsOvn client manager) (if b then optional Member.Ovn ovn_at d else dropped_ovn d)
ovn_with client manager d true own =
    weaken (IfAny IsOvn) (ShowsOvn client manager) (optional Member.Ovn ovn_at d) (in_optional IsOvn Member.Ovn ovn_at (ovn_given Member.Ovn) d) (shown client manager own)
ovn_with client manager d false other = behind (ShowsOvn client manager) (optional Member.Ovn text_at d) (λ text. Ok (no_ovn text)) (λ text. tt)

ovn_for_given : (client manager : List ℕ) (d : Data) → Yields (ShowsOvn client manager) (ovn_for client manager d)
ovn_for_given client manager d = ovn_with client manager d (bytes_eq manager client) refl

-- the OVN is one that this client is shown, whatever stands after it
abbrev ShownBy : {F B : Type 0} → (F → Option (List ℕ) → B → Reference) → List ℕ → F → Option (List ℕ) → Type 0
ShownBy {F} {B} join client f o = (b : B) → ShowsOvn client (join f o b).manager o

pub reference_given : (client : List ℕ) (place : Member) (d : Data) → Yields (IsReadable client) (answered_reference_at client place d)
unfolding answered_reference_at
reference_given client place d =
    after (KeepsFront joined) (IsReadable client) (front_at place d) _ (front_given place d)
    (λ f keeps. after (ShownBy joined client f) (IsReadable client) (ovn_for client f.manager d) _ (weaken (ShowsOvn client f.manager) (ShownBy joined client f) (ovn_for client f.manager d) (ovn_for_given client f.manager d) (λ o h b. h))
    (λ (o : Option (List ℕ)) ovn. after (KeepsBack joined) (IsReadable client) (back_at d) _ (back_given d)
    (λ b back. record { flight = (keeps o b).flight; manager = (keeps o b).manager; version = (keeps o b).version; ovn = ovn b; start = (back f o).start; end = (back f o).end; base = (back f o).base; ticket = (back f o).ticket })))

pub references_given : (client : List ℕ) (m : Member) (d : Data) → Yields (FewOf (IsReadable client) most_references) (references_at client m d)
unfolding references_at
references_given client m d = in_few (IsReadable client) most_references m (answered_reference_at client) (reference_given client m) d

-- ---- those that are to be notified
abbrev Tells : {T : Type 0} → (List ℕ → T → Subscriber) → T → Type 0
Tells by t = (base : List ℕ) → IsBase base → IsReadableSubscriber (by base t)

notified_given : (place : Member) (d : Data) → Yields (Tells notified_by) (notified_at place d)
unfolding notified_at
notified_given place d =
    behind (Tells notified_by) (object_at place d) _ (λ u. after IsIdentifier (Tells notified_by) (field Member.SubscriptionId identifier_at d) _ (in_field IsIdentifier Member.SubscriptionId identifier_at (identifier_given Member.SubscriptionId) d)
    (λ (id : ℕ) ticket. behind (Tells notified_by) (field Member.NotificationIndex natural_at d) _ (λ index. λ base url. record { base = url; ticket = ticket })))

all_notified : {T : Type 0} (by : List ℕ → T → Subscriber) (base : List ℕ) → IsBase base → (ts : List T) → AllOf (Tells by) ts → AllOf IsReadableSubscriber (map (by base) ts)
all_notified by base url [] all = tt
all_notified by base url (t ∷ ts) all = (all.0 base url, all_notified by base url ts all.1)

subscriber_given : (place : Member) (d : Data) → Yields (AllOf IsReadableSubscriber) (subscriber_at place d)
unfolding subscriber_at
subscriber_given place d =
    behind (AllOf IsReadableSubscriber) (object_at place d) _ (λ u. after (AllOf (Tells notified_by)) (AllOf IsReadableSubscriber) (field Member.Subscriptions (list_at notified_at) d) _ (in_field (AllOf (Tells notified_by)) Member.Subscriptions (list_at notified_at) (in_list (Tells notified_by) Member.Subscriptions notified_at (notified_given Member.Subscriptions)) d)
    (λ ts all. after IsBase (AllOf IsReadableSubscriber) (field Member.UssBaseUrl base_at d) _ (in_field IsBase Member.UssBaseUrl base_at (base_given Member.UssBaseUrl) d)
    (λ (base : List ℕ) url. all_notified notified_by base url ts all)))

both_lists : (P : Subscriber → Type 0) (xs ys : List Subscriber) → AllOf P xs → AllOf P ys → AllOf P (xs ++ ys)
both_lists P [] ys h k = k
both_lists P (x ∷ xs) ys h k = (h.0, both_lists P xs ys h.1 k)

all_lists : (P : Subscriber → Type 0) (lists : List (List Subscriber)) → AllOf (AllOf P) lists → AllOf P (flatten lists)
all_lists P [] h = tt
all_lists P (xs ∷ lists) h = both_lists P xs (flatten lists) h.0 (all_lists P lists h.1)

at_most : (m n : ℕ) → nat_le m n ≡ true → m ≤ n
at_most m n h = grind (arith, nat_tests)

pub subscribers_given : (m : Member) (d : Data) → Yields (FewOf IsReadableSubscriber most_tickets) (subscribers_at m d)
unfolding subscribers_at
subscribers_given m d =
    after (FewOf (AllOf IsReadableSubscriber) most_tickets) (FewOf IsReadableSubscriber most_tickets) (few_at most_tickets subscriber_at m d) (λ lists. at_most_tickets m (flatten lists)) (in_few (AllOf IsReadableSubscriber) most_tickets m subscriber_at (subscriber_given m) d)
    (λ (lists : List (List Subscriber)) all. tested (FewOf IsReadableSubscriber most_tickets) (nat_le (length (flatten lists)) most_tickets) (flatten lists) (TooMany m) (λ is. (all_lists IsReadableSubscriber lists all.0, at_most (length (flatten lists)) most_tickets is)))
