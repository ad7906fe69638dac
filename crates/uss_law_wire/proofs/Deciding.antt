-- What decides before what: a member that the profile refuses, a list that is too long; and members that no reader looks at.
use Rattle.std.proofs.Common.{◌≡◌, ◌<◌, ◌^◌, ℕ, true, false, List, [], ◌∷◌, Some, None, Ok, Err, refl, ap, arith}
use Rattle.std.specs.Prelude.{Option, codes, nat_le}
use Rattle.std.proofs.lemmas.Bool.Decides.{nat_tests}
use Rattle.uss_intent.specs.Limits.{most_ovns, most_references, most_tickets}
use Rattle.serde_json.specs.Data.{Data, null, boolean, number, string, array, object, Items, item, Members}
use Rattle.serde_json.specs.Find.{get}
use Rattle.uss_vol4.specs.Volume.{Volume4D}
use Rattle.uss_event.specs.Pairs.{OperationalIntent}
use Rattle.uss_wire_base.specs.Names.{name}
use Rattle.uss_wire_base.specs.declared.refusal.Member.{Member}
use Rattle.uss_wire_base.specs.declared.refusal.WireRefusal.TheVariants.{NotThisProfile, TooMany}
use Rattle.uss_wire_base.specs.Reading.{Reader, data_of, whole_of, message_of, field, optional, list_at, natural_below, text_at, items_length}
use Rattle.uss_wire_base.specs.Writing.{AllOf}
use Rattle.uss_wire_words.specs.Volumes.{vertex_at, altitude_at, space_at, volume_at}
use Rattle.uss_wire_words.specs.Texts.{identifier_at}
use Rattle.uss_wire_words.specs.References.{references_at}
use Rattle.uss_wire_dss.specs.ChangesAndErrors.{subscribers_at, change_answer_at, error_at}
use Rattle.uss_wire_dss.specs.Calls.{query_at, put_reference_at, put_subscription_at}
use Rattle.uss_wire_dss.specs.Replies.{query_answer_at}
use Rattle.uss_wire_uss.specs.Intents.{intent_at, notification_at}
use Rattle.uss_wire_uss.specs.Asks.{positions_at}

-- a message is read as its value
pub of_data : {A : Type 0} (read : Reader A) (b : List ℕ) (d : Data) → data_of b ≡ Some d → message_of read b ≡ read Member.Whole d
of_data read b d is = ap (whole_of read) is

-- only an object has members
pub held_by : (P : Data → Type 0) (k : List ℕ) (d x : Data) → get k d ≡ Some x → ((ms : Members) → get k (object ms) ≡ Some x → P (object ms)) → P d
held_by P k null x has f = absurd (cc)
held_by P k (boolean b) x has f = absurd (cc)
held_by P k (number n) x has f = absurd (cc)
held_by P k (string s) x has f = absurd (cc)
held_by P k (array ds) x has f = absurd (cc)
held_by P k (object ms) x has f = f ms has

-- ---- what the profile refuses
pub new_subscription_first : (f : ℕ) (o : Option (List ℕ)) (d x : Data) → get (codes "new_subscription") d ≡ Some x → put_reference_at f o Member.Whole d ≡ Err (NotThisProfile Member.NewSubscription)
unfolding put_reference_at name
new_subscription_first f o d x has =
    held_by (λ d. put_reference_at f o Member.Whole d ≡ Err (NotThisProfile Member.NewSubscription)) (codes "new_subscription") d x has (λ ms h. rw h refl)

pub constraints_first : (t : ℕ) (d : Data) → get (codes "notify_for_constraints") d ≡ Some (boolean true) → put_subscription_at t Member.Whole d ≡ Err (NotThisProfile Member.NotifyForConstraints)
unfolding put_subscription_at name
constraints_first t d has =
    held_by (λ d. put_subscription_at t Member.Whole d ≡ Err (NotThisProfile Member.NotifyForConstraints)) (codes "notify_for_constraints") d (boolean true) has (λ ms h. rw h refl)

pub circle_in_space : (m : Member) (d x : Data) → get (codes "outline_circle") d ≡ Some x → space_at m d ≡ Err (NotThisProfile Member.OutlineCircle)
unfolding space_at name
circle_in_space m d x has = held_by (λ d. space_at m d ≡ Err (NotThisProfile Member.OutlineCircle)) (codes "outline_circle") d x has (λ ms h. rw h refl)

circle_in_volume : (m : Member) (d space x : Data) → get (codes "volume") d ≡ Some space → get (codes "outline_circle") space ≡ Some x → volume_at m d ≡ Err (NotThisProfile Member.OutlineCircle)
unfolding volume_at name
circle_in_volume m d space x has circle =
    held_by (λ d. volume_at m d ≡ Err (NotThisProfile Member.OutlineCircle)) (codes "volume") d space has (λ ms h. rw (h, circle_in_space Member.Volume space x circle) refl)

pub circle_first : (d area space x : Data) → get (codes "area_of_interest") d ≡ Some area → get (codes "volume") area ≡ Some space → get (codes "outline_circle") space ≡ Some x → query_at Member.Whole d ≡ Err (NotThisProfile Member.OutlineCircle)
unfolding query_at name
circle_first d area space x has volume circle =
    held_by (λ d. query_at Member.Whole d ≡ Err (NotThisProfile Member.OutlineCircle)) (codes "area_of_interest") d area has (λ ms h. rw (h, circle_in_volume Member.AreaOfInterest area space x volume circle) refl)

pub latitude_first : (m : Member) (d x : Data) → get (codes "lat") d ≡ Some x → vertex_at m d ≡ Err (NotThisProfile Member.Lat)
unfolding vertex_at name
latitude_first m d x has = held_by (λ d. vertex_at m d ≡ Err (NotThisProfile Member.Lat)) (codes "lat") d x has (λ ms h. rw h refl)

pub longitude_first : (m : Member) (d x : Data) → get (codes "lat") d ≡ None → get (codes "lng") d ≡ Some x → vertex_at m d ≡ Err (NotThisProfile Member.Lng)
unfolding vertex_at name
longitude_first m d x none has =
    held_by (λ d. get (codes "lat") d ≡ None → vertex_at m d ≡ Err (NotThisProfile Member.Lng)) (codes "lng") d x has (λ ms h absent. rw (absent, h) refl) none

pub altitude_first : (m : Member) (d x : Data) → get (codes "value") d ≡ Some x → altitude_at m d ≡ Err (NotThisProfile Member.Value)
unfolding altitude_at name
altitude_first m d x has = held_by (λ d. altitude_at m d ≡ Err (NotThisProfile Member.Value)) (codes "value") d x has (λ ms h. rw h refl)

-- ---- lists that are too long
is_more : (n limit : ℕ) → limit < n → nat_le n limit ≡ false
is_more n limit h = grind (arith, nat_tests)

pub key_long : (f : ℕ) (o : Option (List ℕ)) (d : Data) (extents : List Volume4D) (items : Items) → get (codes "new_subscription") d ≡ None → field Member.Extents (list_at volume_at) d ≡ Ok extents → get (codes "key") d ≡ Some (array items) → most_ovns < items_length items → put_reference_at f o Member.Whole d ≡ Err (TooMany Member.Key)
unfolding put_reference_at name
key_long f o d extents items none front has more =
    held_by (λ d. get (codes "new_subscription") d ≡ None → field Member.Extents (list_at volume_at) d ≡ Ok extents → put_reference_at f o Member.Whole d ≡ Err (TooMany Member.Key)) (codes "key") d (array items) has
    (λ ms h absent read. rw (absent, read, h, is_more (items_length items) most_ovns more) refl) none front

pub references_long : (client : List ℕ) (d : Data) (items : Items) → get (codes "operational_intent_references") d ≡ Some (array items) → most_references < items_length items → query_answer_at client Member.Whole d ≡ Err (TooMany Member.OperationalIntentReferences)
unfolding query_answer_at references_at name
references_long client d items has more =
    held_by (λ d. query_answer_at client Member.Whole d ≡ Err (TooMany Member.OperationalIntentReferences)) (codes "operational_intent_references") d (array items) has
    (λ ms h. rw (h, is_more (items_length items) most_references more) refl)

pub subscribers_long : (client : List ℕ) (d : Data) (items : Items) → get (codes "subscribers") d ≡ Some (array items) → most_tickets < items_length items → change_answer_at client Member.Whole d ≡ Err (TooMany Member.Subscribers)
unfolding change_answer_at subscribers_at name
subscribers_long client d items has more =
    held_by (λ d. change_answer_at client Member.Whole d ≡ Err (TooMany Member.Subscribers)) (codes "subscribers") d (array items) has
    (λ ms h. rw (h, is_more (items_length items) most_tickets more) refl)

pub missing_long : (client text : List ℕ) (d : Data) (items : Items) → field Member.Message text_at d ≡ Ok text → field Member.Refusal (natural_below (2 ^ 16)) d ≡ Ok 209 → get (codes "missing_operational_intents") d ≡ Some (array items) → most_references < items_length items → error_at client Member.Whole d ≡ Err (TooMany Member.MissingOperationalIntents)
unfolding error_at references_at name
missing_long client text d items front middle has more =
    held_by (λ d. field Member.Message text_at d ≡ Ok text → field Member.Refusal (natural_below (2 ^ 16)) d ≡ Ok 209 → error_at client Member.Whole d ≡ Err (TooMany Member.MissingOperationalIntents)) (codes "missing_operational_intents") d (array items) has
    (λ ms h first second. rw (first, second, h, is_more (items_length items) most_references more) refl) front middle

pub subscriptions_long : (d x y : Data) (flight : ℕ) (intent : Option OperationalIntent) (items : Items) → field Member.OperationalIntentId identifier_at d ≡ Ok flight → optional Member.OperationalIntent intent_at d ≡ Ok intent → get (codes "subscriptions") d ≡ Some (array (item x (item y items))) → notification_at Member.Whole d ≡ Err (TooMany Member.Subscriptions)
unfolding notification_at name
subscriptions_long d x y flight intent items front middle has =
    held_by (λ d. field Member.OperationalIntentId identifier_at d ≡ Ok flight → optional Member.OperationalIntent intent_at d ≡ Ok intent → notification_at Member.Whole d ≡ Err (TooMany Member.Subscriptions)) (codes "subscriptions") d (array (item x (item y items))) has
    (λ ms h first second. rw (first, second, h) refl) front middle

-- ---- members that no reader looks at
abbrev pub SameAt : Members → Members → List (List ℕ) → Type 0
SameAt ms ns names = AllOf (λ k. get k (object ms) ≡ get k (object ns)) names

pub put_reference_same : (f : ℕ) (o : Option (List ℕ)) (ms ns : Members) → SameAt ms ns (codes "new_subscription" ∷ codes "extents" ∷ codes "key" ∷ codes "state" ∷ codes "uss_base_url" ∷ codes "subscription_id" ∷ []) → put_reference_at f o Member.Whole (object ms) ≡ put_reference_at f o Member.Whole (object ns)
unfolding put_reference_at name
put_reference_same f o ms ns h = rw (h.0, h.1.0, h.1.1.0, h.1.1.1.0, h.1.1.1.1.0, h.1.1.1.1.1.0) refl

pub notification_same : (ms ns : Members) → SameAt ms ns (codes "operational_intent_id" ∷ codes "operational_intent" ∷ codes "subscriptions" ∷ []) → notification_at Member.Whole (object ms) ≡ notification_at Member.Whole (object ns)
unfolding notification_at name
notification_same ms ns h = rw (h.0, h.1.0, h.1.1.0) refl

pub positions_same : (ms ns : Members) → SameAt ms ns (codes "flight" ∷ codes "number" ∷ codes "lat_e7" ∷ codes "lng_e7" ∷ codes "altitude_mm" ∷ codes "off_nominal_volumes" ∷ []) → positions_at Member.Whole (object ms) ≡ positions_at Member.Whole (object ns)
unfolding positions_at name
positions_same ms ns h = rw (h.0, h.1.0, h.1.1.0, h.1.1.1.0, h.1.1.1.1.0, h.1.1.1.1.1.0) refl
