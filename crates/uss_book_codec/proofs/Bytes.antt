-- A coding has as many bytes as the book's reserve counts.
use Rattle.std.proofs.Common.{◌≡◌, ℕ, suc, ◌+◌, ◌*◌, ℤ, List, [], ◌∷◌, ◌++◌, length, Option, Some, None, refl, ap, ◌∙◌, length-append, arith}
use Rattle.std.specs.List.{flat_map, sum_by}
use Rattle.std.proofs.lemmas.List.Sums.{sum_by-cons}
use Rattle.std.proofs.lemmas.List.Concat.{flat_map-cons}
use Rattle.uss_shape.specs.declared.Place.{Place}
use Rattle.uss_vol4.specs.Volume.{Volume4D}
use Rattle.uss_intent.specs.declared.records.Subscriber.{Subscriber}
use Rattle.uss_event.specs.declared.details.Proposal.{Proposal}
use Rattle.uss_event.specs.declared.asks.Wish.{Wish}
use Rattle.uss_event.specs.declared.asks.Wish.TheVariants.{Put, End}
use Rattle.uss_event.specs.declared.entries.Owner.{Owner}
use Rattle.uss_event.specs.declared.entries.Ending.{Ending}
use Rattle.uss_event.specs.declared.entries.Ending.TheVariants.{Conflict, Stale, Cancelled, Ended}
use Rattle.uss_event.specs.declared.entries.Entry.{Entry}
use Rattle.uss_event.specs.declared.entries.Entry.TheVariants.{Opened, TicketOpen, Pending, Held, Deciding, Done, TicketGone, Sent}
use Rattle.uss_event.specs.declared.entries.Entry.TheVariants as Enters
use Rattle.uss_law_book.specs.Coding.{text_length, texts_length, option_length, volume_length, volumes_length, proposal_length, wish_length, subscriber_length, owed_length, ending_length, coding_length}
use Rattle.uss_codec.specs.Spelling.{number, in_2_bytes, in_4_bytes, in_8_bytes, in_16_bytes, signed_in_8_bytes, text, optional, list, short_list, place, volume}
use Rattle.uss_book_codec.specs.Coding.{owner, proposal, wish, ask, subscriber, rule, ending, fields_of, coding_of}

two : (n : ℕ) → length (in_2_bytes n) ≡ 2
unfolding number
two n = refl

four : (n : ℕ) → length (in_4_bytes n) ≡ 4
unfolding number
four n = refl

eight : (n : ℕ) → length (in_8_bytes n) ≡ 8
unfolding number
eight n = refl

sixteen : (n : ℕ) → length (in_16_bytes n) ≡ 16
unfolding number
sixteen n = refl

signed_eight : (z : ℤ) → length (signed_in_8_bytes z) ≡ 8
signed_eight z = eight _

of_text : (t : List ℕ) → length (text t) ≡ text_length t
of_text t = omega (arith, length-append (in_4_bytes (length t)) t, four (length t))

of_each : {X : Type 0} (f : X → List ℕ) (g : X → ℕ) → ((x : X) → length (f x) ≡ g x) → (xs : List X) → length (flat_map f xs) ≡ sum_by g xs
of_each f g h [] = refl
of_each f g h (x ∷ xs) = omega (arith, ap length (flat_map-cons f x xs), length-append (f x) (flat_map f xs), h x, of_each f g h xs, sum_by-cons g x xs)

of_each_2 : {X : Type 0} (f : X → List ℕ) → ((x : X) → length (f x) ≡ 2) → (xs : List X) → length (flat_map f xs) ≡ 2 * length xs
of_each_2 f h [] = refl
of_each_2 f h (x ∷ xs) = omega (arith, ap length (flat_map-cons f x xs), length-append (f x) (flat_map f xs), h x, of_each_2 f h xs)

of_each_16 : {X : Type 0} (f : X → List ℕ) → ((x : X) → length (f x) ≡ 16) → (xs : List X) → length (flat_map f xs) ≡ 16 * length xs
of_each_16 f h [] = refl
of_each_16 f h (x ∷ xs) = omega (arith, ap length (flat_map-cons f x xs), length-append (f x) (flat_map f xs), h x, of_each_16 f h xs)

of_list : {X : Type 0} (f : X → List ℕ) (xs : List X) → length (list f xs) ≡ 4 + length (flat_map f xs)
of_list f xs = omega (arith, length-append (in_4_bytes (length xs)) (flat_map f xs), four (length xs))

of_place : (p : Place) → length (place p) ≡ 16
of_place p = omega (arith, length-append (signed_in_8_bytes p.x) (signed_in_8_bytes p.y), signed_eight p.x, signed_eight p.y)

of_volume : (v : Volume4D) → length (volume v) ≡ volume_length v
of_volume v =
    let outline : length (list place v.outline) ≡ 4 + 16 * length v.outline = omega (arith, of_list place v.outline, of_each_16 place of_place v.outline) in
    omega (
      arith,
      outline,
      length-append (list place v.outline) (signed_in_8_bytes v.low ++ (signed_in_8_bytes v.high ++ (signed_in_8_bytes v.start ++ signed_in_8_bytes v.end))),
      length-append (signed_in_8_bytes v.low) (signed_in_8_bytes v.high ++ (signed_in_8_bytes v.start ++ signed_in_8_bytes v.end)),
      length-append (signed_in_8_bytes v.high) (signed_in_8_bytes v.start ++ signed_in_8_bytes v.end),
      length-append (signed_in_8_bytes v.start) (signed_in_8_bytes v.end),
      signed_eight v.low,
      signed_eight v.high,
      signed_eight v.start,
      signed_eight v.end,
    )

of_volumes : (vs : List Volume4D) → length (short_list volume vs) ≡ volumes_length vs
of_volumes vs = ap (λ (n : ℕ). suc n) (of_each volume volume_length of_volume vs) ∙ (omega arith)

of_proposal : (p : Proposal) → length (proposal p) ≡ proposal_length p
of_proposal p = omega (arith, length-append (short_list volume p.volumes) (short_list volume p.off_nominal), of_volumes p.volumes, of_volumes p.off_nominal)

of_wish : (w : Wish) → length (wish w) ≡ wish_length w
of_wish (Put to priority rounds proposals) =
    omega (arith, length-append (in_2_bytes priority) (rounds ∷ (length proposals ∷ flat_map proposal proposals)), two priority, of_each proposal proposal_length of_proposal proposals)
of_wish End = refl

of_subscriber : (s : Subscriber) → length (subscriber s) ≡ subscriber_length s
of_subscriber s =
    omega (arith, length-append (text s.base) (in_16_bytes s.ticket ++ in_8_bytes s.index), length-append (in_16_bytes s.ticket) (in_8_bytes s.index), of_text s.base, sixteen s.ticket, eight s.index)

of_owed : (owed : List Subscriber) → length (list subscriber owed) ≡ owed_length owed
of_owed owed = omega (arith, of_list subscriber owed, of_each subscriber subscriber_length of_subscriber owed)

of_texts : (ts : List (List ℕ)) → length (list text ts) ≡ texts_length ts
of_texts ts = omega (arith, of_list text ts, of_each text text_length of_text ts)

of_option : (o : Option (List ℕ)) → length (optional text o) ≡ option_length o
of_option None = refl
of_option (Some t) = omega (arith, of_text t)

of_ending : (e : Ending) → length (ending e) ≡ ending_length e
of_ending (Conflict flight manager why) = omega (arith, length-append (in_16_bytes flight) (text manager ++ rule why), length-append (text manager) (rule why), sixteen flight, of_text manager)
of_ending (Stale missing) = omega (arith, of_list in_16_bytes missing, of_each_16 in_16_bytes sixteen missing)
of_ending Cancelled = refl
of_ending (Ended owed) = omega (arith, of_owed owed)

of_owner : (o : Owner) → length (owner o) + 1 ≡ coding_length (Enters.Owner o)
of_owner o =
    let table : length (list in_2_bytes o.table) ≡ 4 + 2 * length o.table = omega (arith, of_list in_2_bytes o.table, of_each_2 in_2_bytes two o.table) in
    omega (
      arith,
      length-append (in_4_bytes o.number) (text o.name ++ (text o.base ++ list in_2_bytes o.table)),
      length-append (text o.name) (text o.base ++ list in_2_bytes o.table),
      length-append (text o.base) (list in_2_bytes o.table),
      four o.number,
      of_text o.name,
      of_text o.base,
      table,
    )

of_fields : (e : Entry) → length (fields_of e) + 1 ≡ coding_length e
of_fields (Enters.Owner o) = of_owner o
of_fields (Opened o) =
    omega (
      arith,
      length-append (in_8_bytes o.job) (signed_in_8_bytes o.moment ++ ask o.ask),
      length-append (signed_in_8_bytes o.moment) (ask o.ask),
      length-append (in_8_bytes o.ask.flight) (in_8_bytes o.ask.number ++ wish o.ask.wish),
      length-append (in_8_bytes o.ask.number) (wish o.ask.wish),
      eight o.job,
      signed_eight o.moment,
      eight o.ask.flight,
      eight o.ask.number,
      of_wish o.ask.wish,
    )
of_fields (TicketOpen job) = omega (arith, eight job)
of_fields (Pending t) =
    omega (
      arith,
      length-append (in_8_bytes t.job) (in_8_bytes t.tag ++ (t.alternative ∷ (optional text t.previous ++ list text t.key))),
      length-append (in_8_bytes t.tag) (t.alternative ∷ (optional text t.previous ++ list text t.key)),
      length-append (optional text t.previous) (list text t.key),
      eight t.job,
      eight t.tag,
      of_option t.previous,
      of_texts t.key,
    )
of_fields (Held h) =
    omega (
      arith,
      length-append (in_8_bytes h.job) (in_8_bytes h.tag ++ (text h.ovn ++ (in_4_bytes h.version ++ list subscriber h.owed))),
      length-append (in_8_bytes h.tag) (text h.ovn ++ (in_4_bytes h.version ++ list subscriber h.owed)),
      length-append (text h.ovn) (in_4_bytes h.version ++ list subscriber h.owed),
      length-append (in_4_bytes h.version) (list subscriber h.owed),
      eight h.job,
      eight h.tag,
      of_text h.ovn,
      four h.version,
      of_owed h.owed,
    )
of_fields (Deciding d) = omega (arith, length-append (in_8_bytes d.job) (ending d.end), eight d.job, of_ending d.end)
of_fields (Done d) = omega (arith, length-append (in_8_bytes d.job) (ending d.end), eight d.job, of_ending d.end)
of_fields (TicketGone job) = omega (arith, eight job)
of_fields (Sent n) = omega (arith, length-append (in_8_bytes n.job) (in_4_bytes n.index), eight n.job, four n.index)

pub length-coding_of : (e : Entry) → length (coding_of e) ≡ coding_length e
unfolding coding_of
length-coding_of e = omega (arith, of_fields e)
