-- What a supplier may enter into its book: beside what makes the book legal, by what it heard, and by which reply.
-- This project's own.
use Rattle.std.specs.Prelude.{ℕ, ◌≡◌, ◌⊎◌, true, List, [], ◌∷◌, ◌++◌, Option, Some, None, is_some, if◌then◌else◌}
use Rattle.uss_intent.specs.Tags.{tag_of}
use Rattle.uss_intent.specs.declared.records.Reference.{Reference}
use Rattle.uss_intent.specs.declared.calls.DssAsk.{DssAsk}
use Rattle.uss_intent.specs.declared.calls.DssAsk.TheVariants as Asks
use Rattle.uss_intent.specs.declared.calls.DssReply.{DssReply}
use Rattle.uss_intent.specs.declared.calls.DssReply.TheVariants as Replies
use Rattle.uss_intent.specs.declared.calls.DssRefusal.TheVariants as Refuses
use Rattle.uss_intent.specs.States.{is_strategic}
use Rattle.uss_event.specs.Pairs.{OperationalIntent}
use Rattle.uss_event.specs.Verdicts.{verdict}
use Rattle.uss_event.specs.declared.rules.Verdict.TheVariants.{Clear}
use Rattle.uss_event.specs.declared.details.Candidate.{Candidate}
use Rattle.uss_event.specs.declared.entries.Owner.{Owner}
use Rattle.uss_event.specs.declared.entries.Ending.{Ending}
use Rattle.uss_event.specs.declared.entries.Entry.{Entry}
use Rattle.uss_event.specs.declared.entries.Entry.TheVariants.{TicketOpen, Pending, Held, Done, TicketGone}
use Rattle.uss_event.specs.declared.events.Event.{Event}
use Rattle.uss_event.specs.declared.events.Event.TheVariants as Comes
use Rattle.uss_law_dss.specs.Lists.{Has}
use Rattle.uss_law_dss.specs.Fits.{fits}
use Rattle.uss_event.specs.declared.entries.Opening.{Opening}
use Rattle.uss_law_book.specs.Contents.{opening_of, is_open, decision_of, is_ended}
use Rattle.uss_law_book.specs.Attempts.{Attempted, attempt_of, extents_of, put_of, held}
use Rattle.uss_event.specs.Heard.{News, brought}
use Rattle.uss_event.specs.Heard.News.{Heard}
use Rattle.uss_law_duty.specs.Answers.{flight_of}
use Rattle.uss_law_duty.specs.Sends.{IsTicketPutOf, IsRemoveOf, ticket_remove, IsHeldPair}

abbrev pub candidate_of : Attempted → Candidate
candidate_of a = record { flight = a.flight; state = a.state; priority = a.details.priority; volumes = extents_of a }

-- the event is a reply of the discovery service to this call of this job
abbrev pub Answers : Event → ℕ → DssAsk → DssReply → Type 0
Answers (Comes.Dss call reply) job ask given = (call.job ≡ job) × (call.ask ≡ ask) × (reply ≡ given)
Answers _ job ask given = ⊥

-- the pair was heard, in this event or before, or it is held of one of the owner's flights
abbrev pub IsKnown : List Entry → List News → Event → OperationalIntent → Type 0
IsKnown book heard event p = Has (heard ++ brought event) (Heard p) ⊎ IsHeldPair book p

-- an OVN of a key is that of a known pair, which nothing of the attempt stands against
pub record IsClearOvn (table : List ℕ) (book : List Entry) (heard : List News) (event : Event) (a : Attempted) (previous : Option OperationalIntent) (ovn : List ℕ) : Type 0 where
  pub pair : OperationalIntent
  pub known : IsKnown book heard event pair
  pub ovn_is : pair.reference.ovn ≡ Some ovn
  pub clear : verdict table (candidate_of a) pair previous ≡ Clear

-- each OVN of the key of an attempt into Accepted or Activated is such; what is held of the flight is what the attempt changes
abbrev pub KeyOf : Owner → List Entry → List News → Event → ℕ → ℕ → List (List ℕ) → List Entry → Type 0
KeyOf owner book heard event job tag key after =
    (a : Attempted) → attempt_of tag after ≡ Some a → is_strategic a.state ≡ true → (opening : Opening) → opening_of job book ≡ Some opening →
    (ovn : List ℕ) → Has key ovn → IsClearOvn owner.table book heard event a (held opening.ask.flight book) ovn

abbrev pub KeyIsClear : Owner → List Entry → List News → Event → Entry → Type 0
KeyIsClear owner book heard event (Pending t) =
    KeyOf owner book heard event t.job t.tag t.key (book ++ Pending t ∷ [])
KeyIsClear owner book heard event _ = Unit {0}

-- the tag that a reference shows; one that shows no OVN is taken as one without a tag
abbrev pub shown_tag : Reference → Option ℕ
shown_tag r = if is_some r.ovn then tag_of r.base else None

-- the call is the Put of an attempt, or asks for the job's own flight
pub record IsPutWith (book : List Entry) (job tag : ℕ) (ask : DssAsk) : Type 0 where
  pub attempt : Attempted
  pub found : attempt_of tag book ≡ Some attempt
  pub its_job : attempt.job ≡ job
  pub is : ask ≡ put_of attempt

pub record IsGetOf (owner : Owner) (book : List Entry) (job : ℕ) (ask : DssAsk) : Type 0 where
  pub opening : Opening
  pub opened : opening_of job book ≡ Some opening
  pub is : ask ≡ Asks.Get (flight_of owner opening)

-- the reply shows that the attempt with the tag is recorded, as this reference
abbrev pub ShowsRecord : Owner → List Entry → ℕ → ℕ → DssAsk → DssReply → Reference → Type 0
ShowsRecord owner book job tag ask (Replies.Landed reference subscribers) r = IsPutWith book job tag ask × (reference ≡ r)
ShowsRecord owner book job tag ask (Replies.Got reference) r = IsGetOf owner book job ask × (reference ≡ r)
ShowsRecord owner book job tag ask _ r = ⊥

-- a Held comes of a fitting reply to a call of the open job, which shows the tag, the OVN and the version
pub record HoldsByReply (owner : Owner) (book : List Entry) (event : Event) (job tag : ℕ) (ovn : List ℕ) (version : ℕ) : Type 0 where
  pub ask : DssAsk
  pub reply : DssReply
  pub reference : Reference
  pub unfinished : is_open job book ≡ true
  pub answers : Answers event job ask reply
  pub fitting : fits ask reply ≡ true
  pub shows : ShowsRecord owner book job tag ask reply reference
  pub tag_is : shown_tag reference ≡ Some tag
  pub ovn_is : reference.ovn ≡ Some ovn
  pub version_is : reference.version ≡ version

abbrev pub HeldIsShown : Owner → List Entry → Event → Entry → Type 0
HeldIsShown owner book event (Held h) = HoldsByReply owner book event h.job h.tag h.ovn h.version
HeldIsShown owner book event _ = Unit {0}

-- the reply says that the reference, or the ticket, was removed now or before
abbrev pub IsRemoved : DssReply → Type 0
IsRemoved (Replies.Removed reference subscribers) = Unit {0}
IsRemoved (Replies.Refused refusal) = refusal ≡ Refuses.Retired
IsRemoved _ = ⊥

abbrev pub IsTicketRemoved : DssReply → Type 0
IsTicketRemoved (Replies.TicketRemoved ticket) = Unit {0}
IsTicketRemoved (Replies.Refused refusal) = refusal ≡ Refuses.Retired
IsTicketRemoved _ = ⊥

-- it says that the ticket is there
abbrev pub IsTicketMade : DssReply → Type 0
IsTicketMade (Replies.TicketMade ticket) = Unit {0}
IsTicketMade (Replies.Refused refusal) = refusal ≡ Refuses.Exists
IsTicketMade _ = ⊥

-- the end of a flight comes of such a reply to the job's Remove
pub record EndsByReply (owner : Owner) (book : List Entry) (event : Event) (job : ℕ) : Type 0 where
  pub ask : DssAsk
  pub reply : DssReply
  pub answers : Answers event job ask reply
  pub its_call : IsRemoveOf owner book job ask
  pub removed : IsRemoved reply

-- that a ticket is gone comes of such a reply to the job's TicketRemove
pub record LosesByReply (owner : Owner) (event : Event) (job : ℕ) : Type 0 where
  pub reply : DssReply
  pub answers : Answers event job (ticket_remove owner job) reply
  pub removed : IsTicketRemoved reply

-- that a ticket is there comes of such a reply to the job's TicketPut
pub record OpensByReply (owner : Owner) (book : List Entry) (event : Event) (job : ℕ) : Type 0 where
  pub ask : DssAsk
  pub reply : DssReply
  pub answers : Answers event job ask reply
  pub its_call : IsTicketPutOf owner book job ask
  pub made : IsTicketMade reply

abbrev pub EndsAs : Owner → List Entry → Event → ℕ → Ending → Type 0
EndsAs owner book event job end =
    (is_ended end ≡ true → EndsByReply owner book event job) × (is_some (decision_of job book) ≡ true → LosesByReply owner event job)

abbrev pub RemovalIsShown : Owner → List Entry → Event → Entry → Type 0
RemovalIsShown owner book event (Done d) = EndsAs owner book event d.job d.end
RemovalIsShown owner book event (TicketGone job) = LosesByReply owner event job
RemovalIsShown owner book event _ = Unit {0}

abbrev pub TicketIsShown : Owner → List Entry → Event → Entry → Type 0
TicketIsShown owner book event (TicketOpen job) = OpensByReply owner book event job
TicketIsShown owner book event _ = Unit {0}
