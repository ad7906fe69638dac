-- What a supplier may say. This project's own.
use Rattle.std.specs.Prelude.{ℕ, ◌<◌, ◌≡◌, ℤ, pos, ◌<ℤ◌, true, false, not, ◌==◌, List, length, filter, Any, Some, unwrap_or, IfSome}
use Rattle.uss_vol4.specs.Volume.{Volume4D}
use Rattle.uss_vol4.specs.Volume as Volumes
use Rattle.uss_intent.specs.Limits.{most_ovns}
use Rattle.uss_intent.specs.Refusals.{refusal_number}
use Rattle.uss_intent.specs.declared.records.Reference.{Reference}
use Rattle.uss_intent.specs.declared.calls.DssReply.{DssReply}
use Rattle.uss_intent.specs.declared.calls.DssReply.TheVariants as Replies
use Rattle.uss_event.specs.Pairs.{OperationalIntent}
use Rattle.uss_event.specs.declared.asks.Conform.{Conform}
use Rattle.uss_event.specs.declared.asks.Conform.TheVariants as Finds
use Rattle.uss_event.specs.declared.asks.PositionAsk.{PositionAsk}
use Rattle.uss_event.specs.declared.asks.AskRefusal.{AskRefusal}
use Rattle.uss_event.specs.declared.asks.AskRefusal.TheVariants as Refuses
use Rattle.uss_event.specs.declared.entries.Owner.{Owner}
use Rattle.uss_event.specs.declared.entries.Entry.{Entry}
use Rattle.uss_event.specs.declared.calls.DssCall.{DssCall}
use Rattle.uss_event.specs.declared.calls.PeerCall.{PeerCall}
use Rattle.uss_event.specs.declared.calls.PeerCall.TheVariants as Calls
use Rattle.uss_event.specs.declared.calls.PeerReply.{PeerReply}
use Rattle.uss_event.specs.declared.calls.PeerReply.TheVariants as Peers
use Rattle.uss_event.specs.declared.events.Answer.{Answer}
use Rattle.uss_event.specs.declared.events.Answer.TheVariants.{Steady, Crowded, DssRefused, PeerRefused, Unsettled}
use Rattle.uss_event.specs.declared.events.Said.{Said}
use Rattle.uss_event.specs.declared.events.Said.TheVariants as Says
use Rattle.uss_event.specs.declared.events.Event.{Event}
use Rattle.uss_event.specs.declared.events.Event.TheVariants as Comes
use Rattle.uss_event.specs.declared.entries.Opening.{Opening}
use Rattle.uss_law_book.specs.Contents.{opening_of, is_open, owns}
use Rattle.uss_law_book.specs.Attempts.{held}
use Rattle.uss_law_duty.specs.Answers.{is_final, flight_of, kept_answer, job_named}
use Rattle.uss_law_duty.specs.Sends.{IsHeldPair}
use Rattle.uss_law_duty.specs.Entered.{shown_tag, IsGetOf}

-- a pair that is said is held, in the book with the entry of the same step
abbrev pub PairIsHeld : List Entry → Said → Type 0
PairIsHeld after (Says.Pair pair) = IfSome pair (IsHeldPair after)
PairIsHeld after _ = Unit {0}

-- a final answer is the one that this book keeps of the job that the event names
pub record IsKeptAnswer (owner : Owner) (after : List Entry) (event : Event) (answer : Answer) : Type 0 where
  pub opening : Opening
  pub named : job_named event after ≡ Some opening
  pub kept : kept_answer owner opening after ≡ Some answer

abbrev pub FinalIsKept : Owner → List Entry → Event → Said → Type 0
FinalIsKept owner after event (Says.Answer answer) = is_final answer ≡ true → IsKeptAnswer owner after event answer
FinalIsKept owner after event _ = Unit {0}

-- the references of other flights
abbrev pub others : ℕ → List Reference → List Reference
others flight rs = filter (λ r. not (r.flight == flight)) rs

-- a plan looks at no more references of other flights than these, since its key may have an OVN for each, and a key has no more
abbrev pub most_looked_at : ℕ
most_looked_at = most_ovns

-- a job is open, and asked this of the discovery service, which replied so
pub record CrowdedBy (owner : Owner) (book : List Entry) (call : DssCall) (reply : DssReply) (count : ℕ) : Type 0 where
  pub opening : Opening
  pub references : List Reference
  pub opened : opening_of call.job book ≡ Some opening
  pub unfinished : is_open call.job book ≡ true
  pub found : reply ≡ Replies.Found references
  pub so_many : count ≡ length (others (flight_of owner opening) references)
  pub too_many : most_looked_at < count

abbrev pub RefusesWith : DssReply → ℕ → Type 0
RefusesWith (Replies.Refused refusal) number = refusal_number refusal ≡ number
RefusesWith _ number = ⊥

pub record RefusedBy (book : List Entry) (call : DssCall) (reply : DssReply) (number : ℕ) : Type 0 where
  pub unfinished : is_open call.job book ≡ true
  pub refused : RefusesWith reply number

-- the flight is recorded by an attempt that isn't the job's
pub record UnsettledBy (owner : Owner) (book : List Entry) (call : DssCall) (reply : DssReply) (tag : ℕ) : Type 0 where
  pub reference : Reference
  pub unfinished : is_open call.job book ≡ true
  pub its_call : IsGetOf owner book call.job call.ask
  pub got : reply ≡ Replies.Got reference
  pub shown : unwrap_or (shown_tag reference) 0 ≡ tag
  pub not_own : owns call.job tag book ≡ false

pub record PeerRefusedBy (book : List Entry) (call : PeerCall) (reply : PeerReply) (peer : List ℕ) (status : ℕ) : Type 0 where
  pub job : ℕ
  pub flight : ℕ
  pub base : List ℕ
  pub its_call : call ≡ Calls.Details job flight peer base
  pub unfinished : is_open job book ≡ true
  pub replied : reply ≡ Peers.Status status

-- some volume that is held of the flight holds the position at the moment
abbrev pub IsInside : List Volume4D → PositionAsk → ℤ → Type 0
IsInside volumes p moment = Any (λ v. Volumes.Holds v p.place (pos 1) p.altitude moment) volumes

abbrev pub IsFound : Conform → List Volume4D → PositionAsk → ℤ → Type 0
IsFound Finds.Conforming volumes p moment = IsInside volumes p moment
IsFound Finds.Nonconforming volumes p moment = IsInside volumes p moment → ⊥
IsFound Finds.Contingent volumes p moment = Unit {0}

pub record SteadyAt (book : List Entry) (moment : ℤ) (p : PositionAsk) (found : Conform) : Type 0 where
  pub pair : OperationalIntent
  pub is_held : held p.flight book ≡ Some pair
  pub conforms : IsFound found pair.details.volumes p moment

-- an answer that isn't final has its cause in the event
abbrev pub HasCause : Owner → List Entry → ℤ → Event → Answer → Type 0
HasCause owner book moment (Comes.Dss call reply) (Crowded count) = CrowdedBy owner book call reply count
HasCause owner book moment (Comes.Dss call reply) (DssRefused number) = RefusedBy book call reply number
HasCause owner book moment (Comes.Dss call reply) (Unsettled tag) = UnsettledBy owner book call reply tag
HasCause owner book moment (Comes.Peer call reply) (PeerRefused peer status) = PeerRefusedBy book call reply peer status
HasCause owner book moment (Comes.Position p) (Steady verdict) = SteadyAt book moment p verdict
HasCause owner book moment event answer = is_final answer ≡ true

-- a position is refused as old only where it comes before one that was counted
abbrev pub RefusalHasCause : ℤ → Event → AskRefusal → Type 0
RefusalHasCause moment (Comes.Position p) (Refuses.OldPosition last) = moment <ℤ last
RefusalHasCause moment _ (Refuses.OldPosition last) = ⊥
RefusalHasCause moment event _ = Unit {0}

abbrev pub SayingHasCause : Owner → List Entry → ℤ → Event → Said → Type 0
SayingHasCause owner book moment event (Says.Answer answer) = HasCause owner book moment event answer
SayingHasCause owner book moment event (Says.Refused refusal) = RefusalHasCause moment event refusal
SayingHasCause owner book moment event _ = Unit {0}
