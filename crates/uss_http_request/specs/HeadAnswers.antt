-- What reading a head answers. This project's own.
use Rattle.std.specs.Prelude.{◌≡◌, ℕ, ◌≤◌, ◌<◌, ◌⊎◌, List, length, take, map, Some, None, IsSome, Result, Ok, Err}
use Rattle.httparse.specs.Grammar.{RequestHead}
use Rattle.httparse.specs.Spans.{name_and_value}
use Rattle.uss_http_request.specs.declared.halt.Halt.{Halt}
use Rattle.uss_http_request.specs.declared.halt.Halt.TheVariants as halt
use Rattle.uss_http_request.specs.declared.heads.Head.{Head}
use Rattle.uss_http_request.specs.declared.refusal.ReadRefusal.{ReadRefusal}
use Rattle.uss_http_request.specs.declared.refusal.ReadRefusal.TheVariants as refusal
use Rattle.uss_http_request.specs.Pieces.{piece_limit}
use Rattle.uss_http_request.specs.Streams.{Passes}
use Rattle.uss_http_request.specs.Heads.{BeginsWith, IsOpenHead, BeginsNoHead}
use Rattle.uss_http_request.specs.Fields.{framing_of, client_of}

-- a head with this first line and these fields
pub record IsHeadWith (method path : List ℕ) (fields : List (List ℕ × List ℕ)) (head : Head) : Type 0 where
  pub method_is : head.method ≡ method
  pub path_is : head.path ≡ path
  pub framed : framing_of fields ≡ Some head.framing
  pub named : client_of fields ≡ Some head.client

-- what these fields are refused for: first what they say of the body, then the name of the client
abbrev pub AreRefused : List (List ℕ × List ℕ) → ReadRefusal → Type 0
AreRefused fields refusal.BadHead = framing_of fields ≡ None
AreRefused fields refusal.NoClient = IsSome (framing_of fields) × (client_of fields ≡ None)
AreRefused fields refusal.Memory = Unit {0}
AreRefused fields refusal.HeadTooLarge = ⊥
AreRefused fields refusal.BodyTooLarge = ⊥
AreRefused fields refusal.BadChunk = ⊥
AreRefused fields refusal.Truncated = ⊥
AreRefused fields refusal.Fault = ⊥

-- the head with this first line and these fields, or why they are refused
abbrev pub IsHeadAt : (method path : List ℕ) → List (List ℕ × List ℕ) → Result Head ReadRefusal → Type 0
IsHeadAt method path fields (Ok head) = IsHeadWith method path fields head
IsHeadAt method path fields (Err e) = AreRefused fields e

-- the halt, said of a head
abbrev pub refusal_of_head : Halt → ReadRefusal
refusal_of_head halt.Bad = refusal.BadHead
refusal_of_head halt.Long = refusal.HeadTooLarge
refusal_of_head halt.Cut = refusal.Truncated
refusal_of_head halt.Fault = refusal.Fault
refusal_of_head halt.Memory = refusal.Memory

-- the bytes begin with a head that says this, and the rest follows it
pub record HasHead (bytes : List ℕ) (head : Head) (rest : List ℕ) : Type 0 where
  pub tree : RequestHead
  pub begins : BeginsWith bytes tree rest
  pub says : IsHeadWith tree.method tree.target (map name_and_value tree.fields) head

-- the bytes begin with a head whose fields are refused for this
pub record HasRefusedHead (bytes : List ℕ) (e : ReadRefusal) : Type 0 where
  pub tree : RequestHead
  pub rest : List ℕ
  pub begins : BeginsWith bytes tree rest
  pub fields_are : AreRefused (map name_and_value tree.fields) e

-- why these bytes, of which the first 16 KiB count, begin with no head that is accepted
abbrev pub IsRefusedHead : List ℕ → ReadRefusal → Type 0
IsRefusedHead bytes refusal.HeadTooLarge = (piece_limit ≤ length bytes) × IsOpenHead (take piece_limit bytes)
IsRefusedHead bytes refusal.BadHead = BeginsNoHead (take piece_limit bytes) ⊎ HasRefusedHead bytes refusal.BadHead
IsRefusedHead bytes refusal.Truncated = (length bytes < piece_limit) × IsOpenHead bytes
IsRefusedHead bytes refusal.NoClient = HasRefusedHead bytes refusal.NoClient
IsRefusedHead bytes refusal.BodyTooLarge = ⊥
IsRefusedHead bytes refusal.BadChunk = ⊥
IsRefusedHead bytes refusal.Fault = ⊥
IsRefusedHead bytes refusal.Memory = ⊥

-- a head was taken from the stream
pub record TakesHead {S : Type 0} (gave : S → S → List ℕ → Type 0) (before : S) (kept : List ℕ) (after : S) (left : List ℕ) (head : Head) : Type 0 where
  pub all : List ℕ
  pub passes : Passes gave before kept after all
  pub has : HasHead all head left

-- what came over the stream is refused for this; a head that is cut short, at the end of the stream
pub record ShowsNoHead {S : Type 0} (gave : S → S → List ℕ → Type 0) (ended : S → Type 0) (before : S) (kept : List ℕ) (after : S) (e : ReadRefusal) : Type 0 where
  pub all : List ℕ
  pub passes : Passes gave before kept after all
  pub refused : IsRefusedHead all e
  pub end : e ≡ refusal.Truncated → ended after

-- the same, unless a fault or out of memory came
abbrev pub MissesHead : {S : Type 0} (gave : S → S → List ℕ → Type 0) (ended : S → Type 0) (before : S) (kept : List ℕ) (after : S) → ReadRefusal → Type 0
MissesHead gave ended before kept after refusal.Fault = Unit {0}
MissesHead gave ended before kept after refusal.Memory = Unit {0}
MissesHead gave ended before kept after refusal.HeadTooLarge = ShowsNoHead gave ended before kept after refusal.HeadTooLarge
MissesHead gave ended before kept after refusal.BadHead = ShowsNoHead gave ended before kept after refusal.BadHead
MissesHead gave ended before kept after refusal.Truncated = ShowsNoHead gave ended before kept after refusal.Truncated
MissesHead gave ended before kept after refusal.NoClient = ShowsNoHead gave ended before kept after refusal.NoClient
MissesHead gave ended before kept after refusal.BodyTooLarge = ⊥
MissesHead gave ended before kept after refusal.BadChunk = ⊥
