-- How soon reading stops: bytes are taken only while those that came before leave the answer open. This project's own.
use Rattle.std.specs.Prelude.{◌≡◌, ◌+◌, ◌<◌, ◌≤◌, ℕ, List, ◌++◌, length, Result, Ok, Err}
use Rattle.uss_http_request.specs.declared.refusal.ReadRefusal.{ReadRefusal}
use Rattle.uss_http_request.specs.declared.refusal.ReadRefusal.TheVariants as refusal
use Rattle.uss_http_request.specs.Streams.{Passes}

-- the most bytes that one call for more is asked for
abbrev pub call_limit : ℕ
call_limit = 16384

-- Bytes that were taken after others: those that one call gave, and before it fewer than the others, and fewer than 8 KiB.
pub record AreFew (seen late : List ℕ) : Type 0 where
  pub doubled : length late ≤ length seen + call_limit
  pub within : length late < 8192 + call_limit

-- the new bytes are the old ones, and after them few
pub record GrowsBy (old new : List ℕ) (n : ℕ) : Type 0 where
  pub late : List ℕ
  pub added : new ≡ old ++ late
  pub few : length late ≤ n

-- nothing came over the stream between two moments
pub record Stays {S : Type 0} (gave : S → S → List ℕ → Type 0) (before after : S) : Type 0 where
  pub told : (origin : S) (past : List ℕ) → gave origin before past → gave origin after past

-- the bytes that came are some that left this open, and few after them
pub record StopsSoon {S : Type 0} (gave : S → S → List ℕ → Type 0) (before : S) (kept : List ℕ) (after : S) (open_by : List ℕ → Type 0) : Type 0 where
  pub seen : List ℕ
  pub late : List ℕ
  pub passes : Passes gave before kept after (seen ++ late)
  pub was_open : open_by seen
  pub few : AreFew seen late

-- nothing more came, or it stopped soon
pub data IsPrompt {S : Type 0} (gave : S → S → List ℕ → Type 0) (before : S) (kept : List ℕ) (after : S) (open_by : List ℕ → Type 0) : Type 0 where
  stays : Stays gave before after → IsPrompt gave before kept after open_by
  soon : StopsSoon gave before kept after open_by → IsPrompt gave before kept after open_by

-- the fact, unless a fault or out of memory came
abbrev pub UnlessFault : ReadRefusal → Type 0 → Type 0
UnlessFault refusal.Fault P = Unit {0}
UnlessFault refusal.Memory P = Unit {0}
UnlessFault refusal.HeadTooLarge P = P
UnlessFault refusal.BadHead P = P
UnlessFault refusal.BodyTooLarge P = P
UnlessFault refusal.BadChunk P = P
UnlessFault refusal.Truncated P = P
UnlessFault refusal.NoClient P = P

-- the same of an answer
abbrev pub ButForFaults : {A : Type 0} → Result A ReadRefusal → Type 0 → Type 0
ButForFaults (Ok x) P = P
ButForFaults (Err e) P = UnlessFault e P
