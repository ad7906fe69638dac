-- What a dial does to the streams that are opened over it, where it tells of them. This project's own.
use Rattle.std.specs.Prelude.{◌≡◌, ◌==◌, ℕ, ◌≤◌, ◌<◌, nat_lt, Bool, true, false, ◌&&◌, ◌||◌, List, [], ◌∷◌, ◌++◌, length, take, Option, Some, None, IfSome, Result, IfOk, MatchResult, IsTrue}

-- one stream: the host and the port that it was opened to, the bytes sent and received over it, and whether its
-- end was given
pub record Talk : Type 0 where
  pub host : List ℕ
  pub port : ℕ
  pub sent : List ℕ
  pub received : List ℕ
  pub ended : Bool

-- a stream over which nothing went yet
abbrev pub fresh_talk : (host : List ℕ) (port : ℕ) → Talk
fresh_talk host port = record { host = host; port = port; sent = []; received = []; ended = false }

-- the stream with more bytes sent
abbrev pub with_sent : List ℕ → Talk → Talk
with_sent bytes talk = record talk { sent = talk.sent ++ bytes }

-- the stream with more bytes received; none in a buffer that isn't empty is its end
abbrev pub with_received : (bytes : List ℕ) (is_end : Bool) → Talk → Talk
with_received bytes is_end talk = record talk { received = talk.received ++ bytes; ended = talk.ended || is_end }

-- reaching a host opens one more stream; a fault tells nothing new
pub record Reaches {E : Type 0} (before after : Option (List Talk)) (host : List ℕ) (port : ℕ) (answer : Result (Unit {0}) E) : Type 0 where
  pub told : (talks : List Talk) → before ≡ Some talks → MatchResult answer (λ _. after ≡ Some (talks ++ fresh_talk host port ∷ [])) (λ _. after ≡ Some talks)

-- of the streams told the last one, and it alone, was changed so
pub record LastBecomes (change : Talk → Talk) (talks : List Talk) (after : Option (List Talk)) : Type 0 where
  pub earlier : List Talk
  pub last : Talk
  pub were : talks ≡ earlier ++ last ∷ []
  pub are : after ≡ Some (earlier ++ change last ∷ [])

-- sending takes bytes from the start of the piece, at least one of a piece that isn't empty, over the stream
-- opened last; a fault takes none
pub record Sends {E : Type 0} (before after : Option (List Talk)) (bytes : List ℕ) (answer : Result ℕ E) : Type 0 where
  pub within : IfOk answer (λ n. n ≤ length bytes)
  pub some : IfOk answer (λ n. 0 < length bytes → 0 < n)
  pub told : (talks : List Talk) → before ≡ Some talks → MatchResult answer (λ n. LastBecomes (with_sent (take n bytes)) talks after) (λ _. after ≡ Some talks)

-- n bytes of the buffer were received over the stream opened last, of which nothing comes once its end was given
pub record Gives (talks : List Talk) (after : Option (List Talk)) (buffer filled : List ℕ) (n : ℕ) : Type 0 where
  pub earlier : List Talk
  pub last : Talk
  pub were : talks ≡ earlier ++ last ∷ []
  pub are : after ≡ Some (earlier ++ with_received (take n filled) (n == 0 && nat_lt 0 (length buffer)) last ∷ [])
  pub ended : IsTrue last.ended → n ≡ 0

-- what receiving does; a fault gives no bytes. A dial that doesn't tell doesn't begin to.
pub record Receives {E : Type 0} (before after : Option (List Talk)) (buffer filled : List ℕ) (answer : Result ℕ E) : Type 0 where
  pub within : IfOk answer (λ n. n ≤ length buffer)
  pub told : (talks : List Talk) → before ≡ Some talks → MatchResult answer (Gives talks after buffer filled) (λ _. after ≡ Some talks)
  pub untold : before ≡ None → after ≡ None

-- of these bytes the first n were sent over the stream opened last
pub record SentFront (talks : List Talk) (after : Option (List Talk)) (bytes : List ℕ) (n : ℕ) : Type 0 where
  pub within : n ≤ length bytes
  pub none : n ≡ 0 → after ≡ Some talks
  pub some : 0 < n → LastBecomes (with_sent (take n bytes)) talks after

-- Whether a stream is open over a dial, where the dial tells that too. What is told stays told.

-- after reaching a host a stream is open; after a fault one is where one was
pub record Opens {E : Type 0} (before after : Option Bool) (answer : Result (Unit {0}) E) : Type 0 where
  pub told : (was : Bool) → before ≡ Some was → MatchResult answer (λ _. after ≡ Some true) (λ _. after ≡ Some was)

-- a stream is open where one was
pub record Stays (before after : Option Bool) : Type 0 where
  pub told : (was : Bool) → before ≡ Some was → after ≡ Some was

-- sending and receiving open and close none, and without an open stream they are faults
pub record Speaks {T E : Type 0} (before after : Option Bool) (answer : Result T E) : Type 0 where
  pub stays : Stays before after
  pub over : (was : Bool) → before ≡ Some was → IfOk answer (λ _. IsTrue was)

-- after closing no stream is open
pub record Closes (before after : Option Bool) : Type 0 where
  pub told : (was : Bool) → before ≡ Some was → after ≡ Some false
  pub closed : IfSome after (λ is. is ≡ false)
