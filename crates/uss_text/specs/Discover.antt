-- The script of `uss discover`: each line is a client's name and a call of the discovery service. This project's own.
use Rattle.std.specs.Prelude.{ℕ, List, Result, Ok, Err, nat_lt, length, bytes_eq, codes, if◌then◌else◌}
use Rattle.uss_vol4.specs.Volume.{Volume4D}
use Rattle.uss_intent.specs.declared.calls.DssAsk.{DssAsk}
use Rattle.uss_intent.specs.declared.calls.DssAsk.TheVariants.{Query, Get, Put, Remove, TicketPut, TicketGet, TicketRemove}
use Rattle.uss_text.specs.declared.discover.DiscoverLine.{DiscoverLine}
use Rattle.uss_text.specs.declared.refusal.WordRefusal.{WordRefusal}
use Rattle.uss_text.specs.declared.refusal.WordRefusal.TheVariants.{BadLine}
use Rattle.uss_text.specs.declared.refusal.ScriptRefusal.{ScriptRefusal}
use Rattle.uss_text.specs.declared.refusal.ScriptRefusal.TheVariants.{TextTooLarge}
use Rattle.uss_text.specs.Lines.{most_bytes, lines_of, words_of}
use Rattle.uss_text.specs.Reading.{◌>>=◌, read, Reader, word_at, count_at, many_at, end_at, by_word, each_behind}
use Rattle.uss_text.specs.Volumes.{volume_at}
use Rattle.uss_text.specs.Intents.{name_at, base_at, ovn_at, ovn_or_none_at, identifier_at, state_at}

-- this very word, without a value
abbrev pub fixed_of : List ℕ → List ℕ → Result (Unit {0}) WordRefusal
fixed_of fixed word = if bytes_eq word fixed then Ok tt else Err BadLine

unfoldable pub fixed_at : List ℕ → Reader (Unit {0})
fixed_at fixed ws = by_word (fixed_of fixed) ws

-- `query VOLUME`
unfoldable pub query_at : Reader DssAsk
query_at ws = do
  area ← volume_at ws
  Ok (read (Query area.value) area.rest)

-- `get FLIGHT`
unfoldable pub get_at : Reader DssAsk
get_at ws = do
  flight ← identifier_at ws
  Ok (read (Get flight.value) flight.rest)

-- `key K O1 .. OK`
unfoldable pub key_at : Reader (List (List ℕ))
key_at ws = do
  key ← fixed_at (codes "key") ws
  count ← count_at key.rest
  many_at ovn_at count.value count.rest

-- `vols M VOLUMES`
unfoldable pub extents_at : Reader (List Volume4D)
extents_at ws = do
  vols ← fixed_at (codes "vols") ws
  count ← count_at vols.rest
  many_at volume_at count.value count.rest

-- `put FLIGHT OVN STATE BASE TICKET key K O1 .. OK vols M VOLUMES`, with `-` for the OVN of a creation
unfoldable pub put_at : Reader DssAsk
put_at ws = do
  flight ← identifier_at ws
  ovn ← ovn_or_none_at flight.rest
  state ← state_at ovn.rest
  base ← base_at state.rest
  ticket ← identifier_at base.rest
  key ← key_at ticket.rest
  extents ← extents_at key.rest
  Ok (read (Put flight.value ovn.value extents.value key.value state.value base.value ticket.value) extents.rest)

-- `remove FLIGHT OVN`
unfoldable pub remove_at : Reader DssAsk
remove_at ws = do
  flight ← identifier_at ws
  ovn ← ovn_at flight.rest
  Ok (read (Remove flight.value ovn.value) ovn.rest)

-- `tput TICKET BASE VOLUME`
unfoldable pub ticket_put_at : Reader DssAsk
ticket_put_at ws = do
  ticket ← identifier_at ws
  base ← base_at ticket.rest
  area ← volume_at base.rest
  Ok (read (TicketPut ticket.value area.value base.value) area.rest)

-- `tget TICKET`
unfoldable pub ticket_get_at : Reader DssAsk
ticket_get_at ws = do
  ticket ← identifier_at ws
  Ok (read (TicketGet ticket.value) ticket.rest)

-- `tremove TICKET VERSION`
unfoldable pub ticket_remove_at : Reader DssAsk
ticket_remove_at ws = do
  ticket ← identifier_at ws
  version ← count_at ticket.rest
  Ok (read (TicketRemove ticket.value version.value) version.rest)

-- the call, by its word
abbrev pub ask_of : List ℕ → Reader DssAsk
ask_of call ws = if bytes_eq call (codes "query") then query_at ws
    else (if bytes_eq call (codes "get") then get_at ws
    else (if bytes_eq call (codes "put") then put_at ws
    else (if bytes_eq call (codes "remove") then remove_at ws
    else (if bytes_eq call (codes "tput") then ticket_put_at ws
    else (if bytes_eq call (codes "tget") then ticket_get_at ws
    else (if bytes_eq call (codes "tremove") then ticket_remove_at ws else Err BadLine))))))

unfoldable pub ask_at : Reader DssAsk
ask_at ws = do
  call ← word_at ws
  ask_of call.value call.rest

unfoldable pub discover_line : List ℕ → Result DiscoverLine WordRefusal
discover_line line = do
  client ← name_at (words_of line)
  ask ← ask_at client.rest
  _ ← end_at ask.rest
  Ok (record { client = client.value; ask = ask.value })

-- 64 MiB at the most; else the calls of the lines, or the refusal of the first line that is refused
unfoldable pub discover_script : List ℕ → Result (List DiscoverLine) ScriptRefusal
discover_script text = if nat_lt most_bytes (length text) then Err TextTooLarge else each_behind discover_line 0 (lines_of text)
