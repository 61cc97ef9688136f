-- The line of an owner's server, as a function from what it says: WORD PLACE KEY.
use Rattle.std.specs.Prelude.{ℕ, ◌-◌, if◌then◌else◌, List, length, take, drop, codes, Option, Some, None}
use Rattle.std.specs.Result.{result_ok}
use Rattle.std.specs.Str.{bytes_eq}
use Rattle.hex.specs.Hex.{encode_lower, decode_sized}
use Rattle.express_texts.specs.LineFields.{◌>>=◌, after}
use Rattle.lane_gate.specs.declared.ticket.Ticket.{Ticket}
use Rattle.desk_texts.specs.Places.{is_place}
use Rattle.desk_sheets.specs.declared.sheet.OwnersServer.{OwnersServer}

-- two hexadecimal digits a byte, in lower case
abbrev pub key_digits : Ticket → List ℕ
key_digits key = encode_lower key.0

-- the sixteen bytes that 32 such digits spell
unfoldable pub key_of : List ℕ → Option Ticket
key_of text = do
  digits ← after (codes " ") text
  bytes ← result_ok (decode_sized digits 16)
  if bytes_eq digits (encode_lower bytes) then Some (record { 0 = bytes }) else None

-- where the place is one
abbrev pub keyed : List ℕ → Ticket → Option OwnersServer
keyed place key = if is_place place then Some (record { place = place; key = key }) else None

-- the place, and in the last 33 bytes the key
unfoldable pub server_of : List ℕ → List ℕ → Option OwnersServer
server_of word content = do
  rest ← after word content
  key ← key_of (drop (length rest - 33) rest)
  keyed (take (length rest - 33) rest) key
