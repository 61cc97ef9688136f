-- What goes over the link between two servers: packets, each a record that who takes it may log, behind its length.
use Rattle.std.specs.Prelude.{ℕ, ◌+◌, ◌==◌, nat_le, nat_lt, List, [], ◌∷◌, ◌++◌, length, take, drop, Option, Some, None, if◌then◌else◌}
use Rattle.std.specs.Int.{w16, w32, to_be_bytes, from_be_bytes}
use Rattle.many_conns.specs.declared.said.Key.{Key}

-- the length in two bytes, big-endian, and the bytes
abbrev pub packet : List ℕ → List ℕ
packet bytes = to_be_bytes w16 (length bytes) ++ bytes

-- the longest record of a frame
abbrev pub record_max : ℕ
record_max = 8214

-- a length that no packet has makes all that came one packet, which nobody takes
abbrev pub end_if : ℕ → List ℕ → Option ℕ
end_if n held =
    if nat_lt record_max n then Some (length held) else
    (if nat_le (2 + n) (length held) then Some (2 + n) else None)

-- how many bytes the first packet has, if it is whole
abbrev pub packet_end : List ℕ → Option ℕ
packet_end held = if nat_le 2 (length held) then end_if (from_be_bytes w16 (take 2 held)) held else None

-- the record that a packet carries
abbrev pub carried : List ℕ → List ℕ
carried bytes = drop 2 bytes

-- ---- the helper tells that it has a lease

abbrev pub key_bytes : Key → List ℕ
key_bytes key = to_be_bytes w16 key.lane ++ to_be_bytes w32 key.serial

abbrev pub leased_record : Key → List ℕ
leased_record key = 22 ∷ key_bytes key

abbrev pub key_in : List ℕ → Key
key_in rest = record { lane = from_be_bytes w16 (take 2 rest); serial = from_be_bytes w32 (drop 2 rest) }

abbrev pub leased_in : List ℕ → Option Key
leased_in [] = None
leased_in (tag ∷ rest) = if tag == 22 then (if length rest == 6 then Some (key_in rest) else None) else None
