-- What ChaCha20 (RFC 8439, sections 2.1 to 2.3) expands a key of 32 bytes into: slices of its whole stream
-- of bytes, with Bernstein's layout of the last four words, a 64-bit block counter and a 64-bit stream
-- number.
use Rattle.std.specs.Prelude.{ℕ, ◌+◌, ◌*◌, ◌/◌, ◌%◌, ◌^◌, List, ◌++◌, map, replicate}
use Rattle.std.specs.List.{range_with_len}
use Rattle.rand_chacha.specs.ChaCha.{word_at, key_of}
use Rattle.dpf_rules.specs.Bytes.{number_of, bytes_of}

-- byte n of a key's stream: its words one after another, each with its low byte first
unfoldable pub stream_byte : List ℕ → ℕ → ℕ → ℕ
stream_byte key stream n = word_at 10 (key_of key) stream (n / 4) / 256 ^ (n % 4) % 256

-- n bytes of a key's stream from a place on
unfoldable pub stream_bytes : List ℕ → ℕ → ℕ → ℕ → List ℕ
stream_bytes key stream from n = map (stream_byte key stream) (range_with_len from n)

-- 16 bytes of a key's stream from a place on, as a number
abbrev pub stream_number : List ℕ → ℕ → ℕ → ℕ
stream_number key stream from = number_of (stream_bytes key stream from 16)

-- ---- the point function's tree: a state is a seed of 127 bits over a control bit, which is bit 0

-- a number with bit 0 replaced
abbrev pub with_bit : ℕ → ℕ → ℕ
with_bit x bit = x / 2 * 2 + bit

-- the key of a node: its state with bit 0 cleared, and 16 zero bytes
unfoldable pub node_key : ℕ → List ℕ
node_key state = bytes_of 16 (with_bit state 0) ++ replicate 16 0

-- the raw child of a state on a side: 0 is left, 1 is right
unfoldable pub child : ℕ → ℕ → ℕ
child state side = stream_number (node_key state) 0 (16 * side)

-- the first n bytes of a state's block
unfoldable pub block : ℕ → ℕ → List ℕ
block n state = stream_bytes (node_key state) 1 0 n

-- ---- what servers and clients draw

-- draw i of a seed
abbrev pub draw32 : List ℕ → ℕ → List ℕ
draw32 seed i = stream_bytes seed i 0 32

-- the key of a server, 0 or 1, in the box that an owner registers with a serial
abbrev pub owner_key : List ℕ → ℕ → ℕ → List ℕ
owner_key seed serial server = stream_bytes seed serial (32 * server) 32

-- word k of the sixteen that a write of a serial is made of
abbrev pub choice : List ℕ → ℕ → ℕ → ℕ
choice seed serial k = stream_number seed serial (16 * k)

-- the challenge at an address: the address's low half is the stream, its high half counts blocks of 64 bytes
abbrev pub challenge_r : List ℕ → ℕ → ℕ
challenge_r ckey address = stream_number ckey (address % 2 ^ 64) (64 * (address / 2 ^ 64))

abbrev pub challenge_s : List ℕ → ℕ → ℕ
challenge_s ckey address = stream_number ckey (address % 2 ^ 64) (64 * (address / 2 ^ 64) + 16)

-- ---- reads

-- the stream of a lane's read of a serial
abbrev pub read_stream : ℕ → ℕ → ℕ
read_stream lane serial = lane * 2 ^ 32 + serial

-- the token of a read under a box's key at a server
abbrev pub token : List ℕ → ℕ → ℕ → ℕ
token key lane serial = stream_number key (read_stream lane serial) 0

-- n bytes of the mask of a read
abbrev pub mask : List ℕ → ℕ → ℕ → ℕ → List ℕ
mask key lane serial n = stream_bytes key (read_stream lane serial) 16 n
