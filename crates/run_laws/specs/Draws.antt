-- What is drawn in a run: slices of streams, no two of which have a byte in common.
use Rattle.std.specs.Prelude.{◌≡◌, ◌≢◌, ◌⊎◌, ℕ, ◌+◌, ◌<◌, ◌≤◌, true, List, Some, slice_get, slice_index_or}
use Rattle.dpf_rules.specs.Bytes.{number_of}
use Rattle.dpf_rules.specs.Expansion.{draw32, stream_bytes}
use Rattle.mailbox_rules.specs.Requests.{Entry, Line, Register, Write}
use Rattle.token_rules.specs.Tokens.{World}
use Rattle.step_rules.specs.ClientAsks.{words}
use Rattle.run_rules.specs.Book.{Book, client_at, has_begun, helpers_draw, is_drawn, leaders_draw, request_of}
use Rattle.run_rules.specs.Letters.{FrameWorld}
use Rattle.run_rules.specs.Values.{key_at, root_at}

-- So many bytes from a place on, of a stream of one of the keys that a run's seed is expanded into: key 0 is
-- the leader's seed, key c + 1 that of client c, key 257 the helper's.
pub record Slice : Type 0 where
  pub key : ℕ
  pub stream : ℕ
  pub from : ℕ
  pub size : ℕ

abbrev pub bytes_of_slice : List ℕ → Slice → List ℕ
bytes_of_slice seed s = stream_bytes (draw32 seed s.key) s.stream s.from s.size

-- no byte of the one is a byte of the other
abbrev pub AreApart : Slice → Slice → Type 0
AreApart s t =
    (s.key ≢ t.key) ⊎ (s.stream ≢ t.stream) ⊎ (s.from + s.size ≤ t.from) ⊎ (t.from + t.size ≤ s.from)

-- What is drawn: a word of the sixteen that a client's write of a serial is made of, of which words 0 and 1
-- are the roots; the key at a server of the box that a client registers with a serial; the leader's draw for
-- the command in a place, and the helper's for the entry in a place.
pub data Drawn : Type 0 where
  Word : (client serial number : ℕ) → Drawn
  Key : (client serial server : ℕ) → Drawn
  LeadersDraw : (place : ℕ) → Drawn
  HelpersDraw : (place : ℕ) → Drawn

-- The run draws it: for a write, a register, a begin or audit that the leader issues, a begin that the helper
-- carries out.
abbrev pub IsDrawnIn : Book → Drawn → Type 0
IsDrawnIn b (Word c serial k) =
    (k < 16) × (c < b.settings.lanes)
    × ((target : ℕ) × (message : List ℕ) × (request_of b c serial ≡ Some (Write target message)))
IsDrawnIn b (Key c serial server) =
    (server < 2) × (c < b.settings.lanes)
    × ((address : ℕ) × (request_of b c serial ≡ Some (Register address)))
IsDrawnIn b (LeadersDraw i) = (x : Line) × (slice_get b.commands i ≡ Some x) × (is_drawn x ≡ true)
IsDrawnIn b (HelpersDraw i) =
    (e : Entry) × (slice_get b.entries i ≡ Some e) × (has_begun e.does ≡ true)

-- these are its bytes in the run
abbrev pub IsDrawnAs : Book → Drawn → List ℕ → Type 0
IsDrawnAs b (Word c serial k) bytes =
    (slice_index_or (words (client_at b c serial)) k 0 ≡ number_of bytes)
    × (k < 2 → root_at b k c serial ≡ number_of bytes)
IsDrawnAs b (Key c serial server) bytes = key_at b server c serial ≡ bytes
IsDrawnAs b (LeadersDraw i) bytes = leaders_draw b i ≡ bytes
IsDrawnAs b (HelpersDraw i) bytes = helpers_draw b i ≡ bytes

-- Each draw of a run is a slice, and the slices of two draws are apart: of two clients, of two serials of
-- one, of two words of a write, of both roots, of both keys of a box, of two begins or audits at either
-- server.
pub record DrawsAreApart (b : Book) (f : FrameWorld) (w : World) : Type 0 where
  pub slice : Drawn → Slice
  pub is : (x : Drawn) → IsDrawnIn b x → IsDrawnAs b x (bytes_of_slice b.seed (slice x))
  pub apart : (x y : Drawn) → x ≢ y → IsDrawnIn b x → IsDrawnIn b y → AreApart (slice x) (slice y)
