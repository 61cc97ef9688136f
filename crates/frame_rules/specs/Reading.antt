-- Reading a frame from the front of bytes, field by field in the order of judging, up to the first wrong one.
use Rattle.std.specs.Prelude.{ℕ, ◌+◌, ◌-◌, ◌&&◌, ◌||◌, List, length, drop, Option, Some, None, Result, Ok}
use Rattle.std.specs.Prelude.{Err, nat_le, ◌==◌, not, if◌then◌else◌}
use Rattle.std.specs.Int.{w8, w16, w32, w64}
use Rattle.frame_rules.specs.declared.fault.FrameFault.{FrameFault}
use Rattle.frame_rules.specs.declared.fault.FrameFault.TheVariants.{Malformed, Version}
use Rattle.frame_rules.specs.declared.kind.Kind.{Kind}
use Rattle.frame_rules.specs.declared.frame.Frame.{Frame}
use Rattle.frame_rules.specs.Frames.{PlainFrame, plain}
use Rattle.frame_rules.specs.Kinds.{kind_numbered, version_of, is_linked, is_refused}
use Rattle.frame_rules.specs.Forms.{◌>>=◌, Gives, number_at}
use Rattle.frame_rules.specs.Bodies.{body_in}

-- the bytes after the length: 17 to 8,209
unfoldable pub length_in : List ℕ → Result ℕ FrameFault
length_in bytes = do
  length ← number_at w32 0 bytes
  if nat_le 17 length && nat_le length 8209 then Ok length else Err (Malformed 0)

-- the version: 1 or 2
unfoldable pub version_in : List ℕ → Result ℕ FrameFault
version_in bytes = do
  version ← number_at w8 4 bytes
  if version == 1 || version == 2 then Ok version else Err (Version version)

-- a kind of this version
abbrev pub kind_with : ℕ → Option Kind → Result Kind FrameFault
kind_with version None = Err (Malformed 5)
kind_with version (Some kind) = if version_of kind == version then Ok kind else Err (Malformed 5)

unfoldable pub kind_in : ℕ → List ℕ → Result Kind FrameFault
kind_in version bytes = do
  number ← number_at w8 5 bytes
  kind_with version (kind_numbered number)

-- the serial: at least 1, but for the moment any in Refused
unfoldable pub serial_in : Kind → List ℕ → Result ℕ FrameFault
serial_in kind bytes = do
  serial ← number_at w32 8 bytes
  if serial == 0 && not (is_refused kind) then Err (Malformed 8) else Ok serial

-- the link number: 0 between a client and a server, at least 1 between the servers
unfoldable pub link_in : Kind → List ℕ → Result ℕ FrameFault
link_in kind bytes = do
  link ← number_at w64 12 bytes
  if (if is_linked kind then link == 0 else not (link == 0)) then Err (Malformed 12) else Ok link

-- the header, with the number of bytes that its length leaves for the body
pub record Header : Type 0 where
  pub kind : Kind
  pub lane : ℕ
  pub serial : ℕ
  pub link : ℕ
  pub left : ℕ

unfoldable pub header_in : List ℕ → Result Header FrameFault
header_in bytes = do
  length ← length_in bytes
  version ← version_in bytes
  kind ← kind_in version bytes
  lane ← number_at w16 6 bytes
  serial ← serial_in kind bytes
  link ← link_in kind bytes
  Ok (record { kind = kind; lane = lane; serial = serial; link = link; left = length - 16 })

-- the frame that begins the bytes, with its length, or the first wrong field,
-- or that the bytes end before the frame does
unfoldable pub decoded : List ℕ → Result (PlainFrame × ℕ) FrameFault
decoded bytes = do
  h ← header_in bytes
  body ← body_in h.kind h.lane h.serial h.left (drop 20 bytes)
  Ok (record { lane = h.lane; serial = h.serial; link = h.link; body = body }, 20 + h.left)

-- what decoding answered is what reading gives
abbrev pub Reads : Result (Frame × ℕ) FrameFault → Result (PlainFrame × ℕ) FrameFault → Type 0
Reads result read = Gives (λ x. (plain x.0, x.1)) result read
