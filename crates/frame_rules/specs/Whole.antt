-- Bytes that should be exactly one frame, its class and width, and the frames that answer it.
use Rattle.std.specs.Prelude.{◌≡◌, ℕ, ◌+◌, ◌≤◌, ◌==◌, ◌&&◌, Bool, true, false, if◌then◌else◌}
use Rattle.std.specs.Prelude.{List, length, Option, Some, None, Result, Ok, Err}
use Rattle.express_words.specs.declared.refusal.Refusal.{Refusal}
use Rattle.express_words.specs.declared.refusal.Refusal.TheVariants as refusal
use Rattle.frame_rules.specs.declared.fault.FrameFault.{FrameFault}
use Rattle.frame_rules.specs.declared.fault.FrameFault.TheVariants as fault
use Rattle.frame_rules.specs.Frames as frame
use Rattle.frame_rules.specs.Frames.{PlainFrame, PlainBody}
use Rattle.frame_rules.specs.Kinds.{is_linked}
use Rattle.express_words.specs.Limits.{levels_len}
use Rattle.frame_rules.specs.Spelling.{kind_of, IsAddressed, IsBody}
use Rattle.frame_rules.specs.Reading.{decoded}

-- ---- exactly one frame

-- by what reading so many bytes gives
-- bytes that end early are wrong where they end, and bytes behind a frame where the frame ends
unfoldable pub whole_of : ℕ → Result (PlainFrame × ℕ) FrameFault → Result PlainFrame Refusal
whole_of count (Err (fault.Version version)) = Err (refusal.Version version)
whole_of count (Err (fault.Malformed place)) = Err (refusal.Malformed place)
whole_of count (Err fault.Short) = Err (refusal.Malformed count)
whole_of count (Ok found) = if found.1 == count then Ok found.0 else Err (refusal.Malformed found.1)

-- the frame that the bytes are, or what a server refuses of them
abbrev pub whole : List ℕ → Result PlainFrame Refusal
whole bytes = whole_of (length bytes) (decoded bytes)

-- ---- widths

-- a public part for messages of this width
abbrev pub is_part : ℕ → List ℕ → Bool
is_part width part = length part == levels_len + width

-- what the body has of a message's width has this one
abbrev pub has_width : ℕ → PlainBody → Bool
has_width width (frame.Write root part) = is_part width part
has_width width (frame.LinkBegin ckey part) = is_part width part
has_width width (frame.Message zero one) = length zero == width
has_width width (frame.LinkReply (frame.ReplyMasked share)) = length share == width
has_width width body = true

-- ---- classes

-- from a client to a server
abbrev pub is_from_client : PlainBody → Bool
is_from_client (frame.Deposit deposit) = true
is_from_client (frame.Register address key) = true
is_from_client (frame.Write root part) = true
is_from_client (frame.Read box_number token) = true
is_from_client (frame.Proof share) = true
is_from_client (frame.Retire box_number token) = true
is_from_client body = false

-- from the leader to the helper
abbrev pub is_command : PlainBody → Bool
is_command (frame.LinkRegister address) = true
is_command (frame.LinkBegin ckey part) = true
is_command (frame.LinkAudit sigma opened) = true
is_command (frame.LinkSettle closing) = true
is_command (frame.LinkRead box_number) = true
is_command (frame.LinkRetire box_number) = true
is_command body = false

-- from the helper to the leader
abbrev pub is_reply : PlainBody → Bool
is_reply (frame.LinkReply reply) = true
is_reply (frame.LinkBegun count draw) = true
is_reply body = false

-- a frame of the class and the width; all else on the link is ignored
abbrev pub if_linked : (PlainBody → Bool) → ℕ → Result PlainFrame Refusal → Option PlainFrame
if_linked class width (Ok f) = if class f.body && has_width width f.body then Some f else None
if_linked class width (Err r) = None

unfoldable pub linked : (PlainBody → Bool) → ℕ → List ℕ → Option PlainFrame
linked class width bytes = if_linked class width (whole bytes)

-- ---- answers

-- to bytes that are no frame that is taken
abbrev pub refused_bytes : Refusal → PlainFrame
refused_bytes r = record { lane = 0; serial = 0; link = 0; body = frame.Refused r }

-- to a client's frame, with its lane and serial
abbrev pub answer : PlainFrame → PlainBody → PlainFrame
answer f body = record { lane = f.lane; serial = f.serial; link = 0; body = body }

-- on the link under this number, with the lane and serial of the frame that it follows
abbrev pub on_link : PlainFrame → ℕ → PlainBody → PlainFrame
on_link f number body = record { lane = f.lane; serial = f.serial; link = number; body = body }

-- what may answer a client's frame: nothing of the link, and no refusal of bytes that are no frame
pub record IsAnswer (body : PlainBody) : Type 0 where
  pub unlinked : is_linked (kind_of body) ≡ false
  pub addressed : (lane serial : ℕ) → 1 ≤ serial → IsAddressed body lane serial
  pub is_body : IsBody body
