-- The ideal experiment of a whole run at one honest server: the other server, all clients but the honest
-- ones, and the net are the adversary. Of each honest client's write a choice is given, and of each read the
-- honest server's mask. The viewer is the adversary's server: 0 is the leader, 1 the helper.
-- Source of the form: Boyle, Gilboa and Ishai, "Function Secret Sharing: Improvements and Extensions", CCS
-- 2016, section 3 (the ideal experiment of one key); Goldreich, "Foundations of Cryptography" II, section
-- 7.2.3 (a malicious party's view of an execution).
use Rattle.std.specs.Prelude.{ℕ, ◌-◌, ◌==◌, ◌&&◌, if◌then◌else◌, Bool, bytes_eq, List, [], Option}
use Rattle.std.specs.Prelude.{Some, None, slice_get}
use Rattle.express_words.specs.Bytes.{xor_bytes}
use Rattle.frame_rules.specs.Frames as frame
use Rattle.frame_rules.specs.Frames.{PlainFrame, PlainBody}
use Rattle.frame_rules.specs.Spelling.{spelling}
use Rattle.dpf_rules.specs.Walk.{leaf_of}
use Rattle.write_hiding.specs.Choices.{PlainChoice, PlainAim, PlainGame}
use Rattle.write_hiding.specs.Views.{public_part, other_leaf, other_share}
use Rattle.write_hiding.specs.Moved.{moved}
use Rattle.step_rules.specs.Boxes.{Box}
use Rattle.step_hiding.specs.Worlds as world
use Rattle.step_hiding.specs.Worlds.{Leaves, World}

-- an honest client's write: what is chosen of it, where it is aimed, and the game in which it is audited
pub record HonestWrite : Type 0 where
  pub choice : PlainChoice
  pub aim : PlainAim
  pub game : PlainGame

-- the honest client's write of a lane and a serial, if that is one
abbrev pub Writes : Type 0
Writes = (lane serial : ℕ) → Option HonestWrite

-- its own public part, and its root at the honest server
abbrev pub is_own : ℕ → HonestWrite → (part : List ℕ) → (root : ℕ) → Bool
is_own viewer w part root =
    bytes_eq part (public_part viewer w.choice w.aim) && (root == w.choice.other_root)

-- the honest server's leaves: those of an honest write's choice, and the program's of any other
abbrev pub leaves_of : ℕ → Option HonestWrite → Leaves
leaves_of viewer (Some w) part root address =
    if is_own viewer w part root
    then other_leaf viewer w.choice w.aim address
    else leaf_of part (1 - viewer) root address
leaves_of viewer None part root address = leaf_of part (1 - viewer) root address

-- where this mask is drawn, should a box be read now
abbrev pub world_of : ℕ → Writes → List ℕ → World
world_of viewer writes mask = record {
  leaf = λ lane serial. leaves_of viewer (writes lane serial);
  mask = λ key lane serial width. mask;
}

-- ---- what comes

-- Any bytes on a client's connection; an honest client's proof, of its write's lane and serial; any bytes on
-- the link, with the mask that is drawn; or the link comes up again. An honest client's other frames are the
-- same for any aim, so they are among any bytes.
pub data Event : Type 0 where
  FromAnybody : (bytes : List ℕ) → Event
  Proves : (lane serial : ℕ) → Event
  FromLink : (bytes mask : List ℕ) → Event
  LinkUp : Event

-- the proof that an honest client sends to the honest server
abbrev pub proof_frame : (viewer lane serial : ℕ) → HonestWrite → PlainFrame
proof_frame viewer lane serial w = record {
  lane = lane;
  serial = serial;
  link = 0;
  body = frame.Proof (other_share viewer w.choice w.aim w.game);
}

abbrev pub proof_bytes : (viewer lane serial : ℕ) → Option HonestWrite → List ℕ
proof_bytes viewer lane serial (Some w) = spelling (proof_frame viewer lane serial w)
proof_bytes viewer lane serial None = []

abbrev pub come : ℕ → Writes → Event → world.Event
come viewer writes (FromAnybody bytes) = world.FromClient bytes
come viewer writes (Proves lane serial) =
    world.FromClient (proof_bytes viewer lane serial (writes lane serial))
come viewer writes (FromLink bytes mask) = world.FromLink bytes
come viewer writes LinkUp = world.LinkUp

abbrev pub drawn_at : Event → List ℕ
drawn_at (FromLink bytes mask) = mask
drawn_at event = []

-- the world at an event
abbrev pub world_at : ℕ → Writes → Event → World
world_at viewer writes event = world_of viewer writes (drawn_at event)

-- ---- other aims

-- other aims of the honest writes, by lane and serial
abbrev pub Aims : Type 0
Aims = (lane serial : ℕ) → PlainAim

-- the move of one write
abbrev pub moved_to : ℕ → HonestWrite → PlainAim → HonestWrite
moved_to viewer w to = record w { choice = moved viewer w.choice w.aim to w.game; aim = to }

abbrev pub write_moved : ℕ → Option HonestWrite → PlainAim → Option HonestWrite
write_moved viewer (Some w) to = Some (moved_to viewer w to)
write_moved viewer None to = None

abbrev pub writes_moved : ℕ → Writes → Aims → Writes
writes_moved viewer writes to lane serial = write_moved viewer (writes lane serial) (to lane serial)

-- A mask moves by what the shares of the box that is read differ in, here and there.
abbrev pub mask_by : Option Box → Option Box → List ℕ → List ℕ
mask_by (Some box) (Some twin) mask = xor_bytes mask (xor_bytes box.share twin.share)
mask_by box twin mask = mask

-- the box that a command reads
abbrev pub number_in : PlainBody → Option ℕ
number_in (frame.LinkRead number) = Some number
number_in (frame.LinkRetire number) = Some number
number_in command = None

abbrev pub mask_at : (here there : List Box) → Option ℕ → List ℕ → List ℕ
mask_at here there (Some number) mask = mask_by (slice_get here number) (slice_get there number) mask
mask_at here there None mask = mask

-- by the command, if there is one
abbrev pub mask_moved : (here there : List Box) → Option PlainFrame → List ℕ → List ℕ
mask_moved here there (Some command) mask = mask_at here there (number_in command.body) mask
mask_moved here there None mask = mask
