-- What the helper answers to the leader's commands.
use Rattle.std.specs.Prelude.{◌≡◌, ◌++◌, ◌∷◌, ℕ, suc, List, [], length, take, Ok, Some, slice_get}
use Rattle.frame_rules.specs.Frames.{PlainFrame}
use Rattle.frame_rules.specs.Spelling.{spelling}
use Rattle.frame_rules.specs.Whole.{on_link, whole}
use Rattle.step_rules.specs.Helper.{Server, opened_helper}
use Rattle.step_rules.specs.HelperClients.{client_turn}
use Rattle.step_rules.specs.HelperCommands.{carries_out}
use Rattle.run_rules.specs.Letters.{FrameWorld, JournalLine, Letter, ToHelper, ToHelperLink}
use Rattle.run_rules.specs.Letters.{ToLeaderLink, helper_seed, letter}
use Rattle.run_rules.specs.Run.{value_of}
use Rattle.schedule_text.specs.declared.schedule.Schedule.{Schedule}
use Rattle.replay_world.specs.Played.{run_of}

-- one of these replies, as bytes
abbrev pub IsOneOf : List PlainFrame → List ℕ → Type 0
IsOneOf replies bytes =
    (i : ℕ) × (reply : PlainFrame) × (slice_get replies i ≡ Some reply) × (bytes ≡ spelling reply)

-- What the helper heard: bytes from a client, or the leader's next command.
pub data Heard : Type 0 where
  FromClient : (bytes : List ℕ) → Heard
  Ordered : (command : PlainFrame) → Heard

-- its server after that, and the reply to a command
abbrev pub after : Server → Heard → Server
after h (FromClient bytes) = (client_turn h bytes).server
after h (Ordered command) = (carries_out h command).server

abbrev pub reply_to : Server → Heard → List PlainFrame
reply_to h (FromClient bytes) = []
reply_to h (Ordered command) = on_link command command.link (carries_out h command).body ∷ []

-- so one after the other
unfoldable pub after_all : Server → List Heard → Server
after_all h [] = h
after_all h (x ∷ xs) = after_all (after h x) xs

unfoldable pub replies_to : Server → List Heard → List PlainFrame
replies_to h [] = []
replies_to h (x ∷ xs) = reply_to h x ++ replies_to (after h x) xs

-- it was sent to the helper
abbrev pub WasSent : List Letter → Heard → Type 0
WasSent pool (FromClient bytes) = (i : ℕ) × (slice_get pool i ≡ Some (letter ToHelper bytes))
WasSent pool (Ordered command) =
    (i : ℕ) × (bytes : List ℕ) × (slice_get pool i ≡ Some (letter ToHelperLink bytes))
    × (whole bytes ≡ Ok command)

abbrev pub AllSent : List Letter → List Heard → Type 0
AllSent pool [] = Unit {0}
AllSent pool (x ∷ xs) = WasSent pool x × AllSent pool xs

-- A line of the journal and its reply come of one command that was heard: the reply is the helper's step's at
-- the rows and boxes that all it had heard before led to, those that the command met, and the line tells
-- command and reply. So a refusal that is printed is the one that the leader is given, and of that very row.
pub record Met (first : Server) (heard : List Heard) (line : JournalLine) (reply : PlainFrame) : Type 0 where
  pub place : ℕ
  pub command : PlainFrame
  pub is : slice_get heard place ≡ Some (Ordered command)
  pub step : reply_to (after_all first (take place heard)) (Ordered command) ≡ reply ∷ []
  pub lane : line.lane ≡ command.lane
  pub serial : line.serial ≡ command.serial
  pub value : line.value ≡ value_of command.body reply.body

-- The helper stands where what it heard, frames that were sent to it, has led it. So each reply is its step's
-- at the rows and boxes that its command met. There is one reply to each command that it carried out, under
-- the command's number and as the journal tells it, and whenever one goes to the leader it is that one, byte
-- for byte.
pub record HasOneReply (first : Server) (f : FrameWorld) : Type 0 where
  pub heard : List Heard
  pub came : AllSent f.pool heard
  pub stands : f.helper.server ≡ after_all first heard
  pub replies : List PlainFrame
  pub are : replies ≡ replies_to first heard
  pub count : length replies ≡ f.helper.carried
  pub numbers : (i : ℕ) (reply : PlainFrame) → slice_get replies i ≡ Some reply → reply.link ≡ suc i
  pub lines : length f.journal ≡ f.helper.carried
  pub told : (i : ℕ) (line : JournalLine) (reply : PlainFrame) → slice_get f.journal i ≡ Some line
      → slice_get replies i ≡ Some reply → Met first heard line reply
  pub sent : (place : ℕ) (l : Letter) → slice_get f.pool place ≡ Some l → l.to ≡ ToLeaderLink
      → IsOneOf replies l.bytes

-- of every run, whatever lane a command is of and whatever bytes come from outside
abbrev pub RepliesAreOne : Type 0
RepliesAreOne = (schedule : Schedule)
    → HasOneReply (opened_helper schedule.header.settings (helper_seed schedule.header.seed)).server
    (run_of schedule)
