-- The invariant of a run, as one record. It holds at the start, and every event keeps it, whatever foreign
-- frames do (proofs/Events).
use Rattle.std.specs.Prelude.{◌≡◌, ℕ, ◌+◌, ◌*◌, ◌<◌, ◌≤◌, Bool, false, List, length, take, Some, slice_get}
use Rattle.mailbox_rules.specs.Requests.{Audits, Begins, Command, Line, Settles, lines_of, opens_with}
use Rattle.token_rules.specs.Tokens.{Answer, Answered, Challenge, Deposit, Foreign, HeldDeposit, HeldProof}
use Rattle.token_rules.specs.Tokens.{Injected, Lane, Later, NoOwnBox, Ordered, ProofToHelper, ProofToLeader}
use Rattle.token_rules.specs.Tokens.{Replied, Submission, Token, Told, World}
use Rattle.token_rules.specs.Run.{line_of}
use Rattle.token_rules.specs.Stages.{Checked, Checking, Fits, Invited, IsOpening, Opened, Opening, Proving}
use Rattle.token_rules.specs.Stages.{Served, Settled, Settling, Shown, Stage, Trusted, done, far, issued}
use Rattle.token_rules.specs.Stages.{past, rank}

-- what holds of each element
abbrev pub Each : {X : Type 0} → (X → Type 0) → List X → Type 0
Each {X} P xs = (i : ℕ) (x : X) → slice_get xs i ≡ Some x → P x

-- what the facts of a run speak of
pub record State : Type 0 where
  pub foreign : ℕ → Bool
  pub lanes : ℕ → Lane
  pub stages : ℕ → Stage
  pub commands : List Line
  pub carried : ℕ
  pub acknowledged : ℕ

abbrev pub state : World → (ℕ → Stage) → State
state w p = record {
  foreign = w.foreign;
  lanes = w.lanes;
  stages = p;
  commands = w.commands;
  carried = w.carried;
  acknowledged = w.acknowledged;
}

abbrev pub at : State → ℕ → ℕ
at w c = far (w.lanes c) (w.stages c)

-- the command of that number
pub record Numbered (w : State) (number : ℕ) (line : Line) : Type 0 where
  pub place : ℕ
  pub next : number ≡ place + 1
  pub is : slice_get w.commands place ≡ Some line

-- What a token of the pool tells. Nothing that happens makes it false.
abbrev pub Says : State → Token → Type 0
Says w (Deposit c s) = 32 * s + 1 ≤ at w c
Says w (Submission c s command) =
    (32 * s + 3 ≤ at w c) × (s ≡ (w.lanes c).serial → command ≡ (w.lanes c).opening)
Says w (ProofToHelper c s) = 32 * s + 7 ≤ at w c
Says w (ProofToLeader c s) = 32 * s + 9 ≤ at w c
Says w (Ordered number line) = Numbered w number line
Says w (Replied number line) = Numbered w number line × (number ≤ w.carried)
Says w (HeldDeposit c s) = 32 * s + 2 ≤ at w c
Says w (HeldProof c s) = 32 * s + 8 ≤ at w c
Says w (Challenge c s) = (32 * s + 6 ≤ at w c) × (s ≡ (w.lanes c).serial → (w.lanes c).opening ≡ Begins)
Says w (Answer c s) = 32 * s + 15 ≤ at w c
Says w (Later c s) = Unit {0}
Says w (Injected to_leader lane) = Unit {0}
Says w (Foreign c) = Unit {0}

-- a token of a client is one of an honest lane
abbrev pub IsFrom : (ℕ → Bool) → Token → Type 0
IsFrom foreign (Deposit c s) = foreign c ≡ false
IsFrom foreign (Submission c s command) = foreign c ≡ false
IsFrom foreign (ProofToHelper c s) = foreign c ≡ false
IsFrom foreign (ProofToLeader c s) = foreign c ≡ false
IsFrom foreign (HeldDeposit c s) = foreign c ≡ false
IsFrom foreign (HeldProof c s) = foreign c ≡ false
IsFrom foreign (Challenge c s) = foreign c ≡ false
IsFrom foreign (Answer c s) = foreign c ≡ false
IsFrom foreign token = Unit {0}

abbrev pub Claims : State → Token → Type 0
Claims w token = IsFrom w.foreign token × Says w token

-- the lane stands where this command leads it
pub record Now (lane : Lane) (here : Stage) (line : Line) (there : Stage) : Type 0 where
  pub serial : lane.serial ≡ line.serial
  pub stage : here ≡ there
  pub opening : lane.opening ≡ opens_with line.command

-- the command at that place, acknowledged, carried out, or outstanding
pub record Stands (w : State) (i : ℕ) (line : Line) : Type 0 where
  pub gone : i < w.acknowledged → 32 * line.serial + past line.command ≤ at w line.lane
  pub held : w.acknowledged ≤ i → i < w.carried
      → Now (w.lanes line.lane) (w.stages line.lane) line (done line.command)
  pub out : w.carried ≤ i → Now (w.lanes line.lane) (w.stages line.lane) line (issued line.command)

-- one command of the lane stands between these places
pub record Link (commands : List Line) (c m n : ℕ) : Type 0 where
  pub place : ℕ
  pub line : Line
  pub is : slice_get commands place ≡ Some line
  pub lane : line.lane ≡ c
  pub low : m ≤ place
  pub high : place < n

abbrev pub Linked : State → ℕ → Stage → Type 0
Linked w c Opening = Link w.commands c w.carried (length w.commands)
Linked w c Checking = Link w.commands c w.carried (length w.commands)
Linked w c Settling = Link w.commands c w.carried (length w.commands)
Linked w c Opened = Link w.commands c w.acknowledged w.carried
Linked w c Checked = Link w.commands c w.acknowledged w.carried
Linked w c Settled = Link w.commands c w.acknowledged w.carried
Linked w c stage = Unit {0}

-- a command that was acknowledged
pub record Has (w : State) (line : Line) : Type 0 where
  pub place : ℕ
  pub is : slice_get w.commands place ≡ Some line
  pub acknowledged : place < w.acknowledged

-- all commands of a request were acknowledged
abbrev pub HasAll : State → ℕ → ℕ → Command → Type 0
HasAll w c s Begins = Has w (line_of c s Begins) × Has w (line_of c s Audits) × Has w (line_of c s Settles)
HasAll w c s command = Has w (line_of c s command)

abbrev pub Made : State → ℕ → Lane → Stage → Type 0
Made w c lane Invited = Has w (line_of c lane.serial Begins)
Made w c lane Proving = Has w (line_of c lane.serial Begins)
Made w c lane Shown = Has w (line_of c lane.serial Begins)
Made w c lane Trusted = Has w (line_of c lane.serial Begins)
Made w c lane Checking = Has w (line_of c lane.serial Begins)
Made w c lane Checked = Has w (line_of c lane.serial Begins)
Made w c lane Settling = Has w (line_of c lane.serial Begins) × Has w (line_of c lane.serial Audits)
Made w c lane Settled = Has w (line_of c lane.serial Begins) × Has w (line_of c lane.serial Audits)
Made w c lane Served = HasAll w c lane.serial lane.opening
Made w c lane stage = Unit {0}

abbrev pub Backed : State → ℕ → Told → Type 0
Backed w c (Answered s opening) = IsOpening opening × HasAll w c s opening
Backed w c (NoOwnBox own) = Unit {0}

-- The invariant. The link's numbers are in order, and the journal is what was carried out. For each lane that
-- isn't foreign: it fits its stage; its commands stand where the stage says, in order; an outstanding command
-- of it is there where the stage says so; the commands of its request so far were acknowledged. Each token of
-- the pool tells the truth, and each outcome has its commands.
pub record Coherent (w : World) (p : ℕ → Stage) : Type 0 where
  pub room : 0 < w.window
  pub acknowledged : w.acknowledged ≤ w.carried
  pub carried : w.carried ≤ length w.commands
  pub window : length w.commands ≤ w.acknowledged + w.window
  pub journal : lines_of w.journal ≡ take w.carried w.commands
  pub fits : (c : ℕ) → w.foreign c ≡ false → Fits (w.lanes c) (p c)
  pub lines : (i : ℕ) (line : Line) → slice_get w.commands i ≡ Some line → w.foreign line.lane ≡ false
      → Stands (state w p) i line
  pub order : (i k : ℕ) (x y : Line) → i < k → slice_get w.commands i ≡ Some x
      → slice_get w.commands k ≡ Some y → x.lane ≡ y.lane → w.foreign x.lane ≡ false
      → 32 * x.serial + past x.command ≤ 32 * y.serial + rank (issued y.command)
  pub links : (c : ℕ) → w.foreign c ≡ false → Linked (state w p) c (p c)
  pub made : (c : ℕ) → w.foreign c ≡ false → Made (state w p) c (w.lanes c) (p c)
  pub pool : Each (Claims (state w p)) w.pool
  pub outcomes : Each (λ o. (w.foreign o.client ≡ false) × Backed (state w p) o.client o.told) w.outcomes
