-- What a token does to one row of a server, or to a client's step, and what is answered. A case that comes in
-- no run of clients has no change.
use Rattle.std.specs.Prelude.{ℕ, ◌+◌, nat_lt, nat_le, nat_eq, ◌&&◌, ◌||◌, if◌then◌else◌, Bool}
use Rattle.mailbox_rules.specs.Requests.{Command, Begins, Audits, Settles, Line}
use Rattle.token_rules.specs.Tokens.{Row, row, Phase, Deposited, Begun, Proved, Audited, Done, Waiting}
use Rattle.token_rules.specs.Tokens.{Challenged, Auditing}

-- The helper

pub data HelperSays : Type 0 where
  HelperNothing : HelperSays
  HelperLater : HelperSays
  HelperHeldDeposit : HelperSays
  HelperHeldProof : HelperSays

pub record HelperStep : Type 0 where
  pub row : Row
  pub says : HelperSays

abbrev pub helper_step : Row → HelperSays → HelperStep
helper_step r says = record { row = r; says = says }

-- The first deposit of a serial stands: a repeat is answered, and its content is ignored.
unfoldable pub deposit_step : ℕ → Row → HelperStep
deposit_step serial r =
    if nat_lt serial r.serial then helper_step r HelperLater else
    if nat_eq serial r.serial then helper_step r HelperHeldDeposit else
    helper_step (row serial Deposited) HelperHeldDeposit

unfoldable pub helper_proof_at : Phase → Row → HelperStep
helper_proof_at Begun r = helper_step (row r.serial Proved) HelperHeldProof
helper_proof_at Proved r = helper_step r HelperHeldProof
helper_proof_at Audited r = helper_step r HelperHeldProof
helper_proof_at Done r = helper_step r HelperHeldProof
helper_proof_at phase r = helper_step r HelperNothing

unfoldable pub helper_proof_step : ℕ → Row → HelperStep
helper_proof_step serial r =
    if nat_eq serial r.serial then helper_proof_at r.phase r else helper_step r HelperLater

-- the row after a command that the helper carried out
abbrev pub carried_phase : Command → Phase
carried_phase Begins = Begun
carried_phase Audits = Audited
carried_phase command = Done

abbrev pub carried_row : Line → Row
carried_row line = row line.serial (carried_phase line.command)

-- Commands are carried out in the order of their numbers alone. The replies to the last ones, as many as the
-- window, are kept.
pub data Arrival : Type 0 where
  Next : Arrival
  Kept : Arrival
  Passed : Arrival

unfoldable pub arrival_of : ℕ → ℕ → ℕ → Arrival
arrival_of window carried number =
    if nat_eq number (carried + 1) then Next else
    if nat_le number carried && nat_lt carried (number + window) then Kept else Passed

-- The leader

pub data LeaderSays : Type 0 where
  LeaderNothing : LeaderSays
  LeaderLater : LeaderSays
  LeaderKept : LeaderSays
  LeaderIssues : (command : Command) → LeaderSays

pub record LeaderStep : Type 0 where
  pub row : Row
  pub says : LeaderSays

abbrev pub leader_step : Row → LeaderSays → LeaderStep
leader_step r says = record { row = r; says = says }

-- while a command of the row is outstanding there is no kept reply
abbrev pub repeat_says : Phase → LeaderSays
repeat_says Challenged = LeaderKept
repeat_says Done = LeaderKept
repeat_says phase = LeaderNothing

-- The first submission of a serial stands. Where the window is full the client is to come again.
unfoldable pub submission_step : Bool → ℕ → Command → Row → LeaderStep
submission_step full serial command r =
    if nat_lt serial r.serial then leader_step r LeaderLater else
    if nat_eq serial r.serial then leader_step r (repeat_says r.phase) else
    if full then leader_step r LeaderLater else
    leader_step (row serial Waiting) (LeaderIssues command)

unfoldable pub leader_proof_at : Bool → Phase → Row → LeaderStep
leader_proof_at full Challenged r =
    if full then leader_step r LeaderLater else leader_step (row r.serial Auditing) (LeaderIssues Audits)
leader_proof_at full phase r = leader_step r (repeat_says phase)

unfoldable pub leader_proof_step : Bool → ℕ → Row → LeaderStep
leader_proof_step full serial r =
    if nat_eq serial r.serial then leader_proof_at full r.phase r else leader_step r LeaderLater

-- The reply to the oldest outstanding command. That of an audit has the settle issued at once.
unfoldable pub reply_step : ℕ → Command → LeaderStep
reply_step serial Begins = leader_step (row serial Challenged) LeaderKept
reply_step serial Audits = leader_step (row serial Auditing) (LeaderIssues Settles)
reply_step serial command = leader_step (row serial Done) LeaderKept

-- A client, who knows what it heard of its current request. Its steps are: deposit, submission, proof to the
-- helper, proof to the leader.

pub data ClientHears : Type 0 where
  HeardHeldDeposit : ClientHears
  HeardChallenge : ClientHears
  HeardHeldProof : ClientHears
  HeardAnswer : ClientHears

pub data ClientDoes : Type 0 where
  Stays : ClientDoes
  GoesOn : ClientDoes
  Finishes : ClientDoes

unfoldable pub client_does : ClientHears → ℕ → ClientDoes
client_does HeardHeldDeposit step = if nat_eq step 1 then GoesOn else Stays
client_does HeardChallenge step = if nat_eq step 2 then GoesOn else Stays
client_does HeardHeldProof step = if nat_eq step 3 then GoesOn else Stays
client_does HeardAnswer step = if nat_eq step 2 || nat_eq step 4 then Finishes else Stays
