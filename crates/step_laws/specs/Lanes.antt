-- A lane goes on, whatever became of its last request: a later one is taken at any state.
use Rattle.std.specs.Prelude.{◌≡◌, ℕ, ◌^◌, ◌-◌, ◌<◌, ◌≤◌, true, false, List, length, Ok, Some}
use Rattle.express_words.specs.declared.refusal.Refusal.{Refusal}
use Rattle.express_words.specs.declared.refusal.Refusal.TheVariants as refusal
use Rattle.frame_rules.specs.declared.frame.DepositBody.{DepositBody}
use Rattle.frame_rules.specs.Frames as frame
use Rattle.frame_rules.specs.Frames.{PlainFrame, PlainBody}
use Rattle.frame_rules.specs.Whole.{whole}
use Rattle.step_rules.specs.Client.{Client, Later, Current}
use Rattle.step_rules.specs.ClientReplies.{on_reply}
use Rattle.step_rules.specs.Helper as helper
use Rattle.step_rules.specs.Helper.{Deposited, Server}
use Rattle.step_rules.specs.HelperClients.{client_turn}
use Rattle.step_rules.specs.Leader as leader
use Rattle.step_rules.specs.Leader.{Leader}
use Rattle.step_rules.specs.LeaderClients.{on_client}
use Rattle.step_rules.specs.Needs.{NamesBox}
use Rattle.step_laws.specs.Causes.{HasNoRoom, is_busy, is_taken}

-- ---- the leader

-- a read or retire names a box that is there, by its token
abbrev pub NamesItsBox : Leader → PlainFrame → PlainBody → Type 0
NamesItsBox a f (frame.Read number held) = NamesBox a f number held
NamesItsBox a f (frame.Retire number held) = NamesBox a f number held
NamesItsBox a f body = Unit {0}

abbrev pub IsSubmission : PlainBody → Type 0
IsSubmission (frame.Proof share) = ⊥
IsSubmission body = Unit {0}

-- the submission of a request with a later serial than its lane's row, which isn't busy
pub record IsLater (a : Leader) (bytes : List ℕ) (f : PlainFrame) : Type 0 where
  pub read : whole bytes ≡ Ok f
  pub taken : is_taken a.settings.width f.body ≡ true
  pub submits : IsSubmission f.body
  pub lane : f.lane < a.settings.lanes
  pub later : (leader.row_at a f.lane).serial < f.serial
  pub rests : is_busy (leader.row_at a f.lane).stage ≡ false
  pub box : NamesItsBox a f f.body

-- its command is issued; or the client is to come again, where there is no room
abbrev pub IssuesOrAgain : Leader → leader.Answer → Type 0
IssuesOrAgain a (leader.Link number command) = number ≡ a.next
IssuesOrAgain a (leader.Reply reply) =
    (number : ℕ) × (reply.body ≡ frame.Refused (refusal.Again number)) × HasNoRoom a number
IssuesOrAgain a (leader.StillWaiting number) = ⊥

abbrev pub LaterIsTaken : Type 0
LaterIsTaken = (a : Leader) (bytes : List ℕ) (f : PlainFrame) → IsLater a bytes f
    → IssuesOrAgain a (on_client a bytes).answer

-- ---- the helper

-- whatever its lane's row holds, a later request's deposit takes its place
abbrev pub DepositIsHeld : Type 0
DepositIsHeld = (h : Server) (bytes : List ℕ) (f : PlainFrame) (held : DepositBody)
    → whole bytes ≡ Ok f → f.body ≡ frame.Deposit held → f.lane < h.settings.lanes
    → (helper.row_at h f.lane).serial < f.serial
    → ((client_turn h bytes).reply.body ≡ frame.Held false)
    × ((client_turn h bytes).server ≡ helper.with_row h f.lane (helper.row f.serial (Deposited held)))

-- ---- a client

-- a refusal after which it may come again: the request goes on as it was
abbrev pub IsPassing : Refusal → Type 0
IsPassing (refusal.Stale serial) = Unit {0}
IsPassing (refusal.Phase phase) = Unit {0}
IsPassing (refusal.Again number) = Unit {0}
IsPassing (refusal.LinkDown count) = Unit {0}
IsPassing why = ⊥

-- A client whose current request is told so still has it, at the same step.
abbrev pub RequestsGoOn : Type 0
RequestsGoOn = (c : Client) (bytes : List ℕ) (f : PlainFrame) (now : Current) (why : Refusal)
    → c.current ≡ Some now → whole bytes ≡ Ok f → f.body ≡ frame.Refused why → IsPassing why
    → f.link ≡ 0 → f.lane ≡ c.lane → f.serial ≡ c.serial
    → ((on_reply c bytes).progress ≡ Later why) × ((on_reply c bytes).client ≡ c)
