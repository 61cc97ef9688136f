-- What a foreign command that did something was brought with, at both servers: the frames of its lane and
-- serial that the leader and the helper took. A read or retire needs the token of its box's key at both.
use Rattle.std.specs.Prelude.{◌≡◌, ◌≤◌, ℕ, Bool, true, List, length, Some, slice_get}
use Rattle.express_words.specs.declared.settings.Settings.{Settings}
use Rattle.express_words.specs.Limits.{KeepsLimits}
use Rattle.dpf_rules.specs.Expansion.{token}
use Rattle.frame_rules.specs.declared.frame.DepositBody.TheVariants as deposit
use Rattle.frame_rules.specs.Frames as frame
use Rattle.frame_rules.specs.Frames.{PlainBody}
use Rattle.mailbox_rules.specs.Requests.{AddBox, AuditWrite, BeginWrite, Entry, Line, Operation, ReadBox}
use Rattle.mailbox_rules.specs.Requests.{Refuse, RetireBox, SettleWrite}
use Rattle.mailbox_rules.specs.Tables.{Mailbox}
use Rattle.run_rules.specs.Run.{Event}
use Rattle.run_rules.specs.Book.{Book, all_boxes}
use Rattle.run_rules.specs.Values.{key_at}
use Rattle.run_rules.specs.Acts.{AreFitting, Taken, ended_of, history_of}

-- a client's frame of this lane and serial with this body, that a server took; the leader is server 0
pub record Took (all : List Taken) (server c serial : ℕ) (body : PlainBody) : Type 0 where
  pub place : ℕ
  pub taken : Taken
  pub is : slice_get all place ≡ Some taken
  pub at_server : taken.server ≡ server
  pub of_lane : taken.frame.lane ≡ c
  pub of_serial : taken.frame.serial ≡ serial
  pub has_body : taken.frame.body ≡ body

-- the leader took a submission or proof, and the helper a deposit or proof
abbrev pub TookBoth : List Taken → Line → PlainBody → PlainBody → Type 0
TookBoth all x leaders helpers =
    Took all 0 x.lane x.serial leaders × Took all 1 x.lane x.serial helpers

abbrev pub TookWrite : Book → List Taken → Line → Type 0
TookWrite b all x =
    TookBoth all x (frame.Write (b.brought.root 0 x.lane x.serial) (b.brought.part x.lane x.serial))
    (frame.Deposit (deposit.Write (b.brought.root 1 x.lane x.serial)))

abbrev pub TookProofs : Book → List Taken → Line → Type 0
TookProofs b all x =
    TookBoth all x (frame.Proof (b.brought.share 0 x.lane x.serial))
    (frame.Proof (b.brought.share 1 x.lane x.serial))

-- the token of a box's key at a server, for the line's lane and serial
abbrev pub token_of : Book → ℕ → Mailbox → Line → ℕ
token_of b server box x = token (key_at b server box.lane box.serial) x.lane x.serial

-- both took the token of the box of that number, which keeps the lane and serial that registered it
pub record TookTokens (b : Book) (all : List Taken) (x : Line) (number : ℕ) (named : ℕ → PlainBody)
    : Type 0 where
  pub box : Mailbox
  pub is : slice_get (all_boxes b) number ≡ Some box
  pub both : TookBoth all x (named (token_of b 0 box x)) (frame.Deposit (deposit.Read (token_of b 1 box x)))

-- by what the command did
abbrev pub WasBrought : Book → List Taken → Line → Operation → Type 0
WasBrought b all x (AddBox address) =
    TookBoth all x (frame.Register address (b.brought.key 0 x.lane x.serial))
    (frame.Deposit (deposit.Register (b.brought.key 1 x.lane x.serial)))
WasBrought b all x BeginWrite = TookWrite b all x
WasBrought b all x AuditWrite = TookWrite b all x × TookProofs b all x
WasBrought b all x SettleWrite = TookWrite b all x × TookProofs b all x
WasBrought b all x (ReadBox n) = TookTokens b all x n (λ held. frame.Read n held)
WasBrought b all x (RetireBox n) = TookTokens b all x n (λ held. frame.Retire n held)
WasBrought b all x Refuse = Unit {0}

-- So of every schedule, with whatever bytes from outside: a foreign command that did something was brought.
abbrev pub CommandsWereBrought : Type 0
CommandsWereBrought = (settings : Settings) (seed : List ℕ) (foreign : ℕ → Bool) (events : List Event)
    → KeepsLimits settings.width settings.boxes settings.lanes settings.window
    → AreFitting settings foreign events → length events ≤ 20000
    → let s = ended_of settings seed foreign events in
    let b = history_of settings seed foreign s in
    (i : ℕ) (e : Entry) → slice_get b.entries i ≡ Some e → foreign e.line.lane ≡ true
    → WasBrought b s.taken e.line e.does
