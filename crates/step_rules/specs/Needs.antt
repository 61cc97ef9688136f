-- What a command needs, at any state and any bytes: the leader issues it at what its lane brought, and the
-- helper carries it out with what the lane brought there. A read or retire needs its box's token at both.
use Rattle.std.specs.Prelude.{◌≡◌, ℕ, ◌<◌, ◌+◌, true, List, Some, Ok, slice_get, slice_set}
use Rattle.express_words.specs.declared.audit.ProofShare.{ProofShare}
use Rattle.express_words.specs.declared.audit.Closing.{Closing}
use Rattle.frame_rules.specs.declared.frame.DepositBody.TheVariants as deposit
use Rattle.frame_rules.specs.Frames as frame
use Rattle.frame_rules.specs.Frames.{PlainFrame, PlainBody}
use Rattle.frame_rules.specs.Whole.{whole, linked, is_command}
use Rattle.dpf_rules.specs.Expansion.{token}
use Rattle.audit_rules.specs.Values.{Write}
use Rattle.step_rules.specs.Boxes.{Box}
use Rattle.step_rules.specs.Helper as helper
use Rattle.step_rules.specs.Helper.{Helper, Server, Deposited, Proved, Audited, Carried}
use Rattle.step_rules.specs.HelperCommands.{on_link_bytes}
use Rattle.step_rules.specs.Leader as leader
use Rattle.step_rules.specs.Leader.{Leader, Registering, Writing, Reading, Retiring, Waiting, Challenged}
use Rattle.step_rules.specs.Leader.{Auditing}
use Rattle.step_rules.specs.LeaderClients as leader_clients
use Rattle.step_rules.specs.LeaderClients.{draw, sigma}

-- ---- the helper

-- a live box of that number, by the token of its key for the command's lane and serial
pub record HasBox (h : Server) (c : PlainFrame) (number : ℕ) (stage : helper.Stage) : Type 0 where
  pub box : Box
  pub is : slice_get h.boxes number ≡ Some box
  pub live : box.live ≡ true
  pub deposited : stage ≡ Deposited (deposit.Read (token box.key c.lane c.serial))

-- what a row holds for a command of this body
abbrev pub HoldsFor : Server → PlainFrame → PlainBody → helper.Stage → Type 0
HoldsFor h c (frame.LinkRegister address) stage = (key : List ℕ) × (stage ≡ Deposited (deposit.Register key))
HoldsFor h c (frame.LinkBegin drawn part) stage = (root : ℕ) × (stage ≡ Deposited (deposit.Write root))
HoldsFor h c (frame.LinkAudit point opened) stage =
    (write : Write) × (share : ProofShare) × (stage ≡ Proved write share)
HoldsFor h c (frame.LinkSettle closing) stage =
    (write : Write) × (own : Closing) × (stage ≡ Audited write own)
HoldsFor h c (frame.LinkRead number) stage = HasBox h c number stage
HoldsFor h c (frame.LinkRetire number) stage = HasBox h c number stage
HoldsFor h c body stage = ⊥

-- the next command, whose lane's row has its serial and holds what it needs
pub record HelperHad (h : Helper) (bytes : List ℕ) : Type 0 where
  pub command : PlainFrame
  pub read : linked is_command h.server.settings.width bytes ≡ Some command
  pub next : command.link ≡ h.carried + 1
  pub lane : command.lane < h.server.settings.lanes
  pub serial : (helper.row_at h.server command.lane).serial ≡ command.serial
  pub holds : HoldsFor h.server command command.body (helper.row_at h.server command.lane).stage

abbrev pub IsRefused : PlainBody → Type 0
IsRefused (frame.LinkReply (frame.ReplyRefused why)) = Unit {0}
IsRefused body = ⊥

abbrev pub HadFor : helper.Answer → Helper → List ℕ → Type 0
HadFor (Carried reply) h bytes = (IsRefused reply.body → ⊥) → HelperHad h bytes
HadFor answer h bytes = Unit {0}

-- a command that the helper carries out and doesn't refuse found what it needs
abbrev pub HelperNeeds : Type 0
HelperNeeds = (h : Helper) (bytes : List ℕ) → HadFor (on_link_bytes h bytes).answer h bytes

-- ---- the leader

-- a box of that number, by the token of its key for the frame's lane and serial
pub record NamesBox (a : Leader) (f : PlainFrame) (number held : ℕ) : Type 0 where
  pub box : Box
  pub is : slice_get a.boxes number ≡ Some box
  pub token : held ≡ token box.key f.lane f.serial

-- The command that is issued for a client's frame. A draw, or the point made of one, is the leader's next.
abbrev pub IsFor : Leader → PlainFrame → PlainBody → PlainBody → Type 0
IsFor a f (frame.Register address key) (frame.LinkRegister named) = named ≡ address
IsFor a f (frame.Write root part) (frame.LinkBegin drawn other) = (drawn ≡ draw a) × (other ≡ part)
IsFor a f (frame.Read number held) (frame.LinkRead named) = (named ≡ number) × NamesBox a f number held
IsFor a f (frame.Retire number held) (frame.LinkRetire named) = (named ≡ number) × NamesBox a f number held
IsFor a f (frame.Proof share) (frame.LinkAudit point opened) = point ≡ sigma a
IsFor a f body command = ⊥

-- where a row has a command issued: at a later request, or at the proof of a write that was challenged
abbrev pub IsChallenged : leader.Stage → Type 0
IsChallenged (Challenged write kept) = Unit {0}
IsChallenged stage = ⊥

abbrev pub MayIssue : leader.Row → PlainFrame → PlainBody → Type 0
MayIssue r f (frame.Proof share) = (f.serial ≡ r.serial) × IsChallenged r.stage
MayIssue r f body = r.serial < f.serial

-- what the row holds then is what the frame brought
abbrev pub KeepsWhatCame : PlainBody → leader.Stage → Type 0
KeepsWhatCame (frame.Register address key) stage = (n : ℕ) × (stage ≡ Waiting n (Registering address key))
KeepsWhatCame (frame.Write root part) stage =
    (n : ℕ) × (drawn : List ℕ) × (stage ≡ Waiting n (Writing root part drawn))
KeepsWhatCame (frame.Read number held) stage = (n : ℕ) × (stage ≡ Waiting n (Reading number))
KeepsWhatCame (frame.Retire number held) stage = (n : ℕ) × (stage ≡ Waiting n (Retiring number))
KeepsWhatCame (frame.Proof share) (Auditing n write kept point opened) = kept ≡ share
KeepsWhatCame body stage = ⊥

-- begins and audits take a draw, no other command does
abbrev pub draws_for : PlainBody → ℕ
draws_for (frame.LinkBegin drawn part) = 1
draws_for (frame.LinkAudit point opened) = 1
draws_for command = 0

pub record IsIssuedAt (a : Leader) (f command : PlainFrame) (after : Leader) : Type 0 where
  pub lane : command.lane ≡ f.lane
  pub serial : command.serial ≡ f.serial
  pub may : MayIssue (leader.row_at a f.lane) f f.body
  pub brings : IsFor a f f.body command.body
  pub stage : leader.Stage
  pub rows : after.rows ≡ slice_set a.rows f.lane (leader.row f.serial stage)
  pub keeps : KeepsWhatCame f.body stage
  pub draws : after.draws ≡ a.draws + draws_for command.body

-- a command is issued at bytes that are exactly one frame
abbrev pub IssuedFor : leader.Answer → Leader → List ℕ → Leader → Type 0
IssuedFor (leader.Link number command) a bytes after =
    (f : PlainFrame) × (whole bytes ≡ Ok f) × IsIssuedAt a f command after
IssuedFor answer a bytes after = after ≡ a

-- What the leader issues a command for; at all other bytes of clients it stays as it was. So the first
-- submission of a request stands, and the first proof; a challenge's draw is taken at a begin alone, and a
-- point's at the proof that the row then has.
abbrev pub LeaderNeeds : Type 0
LeaderNeeds = (a : Leader) (bytes : List ℕ) →
    let turn = leader_clients.on_client a bytes in
    IssuedFor turn.answer a bytes turn.leader
