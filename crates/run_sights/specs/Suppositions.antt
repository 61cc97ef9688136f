-- What is supposed of a run at an honest server against a server that does what it likes.
use Rattle.std.specs.Prelude.{◌≡◌, ℕ, ◌^◌, ◌<◌, ◌≤◌, Bool, true, List, length, Option, Some, None, Ok}
use Rattle.std.specs.Prelude.{slice_get}
use Rattle.express_words.specs.declared.audit.ProofShare.{ProofShare}
use Rattle.frame_rules.specs.Frames as frame
use Rattle.frame_rules.specs.Frames.{PlainFrame, PlainBody}
use Rattle.frame_rules.specs.Whole.{whole}
use Rattle.audit_rules.specs.Values.{Write}
use Rattle.write_hiding.specs.Choices.{PlainAim, IsChoice, IsAim, IsGame}
use Rattle.write_hiding.specs.Malicious.{MasksCount}
use Rattle.write_hiding.specs.Views.{public_part}
use Rattle.moved_worlds.specs.Moves.{spares}
use Rattle.step_rules.specs.Boxes.{Box}
use Rattle.run_sights.specs.Histories.{HonestWrite, Writes, Aims}

-- An honest write and another aim of it: both targets are registered, the point is neither 1 nor 2, and both
-- miss the addresses that are spared.
pub record MayMove (width : ℕ) (spared : ℕ → Bool) (w : HonestWrite) (other : PlainAim) : Type 0 where
  pub choice : IsChoice width w.choice
  pub game : IsGame w.game
  pub masks : MasksCount w.game
  pub from : IsAim width w.game w.aim
  pub to : IsAim width w.game other
  pub missed : (address : ℕ) → spared address ≡ true → spares w.aim other address ≡ true

abbrev pub AllMove : (width : ℕ) → (spared : ℕ → Bool) → Writes → Aims → Type 0
AllMove width spared writes to =
    (lane serial : ℕ) (w : HonestWrite) → writes lane serial ≡ Some w →
    MayMove width spared w (to lane serial)

-- What the honest server audits of an honest write is the client's: its root and public part, and the key of
-- the challenges that its proof is made for; and it audits it in the write's game.
pub record IsOwn (viewer : ℕ) (w : HonestWrite) (held : Write) (addresses : List ℕ) (sigma : ℕ)
    : Type 0 where
  pub root : held.root ≡ w.choice.other_root
  pub part : held.part ≡ public_part viewer w.choice w.aim
  pub ckey : held.ckey ≡ w.game.ckey
  pub counted : addresses ≡ w.game.addresses
  pub point : sigma ≡ w.game.sigma

abbrev pub AuditsOwn : ℕ → Option HonestWrite → Write → List ℕ → ℕ → Type 0
AuditsOwn viewer (Some w) held addresses sigma = IsOwn viewer w held addresses sigma
AuditsOwn viewer None held addresses sigma = Unit {0}

-- nobody else sends a proof under an honest write's lane and serial
abbrev pub SendsNoProof : Writes → (bytes : List ℕ) → Type 0
SendsNoProof writes bytes =
    (f : PlainFrame) (share : ProofShare) → whole bytes ≡ Ok f → f.body ≡ frame.Proof share →
    writes f.lane f.serial ≡ None

-- an honest client's proof: of a write, whose lane and serial a frame can have
pub record IsProved (writes : Writes) (lane serial : ℕ) : Type 0 where
  pub write : HonestWrite
  pub is : writes lane serial ≡ Some write
  pub low : lane < 2 ^ 16
  pub from_one : 1 ≤ serial
  pub few : serial < 2 ^ 32

-- the mask is as long as the share of the box that a command reads
abbrev pub Covers : List Box → Option ℕ → List ℕ → Type 0
Covers boxes (Some number) mask =
    (box : Box) → slice_get boxes number ≡ Some box → length mask ≡ length box.share
Covers boxes None mask = Unit {0}
