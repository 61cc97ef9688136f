-- What servers answer to frames of clients' current requests, in the run over bytes.
use Rattle.std.specs.Prelude.{◌≡◌, ℕ, Bool, true, false, is_none, Some, slice_get}
use Rattle.express_words.specs.declared.refusal.Refusal.TheVariants as refusal
use Rattle.frame_rules.specs.Frames as frame
use Rattle.frame_rules.specs.Frames.{PlainFrame, PlainBody}
use Rattle.frame_rules.specs.Spelling.{spelling, IsFrame}
use Rattle.frame_rules.specs.Whole.{is_from_client}
use Rattle.token_rules.specs.Tokens.{World}
use Rattle.step_rules.specs.HelperClients as helper
use Rattle.step_rules.specs.Leader as leader
use Rattle.step_rules.specs.LeaderClients as submits
use Rattle.step_tokens.specs.LeaderRows.{is_full}
use Rattle.run_rules.specs.Letters.{FrameWorld, Letter, ToHelper, ToLeader}
use Rattle.run_rules.specs.Book.{Book}

-- A frame of the pool that is of a client's current request: it has the client's lane and serial, and is of a
-- kind that clients send.
pub record IsOfCurrent (f : FrameWorld) (c : ℕ) (l : Letter) : Type 0 where
  pub place : ℕ
  pub is : slice_get f.pool place ≡ Some l
  pub frame : PlainFrame
  pub is_frame : IsFrame frame
  pub bytes : l.bytes ≡ spelling frame
  pub kind : is_from_client frame.body ≡ true
  pub lane : frame.lane ≡ c
  pub serial : frame.serial ≡ (f.clients c).serial
  pub busy : is_none (f.clients c).current ≡ false

abbrev pub is_proof : PlainBody → Bool
is_proof (frame.Proof share) = true
is_proof body = false

-- It isn't said that the frame is stale or out of phase, and only where the window is full that the client is
-- to come again.
abbrev pub HeedsWith : Bool → PlainBody → Type 0
HeedsWith full (frame.Refused (refusal.Stale serial)) = ⊥
HeedsWith full (frame.Refused (refusal.Phase phase)) = ⊥
HeedsWith full (frame.Refused (refusal.Again number)) = full ≡ true
HeedsWith full body = Unit {0}

abbrev pub Heeds : Bool → leader.Answer → Type 0
Heeds full (leader.Reply reply) = HeedsWith full reply.body
Heeds full answer = Unit {0}

-- Whenever a frame of a client's current request comes, the helper says that it holds it, the deposit or the
-- proof, and the leader heeds it.
pub record CurrentIsHeeded (b : Book) (f : FrameWorld) (w : World) : Type 0 where
  pub helper : (c : ℕ) (l : Letter) → b.foreign c ≡ false → (k : IsOfCurrent f c l) → l.to ≡ ToHelper
      → (helper.on_client f.helper l.bytes).reply.body ≡ frame.Held (is_proof k.frame.body)
  pub leader : (c : ℕ) (l : Letter) → b.foreign c ≡ false → IsOfCurrent f c l → l.to ≡ ToLeader
      → Heeds (is_full f.leader) (submits.on_client f.leader l.bytes).answer
