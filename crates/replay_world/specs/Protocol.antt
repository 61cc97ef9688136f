-- How a run is the protocol's machine with content, in five facts. As in all laws of schedules, b is the
-- history of the run, f the run over bytes and w the token run, the same frames without content.
use Rattle.std.specs.Prelude.{◌≡◌, ◌<◌, ◌+◌, ◌-◌, ◌⊎◌, ℕ, suc, length, drop, slice_index_or}
use Rattle.mailbox_rules.specs.Requests.{lines_of}
use Rattle.token_rules.specs.Tokens.{World}
use Rattle.step_rules.specs.Helper as helper
use Rattle.step_rules.specs.Leader as leader
use Rattle.step_tokens.specs.HelperRows as helper_rows
use Rattle.step_tokens.specs.LeaderRows as leader_rows
use Rattle.run_rules.specs.Book.{Book}
use Rattle.run_rules.specs.Follows.{AreCommands, AreReplies, Pools}
use Rattle.run_rules.specs.Letters.{FrameWorld}
use Rattle.run_rules.specs.Plain.{SharesAreFolds}
use Rattle.leader_core.specs.Awaited.{RowsAwait}

-- Both servers count commands as the token run does: the helper those that it carried out, the leader those
-- that it issued, of which those that aren't acknowledged are outstanding, each as its token's frame. The
-- helper keeps its replies to the last commands that it carried out, as many as the window, or all.
pub record NumbersAgree (b : Book) (f : FrameWorld) (w : World) : Type 0 where
  pub carried : f.helper.carried ≡ w.carried
  pub next : f.leader.next ≡ length w.commands + 1
  pub outstanding : AreCommands b (suc w.acknowledged) (drop w.acknowledged w.commands) f.leader.outstanding
  pub kept : AreReplies b (suc (w.carried - length f.helper.replies))
      (drop (w.carried - length f.helper.replies) (lines_of w.journal)) f.helper.replies
  pub window : (length f.helper.replies ≡ b.settings.window) ⊎ (length f.helper.replies ≡ w.carried)

-- Without its content each row of either server is that of the token run.
pub record RowsAgree (b : Book) (f : FrameWorld) (w : World) : Type 0 where
  pub helper : (c : ℕ) → c < b.settings.lanes
      → helper_rows.bare (slice_index_or f.helper.server.rows c helper.idle) ≡ (w.lanes c).helper
  pub leader : (c : ℕ) → c < b.settings.lanes
      → leader_rows.bare (slice_index_or f.leader.rows c leader.idle) ≡ (w.lanes c).leader

pub record FollowsProtocol (b : Book) (f : FrameWorld) (w : World) : Type 0 where
  pub numbers : NumbersAgree b f w
  -- The servers' boxes hold their shares after the commands that each knows to be carried out.
  pub boxes : SharesAreFolds b f w
  -- Frame by frame the pool holds what the tokens stand for.
  pub pool : Pools b w.pool f.pool
  -- A row of the leader is busy exactly where one command of its lane and serial is outstanding.
  pub busy : RowsAwait f.leader
  pub rows : RowsAgree b f w
