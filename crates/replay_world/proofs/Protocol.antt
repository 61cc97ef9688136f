-- A run is the protocol's machine in five facts, which follow from the whole relation.
use Rattle.std.proofs.Common.{◌≡◌, ◌<◌, ℕ, Bool, true, false}
use Rattle.token_rules.specs.Tokens as token
use Rattle.token_rules.specs.Tokens.{World}
use Rattle.step_rules.specs.Helper as helper
use Rattle.step_rules.specs.Leader as leader
use Rattle.step_tokens.specs.HelperRows as helper_rows
use Rattle.step_tokens.specs.LeaderRows as leader_rows
use Rattle.run_rules.specs.Book.{Book}
use Rattle.run_rules.specs.Follows.{Follows, HelperRowAt, LeaderRowAt}
use Rattle.run_rules.specs.Letters.{FrameWorld}
use Rattle.run_rules.specs.Plain.{SharesAreFolds}
use Rattle.leader_core.specs.Awaited.{RowsAwait}
use Rattle.replay_world.specs.Protocol.{FollowsProtocol}

helper_bare : (b : Book) (c : ℕ) (foreign : Bool) (r : helper.Row) (x : token.Row) → HelperRowAt b c foreign r x → helper_rows.bare r ≡ x
helper_bare b c false r x h = h.bare
helper_bare b c true r x h = h.bare

leader_bare : (b : Book) (c : ℕ) (foreign : Bool) (r : leader.Row) (x : token.Row) → LeaderRowAt b c foreign r x → leader_rows.bare r ≡ x
leader_bare b c false r x h = h.bare
leader_bare b c true r x h = h.bare

pub follows_protocol : (b : Book) (f : FrameWorld) (w : World) → Follows b f w → SharesAreFolds b f w → RowsAwait f.leader → FollowsProtocol b f w
follows_protocol b f w h shares busy = record {
  numbers = record {
    carried = h.helper.number;
    next = h.leader.next;
    outstanding = h.leader.outstanding;
    kept = h.helper.kept;
    window = h.helper.window;
  };
  boxes = shares;
  pool = h.pool;
  busy = busy;
  rows = record {
    helper = λ c low. helper_bare b c (b.foreign c) _ _ (h.helper.rows c low);
    leader = λ c low. leader_bare b c (b.foreign c) _ _ (h.leader.rows c low);
  };
}
