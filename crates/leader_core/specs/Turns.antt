-- What the leader's calls come to, by the turn that the table names.
use Rattle.std.specs.Prelude.{◌≡◌, List, ℕ, length, take, drop}
use Rattle.step_rules.specs.Leader as steps
use Rattle.step_rules.specs.LeaderClients.{on_client}
use Rattle.step_rules.specs.LeaderReplies.{on_reply_bytes}
use Rattle.step_rules.specs.Refusals.{TurnLeaves, AckLeaves}
use Rattle.leader_core.specs.declared.turn.Turn.{Turn}
use Rattle.leader_core.specs.declared.turn.Ack.{Ack}
use Rattle.leader_core.specs.Awaited.{RowsAwait, TellsAwaited}
use Rattle.leader_core.specs.Told.{acked, acked_bytes, turned}

-- at bytes of a client: a reply or a new command stands at the front, where there is one
pub record DoesClient (old : steps.Leader) (bytes : List ℕ) (new : steps.Leader) (given : Turn)
    (out out_new : List ℕ) : Type 0 where
  pub leader : new ≡ (on_client old bytes).leader
  pub refused : TurnLeaves (on_client old bytes).answer old new
  pub answer : given ≡ turned (on_client old bytes).answer
  pub written : let told = steps.written (on_client old bytes).answer in take (length told) out_new ≡ told
  pub rest : let count = length (steps.written (on_client old bytes).answer) in
      drop count out_new ≡ drop count out
  -- the command that a client is told to wait for is outstanding
  pub awaits : TellsAwaited old bytes given
  pub rows : RowsAwait new
  pub settings : new.settings ≡ old.settings

-- at bytes of the helper: a reply for a client or a settle stands at the front, where there is one
pub record DoesReply (old : steps.Leader) (bytes : List ℕ) (new : steps.Leader) (given : Ack)
    (out out_new : List ℕ) : Type 0 where
  pub leader : new ≡ (on_reply_bytes old bytes).leader
  pub refused : AckLeaves (on_reply_bytes old bytes).ack old new
  pub answer : given ≡ acked (on_reply_bytes old bytes).ack
  pub written : let told = acked_bytes (on_reply_bytes old bytes).ack in take (length told) out_new ≡ told
  pub rest : let count = length (acked_bytes (on_reply_bytes old bytes).ack) in
      drop count out_new ≡ drop count out
  pub rows : RowsAwait new
  pub settings : new.settings ≡ old.settings
