-- The worked schedules, computed.
use Rattle.std.proofs.Common.{refl}
use Rattle.mailbox_rules.specs.Tables.{after_line, after_register}
use Rattle.token_rules.specs.Tokens.{put}
use Rattle.token_rules.specs.Rows.{arrival_of, client_does, deposit_step, helper_proof_at, helper_proof_step, leader_proof_at, leader_proof_step, reply_step, submission_step}
use Rattle.token_rules.specs.Run.{asks, carries_next, client_hears, client_moves, client_sends, comes, command_comes, delivers, delivers_at, drain_round, drained, drains, finish_round, finished, finishes, frame_of, goes_on, handed_last, happens, is_for, is_refused, last_for, leader_says, reply_applied, reply_comes, resends, run, sent_and_drained, ticks}
use Rattle.token_rules.specs.Worked.{BoxBetween, FullWindow, LostReply, NeverGot, OutOfOrder, RepeatedFrames}

pub record Worked : Type 0 where
  pub repeated : RepeatedFrames
  pub order : OutOfOrder
  pub between : BoxBetween
  pub lost : LostReply
  pub full : FullWindow
  pub never : NeverGot

pub worked : Worked
unfolding run happens asks goes_on is_refused client_sends frame_of delivers_at delivers comes deposit_step submission_step helper_proof_step helper_proof_at leader_proof_step leader_proof_at reply_step client_does client_hears client_moves command_comes arrival_of carries_next leader_says reply_comes reply_applied resends ticks put after_line after_register drain_round drained drains finish_round finished finishes handed_last is_for last_for sent_and_drained
worked = record {
  repeated = λ o. refl;
  order = λ o. refl;
  between = λ o. refl;
  lost = λ o. refl;
  full = λ o. refl;
  never = λ o. refl;
}
