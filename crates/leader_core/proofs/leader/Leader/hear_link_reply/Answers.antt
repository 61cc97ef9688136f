use Rattle.std.proofs.Common.{◌≡◌, length, take, drop, sym, ap, subst, ◌∙◌}
use Rattle.step_rules.specs.Leader.{Leader}
use Rattle.step_rules.specs.LeaderReplies.{on_reply_bytes}
use Rattle.step_rules.specs.Refusals.{AckLeaves}
use Rattle.step_rules.proofs.LeaderRefusals.{requests}
use Rattle.leader_core.specs.Awaited.{RowsAwait}
use Rattle.leader_core.specs.Told.{acked, acked_bytes}
use Rattle.leader_core.proofs.ReplyAwaits.{reply_awaits}
use Rattle.leader_core.proofs.leader.Leader.hear_link_reply.Goals as goal

pub returns : goal.returns
returns c =
    let a = c.args.self.now in
    let bytes = c.args.received.now in
    let out = c.args.out.now in
    let out_new = c.hear_reply.new.out in
    let is = c.self.view_is in
    let did = c.hear_reply.ensures.does in
    let new = did.leader ∙ ap (λ (x : Leader). (on_reply_bytes x bytes).leader) is in
    record {
      leader = new;
      refused = subst (λ (x : Leader). AckLeaves (on_reply_bytes a bytes).ack a x) (sym new) (requests a bytes);
      answer = did.acked.ack ∙ ap (λ (x : Leader). acked (on_reply_bytes x bytes).ack) is;
      written = subst (λ (x : Leader). take (length (acked_bytes (on_reply_bytes x bytes).ack)) out_new ≡ acked_bytes (on_reply_bytes x bytes).ack) is did.acked.bytes.front;
      rest = subst (λ (x : Leader). drop (length (acked_bytes (on_reply_bytes x bytes).ack)) out_new ≡ drop (length (acked_bytes (on_reply_bytes x bytes).ack)) out) is did.acked.bytes.rest;
      rows = subst RowsAwait (sym did.leader) (reply_awaits _ bytes c.self.invariant.rows);
      settings = c.hear_reply.ensures.settings ∙ ap (λ (x : Leader). x.settings) is;
    }

pub invariant_of-self : goal.invariant_of-self
invariant_of-self c =
    let bytes = c.args.received.now in
    record { core = c.hear_reply.ensures.does.is; rows = subst RowsAwait (sym c.hear_reply.ensures.does.leader) (reply_awaits _ bytes c.self.invariant.rows) }
