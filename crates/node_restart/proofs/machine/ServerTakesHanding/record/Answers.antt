use Rattle.std.proofs.Common.{List, ℕ, ap, ◌∙◌}
use Rattle.node_restart.specs.Frames.{frame_record, handed}
use Rattle.node_restart.proofs.machine.ServerTakesHanding.record.Goals as goal

pub returns-then-is_one_frame-clause-is : goal.returns-then-is_one_frame-clause-is
returns-then-is_one_frame-clause-is c =
    let sender = c.args.input.now.sender in
    record {
      handed = handed sender c.args.input.now.received.now;
      whole = c.is_one_frame.ensures.exact.0 c.if-is_one_frame.true;
      is = c.put_record.ensures ∙ ap (λ (f : List ℕ). frame_record (handed sender f)) c.bytes.ensures;
    }
