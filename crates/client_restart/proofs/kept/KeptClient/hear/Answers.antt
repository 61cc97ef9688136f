use Rattle.client_restart.proofs.CallLaws.{one_test, step_whole}
use Rattle.client_restart.proofs.kept.KeptClient.hear.Goals as goal

pub returns-then-not-is_one_frame-clause-keeps : goal.returns-then-not-is_one_frame-clause-keeps
returns-then-not-is_one_frame-clause-keeps g c makes =
    let whole = step_whole c.args.self.now.core.client c.args.frame.now makes in
    absurd (one_test c.is_one_frame.result (c.is_one_frame.ensures.exact.1 whole) c.if-not-is_one_frame.true)
