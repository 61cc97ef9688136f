use Rattle.std.proofs.Common.{◌≡◌, Some, IfSome, option_map, subst}
use Rattle.frame_rules.specs.Frames.{PlainFrame}
use Rattle.step_rules.specs.Leader.{Leader}
use Rattle.leader_core.specs.State.{leader_in}
use Rattle.leader_core.specs.Told.{resent_at}
use Rattle.leader_core.proofs.AwaitLemmas.{resent_link}
use Rattle.leader_core.proofs.leader.Leader.resend_at.Goals as goal

pub returns-clause-link : goal.returns-clause-link
returns-clause-link c =
    subst (λ (a : Leader). IfSome c.resend_at.result (λ x. option_map (λ (f : PlainFrame). f.link) (resent_at a c.args.place) ≡ Some x.0)) c.self.view_is
    (resent_link (leader_in c.self.inside.core) c.args.place c.resend_at.result c.self.invariant.rows c.resend_at.ensures.number c.resend_at.ensures.length)
