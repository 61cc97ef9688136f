use Rattle.std.proofs.Common.{subst}
use Rattle.node_restart.specs.Calls.{KeepsFrame}
use Rattle.node_restart.specs.Frames.{handed}
use Rattle.node_restart.specs.Kept.{KeptState, state_of}
use Rattle.node_restart.proofs.KeptLaws.{keeps_frame}
use Rattle.node_restart.proofs.kept.Kept.take.Goals as goal

pub returns : goal.returns
returns g c =
    let D = g.D.Disk in
    let h = handed c.args.sender c.args.received.now in
    let made = keeps_frame D.disk g.D.Counted.seen h c.self.inside.kept c.take.new.kept c.args.out.now c.take.new.out c.take.result (record {
      keeps = c.take.ensures.keeps;
      stays = c.take.ensures.stays;
      tells = c.take.ensures.tells;
      silent = c.take.ensures.silent;
      durable = c.take.ensures.durable;
    }) in
    record {
      keeps = subst (λ (k : KeptState g.row.D.Denot). KeepsFrame D.disk g.D.Counted.seen h k (state_of c.take.new.kept) c.args.out.now c.take.new.out c.take.result) c.self.view_is made;
    }
