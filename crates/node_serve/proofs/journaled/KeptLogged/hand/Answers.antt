use Rattle.node_restart.specs.Frames.{handed}
use Rattle.node_restart.proofs.HandLaws.{keeps_handed}
use Rattle.node_restart.proofs.UpToLaws.{stops_handed}
use Rattle.node_serve.proofs.journaled.KeptLogged.hand.Goals as goal

pub returns-clause-takes : goal.returns-clause-takes
returns-clause-takes g c =
    keeps_handed g.D.Disk.disk g.D.Counted.seen (handed c.args.sender c.args.received.now)
    c.args.self.now c.take.new.self c.args.out.now c.take.new.out c.take.result c.take.ensures.keeps

pub returns-clause-stops : goal.returns-clause-stops
returns-clause-stops g c =
    stops_handed g.D.Disk.disk g.D.Counted.seen (handed c.args.sender c.args.received.now)
    c.args.self.now c.take.new.self c.args.out.now c.take.new.out c.take.result c.take.ensures.keeps
