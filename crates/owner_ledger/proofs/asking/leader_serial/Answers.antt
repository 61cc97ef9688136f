use Rattle.owner_ledger.proofs.CheckLaws.{leader_on}
use Rattle.owner_ledger.proofs.asking.leader_serial.Goals as goal

pub returns-clause-sends : goal.returns-clause-sends
returns-clause-sends g c =
    leader_on g.D.Disk.disk g.D.Counted.seen c.args.pair.now.leader c.args.pair.now.lane
    c.ask_leader-told.result _ _ c.ask_leader-told.ensures.asks
