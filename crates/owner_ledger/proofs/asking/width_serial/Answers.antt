use Rattle.owner_ledger.proofs.CheckLaws.{width_on}
use Rattle.owner_ledger.proofs.asking.width_serial.Goals as goal

pub returns-clause-sends : goal.returns-clause-sends
returns-clause-sends g c =
    width_on g.D.Disk.disk g.D.Counted.seen c.args.pair.now.leader c.args.pair.now.lane
    c.args.pair.now.width
    c.ask_width-told.result _ _ c.ask_width-told.ensures.asks
