use Rattle.owner_ledger.proofs.CheckLaws.{helper_on}
use Rattle.owner_ledger.proofs.asking.helper_serial.Goals as goal

pub returns-clause-sends : goal.returns-clause-sends
returns-clause-sends g c =
    helper_on g.D.Disk.disk g.D.Counted.seen c.args.pair.now.helper c.args.pair.now.lane
    c.ask_helper-told.result _ _ c.ask_helper-told.ensures.asks
