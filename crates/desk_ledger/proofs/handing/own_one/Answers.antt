use Rattle.std.proofs.Common.{◌∙◌, sym}
use Rattle.desk_ledger.specs.Handing.{box_bytes}
use Rattle.desk_ledger.proofs.ForgetLaws.{own_goes}
use Rattle.desk_ledger.proofs.HandLaws.{no_room, own_lacks, own_takes}
use Rattle.desk_ledger.proofs.handing.own_one.Goals as goal

pub returns-in-Ok-clause-goes_on : goal.returns-in-Ok-clause-goes_on
returns-in-Ok-clause-goes_on g c =
    (own_goes g.D.Disk.disk g.D.Counted.seen c.args.owned.now c.args.client.now c.own.new.self c.in-Ok.ensures.keeps c.requires.idle
    (sym c.is_full.ensures ∙ c.if-is_full.false)).0

pub returns-in-Ok-clause-boxes : goal.returns-in-Ok-clause-boxes
returns-in-Ok-clause-boxes g c =
    (own_goes g.D.Disk.disk g.D.Counted.seen c.args.owned.now c.args.client.now c.own.new.self c.in-Ok.ensures.keeps c.requires.idle
    (sym c.is_full.ensures ∙ c.if-is_full.false)).1

pub returns-in-Ok-clause-takes : goal.returns-in-Ok-clause-takes
returns-in-Ok-clause-takes g c =
    own_takes g.D.Disk.disk g.D.Counted.seen c.args.owned.now c.args.client.now c.own.new.self c.in-Ok.ensures.keeps c.requires.idle
    (sym c.is_full.ensures ∙ c.if-is_full.false) c.requires.still_open

pub returns-in-Err-clause-fault : goal.returns-in-Err-clause-fault
returns-in-Err-clause-fault g c =
    own_lacks g.D.Disk.disk g.D.Counted.seen c.args.owned.now c.args.client.now c.own.new.self c.in-Err.fault c.in-Err.ensures.keeps c.requires.still_open

pub returns-then-is_full-clause-fault : goal.returns-then-is_full-clause-fault
returns-then-is_full-clause-fault g c = no_room (box_bytes c.args.owned.now) c.args.client.now (sym c.is_full.ensures ∙ c.if-is_full.true)
