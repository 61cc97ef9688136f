use Rattle.std.proofs.Common.{refl, inl}
use Rattle.client_run.specs.Runs.{ClientEnded, client_plan}
use Rattle.express_cli.specs.Around.{Around, over}
use Rattle.express_cli.specs.Talking.{carrier, client, server}
use Rattle.express_cli.proofs.Settling.{left_nothing, settled, unsettled}
use Rattle.express_cli.proofs.Telling.{job_ends, plan_ends}
use Rattle.express_cli.proofs.talk.talk.Goals as goal

pub returns-in-Ok-clause-ends : goal.returns-in-Ok-clause-ends
returns-in-Ok-clause-ends g c = rw c.in-Serve.is (settled server c.args.text.now c.in-Ok.settings c.in-Ok.ensures.judges c.serve.ensures.ends)

pub returns-in-Err-clause-ends : goal.returns-in-Err-clause-ends
returns-in-Err-clause-ends g c = rw c.in-Serve.is (unsettled server c.args.text.now c.in-Err.fault refl refl tt c.in-Err.ensures.judges c.say_fault.ensures.says)

pub returns-in-Ok-read_client-clause-ends : goal.returns-in-Ok-read_client-clause-ends
returns-in-Ok-read_client-clause-ends g c =
    let net : Around = over g.N.Counted.seen g.N.Conn.Counted.seen c.args.seed.now c.args.net.now c.run_client-run.new.net in
    rw c.in-Client.is (settled client c.args.text.now c.in-Ok-read_client.settings c.in-Ok-read_client.ensures.judges
    (plan_ends ClientEnded (client_plan c.in-Ok-read_client.settings c.args.seed.now) net c.run_client-run.result _ (g.K.Counted.seen c.run_client-run.new.out)
    c.run_client-run.ensures.comes c.run_client-run.ensures.fault c.run_client-run.ensures.sink c.say_run.ensures.says
    (left_nothing g.N.Counted.seen g.N.Conn.Counted.seen c.args.seed.now _ _ c.run_client-run.ensures.early)))

pub returns-in-Err-read_client-clause-ends : goal.returns-in-Err-read_client-clause-ends
returns-in-Err-read_client-clause-ends g c =
    rw c.in-Client.is (unsettled client c.args.text.now c.in-Err-read_client.fault refl refl (inl refl) c.in-Err-read_client.ensures.judges c.say_fault-in-Err-read_client.ensures.says)

pub returns-in-Ok-read_carry-clause-ends : goal.returns-in-Ok-read_carry-clause-ends
returns-in-Ok-read_carry-clause-ends g c =
    let net : Around = over g.N.Counted.seen g.N.Conn.Counted.seen c.args.seed.now c.args.net.now c.run_carry-run.new.net in
    rw c.in-Carry.is (settled carrier c.args.text.now c.in-Ok-read_carry.settings c.in-Ok-read_carry.ensures.judges
    (job_ends c.in-Ok-read_carry.settings.job c.in-Ok-read_carry.settings net c.run_carry-run.result _ (g.K.Counted.seen c.run_carry-run.new.out)
    c.run_carry-run.ensures.comes c.run_carry-run.ensures.fault c.run_carry-run.ensures.sink c.say_run-in-Ok-read_carry.ensures.says
    (left_nothing g.N.Counted.seen g.N.Conn.Counted.seen c.args.seed.now _ _ c.run_carry-run.ensures.early)))

pub returns-in-Err-read_carry-clause-ends : goal.returns-in-Err-read_carry-clause-ends
returns-in-Err-read_carry-clause-ends g c =
    rw c.in-Carry.is (unsettled carrier c.args.text.now c.in-Err-read_carry.fault refl refl (inl refl) c.in-Err-read_carry.ensures.judges c.say_fault-in-Err-read_carry.ensures.says)
