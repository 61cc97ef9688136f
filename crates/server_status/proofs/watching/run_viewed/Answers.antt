use Rattle.std.proofs.Common.{refl}
use Rattle.many_conns.proofs.CommitLaws.{if_err}
use Rattle.many_conns.proofs.LeadLaws.{leads_then, leads_none}
use Rattle.logged_hub.specs.State.{told_of}
use Rattle.server_status.proofs.RunLaws.{breaks_more, calls_more, calls_none, goes_more, one_more}
use Rattle.server_status.specs.Views.{calls_of}
use Rattle.server_status.proofs.watching.run_viewed.Goals as goal

pub loop-init : goal.loop-init
loop-init g c = record {
  leads = leads_none {S = g.row.S.Denot} g.S.Answering.rules (told_of c.args.hub.now) c.args.hall.now;
  goes_on = calls_none calls_of g.D.Disk.disk c.args.hub.now;
  rounds = (refl, refl);
  settled = c.requires.settled;
}

pub loop-preserved : goal.loop-preserved
loop-preserved g c = record {
  leads = leads_then {S = g.row.S.Denot} g.S.Answering.rules (told_of c.args.hub.now) (told_of c.loop.hub)
      (told_of c.run_server.new.hub) c.args.hall.now c.loop.hall c.run_server.new.hall
      c.loop.invariant.leads c.run_server.ensures.leads;
  goes_on = goes_more calls_of g.D.Disk.disk c.args.hub.now c.loop.hub c.run_server.new.hub
      c.loop.invariant.goes_on
      (record { calls = c.run_server.ensures.any_moment; fault = c.in_ok-run_server.ensures.whole });
  rounds = one_more {S = g.row.S.Denot} g.S.Answering.rules c.loop.counter
      (told_of c.args.hub.now) (told_of c.loop.hub) (told_of c.run_server.new.hub)
      c.args.hall.now c.loop.hall c.run_server.new.hall c.loop.invariant.rounds c.in_ok-run_server.ensures.rounds;
  settled = c.in_ok-run_server.ensures.settled;
}

pub returns-in_err-run_server-clause-leads : goal.returns-in_err-run_server-clause-leads
returns-in_err-run_server-clause-leads g c =
    leads_then {S = g.row.S.Denot} g.S.Answering.rules (told_of c.args.hub.now) (told_of c.loop.hub)
    (told_of c.run_server.new.hub) c.args.hall.now c.loop.hall c.run_server.new.hall
    c.loop.invariant.leads c.run_server.ensures.leads

pub returns-in_err-run_server-clause-any_moment : goal.returns-in_err-run_server-clause-any_moment
returns-in_err-run_server-clause-any_moment g c =
    calls_more calls_of g.D.Disk.disk c.args.hub.now c.loop.hub c.run_server.new.hub
    c.loop.invariant.goes_on.calls c.run_server.ensures.any_moment

pub returns-in_err-run_server-clause-ends : goal.returns-in_err-run_server-clause-ends
returns-in_err-run_server-clause-ends g c =
    if_err c.from_residual.result
    (breaks_more calls_of g.D.Disk.disk c.args.hub.now c.loop.hub c.run_server.new.hub
    c.loop.invariant.goes_on c.in_err-run_server.ensures.ends)
