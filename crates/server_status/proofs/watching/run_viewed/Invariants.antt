use Rattle.many_conns.specs.Hall.{Leads, IsSettled, RoundsOf}
use Rattle.logged_hub.specs.Runs.{Proceeds}
use Rattle.logged_hub.specs.State.{told_of}
use Rattle.server_status.specs.Views.{calls_of}
use Rattle.server_status.proofs.watching.run_viewed.Given as goal

abbrev pub invariant-loop : goal.invariant-loop
invariant-loop g l = record {
  leads : Leads g.S.Answering.rules (told_of l.fn.hub) (told_of l.hub) l.fn.hall l.hall;
  goes_on : Proceeds calls_of g.D.Disk.disk l.fn.hub l.hub;
  rounds : RoundsOf g.S.Answering.rules l.counter (told_of l.fn.hub) (told_of l.hub) l.fn.hall l.hall;
  settled : IsSettled g.S.Answering.rules l.hall;
}
