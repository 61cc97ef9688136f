use Rattle.std.proofs.Common.{◌≡◌, ◌∙◌, Result, subst, sym}
use Rattle.std.specs.Prelude.{IfOk}
use Rattle.desk_run.specs.declared.ending.WordEnd.{WordEnd}
use Rattle.desk_run.specs.declared.trouble.Trouble.{Trouble}
use Rattle.desk_run.specs.Ends.{status_of}
use Rattle.desk_run.specs.Printing.{Prints, TellsMet}
use Rattle.desk_run.proofs.StatusLaws.{ends_so, only_met, unfailed_told}
use Rattle.desk_run.proofs.WordLaws.{done_told, ok_written}
use Rattle.desk_run.proofs.top.run_task.Goals as goal

pub returns-clause-ends : goal.returns-clause-ends
returns-clause-ends g c =
    ends_so c.args.asked.task c.finish.result (status_of c.do_task-outcome.result) c.do_task-outcome.ensures.ends c.finish.ensures.status

pub returns-clause-in_use : goal.returns-clause-in_use
returns-clause-in_use g c four =
    let home = c.do_task-outcome.ensures.in_use (sym (c.finish.ensures.status (λ one. cc)) ∙ four) in
    record { input = home.input; net = home.net; papers = home.papers; clock = home.clock }

pub returns-clause-held : goal.returns-clause-held
returns-clause-held g c four = c.do_task-outcome.ensures.held (sym (c.finish.ensures.status (λ one. cc)) ∙ four)

pub returns-clause-done : goal.returns-clause-done
returns-clause-done g c =
    done_told g.F.File.Disk.disk g.F.File.Counted.seen c.args.asked.task c.finish.result c.do_task-outcome.result _ _ _ _ _
    c.finish.ensures.status (ok_written g.K.Counted.seen c.do_task-outcome.result _ _ c.finish.ensures.rests)
    c.do_task-outcome.ensures.does

pub returns-clause-met : goal.returns-clause-met
returns-clause-met g c five =
    let is = only_met c.do_task-outcome.result (sym (c.finish.ensures.status (λ one. cc)) ∙ five) in
    let same = subst (λ (r : Result WordEnd Trouble). IfOk r (λ end. c.finish.new.out ≡ c.do_task-outcome.new.around.out)) is
    c.finish.ensures.rests in
    subst (λ out. Prints TellsMet (g.K.Counted.seen c.args.around.now.out).written (g.K.Counted.seen out).written) (sym same)
    (c.do_task-outcome.ensures.met is)

pub returns-clause-sink : goal.returns-clause-sink
returns-clause-sink g c other =
    c.finish.ensures.sink other
    ∙ unfailed_told c.do_task-outcome.result _ _ (λ one. other (c.finish.ensures.status other ∙ one)) c.do_task-outcome.ensures.sink

pub returns-clause-net : goal.returns-clause-net
returns-clause-net g c other =
    unfailed_told c.do_task-outcome.result _ _ (λ one. other (c.finish.ensures.status other ∙ one)) c.do_task-outcome.ensures.net
