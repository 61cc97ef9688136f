use Rattle.std.proofs.Common.{◌∙◌, refl}
use Rattle.desk_run.specs.Standings.{line_of}
use Rattle.desk_run.proofs.PrintLaws.{said_all, said_more, took_nothing}
use Rattle.desk_run.proofs.standing.say_boxes.Goals as goal

pub entries-init : goal.entries-init
entries-init g c = record { faults = refl; said = took_nothing (g.K.Counted.seen c.args.out.now).written }

pub entries-preserved : goal.entries-preserved
entries-preserved g c = record {
  faults = c.in_ok-say_entry.ensures.sink ∙ c.entries.invariant.faults;
  said = said_more (line_of c.args.entries.now) c.args.entries.now c.entries.entry-index _ _ _ _
      c.entries-test.true c.entry-item.is c.entries.invariant.said c.in_ok-say_entry.ensures.said;
}

pub returns-clause-said : goal.returns-clause-said
returns-clause-said g c =
    said_all (line_of c.args.entries.now) c.args.entries.now c.entries.entry-index _ _ c.entries-test.false c.entries.invariant.said
