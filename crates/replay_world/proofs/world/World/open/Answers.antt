use Rattle.std.proofs.Common.{sym, ◌∙◌}
use Rattle.schedule_text.specs.declared.schedule.Schedule.{Schedule}
use Rattle.replay_world.proofs.Playing.{run_none}
use Rattle.replay_world.proofs.world.World.open.Goals as goal

pub returns-clause-whole : goal.returns-clause-whole
returns-clause-whole c =
    let none : Schedule = record { header = c.args.header.now; events = c.new.result.items } in
    record { stands = c.in_ok-open.ensures.opened ∙ sym (run_none none c.new.ensures.items); fit = c.in_ok-open.ensures.fit }
