use Rattle.std.proofs.Common.{◌++◌, List, ap, sym, ◌∙◌, take, refl}
use Rattle.step_rules.specs.HelperCommands.{on_link_bytes}
use Rattle.run_rules.specs.Letters.{JournalLine}
use Rattle.replay_world.specs.Parts.{journal_in}
use Rattle.replay_world.specs.Posts.{lines_in}
use Rattle.replay_world.proofs.Letters.{carried_is, carried_lines}
use Rattle.replay_world.proofs.Events.{on_ok}
use Rattle.replay_world.proofs.at_helper.command_comes.Goals as goal

pub returns-in_ok-note-in-Carried-clause-journal :
    goal.returns-in_ok-note-in-Carried-clause-journal
returns-in_ok-note-in-Carried-clause-journal c =
    let frame = c.args.frame.now in
    let answer = (on_link_bytes c.args.helper.now frame).answer in
    let bytes = take c.in-Carried.length c.carry_command.new.out in
    let is = carried_is answer c.in-Carried.length c.carry_command.new.out bytes (sym c.in-Carried.ensures.answer) refl c.carry_command.ensures.written c.carry_command.ensures.frame in
    let lines = carried_lines frame answer bytes (lines_in c.journal_line.result) is c.journal_line.ensures in
    on_ok c.post-in-Carried.result (λ p. c.in_ok-note-in-Carried.ensures ∙ ap (λ (ls : List JournalLine). journal_in c.args.journal.now.items ++ ls) lines) c.post-in-Carried.ensures
