use Rattle.std.proofs.Common.{◌≡◌, ◌∙◌, ℕ, List, arith, append-nil, length-append, ap}
use Rattle.clap.specs.Words.{Text}
use Rattle.schedule_text.specs.Grammar.{schedule_of}
use Rattle.replay_world.specs.Played.{output_of}
use Rattle.express_texts.specs.Batch.{batch_of}
use Rattle.express_texts.specs.GameLines.{game_of}
use Rattle.express_cli.specs.Around.{Around, Streams, left_in}
use Rattle.express_cli.specs.Ends.{bad_settings, status_of}
use Rattle.express_cli.specs.Keeping.{InputCounts}
use Rattle.express_cli.specs.Ran.{Ran}
use Rattle.express_cli.specs.Runs.{RunEnds, RunMay}
use Rattle.express_cli.specs.declared.ends.End.{End}
use Rattle.express_cli.specs.CommandLine.{AskFor}
use Rattle.express_cli.specs.declared.words.Command.{Command}
use Rattle.express_cli.specs.declared.words.Command.TheVariants.{Replay, Batch, Cloak}
use Rattle.express_cli.specs.declared.words.NetCommand.{NetCommand}
use Rattle.express_cli.specs.declared.words.NetCommand.TheVariants.{Serve, Client, Carry}
use Rattle.express_cli.specs.declared.words.InputTask.{InputTask}
use Rattle.express_cli.specs.declared.words.InputTask.TheVariants.{Work, Net}
use Rattle.express_cli.specs.declared.words.Task.TheVariants.{OnInput, Mill}
use Rattle.express_cli.proofs.OneReading.{Reads, not_both, one_reading, same_line, same_task}
use Rattle.express_cli.proofs.ByTask.{by_settings, if_some, input_done, met, work_done}
use Rattle.express_cli.proofs.Writing.{sink_stays, took_as}
use Rattle.express_cli.proofs.top.run.Goals as goal

came : Reads → (words : List Text) (streams : Streams) (net : Around) (end : End) → RunEnds words streams net end → InputCounts end streams → Ran words streams net (status_of end)
came law words streams net end ends source =
    let comes = ends.talks.comes in
    record {
      headline = λ asks well. if_some (left_in streams.input.content) (λ left is schedule spells short.
          let did = work_done words streams net end Replay left comes asks well is short (λ n. law.schedules.not_both left schedule n spells) in
          (did.1, took_as _ _ _ _ (did.2.2 ∙ ap output_of (law.schedules.same_value left did.2.0 schedule did.2.1 spells)) did.3));
      batch = λ asks well. if_some (left_in streams.input.content) (λ left is pairs spells short.
          let did = work_done words streams net end Batch left comes asks well is short (λ n. law.pairs.not_both left pairs n spells) in
          let sort = rw (law.pairs.same_value left did.2.0 pairs did.2.1 spells) at did.2.2 in
          (did.1, (sort.0, sort.1, sort.2, took_as _ _ _ _ sort.3 did.3)));
      cloak = λ asks well. if_some (left_in streams.input.content) (λ left is game spells short.
          let did = work_done words streams net end Cloak left comes asks well is short (λ n. law.games.not_both left game n spells) in
          let shown = rw (law.games.same_value left did.2.0 game did.2.1 spells) at did.2.2 in
          (did.1, shown.0, took_as _ _ _ _ shown.1 did.3));
      names_bad_line = λ command asks well. if_some (left_in streams.input.content) (λ left is n bad short.
          let did = input_done words streams net end (Work command) left comes asks well is short in
          grind (arith, not_both law, same_line law, took_as));
      refuses_too_long = λ some well. if_some (left_in streams.input.content) (λ left is long.
          let did = met words streams net end (OnInput some.0) comes some.1 well.sink well.memory in
          grind (arith, append-nil, took_as));
      mill = λ n asks sink memory.
          let did = met words streams net end (Mill n) comes asks sink memory in
          let other : (task : InputTask) → AskFor words (OnInput task) → ⊥ = λ task found. cc (same_task words (OnInput task) (Mill n) found asks) in
          grind (arith, other, took_as);
      serve = by_settings Serve words streams net end comes;
      client = by_settings Client words streams net end comes;
      carry = by_settings Carry words streams net end comes;
      names_bad_key = λ command asks well. if_some (left_in streams.input.content) (λ left is key bad short.
          let did = input_done words streams net end (Net command) left comes asks well is short in
          let named : (status_of end ≡ 3) × (did.0 ≡ bad_settings key) = grind arith in
          (named.0, took_as _ _ did.0 _ named.1 did.2));
      statuses = grind arith;
      usage = λ e. grind (arith, took_as);
      usage_only = λ none. grind (arith, λ (c : Command). none (OnInput (Work c)), λ (c : NetCommand). none (OnInput (Net c)), λ (task : InputTask). none (OnInput task), λ (n : ℕ). none (Mill n));
      worked = λ e. grind (arith, took_as);
      refused = λ e. grind (arith, took_as);
      read_fault = λ e. grind (arith, took_as);
      write_fault = λ e. grind arith;
      told_in_time = λ e. ends.talks.in_time (grind arith);
      early = ends.talks.leaves;
      net_fault = λ e. grind arith;
      out_of_memory = λ e. grind (arith, took_as);
      too_long = λ e. grind (arith, took_as);
      too_long_only = λ long. grind (arith, length-append);
      source_unfailed = λ read write. source (λ e. read (ap status_of e)) (λ e. write (ap status_of e));
      sink_unfailed = λ write. sink_stays (RunMay words streams net) streams.out streams.out_now end comes (λ e. write (ap status_of e));
    }

pub returns-clause-ran : goal.returns-clause-ran
returns-clause-ran g c =
    let law : Reads = record {
      schedules = one_reading schedule_of c.read_exactly.ensures.only c.read_exactly.ensures.only_bad;
      pairs = one_reading batch_of c.batch_is_read_exactly.ensures.only c.batch_is_read_exactly.ensures.only_bad;
      games = one_reading game_of c.game_is_read_exactly.ensures.only c.game_is_read_exactly.ensures.only_bad;
    } in
    rw c.status_of.ensures (came law _ _ _ _ c.finish.ensures.ends c.finish.ensures.source)
