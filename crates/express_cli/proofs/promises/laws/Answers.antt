use Rattle.std.proofs.Common.{◌↔◌, ℕ, List}
use Rattle.schedule_text.proofs.MillLaws.{mill_keeps}
use Rattle.schedule_text.proofs.RuleLaws.{keeps_rules}
use Rattle.run_hiding.specs.Laws.{LettersAreIdeal, MasksApart}
use Rattle.run_laws.specs.Draws.{DrawsAreApart}
use Rattle.replay_world.proofs.Strangers.{of_every_schedule}
use Rattle.replay_world.proofs.MillEvents.{mill_from_clients}
use Rattle.express_cli.specs.Settings.{IsFirstBadKey, SettingsAreSpelled}
use Rattle.express_cli.specs.Talking.{IsBadKey}
use Rattle.express_cli.specs.declared.words.NetCommand.{NetCommand}
use Rattle.express_cli.specs.declared.words.NetCommand.TheVariants.{Serve, Client, Carry}
use Rattle.express_cli.proofs.promises.laws.Goals as goal

pub returns : goal.returns
returns c =
    let spelled : SettingsAreSpelled = record {
      servers = λ s text. (c.serve_is_read_exactly.ensures.found text s, c.serve_is_read_exactly.ensures.only text s);
      clients = λ s text. (c.client_is_read_exactly.ensures.found text s, c.client_is_read_exactly.ensures.only text s);
      carriers = λ s text. (c.carry_is_read_exactly.ensures.found text s, c.carry_is_read_exactly.ensures.only text s);
      keys = keys;
    } in
    record {
      spelled_keep_rules = λ text s is. keeps_rules s text is;
      mills_keep_rules = λ n low. (mill_keeps n low, mill_from_clients n);
      settings_are_spelled = spelled;
      mills_count = c.mills_count.ensures;
      lanes_stay_apart = c.schedules_fit.ensures.fit;
      foreign_lanes = c.schedules_fit.ensures.lanes;
      clients_are_alone = c.schedules_fit.ensures.alone;
      histories_are_runs = c.histories_hold.ensures.runs;
      entries_answer = c.histories_hold.ensures.entries;
      runs_are_printed = c.histories_hold.ensures.printed;
      follows_protocol = c.runs_follow_protocol.ensures;
      outcomes_are_plain = c.schedules_hold.ensures.outcomes;
      lines_are_told = c.schedules_hold.ensures.journal;
      clients_are_ready = c.schedules_hold.ensures.ready;
      journal_in_order = c.schedules_hold.ensures.order;
      shares_are_folds = c.schedules_hold.ensures.shares;
      boxes_are_plain = c.schedules_hold.ensures.boxes;
      owners_keep_theirs = c.owners_keep_theirs.ensures;
      requests_are_told = c.requests_are_told.ensures.told;
      frames_are_heeded = c.frames_are_heeded.ensures.heeded;
      replies_fit = c.frames_are_heeded.ensures.fit;
      replies_are_one = c.replies_are_one.ensures;
      rows_are_awaited = c.rows_are_awaited.ensures;
      strangers_were_brought = c.strangers_were_brought.ensures;
      clients_get_answers = c.clients_get_answers.ensures;
      leader_tells_no_point = c.points_are_untold.ensures.leader;
      helper_tells_no_point = c.points_are_untold.ensures.helper;
      leader_answers = c.refusals_have_causes.ensures.leader;
      helper_answers = c.refusals_have_causes.ensures.helper;
      later_is_taken = c.lanes_go_on.ensures.leader;
      deposit_is_held = c.lanes_go_on.ensures.helper;
      requests_go_on = c.lanes_go_on.ensures.client;
      turns_are_own = c.answers_are_own.ensures.turns;
      acks_are_own = c.answers_are_own.ensures.acks;
      logs_are_a_run = c.logs_are_a_run.ensures;
      frames_are_shown = c.frames_are_shown.ensures;
      finishes_answer = c.requests_are_told.ensures.finished;
      finishes_drain = c.requests_are_told.ensures.drained;
      accepted_writes_pass = c.accepted_writes_pass.ensures.passes;
      bad_writes_are_caught = c.accepted_writes_pass.ensures.caught;
      answers_join = c.answers_join.ensures.join;
      unwritten_is_missing = c.unwritten_is_missing.ensures;
      sorts_are_one = c.sorts_are_one.ensures;
      few_values_pass = c.few_values_pass.ensures;
      choices_stay = c.views_stay.ensures.choices_stay;
      views_stay = c.views_stay.ensures.views_stay;
      moves_return = c.views_stay.ensures.moves_return;
      distinct_stay = c.views_stay.ensures.distinct_stay;
      writes_are_choices = c.writes_are_choices.ensures.choice;
      writes_are_seen = c.writes_are_choices.ensures.seen;
      malicious_views_stay = c.malicious_views_stay.ensures.views_stay;
      malicious_distinct_stay = c.malicious_views_stay.ensures.distinct_stay;
      malicious_writes_are_seen = c.malicious_writes_are_seen.ensures;
      adversaries_play_the_same = c.adversaries_see_the_same.ensures.plays_stay;
      adversaries_see_the_same = c.adversaries_see_the_same.ensures.sights_stay;
      adversary_moves_return = c.adversaries_see_the_same.ensures.moves_return;
      distinct_stay_for_adversaries = c.adversaries_see_the_same.ensures.distinct_stay;
      helpers_audit_once = c.servers_audit_once.ensures.helper;
      leaders_audit_once = c.servers_audit_once.ensures.leader;
      helpers_are_real = c.worlds_have_the_tables.ensures.helper;
      leaders_are_real = c.worlds_have_the_tables.ensures.leader;
      helper_sights_stay = c.helper_runs_stay.ensures.sights;
      helper_runs_stay = c.helper_runs_stay.ensures.form;
      helper_runs_return = c.helper_runs_stay.ensures.back;
      helper_masks_stay = c.helper_runs_stay.ensures.masks;
      leader_sights_stay = c.leader_runs_stay.ensures.sights;
      leader_runs_stay = c.leader_runs_stay.ensures.form;
      leader_runs_return = c.leader_runs_stay.ensures.back;
      leader_masks_stay = c.leader_runs_stay.ensures.masks;
      writes_tell_the_same = c.honest_writes_move.ensures.frames;
      writes_return = c.honest_writes_move.ensures.back;
      clients_send_theirs = c.clients_are_honest.ensures.frames;
      leaves_are_real = c.clients_are_honest.ensures.leaves;
      draws_are_apart = of_every_schedule DrawsAreApart c.draws_are_apart.ensures;
      servers_draw_afresh = c.draws_are_fresh.ensures.servers;
      clients_draw_afresh = c.draws_are_fresh.ensures.clients;
      letters_are_ideal = λ viewer. of_every_schedule (LettersAreIdeal viewer) (c.runs_are_ideal.ensures.letters viewer);
      masks_are_apart = of_every_schedule MasksApart c.runs_are_ideal.ensures.masks;
      runs_have_form = c.runs_are_ideal.ensures.form;
      frames_are_ideal = c.runs_are_ideal.ensures.frames;
      foreign_replies_are_ideal = c.strangers_tell_no_more.ensures.replies;
      foreign_orders_stay = c.strangers_tell_no_more.ensures.orders;
      histories_stay = c.sights_stay.ensures.form;
      sights_stay = c.sights_stay.ensures.sights;
      histories_return = c.sights_stay.ensures.back;
      distinct_histories_stay = c.sights_stay.ensures.distinct;
      runs_fit_other_aims = c.runs_fit_other_aims.ensures.fit;
      schedules_fit_other_aims = c.runs_fit_other_aims.ensures.schedules;
      runs_fit_beside_strangers = c.runs_fit_other_aims.ensures.beside;
      acts_stay = c.flow_stays.ensures.acts;
      foreign_letters_stay = c.strangers_tell_no_more.ensures.letters;
      flow_stays = c.flow_stays.ensures.flow;
      results_stay = c.flow_stays.ensures.results;
      outcomes_stay = c.flow_stays.ensures.outcomes;
      outcomes_stay_beside_strangers = c.flow_stays.ensures.beside;
      writes_add_up = c.writes_add_up.ensures.sum;
    }
  where
    keys : (command : NetCommand) (key text : List ℕ) → IsBadKey command key text ↔ IsFirstBadKey command key text
    keys Serve key text = (c.serve_is_read_exactly.ensures.bad text key, c.serve_is_read_exactly.ensures.only_bad text key)
    keys Client key text = (c.client_is_read_exactly.ensures.bad text key, c.client_is_read_exactly.ensures.only_bad text key)
    keys Carry key text = (c.carry_is_read_exactly.ensures.bad text key, c.carry_is_read_exactly.ensures.only_bad text key)
