use Rattle.std.proofs.Common.{List}
use Rattle.many_words.specs.Events.{Event}
use Rattle.many_conns.specs.Hall.{idle}
use Rattle.many_servers.specs.Helpers.{helper_answers}
use Rattle.gated_servers.specs.Helpers.{opened_gated}
use Rattle.logged_hub.specs.Calls.{opening}
use Rattle.gated_runs.specs.Logs.{HelperTakes}
use Rattle.gated_runs.specs.Tickets.{HelperLogsCarry}
use Rattle.gated_runs.proofs.SinceLaws.{since}
use Rattle.gated_runs.proofs.running.run_helper.Goals as goal

pub returns-clause-takes : goal.returns-clause-takes
returns-clause-takes g c =
    let old = c.args.hall.now in
    let new = c.run_viewed.new.hall in
    since helper_answers (opening c.args.hub.now.held) (opening c.run_viewed.new.hub.held)
    c.args.hub.now.calls
    c.run_viewed.new.hub.calls old new c.run_viewed.ensures.leads
    (λ (events : List Event). HelperTakes old.server.gated events new.owed new.server.gated)
    (λ events run. c.servers_take_their_logs.ensures.helper (idle old) (idle new) events
    c.requires.settled.nothing_owed run)

pub returns-clause-gated : goal.returns-clause-gated
returns-clause-gated g c =
    let old = c.args.hall.now in
    let new = c.run_viewed.new.hall in
    since helper_answers (opening c.args.hub.now.held) (opening c.run_viewed.new.hub.held)
    c.args.hub.now.calls
    c.run_viewed.new.hub.calls old new c.run_viewed.ensures.leads (HelperLogsCarry old.server.gated)
    (λ events run. c.logged_frames_carry_their_tickets.ensures.helper (idle old) (idle new) events
    c.requires.settled.nothing_owed run)

pub returns-clause-leases : goal.returns-clause-leases
returns-clause-leases g c =
    λ opening rest is. c.a_lane_and_serial_is_leased_once.ensures.helper (opened_gated opening) rest
