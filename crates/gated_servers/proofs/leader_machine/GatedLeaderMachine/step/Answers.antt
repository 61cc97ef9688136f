use Rattle.std.proofs.Common.{sym, ◌∙◌, ap, subst}
use Rattle.lane_leases.specs.Records.{IsLeaderNote, leader_record}
use Rattle.gated_servers.specs.Leaders.{leader_after, leader_asked}
use Rattle.gated_servers.proofs.RecordLaws.{ask_read}
use Rattle.gated_servers.proofs.leader_machine.GatedLeaderMachine.step.Goals as goal

pub returns-in-Some-Asked-clause-steps : goal.returns-in-Some-Asked-clause-steps
returns-in-Some-Asked-clause-steps c =
    let s = c.args.self.now in
    let found = c.in-Some-Asked in
    c.lease.ensures.after
    ∙ ap (leader_asked s) (sym (ask_read found.ask (subst IsLeaderNote found.field-0-is found.ensures.some)))
    ∙ sym (ap (leader_after s) (found.ensures.is ∙ ap leader_record found.field-0-is))
