use Rattle.std.proofs.Common.{Some, List, ℕ, sym, ◌∙◌, ap}
use Rattle.many_conns.specs.Rules.{Commands}
use Rattle.many_servers.specs.Leaders.{given_told}
use Rattle.many_servers.specs.Packets.{packet}
use Rattle.many_servers.proofs.GivenLaws.{of-lease, of-none}
use Rattle.many_servers.proofs.leader.LeaderServer.lease.Goals as goal

pub returns-in-Ok-clause-says : goal.returns-in-Ok-clause-says
returns-in-Ok-clause-says c =
    let s = c.args.self.now.gated in
    let ask = c.args.ask.now in
    let lease = c.in-Ok.lease in
    ap (λ (bytes : List ℕ). Commands (Some (record { lane = lease.lane; serial = lease.serial })) bytes)
    (c.write_packet.ensures.written ∙ ap packet c.announced_record.ensures)
    ∙ sym (ap given_told (of-lease s ask lease c.lease.new.self c.in-Ok.ensures.told))

pub returns-in-Err-clause-says : goal.returns-in-Err-clause-says
returns-in-Err-clause-says c =
    let s = c.args.self.now.gated in
    let ask = c.args.ask.now in
    c.answer.ensures.says ∙ sym (ap given_told (of-none s ask c.in-Err.field-0 c.in-Err.ensures.told.0))
