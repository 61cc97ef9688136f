use Rattle.std.proofs.Common.{◌≡◌, false, subst}
use Rattle.client_restart.specs.Kept.{ClientState, StandsByNotes}
use Rattle.client_restart.proofs.MachineLaws.{stands_of}
use Rattle.client_restart.proofs.kept.KeptClient.send.Goals as goal

pub returns-clause-stands : goal.returns-clause-stands
returns-clause-stands g c =
    let reads = (g.D.Disk.disk c.self.inside.kept.disk).reads in
    subst (λ (k : ClientState g.row.D.Denot). k.journal.closed ≡ false → StandsByNotes k.opening k.core (g.D.Disk.disk k.disk).reads) c.self.view_is
    (λ still. stands_of c.self.inside.kept.machine reads (c.machine.ensures.durable still).stands)
