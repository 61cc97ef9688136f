use Rattle.std.proofs.Common.{subst}
use Rattle.client_restart.specs.Keeps.{CallKeeps}
use Rattle.client_restart.specs.Kept.{ClientState, state_of}
use Rattle.client_restart.specs.Notes.{plain_note}
use Rattle.client_restart.proofs.KeptLaws.{keeps_note}
use Rattle.client_restart.proofs.kept.KeptClient.take.Goals as goal

pub returns-clause-keeps : goal.returns-clause-keeps
returns-clause-keeps g c =
    let D = g.D.Disk in
    let n = plain_note c.args.note.now in
    subst (λ (k : ClientState g.row.D.Denot). CallKeeps D.disk g.D.Counted.seen n k (state_of c.take.new.kept) c.take.result) c.self.view_is
    (keeps_note D.disk g.D.Counted.seen n c.self.inside.kept c.take.new.kept c.take.result c.requires.is_note c.take.ensures.keeps c.take.ensures.durable)
