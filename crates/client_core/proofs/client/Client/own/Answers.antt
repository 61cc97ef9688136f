use Rattle.std.proofs.Common.{sym, ◌∙◌}
use Rattle.client_core.proofs.AskLemmas.{own_full, own_more}
use Rattle.client_core.proofs.client.Client.own.Goals as goal

pub returns-then-is_full-clause-owned : goal.returns-then-is_full-clause-owned
returns-then-is_full-clause-owned c =
    own_full c.self.inside.state c.args.self.now c.args.box_number c.args.serial c.self.view_is (sym c.if-is_full.true ∙ c.is_full.ensures)

pub returns-clause-owned : goal.returns-clause-owned
returns-clause-owned c =
    own_more c.self.inside.state c.args.self.now _ c.args.box_number c.args.serial c.self.view_is (sym c.if-is_full.false ∙ c.is_full.ensures) c.add_box.ensures.added
