use Rattle.std.proofs.Common.{sym, ap, ◌∙◌}
use Rattle.many_conns.specs.Batches.{admitted, refused, line}
use Rattle.many_conns.proofs.BatchLaws.{filled_entries, filled_refused, left_is}
use Rattle.many_conns.proofs.filling.fill.Goals as goal

pub returns-clause-entries : goal.returns-clause-entries
returns-clause-entries g c =
    let rules = g.S.Answering.rules in
    let server = c.args.server.now in
    filled_entries rules.is_dear _ _ _ _ (ap (λ b. b.entries) c.begin.ensures) c.offer_line.ensures
    ∙ ap (λ left. admitted rules.is_dear left (line rules server c.args.turn c.args.places.now)) (left_is c.begin.new.self c.args.batch.now _ _ _ c.begin.ensures c.room.ensures)

pub returns-clause-refused : goal.returns-clause-refused
returns-clause-refused g c =
    let rules = g.S.Answering.rules in
    let server = c.args.server.now in
    filled_refused rules.is_dear _ _ _ _ c.offer_line.ensures
    ∙ ap (λ left. refused rules.is_dear left (line rules server c.args.turn c.args.places.now)) (left_is c.begin.new.self c.args.batch.now _ _ _ c.begin.ensures c.room.ensures)
