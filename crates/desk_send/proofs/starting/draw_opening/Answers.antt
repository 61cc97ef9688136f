use Rattle.desk_send.proofs.DrawLaws.{drawn_id, drawn_last, drawn_mid, drawn_seed, same_opening}
use Rattle.desk_send.proofs.starting.draw_opening.Goals as goal

pub returns-clause-opening : goal.returns-clause-opening
returns-clause-opening c =
    let mid = drawn_mid _ _ _ c.seed-seed.ensures in
    same_opening _ _ _ _ _ _ (drawn_seed _ _ _ c.seed-seed.ensures) (drawn_id _ _ _ _ mid c.id.ensures)

pub returns-clause-behind : goal.returns-clause-behind
returns-clause-behind c =
    let mid = drawn_mid _ _ _ c.seed-seed.ensures in drawn_last _ _ _ _ mid c.id.ensures
