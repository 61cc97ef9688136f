use Rattle.std.proofs.Common.{sym, ap, ◌∙◌}
use Rattle.frame_rules.specs.Frames.{plain}
use Rattle.step_rules.specs.HelperClients.{on_whole}
use Rattle.helper_core.specs.Slots.{turn_in}
use Rattle.helper_core.proofs.RowLemmas.{is_taken, not_taken, same_rows}
use Rattle.helper_core.proofs.rows.answer_client.Goals as goal

pub returns-in-Err-clause-turn : goal.returns-in-Err-clause-turn
unfolding on_whole
returns-in-Err-clause-turn c h is =
    ap (on_whole h) c.in-Err.ensures.refused ∙ (sym (same_rows h c.args.lanes c.args.slots.now _ is) ∙ ap (turn_in h c.args.slots.now) (sym c.refused_bytes.ensures))

pub returns-in-None-clause-turn : goal.returns-in-None-clause-turn
unfolding on_whole
returns-in-None-clause-turn c h is =
    ap (on_whole h) c.in-Ok.ensures.frame
    ∙ (not_taken h (plain c.in-Ok.frame) _ (sym c.brought_by.ensures ∙ c.in-None.is)
    ∙ (sym (same_rows h c.args.lanes c.args.slots.now _ is) ∙ ap (turn_in h c.args.slots.now) (sym c.refused_bytes-in-None.ensures)))

pub returns-in-Some-clause-turn : goal.returns-in-Some-clause-turn
unfolding on_whole
returns-in-Some-clause-turn c h is =
    ap (on_whole h) c.in-Ok.ensures.frame
    ∙ (is_taken h (plain c.in-Ok.frame) _ c.in-Some.brought (sym c.brought_by.ensures ∙ c.in-Some.is)
    ∙ (c.at_lane-body.ensures.turn h is ∙ ap (turn_in h c.at_lane-body.new.slots) (sym c.answer.ensures.value)))
