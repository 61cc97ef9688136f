use Rattle.std.proofs.Common.{◌≡◌, ◌∙◌, false, eqb-true, length, sym}
use Rattle.desk_send.proofs.NoteLaws.{noted_all, noted_more, noted_none}
use Rattle.desk_send.proofs.starting.note_text.Goals as goal

pub pieces-init : goal.pieces-init
pieces-init g c = record {
  noted = noted_none c.args.letter.now.machine.letter c.args.text.now c.requires.empty;
  still_open = c.requires.still_open;
  durable = c.requires.durable;
}

pub pieces-preserved : goal.pieces-preserved
pieces-preserved g c =
    let still : c.note_piece.new.letter.journal.closed ≡ false =
    c.in_ok-note_piece.ensures.closed ∙ c.pieces.invariant.still_open in
    record {
      noted = noted_more _ _ _ c.split_at.result.0.now _ _ _ c.pieces.invariant.noted
          c.split_at.ensures.by_index.0 c.requires.count c.in_ok-note_piece.ensures.noted;
      still_open = still;
      durable = c.note_piece.ensures.durable still;
    }

pub returns-clause-noted : goal.returns-clause-noted
returns-clause-noted g c =
    let none : length c.pieces.rest.now ≡ 0 = eqb-true _ _ (sym c.is_empty.ensures ∙ c.pieces-test.false) in
    noted_all _ _ _ _ c.pieces.invariant.noted none
