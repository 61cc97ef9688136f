use Rattle.desk_run.proofs.sending.leave.Goals as goal

pub returns-clause-done : goal.returns-clause-done
returns-clause-done g c = record {
  card = c.args.card.now;
  is_card = c.requires.card;
  text = c.args.text.now;
  letter = c.in_ok-letter.letter;
  mid = _;
  begun = c.in_ok-letter.ensures.begun;
  letter_end = c.in_ok-end.end;
  comes = c.in_ok-end.ensures.ended;
  ends = c.end_of.ensures;
}
