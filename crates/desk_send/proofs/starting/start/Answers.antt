use Rattle.std.proofs.Common.{refl}
use Rattle.desk_send.proofs.StartLaws.{unsent}
use Rattle.desk_send.proofs.starting.start.Goals as goal

pub place-requires : goal.place-requires
place-requires g c = record {
  unsent = unsent _ c.args.card.now c.args.text.now _ c.in_ok-letter.ensures.letter c.requires.text;
}

pub returns-in-Ok-clause-starts : goal.returns-in-Ok-clause-starts
returns-in-Ok-clause-starts g c = record {
  at_slot = refl;
  is = c.in_ok-letter.ensures.letter;
  durable = c.in_ok-letter.ensures.durable;
  disk = c.in_ok-disk.disk;
  made = _;
  makes = c.in_ok-disk.ensures.made;
  placed = c.in-Ok.ensures.placed;
}
