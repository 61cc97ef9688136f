use Rattle.std.proofs.Common.{inl, refl}
use Rattle.desk_run.proofs.sending.start.Goals as goal

pub place-requires : goal.place-requires
place-requires g c = record {
  next = let card = c.requires.card in
      inl (
        c.args.card.now,
        c.args.text.now,
        record {
          head = card.card;
          is_card = card.is_card;
          draws = _;
          starts = c.in-Ok.ensures.starts card.card card.is_card;
        },
      );
}

pub returns-in-Ok-place-clause-starts : goal.returns-in-Ok-place-clause-starts
returns-in-Ok-place-clause-starts g c =
    let card = c.requires.card in
    record {
      at_slot = refl;
      first = record { head = card.card; is_card = card.is_card; draws = _; starts = c.in-Ok.ensures.starts card.card card.is_card };
      puts = record { disk = c.in_ok-disk.disk; made = _; makes = c.in_ok-disk.ensures.made; placed = c.in-Ok-place.ensures.placed };
    }
