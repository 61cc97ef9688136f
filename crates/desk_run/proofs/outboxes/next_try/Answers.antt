use Rattle.std.proofs.Common.{inr}
use Rattle.desk_run.proofs.outboxes.next_try.Goals as goal

pub place-requires-in-Ok : goal.place-requires-in-Ok
place-requires-in-Ok g c = record {
  next = let card = c.place.ensures.whole.on_card in
      inr (
        c.args.outbox.now,
        record {
          head = card.head;
          is_card = card.is_card;
          draws = _;
          retries = c.in-Ok.ensures.retries card.head card.is_card;
        },
      );
}

pub returns-in-Ok-place-clause-again : goal.returns-in-Ok-place-clause-again
returns-in-Ok-place-clause-again g c =
    let card = c.place.ensures.whole.on_card in
    record { head = card.head; is_card = card.is_card; draws = _; retries = c.in-Ok.ensures.retries card.head card.is_card }

pub returns-in-Ok-place-clause-puts : goal.returns-in-Ok-place-clause-puts
returns-in-Ok-place-clause-puts g c =
    record { disk = c.in_ok-disk.disk; made = _; makes = c.in_ok-disk.ensures.made; placed = c.in-Ok-place.ensures.placed }
