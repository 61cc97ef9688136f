use Rattle.std.proofs.Common.{◌∙◌, inr, refl, sym}
use Rattle.desk_run.proofs.making_way.make_way_at.Goals as goal

pub returns-in-Letter-clause-made : goal.returns-in-Letter-clause-made
returns-in-Letter-clause-made g c =
    inr (record {
      letter = record { slot = c.args.slot; outbox = c.in-Letter.outbox };
      at_slot = refl;
      same_card = sym c.card.ensures ∙ c.is_same_card.ensures.same c.if-is_same_card.true;
      opened = _;
      is_at = rw c.in-Letter.is at c.in_ok-outbox.ensures.found;
      end = c.in_ok-finish-in-Letter.field-0;
      ends = c.in_ok-finish-in-Letter.ensures.ended;
    })
