use Rattle.std.proofs.Common.{inl, inr, refl}
use Rattle.desk_send.proofs.TroubleLaws.{passed_on}
use Rattle.desk_send.proofs.making_way.make_way_at.Goals as goal

pub returns-in-Letter-clause-made : goal.returns-in-Letter-clause-made
returns-in-Letter-clause-made g c =
    inr (record {
      sent = record { slot = c.args.slot; letter = c.in-Letter.letter };
      same_card = c.has_card.ensures.same c.if-has_card.true;
      end = c.in_ok-finish-in-Letter.field-0;
      ends = record {
        at_slot = refl;
        opened = _;
        is_at = rw c.in-Letter.is at c.in_ok-letter.ensures.found;
        ends = c.in_ok-finish-in-Letter.ensures.ended;
      };
    })

pub returns-in_err-letter-clause-holds : goal.returns-in_err-letter-clause-holds
returns-in_err-letter-clause-holds g c =
    passed_on _ c.in_err-letter.field-0.0 _ c.from_residual.ensures.1
    (record { untold = λ out. absurd (c.in_err-letter.ensures.cause.not_out out); stays = inl refl })

pub returns-in_err-finish-in-Letter-clause-holds : goal.returns-in_err-finish-in-Letter-clause-holds
returns-in_err-finish-in-Letter-clause-holds g c =
    passed_on _ c.in_err-finish-in-Letter.field-0.0 _ c.from_residual-in_err-finish-in-Letter.ensures.1
    (record {
      untold = c.in_err-finish-in-Letter.ensures.untold;
      stays = inr (record {
        sent = record { slot = c.args.slot; letter = c.in-Letter.letter };
        at_slot = refl;
        opened = _;
        is_at = rw c.in-Letter.is at c.in_ok-letter.ensures.found;
        stays = c.in_err-finish-in-Letter.ensures.stays_open;
      });
    })

pub returns-clause-holds : goal.returns-clause-holds
returns-clause-holds g c = record { untold = λ out. absurd (cc out); stays = inl refl }
