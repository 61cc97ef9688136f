use Rattle.std.proofs.Common.{inr, refl}
use Rattle.desk_run.proofs.resuming_letters.resume_at.Goals as goal

pub returns-in_ok-end-in-Letter-clause-resumed : goal.returns-in_ok-end-in-Letter-clause-resumed
returns-in_ok-end-in-Letter-clause-resumed g c =
    inr (record {
      letter = record { slot = c.args.slot; outbox = c.in-Letter.outbox };
      at_slot = refl;
      opened = _;
      is_at = rw c.in-Letter.is at c.in_ok-open_at.ensures.found;
      end = c.in_ok-end-in-Letter.end;
      ends = c.in_ok-end-in-Letter.ensures.ended;
      written = c.is_written.ensures;
    })
