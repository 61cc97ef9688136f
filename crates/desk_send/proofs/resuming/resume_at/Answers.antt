use Rattle.std.proofs.Common.{inl, inr, refl}
use Rattle.desk_send.proofs.ResumeLaws.{holds_as}
use Rattle.desk_send.proofs.resuming.resume_at.Goals as goal

pub returns-in_ok-end-in-Letter-clause-resumed : goal.returns-in_ok-end-in-Letter-clause-resumed
returns-in_ok-end-in-Letter-clause-resumed g c =
    inr (record {
      sent = record { slot = c.args.slot; letter = c.in-Letter.letter };
      end = c.in_ok-end-in-Letter.end;
      ends = record {
        at_slot = refl;
        opened = _;
        is_at = rw c.in-Letter.is at c.in_ok-open_at.ensures.found;
        ends = c.in_ok-end-in-Letter.ensures.ended;
      };
      written = c.is_written.ensures;
    })

pub returns-in_err-open_at-clause-resumed : goal.returns-in_err-open_at-clause-resumed
returns-in_err-open_at-clause-resumed g c =
    holds_as g.F.File.Disk.disk g.F.File.Counted.seen c.args.slot _ c.in_err-open_at.field-0.0 _ _
    c.from_residual.ensures.1
    (record { untold = λ out. absurd (c.in_err-open_at.ensures.cause.not_out out); stays = inl refl })

pub returns-in_err-end-in-Letter-clause-resumed : goal.returns-in_err-end-in-Letter-clause-resumed
returns-in_err-end-in-Letter-clause-resumed g c =
    holds_as g.F.File.Disk.disk g.F.File.Counted.seen c.args.slot _ c.in_err-end-in-Letter.field-0.0 _ _
    c.from_residual-in_err-end-in-Letter.ensures.1
    (record {
      untold = c.in_err-end-in-Letter.ensures.untold;
      stays = inr (record {
        sent = record { slot = c.args.slot; letter = c.in-Letter.letter };
        at_slot = refl;
        opened = _;
        is_at = rw c.in-Letter.is at c.in_ok-open_at.ensures.found;
        stays = c.in_err-end-in-Letter.ensures.stays_open;
      });
    })

pub returns-in-Unreadable-clause-resumed : goal.returns-in-Unreadable-clause-resumed
returns-in-Unreadable-clause-resumed g c =
    record { untold = λ out. absurd (cc out); stays = inl refl }
