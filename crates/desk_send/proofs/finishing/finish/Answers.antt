use Rattle.std.proofs.Common.{ap, inl, inr}
use Rattle.desk_send.proofs.EndLaws.{still_here}
use Rattle.desk_send.proofs.TroubleLaws.{passed_on}
use Rattle.desk_send.proofs.finishing.finish.Goals as goal

pub say_and_remove-requires : goal.say_and_remove-requires
say_and_remove-requires g c = record {
  over = inl (record {
    letter = c.args.sent.letter;
    here = c.requires.here;
    worked = c.in_ok-end.ensures.comes.worked;
    end = c.in_ok-end.end;
    before = _;
    now = _;
    sent = c.in_ok-end.ensures.comes.sent;
  });
}

pub returns-in_err-say_and_remove-clause-untold : goal.returns-in_err-say_and_remove-clause-untold
returns-in_err-say_and_remove-clause-untold g c =
    passed_on _ c.in_err-say_and_remove.field-0.0 _ c.from_residual-in_err-say_and_remove.ensures.1
    (λ out. still_here g.F.File.Disk.disk c.args.sent.slot c.args.sent.letter _ _ c.requires.here
    (ap g.F.Folder.calls (c.in_err-say_and_remove.ensures.untold out)))

pub returns-in_err-end-clause-stays_open : goal.returns-in_err-end-clause-stays_open
returns-in_err-end-clause-stays_open g c =
    passed_on _ c.in_err-end.field-0.0 _ c.from_residual-in_err-end.ensures.1
    (inr (inl c.in_err-end.ensures.halts))

pub returns-in_err-say_and_remove-clause-stays_open : goal.returns-in_err-say_and_remove-clause-stays_open
returns-in_err-say_and_remove-clause-stays_open g c =
    passed_on _ c.in_err-say_and_remove.field-0.0 _ c.from_residual-in_err-say_and_remove.ensures.1
    (inr (inr (c.in_ok-end.end, c.in_ok-end.ensures.comes)))
