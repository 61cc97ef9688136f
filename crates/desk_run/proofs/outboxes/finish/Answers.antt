use Rattle.std.proofs.Common.{inl, refl}
use Rattle.desk_run.proofs.outboxes.finish.Goals as goal

pub say_and_remove-requires : goal.say_and_remove-requires
say_and_remove-requires g c = record {
  over = inl (record {
    start = c.args.letter.outbox;
    end = c.in_ok-end.end;
    old = _;
    new = _;
    comes = c.in_ok-end.ensures.comes;
    here = refl;
  });
}
