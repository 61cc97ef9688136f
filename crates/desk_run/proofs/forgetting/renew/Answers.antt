use Rattle.std.proofs.lemmas.Result.{on_ok_weaker}
use Rattle.desk_run.proofs.RenewLaws.{follows, placed_ok}
use Rattle.desk_run.proofs.forgetting.renew.Goals as goal

pub returns-in-Ok-clause-renews : goal.returns-in-Ok-clause-renews
returns-in-Ok-clause-renews g c =
    on_ok_weaker c.replace-replaced.result
    (λ placed. record {
      disk = c.in_ok-disk.disk;
      mid = _;
      made = c.in_ok-disk.ensures.made;
      empty = c.in-Ok.ensures.empty;
      seen = c.in-Ok.ensures.seen;
      next = c.in-Ok.next;
      follows = follows _ _ c.in-Ok.ensures.opening c.in-Ok.ensures.serial c.in-Ok.ensures.boxes c.in-Ok.ensures.entries
          c.in-Ok.ensures.pair c.in-Ok.ensures.idle;
      placed = placed;
    })
    (placed_ok c.replace-replaced.result _ _ _ _ c.replace-replaced.ensures.placed)
