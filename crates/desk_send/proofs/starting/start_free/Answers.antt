use Rattle.std.proofs.lemmas.Result.{IfOk-weaker}
use Rattle.desk_send.proofs.starting.start_free.Goals as goal

pub returns-in-Some-clause-starts : goal.returns-in-Some-clause-starts
returns-in-Some-clause-starts g c =
    let free = rw c.in-Some.is at c.in_ok-slot.ensures.free in
    IfOk-weaker c.start.result _ _ (λ sent starts. record {
      slot = c.in-Some.slot;
      found = _;
      free =
          free;
      starts = starts;
    })
    c.start.ensures.starts
