use Rattle.std.proofs.Common.{◌∙◌, ap, take}
use Rattle.express_outside.specs.Calls.{given}
use Rattle.express_outside.proofs.Copied.{interrupted_step, piece_step}
use Rattle.express_outside.proofs.file_disk.copy_whole.Goals as goal
use Rattle.express_outside.proofs.file_disk.copy_whole.Goals.{in-Ok+in_ok-at-in-Ok, in-Err-Interrupted}

pub copying-preserved : goal.copying-preserved
copying-preserved g c =
    let old = g.F.FileCalls.calls c.args.file.now in
    let now = g.F.FileCalls.calls c.copying.file in
    let mid = g.F.FileCalls.calls c.read_at.new.self in
    let new = g.F.FileCalls.calls c.match-read_at.file in
    elim c.match-read_at.branch [
      | in-Ok+in_ok-at-in-Ok w ↦ piece_step old now mid new c.copying.at c.match-read_at.at c.read_at.new.out (take w.in-Ok.count c.read_at.new.out) c.read_at.result
          c.copying.invariant (ap (λ r. given r c.read_at.new.out) w.in-Ok.is) c.read_at.ensures.told
          (ap g.F.FileCalls.calls w.file-is ∙ w.in_ok-at-in-Ok.ensures.copied) (w.at-is ∙ w.in_ok-at-in-Ok.ensures.behind)
      | in-Err-Interrupted w ↦ interrupted_step old now new c.copying.at c.match-read_at.at c.read_at.new.out c.read_at.result
          c.copying.invariant (search) (ap g.F.FileCalls.calls w.file-is ∙ c.read_at.ensures.told) (search)
    ]
