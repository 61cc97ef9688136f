use Rattle.std.proofs.Common.{◌≡◌, ◌∙◌, ◌≤◌, ap, arith}
use Rattle.node_journal.specs.Memory.{LogState, sync_noted, text_bytes}
use Rattle.node_journal.proofs.LogLaws.{text_bytes-sync, log-sync}
use Rattle.node_journal.proofs.disk_log.DiskLog.sync.Goals as goal

pub invariant_of-self : goal.invariant_of-self
invariant_of-self c =
    let calls : c.self.inside.calls ≡ c.args.self.now.calls = ap (λ (l : LogState). l.calls) c.self.view_is in
    let some : 1 ≤ c.self.inside.calls = omega (arith, calls, c.requires) in
    let len = c.in-Ok.ensures.len in
    let capacity = c.in-Ok.ensures.capacity in (
      omega (arith, len, capacity, some, c.self.invariant.0),
      c.self.invariant.1,
      ap text_bytes c.in-Ok.ensures.items ∙ text_bytes-sync c.self.inside.steps.items ∙ c.self.invariant.2,
    )

pub returns : goal.returns
returns c =
    log-sync c.self.inside.first.items c.self.inside.texts.items c.self.inside.steps.items c.push.new.self.items c.self.inside.calls c.self.inside.room c.in-Ok.ensures.items
    ∙ ap sync_noted c.self.view_is
