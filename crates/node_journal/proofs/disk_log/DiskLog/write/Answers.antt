use Rattle.std.proofs.Common.{◌≡◌, ◌∙◌, ◌≤◌, length, ap, arith}
use Rattle.node_journal.specs.Memory.{LogState, write_noted}
use Rattle.node_journal.proofs.LogLaws.{log-texts, log-write}
use Rattle.node_journal.proofs.disk_log.DiskLog.write.Goals as goal

pub invariant_of-self : goal.invariant_of-self
invariant_of-self c =
    let calls : c.self.inside.calls ≡ c.args.self.now.calls = ap (λ (l : LogState). l.calls) c.self.view_is in
    let room : c.self.inside.room ≡ c.args.self.now.room = ap (λ (l : LogState). l.room) c.self.view_is in
    let some : 1 ≤ c.self.inside.calls = omega (arith, calls, c.requires.0) in
    let fits : length c.args.bytes.now ≤ c.self.inside.room = omega (arith, room, c.requires.1) in (
      omega (arith, c.in-Ok.ensures.len, c.in-Ok.ensures.capacity, some, c.self.invariant.0),
      omega (arith, c.in-Ok-extend_from_slice.ensures.len, c.in-Ok-extend_from_slice.ensures.capacity, fits, c.self.invariant.1),
      log-texts c.self.inside.texts.items c.extend_from_slice.new.self.items c.args.bytes.now c.self.inside.steps.items c.push.new.self.items c.args.at
          c.self.invariant.2 c.in-Ok.ensures.items c.in-Ok-extend_from_slice.ensures.items,
    )

pub returns : goal.returns
returns c =
    log-write c.self.inside.first.items c.self.inside.texts.items c.extend_from_slice.new.self.items c.args.bytes.now c.self.inside.steps.items c.push.new.self.items c.args.at
    c.self.inside.calls c.self.inside.room c.self.invariant.2 c.in-Ok.ensures.items c.in-Ok-extend_from_slice.ensures.items
    ∙ ap (λ (l : LogState). write_noted c.args.at c.args.bytes.now l) c.self.view_is
