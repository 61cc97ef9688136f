use Rattle.std.proofs.Common.{◌<◌, length, Some, refl, sym, ap, ◌∙◌, arith}
use Rattle.server_boxes.specs.Held.{write_in}
use Rattle.step_rules.specs.Boxes.{addresses_of}
use Rattle.step_rules.specs.Leader as steps
use Rattle.leader_core.specs.State.{leader_in}
use Rattle.leader_core.proofs.FitLemmas.{stage_there, audits_not, audits_here}
use Rattle.leader_core.proofs.KeepLemmas.{state_is, core_set, slot_here}
use Rattle.step_rules.specs.LeaderReplies as replies
use Rattle.leader_core.specs.Replies.{settled_with}
use Rattle.leader_core.proofs.stores.LeaderStores.audited.Goals as goal

pub returns-in_default-clause-fits : goal.returns-in_default-clause-fits
returns-in_default-clause-fits c f issued =
    let s = c.args.self.now in
    let cur = c.index_mut-slot.result.now in
    let inside : c.from.result < length s.slots.items = omega (arith, c.requires.is.server.lanes, c.from.ensures, c.requires.lane) in
    ap (λ (st : steps.Stage). replies.audited (leader_in s) f st c.args.opened.now c.args.closing.now) (stage_there s.slots.items c.from.result f.lane cur inside (c.from.ensures ∙ sym issued.lane) c.index_mut-slot.ensures.value)
    ∙ audits_not (leader_in s) f cur.room.part.items cur.own.items cur.other.items c.args.opened.now c.args.closing.now cur.stage (sym c.auditing.ensures ∙ c.in_default.is)

pub returns-clause-fits : goal.returns-clause-fits
returns-clause-fits c f issued =
    let s = c.args.self.now in
    let cur = c.index_mut-slot.result.now in
    let inside : c.from.result < length s.slots.items = omega (arith, c.requires.is.server.lanes, c.from.ensures, c.requires.lane) in
    let st = steps.Settling s.link.next (write_in c.in-Some.begun cur.room.part.items) c.close-closed.result c.args.closing.now in
    let row = c.settle.ensures.row ∙ (ap (λ n. steps.row n (steps.Settling c.next-number.result (write_in c.in-Some.begun cur.room.part.items) c.close-closed.result c.args.closing.now)) (sym issued.serial)
    ∙ ap (λ n. steps.row f.serial (steps.Settling n (write_in c.in-Some.begun cur.room.part.items) c.close-closed.result c.args.closing.now)) c.next-number.ensures.number) in
    let state = state_is s s.boxes s.boxes.boxes c.from.result f.lane c.settle.new.self (steps.row f.serial st) refl (c.from.ensures ∙ sym issued.lane) row in
    ap (λ (x : steps.Stage). replies.audited (leader_in s) f x c.args.opened.now c.args.closing.now) (stage_there s.slots.items c.from.result f.lane cur inside (c.from.ensures ∙ sym issued.lane) c.index_mut-slot.ensures.value)
    ∙ (audits_here (leader_in s) f cur.room.part.items cur.own.items cur.other.items c.args.opened.now c.args.closing.now c.close-closed.result c.in-Some.begun c.in-Some.proof c.in-Some.own cur.stage (sym c.auditing.ensures ∙ c.in-Some.is) c.close-closed.ensures
    ∙ ap (λ (x : steps.Leader). Some (settled_with x f c.close-closed.result)) (sym state))

pub returns-clause-kept : goal.returns-clause-kept
returns-clause-kept c =
    let s = c.args.self.now in
    let cur = c.index_mut-slot.result.now in
    let inside : c.from.result < length s.slots.items = omega (arith, c.requires.is.server.lanes, c.from.ensures, c.requires.lane) in
    let audits = sym c.auditing.ensures ∙ c.in-Some.is in
    record {
      link = refl;
      settings = refl;
      is = core_set s s.boxes c.from.result c.settle.new.self c.requires.is c.requires.is.server
          (c.settle.ensures.is_slot (addresses_of s.boxes.boxes) (rw audits refl) s.settings.width s.settings.boxes
          (slot_here s c.from.result cur c.requires.is inside c.index_mut-slot.ensures.value));
    }
