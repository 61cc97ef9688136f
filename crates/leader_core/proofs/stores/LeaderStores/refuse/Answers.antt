use Rattle.std.proofs.Common.{◌<◌, length, refl, sym, ap, ◌∙◌, arith}
use Rattle.frame_rules.specs.Frames as frame
use Rattle.lane_table.specs.declared.row.Want.{Want}
use Rattle.step_rules.specs.Boxes.{addresses_of}
use Rattle.step_rules.specs.Leader as steps
use Rattle.leader_core.proofs.KeepLemmas.{keeps_is, core_set, slot_here}
use Rattle.leader_core.proofs.stores.LeaderStores.refuse.Goals as goal

pub returns-clause-fits : goal.returns-clause-fits
returns-clause-fits c f issued =
    let s = c.args.self.now in
    let inside : c.from.result < length s.slots.items = omega (arith, c.requires.is.server.lanes, c.from.ensures, c.requires.lane) in
    let row = c.finish.ensures.row
    ∙ (ap (λ n. steps.row n (steps.Done c.want_of_order-want.result (frame.Refused c.args.refusal))) (sym issued.serial)
    ∙ ap (λ (w : Want). steps.row f.serial (steps.Done w (frame.Refused c.args.refusal))) c.want_of_order-want.ensures) in
    keeps_is s s.boxes s.boxes.boxes c.from.result c.finish.new.self f _ (frame.Refused c.args.refusal) refl (c.from.ensures ∙ sym issued.lane) inside row refl

pub returns-clause-kept : goal.returns-clause-kept
returns-clause-kept c =
    let s = c.args.self.now in
    let inside : c.from.result < length s.slots.items = omega (arith, c.requires.is.server.lanes, c.from.ensures, c.requires.lane) in
    let here = slot_here s c.from.result c.index_mut-slot.result.now c.requires.is inside c.index_mut-slot.ensures.value in
    record {
      link = refl;
      settings = refl;
      is = core_set s s.boxes c.from.result c.finish.new.self c.requires.is c.requires.is.server
          (c.finish.ensures.is_slot (addresses_of s.boxes.boxes) c.requires.answer s.settings.width s.settings.boxes here.rooms);
    }
