use Rattle.std.proofs.Common.{◌≡◌, ◌<◌, length, refl, sym, ap, ◌∙◌, arith}
use Rattle.frame_rules.specs.Frames as frame
use Rattle.lane_table.specs.declared.row.Want.TheVariants.{Register}
use Rattle.server_boxes.specs.Held.{Holdings}
use Rattle.step_rules.specs.Boxes.{addresses_of, with_new, place_of}
use Rattle.step_rules.specs.Leader as steps
use Rattle.leader_core.specs.State.{leader_in}
use Rattle.leader_core.proofs.FitLemmas.{stage_there, registers_not, registers_elsewhere, registers_nowhere, registers_here}
use Rattle.leader_core.proofs.KeepLemmas.{keeps_is, core_set, registered_server, slot_here}
use Rattle.step_rules.specs.LeaderReplies as replies
use Rattle.box_registry.specs.Boxes.{answer_at}
use Rattle.leader_core.proofs.stores.LeaderStores.registered.Goals as goal

pub returns-in_default-clause-fits : goal.returns-in_default-clause-fits
returns-in_default-clause-fits c f issued =
    let s = c.args.self.now in
    let cur = c.index.result.now in
    let inside : c.from.result < length s.slots.items = omega (arith, c.requires.is.server.lanes, c.from.ensures, c.requires.lane) in
    ap (λ (st : steps.Stage). replies.registered (leader_in s) f c.args.address st c.args.number) (stage_there s.slots.items c.from.result f.lane cur inside (c.from.ensures ∙ sym issued.lane) c.index.ensures)
    ∙ registers_not (leader_in s) f cur.room.part.items cur.own.items cur.other.items c.args.address c.args.number cur.stage (sym c.key.ensures ∙ c.in_default.is)

pub returns-then-number-count-clause-fits : goal.returns-then-number-count-clause-fits
returns-then-number-count-clause-fits c f issued =
    let s = c.args.self.now in
    let cur = c.index.result.now in
    let inside : c.from.result < length s.slots.items = omega (arith, c.requires.is.server.lanes, c.from.ensures, c.requires.lane) in
    ap (λ (st : steps.Stage). replies.registered (leader_in s) f c.args.address st c.args.number) (stage_there s.slots.items c.from.result f.lane cur inside (c.from.ensures ∙ sym issued.lane) c.index.ensures)
    ∙ registers_elsewhere (leader_in s) f cur.room.part.items cur.own.items cur.other.items c.args.address c.args.number c.in-Some.key cur.stage (sym c.key.ensures ∙ c.in-Some.is) (λ e. c.if-number-count.true (e ∙ sym c.count.ensures.count))

pub returns-in-Err-clause-fits : goal.returns-in-Err-clause-fits
returns-in-Err-clause-fits c f issued =
    let s = c.args.self.now in
    let cur = c.index.result.now in
    let inside : c.from.result < length s.slots.items = omega (arith, c.requires.is.server.lanes, c.from.ensures, c.requires.lane) in
    let answer = ap (λ l. answer_at l (length s.boxes.boxes) (place_of c.args.address s.boxes.boxes)) (sym c.requires.is.server.limit) ∙ (sym c.register.ensures.answer ∙ c.in-Err.is) in
    ap (λ (st : steps.Stage). replies.registered (leader_in s) f c.args.address st c.args.number) (stage_there s.slots.items c.from.result f.lane cur inside (c.from.ensures ∙ sym issued.lane) c.index.ensures)
    ∙ registers_nowhere (leader_in s) f cur.room.part.items cur.own.items cur.other.items c.args.address c.args.number c.in-Some.key cur.stage _ (sym c.key.ensures ∙ c.in-Some.is) answer

pub returns-in-Ok-clause-fits : goal.returns-in-Ok-clause-fits
returns-in-Ok-clause-fits c f issued =
    let s = c.args.self.now in
    let cur = c.index.result.now in
    let n = c.args.number in
    let inside : c.from.result < length s.slots.items = omega (arith, c.requires.is.server.lanes, c.from.ensures, c.requires.lane) in
    let inside2 : c.from-in-Ok.result < length s.slots.items = omega (arith, c.requires.is.server.lanes, c.from-in-Ok.ensures, c.requires.lane) in
    let answer = ap (λ l. answer_at l (length s.boxes.boxes) (place_of c.args.address s.boxes.boxes)) (sym c.requires.is.server.limit) ∙ (sym c.register.ensures.answer ∙ c.in-Ok.is) in
    let after : c.register.new.self.boxes ≡ with_new s.settings.width c.args.address c.in-Some.key s.boxes.boxes =
    ap (λ (h : Holdings). h.boxes) c.in-Ok.ensures.added ∙ ap (λ w. with_new w c.args.address c.in-Some.key s.boxes.boxes) c.requires.is.server.width in
    ap (λ (st : steps.Stage). replies.registered (leader_in s) f c.args.address st n) (stage_there s.slots.items c.from.result f.lane cur inside (c.from.ensures ∙ sym issued.lane) c.index.ensures)
    ∙ (registers_here (leader_in s) f cur.room.part.items cur.own.items cur.other.items c.args.address n _ c.in-Some.key cur.stage (sym c.key.ensures ∙ c.in-Some.is) (omega (arith, c.if-number-count.false, c.count.ensures.count)) answer
    ∙ keeps_is s c.register.new.self (with_new s.settings.width c.args.address c.in-Some.key s.boxes.boxes) c.from-in-Ok.result c.finish.new.self f (steps.Done Register (frame.Registered n)) (frame.Registered n) after (c.from-in-Ok.ensures ∙ sym issued.lane) inside2
    (c.finish.ensures.row ∙ ap (λ k. steps.row k (steps.Done Register (frame.Registered n))) (sym issued.serial)) refl)

pub returns-in-Ok-clause-kept : goal.returns-in-Ok-clause-kept
returns-in-Ok-clause-kept c =
    let s = c.args.self.now in
    let inside : c.from-in-Ok.result < length s.slots.items = omega (arith, c.requires.is.server.lanes, c.from-in-Ok.ensures, c.requires.lane) in
    let here = slot_here s c.from-in-Ok.result c.index_mut-slot.result.now c.requires.is inside c.index_mut-slot.ensures.value in
    record {
      link = refl;
      settings = refl;
      is = core_set s c.register.new.self c.from-in-Ok.result c.finish.new.self c.requires.is
          (registered_server s.settings s.boxes c.register.new.self s.slots.items c.args.address c.in-Some.key _ c.requires.is.server (sym c.register.ensures.answer ∙ c.in-Ok.is) c.in-Ok.ensures.added)
          (c.finish.ensures.is_slot (addresses_of c.register.new.self.boxes) (record { unlinked = refl; addressed = λ lane serial some. some; is_body = c.ranges.number.fits }) s.settings.width s.settings.boxes here.rooms);
    }
