use Rattle.std.proofs.Common.{◌<◌, length, Some, refl, sym, ap, ◌∙◌, arith}
use Rattle.frame_rules.specs.Frames as frame
use Rattle.lane_table.specs.declared.row.Want.TheVariants.{Write as Writes}
use Rattle.step_rules.specs.Boxes.{addresses_of}
use Rattle.step_rules.specs.Leader as steps
use Rattle.leader_core.specs.State.{leader_in}
use Rattle.leader_core.proofs.FitLemmas.{stage_there, settles_not, rejects_not, rejects_here}
use Rattle.leader_core.proofs.KeepLemmas.{keeps_is, core_set, slot_here}
use Rattle.step_rules.specs.LeaderReplies as replies
use Rattle.express_words.specs.declared.refusal.Refusal.{Refusal}
use Rattle.leader_core.proofs.stores.LeaderStores.rejected.Goals as goal

pub returns-in_default-clause-fits : goal.returns-in_default-clause-fits
returns-in_default-clause-fits c f issued =
    let s = c.args.self.now in
    let cur = c.index.result.now in
    let inside : c.from.result < length s.slots.items = omega (arith, c.requires.is.server.lanes, c.from.ensures, c.requires.lane) in
    ap (λ (st : steps.Stage). replies.rejected (leader_in s) f st) (stage_there s.slots.items c.from.result f.lane cur inside (c.from.ensures ∙ sym issued.lane) c.index.ensures)
    ∙ (settles_not (leader_in s) f cur.room.part.items cur.own.items cur.other.items cur.stage (sym c.settling.ensures ∙ c.in_default.is)).1

pub returns-then-judge-clause-fits : goal.returns-then-judge-clause-fits
returns-then-judge-clause-fits c f issued =
    let s = c.args.self.now in
    let cur = c.index.result.now in
    let inside : c.from.result < length s.slots.items = omega (arith, c.requires.is.server.lanes, c.from.ensures, c.requires.lane) in
    ap (λ (st : steps.Stage). replies.rejected (leader_in s) f st) (stage_there s.slots.items c.from.result f.lane cur inside (c.from.ensures ∙ sym issued.lane) c.index.ensures)
    ∙ rejects_not (leader_in s) f cur.room.part.items cur.own.items cur.other.items _ c.in-Some.own c.in-Some.other cur.stage (sym c.settling.ensures ∙ c.in-Some.is) (sym c.judge.ensures.judged ∙ c.if-judge.true)

pub returns-clause-fits : goal.returns-clause-fits
returns-clause-fits c f issued =
    let s = c.args.self.now in
    let cur = c.index.result.now in
    let inside : c.from.result < length s.slots.items = omega (arith, c.requires.is.server.lanes, c.from.ensures, c.requires.lane) in
    let inside2 : c.from-2.result < length s.slots.items = omega (arith, c.requires.is.server.lanes, c.from-2.ensures, c.requires.lane) in
    ap (λ (st : steps.Stage). replies.rejected (leader_in s) f st) (stage_there s.slots.items c.from.result f.lane cur inside (c.from.ensures ∙ sym issued.lane) c.index.ensures)
    ∙ (rejects_here (leader_in s) f cur.room.part.items cur.own.items cur.other.items _ c.in-Some.own c.in-Some.other cur.stage (sym c.settling.ensures ∙ c.in-Some.is) (sym c.judge.ensures.judged ∙ c.if-judge.false)
    ∙ (ap (λ (r : Refusal). Some (replies.done (leader_in s) f Writes (frame.Refused r))) (sym c.rejection-refusal.ensures.value)
    ∙ keeps_is s s.boxes s.boxes.boxes c.from-2.result c.finish.new.self f (steps.Done Writes (frame.Refused c.rejection-refusal.result)) (frame.Refused c.rejection-refusal.result) refl (c.from-2.ensures ∙ sym issued.lane) inside2
    (c.finish.ensures.row ∙ ap (λ k. steps.row k (steps.Done Writes (frame.Refused c.rejection-refusal.result))) (sym issued.serial)) refl))

pub returns-clause-kept : goal.returns-clause-kept
returns-clause-kept c =
    let s = c.args.self.now in
    let inside : c.from-2.result < length s.slots.items = omega (arith, c.requires.is.server.lanes, c.from-2.ensures, c.requires.lane) in
    let here = slot_here s c.from-2.result c.index_mut-slot.result.now c.requires.is inside c.index_mut-slot.ensures.value in
    record {
      link = refl;
      settings = refl;
      is = core_set s s.boxes c.from-2.result c.finish.new.self c.requires.is c.requires.is.server
          (c.finish.ensures.is_slot (addresses_of s.boxes.boxes) c.rejection-refusal.ensures.answer s.settings.width s.settings.boxes here.rooms);
    }
