use Rattle.std.proofs.Common.{◌<◌, length, sym, ap, ◌∙◌, arith}
use Rattle.frame_rules.specs.Frames.{plain_body}
use Rattle.leader_core.specs.Commands.{frame_for}
use Rattle.leader_core.specs.Slots.{kept_of}
use Rattle.leader_core.proofs.FitLemmas.{stage_there}
use Rattle.leader_core.proofs.LinkLemmas.{told_does}
use Rattle.leader_core.proofs.stores.LeaderStores.tell_lane.Goals as goal

pub returns-clause-does : goal.returns-clause-does
returns-clause-does c f issued =
    let s = c.args.self.now in
    let i = c.args.command.now in
    let inside : c.from.result < length s.slots.items = omega (arith, c.requires.is.server.lanes, c.from.ensures, c.requires.lane) in
    let stage = stage_there s.slots.items c.from.result f.lane c.index.result.now inside (c.from.ensures ∙ sym issued.lane) c.index.ensures in
    let body = c.kept-body.ensures ∙ ap kept_of (sym stage) in
    let reply = c.reply-reply.ensures.value ∙ (ap (λ n. frame_for n i.serial 0 (plain_body c.kept-body.result)) (sym issued.lane)
    ∙ (ap (λ n. frame_for f.lane n 0 (plain_body c.kept-body.result)) (sym issued.serial)
    ∙ ap (frame_for f.lane f.serial 0) body)) in
    told_does s c.drop_oldest.new.self f _ c.args.command.now.lane c.put_frame.result c.args.out.now c.put_frame.new.out c.requires.is c.requires.some c.drop_oldest.ensures.link c.drop_oldest.ensures.order reply (sym issued.lane)
    c.put_frame.ensures.length c.put_frame.ensures.front
