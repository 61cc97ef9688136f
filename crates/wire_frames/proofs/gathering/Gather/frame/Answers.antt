use Rattle.std.proofs.Common.{◌≡◌, ◌∙◌, subst, sym}
use Rattle.frame_rules.specs.Frames.{plain}
use Rattle.frame_rules.specs.Spelling.{Spells}
use Rattle.frame_rules.specs.Gathering.{IsHeld}
use Rattle.frame_rules.proofs.GatheringLaws.{held_frame}
use Rattle.wire_frames.proofs.gathering.Gather.frame.Goals as goal

pub returns-in-Ok-clause-whole : goal.returns-in-Ok-clause-whole
returns-in-Ok-clause-whole c =
    let same : c.deref.result.now ≡ c.args.self.now = c.deref.ensures.value ∙ c.self.view_is in
    let held : IsHeld c.deref.result.now = subst IsHeld (sym c.deref.ensures.value) c.self.invariant.1 in
    let f = plain c.in-Ok.field-0.0 in
    (c.deref-in-Ok.ensures.value ∙ c.self.view_is, (f, subst (Spells f) same (held_frame c.deref.result.now f c.in-Ok.field-0.1 held c.in-Ok.ensures.within.0 c.in-Ok.ensures.found)))
