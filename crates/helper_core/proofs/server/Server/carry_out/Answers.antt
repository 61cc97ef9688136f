use Rattle.std.proofs.Common.{◌≡◌, ◌<◌, ◌+◌, refl, sym, ap, ◌∙◌, arith}
use Rattle.frame_rules.specs.declared.frame.Body.{Body}
use Rattle.frame_rules.specs.Frames.{plain, plain_body}
use Rattle.express_words.specs.declared.refusal.Refusal.TheVariants as refusal
use Rattle.step_rules.specs.Helper.{row_at}
use Rattle.step_rules.specs.HelperCommands.{command, command_steps, carry_steps, stage_for, refuses}
use Rattle.helper_core.proofs.CommandLemmas.{lane_above, lane_below, steps_above, steps_below, other_command}
use Rattle.helper_core.proofs.server.Server.carry_out.Goals as goal

pub returns-in-LinkRegister-clause-effect : goal.returns-in-LinkRegister-clause-effect
unfolding command
returns-in-LinkRegister-clause-effect g c =
    let h = c.args.self.now in
    let f = plain c.args.frame.now in
    let stage = stage_for (row_at h f.lane) f.serial in
    let below : f.lane < h.settings.lanes = omega (arith, c.lanes.ensures) in
    lane_below h f below ∙ (ap (λ (b : Body). command h f (plain_body b) stage) c.in-LinkRegister.is ∙ c.register.ensures.effect c.args.masked.now)

pub returns-in-LinkRegister-clause-steps : goal.returns-in-LinkRegister-clause-steps
unfolding command_steps
returns-in-LinkRegister-clause-steps g c =
    let h = c.args.self.now in
    let f = plain c.args.frame.now in
    let stage = stage_for (row_at h f.lane) f.serial in
    let below : f.lane < h.settings.lanes = omega (arith, c.lanes.ensures) in
    let none : carry_steps h f ≡ 0 = steps_below h f below ∙ ap (λ (b : Body). command_steps h (plain_body b) stage) c.in-LinkRegister.is in
    omega arith

pub returns-in-LinkBegin-clause-effect : goal.returns-in-LinkBegin-clause-effect
unfolding command
returns-in-LinkBegin-clause-effect g c =
    let h = c.args.self.now in
    let f = plain c.args.frame.now in
    let stage = stage_for (row_at h f.lane) f.serial in
    let below : f.lane < h.settings.lanes = omega (arith, c.lanes.ensures) in
    lane_below h f below ∙ (ap (λ (b : Body). command h f (plain_body b) stage) c.in-LinkBegin.is ∙ c.begin.ensures.effect c.args.masked.now)

pub returns-in-LinkBegin-clause-steps : goal.returns-in-LinkBegin-clause-steps
unfolding command_steps
returns-in-LinkBegin-clause-steps g c =
    let h = c.args.self.now in
    let f = plain c.args.frame.now in
    let stage = stage_for (row_at h f.lane) f.serial in
    let below : f.lane < h.settings.lanes = omega (arith, c.lanes.ensures) in
    let none : carry_steps h f ≡ 0 = steps_below h f below ∙ ap (λ (b : Body). command_steps h (plain_body b) stage) c.in-LinkBegin.is in
    omega arith

pub returns-in-LinkAudit-clause-effect : goal.returns-in-LinkAudit-clause-effect
unfolding command
returns-in-LinkAudit-clause-effect g c =
    let h = c.args.self.now in
    let f = plain c.args.frame.now in
    let stage = stage_for (row_at h f.lane) f.serial in
    let below : f.lane < h.settings.lanes = omega (arith, c.lanes.ensures) in
    lane_below h f below ∙ (ap (λ (b : Body). command h f (plain_body b) stage) c.in-LinkAudit.is ∙ c.audit.ensures.effect c.args.masked.now)

pub returns-in-LinkAudit-clause-steps : goal.returns-in-LinkAudit-clause-steps
unfolding command_steps
returns-in-LinkAudit-clause-steps g c =
    let h = c.args.self.now in
    let f = plain c.args.frame.now in
    let stage = stage_for (row_at h f.lane) f.serial in
    let below : f.lane < h.settings.lanes = omega (arith, c.lanes.ensures) in
    let some = steps_below h f below ∙ ap (λ (b : Body). command_steps h (plain_body b) stage) c.in-LinkAudit.is in
    c.audit.ensures.steps ∙ ap (λ n. c.args.steps.now + n) (sym some)

pub returns-in-LinkSettle-clause-effect : goal.returns-in-LinkSettle-clause-effect
unfolding command
returns-in-LinkSettle-clause-effect g c =
    let h = c.args.self.now in
    let f = plain c.args.frame.now in
    let stage = stage_for (row_at h f.lane) f.serial in
    let below : f.lane < h.settings.lanes = omega (arith, c.lanes.ensures) in
    lane_below h f below ∙ (ap (λ (b : Body). command h f (plain_body b) stage) c.in-LinkSettle.is ∙ c.settle.ensures.effect c.args.masked.now)

pub returns-in-LinkSettle-clause-steps : goal.returns-in-LinkSettle-clause-steps
unfolding command_steps
returns-in-LinkSettle-clause-steps g c =
    let h = c.args.self.now in
    let f = plain c.args.frame.now in
    let stage = stage_for (row_at h f.lane) f.serial in
    let below : f.lane < h.settings.lanes = omega (arith, c.lanes.ensures) in
    let none : carry_steps h f ≡ 0 = steps_below h f below ∙ ap (λ (b : Body). command_steps h (plain_body b) stage) c.in-LinkSettle.is in
    omega arith

pub returns-in-LinkRead-clause-effect : goal.returns-in-LinkRead-clause-effect
unfolding command
returns-in-LinkRead-clause-effect g c =
    let h = c.args.self.now in
    let f = plain c.args.frame.now in
    let stage = stage_for (row_at h f.lane) f.serial in
    let below : f.lane < h.settings.lanes = omega (arith, c.lanes.ensures) in
    lane_below h f below ∙ (ap (λ (b : Body). command h f (plain_body b) stage) c.in-LinkRead.is ∙ c.read.ensures.effect)

pub returns-in-LinkRead-clause-steps : goal.returns-in-LinkRead-clause-steps
unfolding command_steps
returns-in-LinkRead-clause-steps g c =
    let h = c.args.self.now in
    let f = plain c.args.frame.now in
    let stage = stage_for (row_at h f.lane) f.serial in
    let below : f.lane < h.settings.lanes = omega (arith, c.lanes.ensures) in
    let none : carry_steps h f ≡ 0 = steps_below h f below ∙ ap (λ (b : Body). command_steps h (plain_body b) stage) c.in-LinkRead.is in
    omega arith

pub returns-in-LinkRetire-clause-effect : goal.returns-in-LinkRetire-clause-effect
unfolding command
returns-in-LinkRetire-clause-effect g c =
    let h = c.args.self.now in
    let f = plain c.args.frame.now in
    let stage = stage_for (row_at h f.lane) f.serial in
    let below : f.lane < h.settings.lanes = omega (arith, c.lanes.ensures) in
    lane_below h f below ∙ (ap (λ (b : Body). command h f (plain_body b) stage) c.in-LinkRetire.is ∙ c.read-in-LinkRetire.ensures.effect)

pub returns-in-LinkRetire-clause-steps : goal.returns-in-LinkRetire-clause-steps
unfolding command_steps
returns-in-LinkRetire-clause-steps g c =
    let h = c.args.self.now in
    let f = plain c.args.frame.now in
    let stage = stage_for (row_at h f.lane) f.serial in
    let below : f.lane < h.settings.lanes = omega (arith, c.lanes.ensures) in
    let none : carry_steps h f ≡ 0 = steps_below h f below ∙ ap (λ (b : Body). command_steps h (plain_body b) stage) c.in-LinkRetire.is in
    omega arith

pub returns-in_default : goal.returns-in_default
returns-in_default g c =
    let h = c.args.self.now in
    let f = plain c.args.frame.now in
    let stage = stage_for (row_at h f.lane) f.serial in
    let below : f.lane < h.settings.lanes = omega (arith, c.lanes.ensures) in
    let d = c.in_default in
    let other = other_command h f c.args.frame.now.body stage d.not-LinkRegister d.not-LinkBegin d.not-LinkAudit d.not-LinkSettle d.not-LinkRead d.not-LinkRetire in
    let none : carry_steps h f ≡ 0 = steps_below h f below ∙ other.1 in
    record { effect = lane_below h f below ∙ other.0; steps = omega arith; right = tt; kept = record { settings = refl; draws = omega arith } }

pub returns-then-frame-lanes-clause-effect : goal.returns-then-frame-lanes-clause-effect
returns-then-frame-lanes-clause-effect g c =
    lane_above c.args.self.now (plain c.args.frame.now) (omega (arith, c.lanes.ensures))
    ∙ ap (λ n. refuses c.args.self.now (refusal.Lane n)) (sym c.lanes-then-frame-lanes.ensures)

pub returns-then-frame-lanes-clause-steps : goal.returns-then-frame-lanes-clause-steps
returns-then-frame-lanes-clause-steps g c =
    let none : carry_steps c.args.self.now (plain c.args.frame.now) ≡ 0 = steps_above c.args.self.now (plain c.args.frame.now) (omega (arith, c.lanes.ensures)) in
    omega arith
