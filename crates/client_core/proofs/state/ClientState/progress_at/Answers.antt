use Rattle.std.proofs.Common.{◌≡◌, ◌∙◌, ap, sym, refl}
use Rattle.std.specs.Prelude.{option_map}
use Rattle.frame_rules.specs.Frames.{plain}
use Rattle.step_rules.specs.Client.{Turn}
use Rattle.step_rules.specs.ClientReplies as replies
use Rattle.client_core.specs.declared.stage.CurrentStep.{CurrentStep}
use Rattle.client_core.specs.Answers.{progress_in}
use Rattle.client_core.specs.Heard.{turn_in}
use Rattle.client_core.specs.Stages.{current_in}
use Rattle.client_core.specs.States.{client_in, held_in}
use Rattle.client_core.proofs.ReplyLemmas.{idle, no_frame, frame_heard, current_of}
use Rattle.client_core.proofs.state.ClientState.progress_at.Goals as goal

pub progress_of-requires : goal.progress_of-requires
progress_of-requires c =
    record { heard = c.hear-heard.ensures.heard (held_in c.args.self.now) (current_of c.args.self.now c.in-Some.stage c.in-Some.is c.requires.is).is_stage }

pub returns-in-None : goal.returns-in-None
returns-in-None c =
    let s = c.args.self.now in
    ap (λ (t : Turn). progress_in t.progress) (sym (idle (client_in s) c.args.bytes.now (ap (option_map (λ (g : CurrentStep). current_in g s.message.items)) c.in-None.is)))

pub returns-in-Err : goal.returns-in-Err
returns-in-Err c = ap (λ (t : Turn). progress_in t.progress) (sym (no_frame (client_in c.args.self.now) c.args.bytes.now _ c.in-Err.ensures.refused))

pub returns-in-Ok : goal.returns-in-Ok
returns-in-Ok c =
    let s = c.args.self.now in
    let m = s.message.items in
    let heard : replies.on_reply (client_in s) c.args.bytes.now ≡ turn_in (client_in s) m c.hear-heard.result =
    frame_heard (client_in s) c.args.bytes.now (plain c.in-Ok.frame) (current_in c.in-Some.stage m) _ c.in-Ok.ensures.frame (ap (option_map (λ (g : CurrentStep). current_in g m)) c.in-Some.is)
    (c.hear-heard.ensures.turn (client_in s) m refl refl) in
    c.progress_of.ensures ∙ ap (λ (t : Turn). progress_in t.progress) (sym heard)
