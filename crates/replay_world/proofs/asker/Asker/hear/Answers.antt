use Rattle.std.proofs.Common.{◌≡◌, ℕ, List, [], ◌∷◌, ◌++◌, sym, ap, ap₂, subst, ◌∙◌, arith}
use Rattle.std.specs.Prelude.{OnOk}
use Rattle.std.specs.Vec.{with_items}
use Rattle.std.proofs.lemmas.List.{with_items_is}
use Rattle.client_core.specs.Answers.{progress_in, message_or, outcome_in}
use Rattle.client_core.specs.declared.progress.Outcome.{Outcome as Told}
use Rattle.mailbox_rules.specs.Requests.{Request}
use Rattle.step_rules.specs.Client.{Client, Finished}
use Rattle.step_rules.specs.ClientReplies.{on_reply}
use Rattle.run_rules.specs.Letters as run
use Rattle.run_rules.specs.Letters.{FrameWorld, Outcome}
use Rattle.run_rules.specs.Run.{goes_on}
use Rattle.replay_world.specs.declared.lines.Told.TheVariants.{Done}
use Rattle.replay_world.specs.Parts.{outcomes_in, requests_in, told_in}
use Rattle.replay_world.specs.View.{requests_of, with_asker}
use Rattle.replay_world.proofs.Clients.{placed, placed_by, line, is_finished, told_ended, heard_on, heard_else}
use Rattle.replay_world.proofs.asker.Asker.hear.Goals as goal

pub returns-in_ok-note-in-Finished : goal.returns-in_ok-note-in-Finished
returns-in_ok-note-in-Finished c = record {
  moved = λ w.
      let a = c.args.self.now in
      let lane = c.args.lane in
      let os = outcomes_in c.args.outcomes.now.items in
      let turn = on_reply a.client c.args.frame.now in
      let f = is_finished turn.progress c.in-Finished.outcome (sym c.in-Finished.ensures.progress) in
      let message : c.on_reply.new.message ≡ message_or a.message.items (Finished f.outcome) =
      c.on_reply.ensures.message
      ∙ (ap (λ (b : List ℕ). message_or b turn.progress) c.deref_mut.ensures.value ∙ ap (message_or a.message.items) f.is)
      in
      let told = ap₂ (λ (q : Told) (m : List ℕ). told_in (Done q) m) (sym f.same) message ∙ told_ended f.outcome a.message.items in
      let whole : (with_items a.message c.on_reply.new.message).items ≡ c.on_reply.new.message = with_items_is a.message c.on_reply.new.message (omega arith) in
      let noted = c.in_ok-note-in-Finished.ensures in
      let rest = ap requests_in noted.waiting in
      let outs = noted.outcomes ∙ ap (λ (t : run.Told). os ++ line lane a.told t ∷ []) (ap (told_in (Done c.in-Finished.outcome)) whole ∙ told) in
      let same =
      ap₂ (λ (v : FrameWorld) (vs : List Request). goes_on v lane vs)
      (placed_by w lane _ _ _ _ _ _ _ _ (noted.client ∙ c.on_reply.ensures.client) rest noted.told outs) rest
      ∙ heard_on w lane a.client (requests_of a) a.told os turn f.outcome f.is
      in subst (λ (v : FrameWorld). OnOk c.go_on.result (with_asker w lane c.go_on.new.self c.go_on.new.outcomes.items ≡ v)) same (c.go_on.ensures.moved w);
}

pub returns-in_default : goal.returns-in_default
returns-in_default c = record {
  moved = λ w.
      let a = c.args.self.now in
      let os = outcomes_in c.args.outcomes.now.items in
      let turn = on_reply a.client c.args.frame.now in
      ap (λ (y : Client). placed w c.args.lane y (requests_of a) a.told os) c.on_reply.ensures.client
      ∙ heard_else w c.args.lane a.client (requests_of a) a.told os turn (λ o e. c.in_default.not-Finished (outcome_in o) (c.on_reply.ensures.progress ∙ ap progress_in e));
}
