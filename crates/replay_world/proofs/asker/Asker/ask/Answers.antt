use Rattle.std.proofs.Common.{◌≡◌, List, [], ◌∷◌, ◌++◌, sym, ap, ap₂, subst, ◌∙◌}
use Rattle.std.specs.Prelude.{OnOk}
use Rattle.std.proofs.lemmas.List.{map-append}
use Rattle.mailbox_rules.specs.Requests.{Request}
use Rattle.run_rules.specs.Letters.{FrameWorld}
use Rattle.run_rules.specs.Run.{goes_on}
use Rattle.schedule_text.specs.declared.schedule.Asked.{Asked}
use Rattle.replay_world.specs.Parts.{outcomes_in, request_in, requests_in}
use Rattle.replay_world.specs.View.{requests_of, with_asker}
use Rattle.replay_world.proofs.Clients.{placed, asked_idle, asked_busy}
use Rattle.replay_world.proofs.asker.Asker.ask.Goals as goal

pub returns-then-is_idle : goal.returns-then-is_idle
returns-then-is_idle c = record {
  moved = λ w.
      let a = c.args.self.now in
      let lane = c.args.lane in
      let os = outcomes_in c.args.outcomes.now.items in
      let more = ap requests_in c.in_ok-push_back.ensures.items ∙ (map-append request_in a.waiting.items _ ∙ ap (λ (r : Asked). requests_of a ++ request_in r ∷ []) c.in_ok-copied.ensures) in
      let same =
      ap₂ (λ (ws vs : List Request). goes_on (placed w lane a.client ws a.told os) lane vs) more more
      ∙ asked_idle w lane a.client (requests_of a) a.told os (request_in c.args.asked.now) (sym c.is_idle.ensures ∙ c.if-is_idle.true)
      in subst (λ (v : FrameWorld). OnOk c.go_on.result (with_asker w lane c.go_on.new.self c.go_on.new.outcomes.items ≡ v)) same (c.go_on.ensures.moved w);
}

pub returns-else-is_idle : goal.returns-else-is_idle
returns-else-is_idle c = record {
  moved = λ w.
      let a = c.args.self.now in
      let lane = c.args.lane in
      let os = outcomes_in c.args.outcomes.now.items in
      let more = ap requests_in c.in_ok-push_back.ensures.items ∙ (map-append request_in a.waiting.items _ ∙ ap (λ (r : Asked). requests_of a ++ request_in r ∷ []) c.in_ok-copied.ensures) in
      ap (λ (ws : List Request). placed w lane a.client ws a.told os) more
      ∙ asked_busy w lane a.client (requests_of a) a.told os (request_in c.args.asked.now) (sym c.is_idle.ensures ∙ c.if-is_idle.false);
}
