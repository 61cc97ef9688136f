use Rattle.std.proofs.Common.{List, Err, sym, ap, ap₂, ◌∙◌}
use Rattle.client_core.specs.Requests.{fault_in}
use Rattle.client_core.specs.declared.request.AskFault.{AskFault}
use Rattle.mailbox_rules.specs.Requests.{Request}
use Rattle.step_rules.specs.Client.{Client}
use Rattle.step_rules.specs.ClientAsks.{asked}
use Rattle.run_rules.specs.Letters.{FrameWorld}
use Rattle.run_rules.specs.Run.{goes_on}
use Rattle.replay_world.specs.Parts.{requests_in, outcomes_in}
use Rattle.replay_world.specs.View.{requests_of, with_asker}
use Rattle.replay_world.proofs.Clients.{placed, placed_by, taken, dropped, refused, ended, other_fault, nothing_left}
use Rattle.replay_world.proofs.asker.Asker.go_on.Goals as goal

pub returns-in-Ok : goal.returns-in-Ok
returns-in-Ok c = record {
  moved = λ w.
      let x = c.loop-asked.self.client in
      let popped = ap requests_in c.in-Some.ensures.items in
      let e = ap (asked x) (sym c.request_of.ensures) ∙ c.in-Ok.ensures.asked in
      taken w c.args.lane x (requests_of c.loop-asked.self) c.loop-asked.self.told (outcomes_in c.loop-asked.outcomes.items) _ _ c.ask.new.self e
      ∙ (ap (goes_on (with_asker w c.args.lane c.loop-asked.self c.loop-asked.outcomes.items) c.args.lane) (sym popped) ∙ c.loop-asked.invariant w);
}

pub returns-in_default-fault : goal.returns-in_default-fault
returns-in_default-fault c = record {
  moved = λ w.
      let x = c.loop-asked.self.client in
      let n = c.loop-asked.self.told in
      let os = outcomes_in c.loop-asked.outcomes.items in
      let popped = ap requests_in c.in-Some.ensures.items in
      let e = ap (asked x) (sym c.request_of.ensures) ∙ c.in-Err.ensures.refused in
      ap (λ (y : Client). placed w c.args.lane y (requests_in c.pop_front.new.self.items) n os) c.in-Err.ensures.same
      ∙ (dropped w c.args.lane x (requests_of c.loop-asked.self) n os _ _ (fault_in c.in-Err.fault) e (other_fault c.in-Err.fault c.in_default-fault.not-NoBox)
      ∙ (ap (goes_on (with_asker w c.args.lane c.loop-asked.self c.loop-asked.outcomes.items) c.args.lane) (sym popped) ∙ c.loop-asked.invariant w));
}

pub loop-asked-preserved-in_ok-note-in-NoBox : goal.loop-asked-preserved-in_ok-note-in-NoBox
loop-asked-preserved-in_ok-note-in-NoBox c w =
    let x = c.loop-asked.self.client in
    let popped = ap requests_in c.in-Some.ensures.items in
    let e = ap (asked x) (sym c.request_of.ensures) ∙ (c.in-Err.ensures.refused ∙ ap (λ (f : AskFault). Err (fault_in f)) c.in-NoBox.is) in
    let noted = c.in_ok-note-in-NoBox.ensures in
    let rest = ap requests_in noted.waiting in
    ap₂ (λ (v : FrameWorld) (vs : List Request). goes_on v c.args.lane vs)
    (placed_by w c.args.lane _ _ _ _ _ _ _ _ (noted.client ∙ c.in-Err.ensures.same) rest noted.told noted.outcomes) rest
    ∙ (refused w c.args.lane x (requests_of c.loop-asked.self) c.loop-asked.self.told (outcomes_in c.loop-asked.outcomes.items) _ _ c.in-NoBox.own e
    ∙ (ap (goes_on (with_asker w c.args.lane c.loop-asked.self c.loop-asked.outcomes.items) c.args.lane) (sym popped) ∙ c.loop-asked.invariant w))

pub loop-asked-preserved : goal.loop-asked-preserved
loop-asked-preserved c w =
    let x = c.loop-asked.self.client in
    let popped = ap requests_in c.in-Some.ensures.items in
    let e = ap (asked x) (sym c.request_of.ensures) ∙ (c.in-Err.ensures.refused ∙ ap (λ (f : AskFault). Err (fault_in f)) c.in-NoBox.is) in
    let noted = c.in_ok-note-in-NoBox.ensures in
    let rest = ap requests_in noted.waiting in
    ap₂ (λ (v : FrameWorld) (vs : List Request). goes_on v c.args.lane vs)
    (placed_by w c.args.lane _ _ _ _ _ _ _ _ (noted.client ∙ c.in-Err.ensures.same) rest noted.told noted.outcomes) rest
    ∙ (refused w c.args.lane x (requests_of c.loop-asked.self) c.loop-asked.self.told (outcomes_in c.loop-asked.outcomes.items) _ _ c.in-NoBox.own e
    ∙ (ap (goes_on (with_asker w c.args.lane c.loop-asked.self c.loop-asked.outcomes.items) c.args.lane) (sym popped) ∙ c.loop-asked.invariant w))

pub returns : goal.returns
returns c = record {
  moved = λ w.
      let x = c.loop-asked.self.client in
      let n = c.loop-asked.self.told in
      let os = outcomes_in c.loop-asked.outcomes.items in
      let same = c.in_default.ensures.items in
      let none = nothing_left c.loop-asked.self.waiting.items (same ∙ c.in_default.ensures.rest) in
      ap (λ (vs : List Request). placed w c.args.lane x vs n os) (ap requests_in (sym same ∙ none))
      ∙ (ended w c.args.lane x (requests_of c.loop-asked.self) n os
      ∙ (ap (goes_on (with_asker w c.args.lane c.loop-asked.self c.loop-asked.outcomes.items) c.args.lane) (sym (ap requests_in none)) ∙ c.loop-asked.invariant w));
}
