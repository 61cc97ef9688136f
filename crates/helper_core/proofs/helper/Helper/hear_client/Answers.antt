use Rattle.std.proofs.Common.{◌≤◌, length, sym, ap, subst, ◌∙◌}
use Rattle.express_words.specs.declared.settings.Settings.{Settings}
use Rattle.frame_rules.specs.Spelling.{spelling}
use Rattle.step_rules.specs.Helper.{Helper}
use Rattle.step_rules.specs.HelperClients.{on_client}
use Rattle.step_rules.proofs.HelperRefusals.{clients}
use Rattle.helper_core.specs.State.{helper_in}
use Rattle.helper_core.proofs.helper.Helper.hear_client.Goals as goal

pub invariant_of-self : goal.invariant_of-self
invariant_of-self c =
    let same = sym c.hear_client.ensures.settings in
    let i = c.self.invariant in
    record {
      window = i.window ∙ ap (λ (s : Settings). s.window) same;
      size = i.size;
      kept = i.kept;
      draws = subst (λ n. n ≤ c.self.inside.link.carried) (sym c.hear_client.ensures.draws) i.draws;
      mask = i.mask ∙ ap (λ (s : Settings). s.width) same;
    }

pub returns : goal.returns
returns c =
    let bytes = c.args.received.now in
    let did = c.hear_client.ensures in
    let is = c.self.view_is in
    let helper = ap (λ server. helper_in server c.self.inside.link) did.server ∙ ap (λ (x : Helper). (on_client x bytes).helper) is in
    record {
      helper = helper;
      refused = λ refusal. helper ∙ clients c.args.self.now bytes refusal;
      written = did.written ∙ ap (λ (x : Helper). spelling (on_client x bytes).reply) is;
      rest = did.rest;
      settings = did.settings ∙ ap (λ (x : Helper). x.server.settings) is;
      length = did.length ∙ ap (λ (x : Helper). length (spelling (on_client x bytes).reply)) is;
    }
