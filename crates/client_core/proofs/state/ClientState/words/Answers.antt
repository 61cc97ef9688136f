use Rattle.std.proofs.Common.{rules}
use Rattle.std.proofs.lemmas.List.FromFn.{fill_by_all}
use Rattle.dpf_rules.specs.Expansion.{choice}
use Rattle.client_core.proofs.state.ClientState.words.Goals as goal

pub returns : goal.returns
returns c = fill_by_all (choice c.args.self.now.seed c.args.self.now.serial) c.choices.result 16 0 (search rules) (λ k h. c.choices.ensures k h)
