use Rattle.std.proofs.Common.{arith}
use Rattle.std.proofs.lemmas.List.FromFn.{fill_by_all}
use Rattle.std.proofs.lemmas.Grind.{common_steps}
use Rattle.dpf_rules.specs.Expansion.{choice}
use Rattle.express_cli.specs.Cloaks.{drawn_words}
use Rattle.express_cli.proofs.drawing.drawn_words.Goals as goal

pub returns : goal.returns
unfolding drawn_words
returns c = fill_by_all (choice c.args.seed.now 0) c.choices.result 16 0 (grind (arith, common_steps)) (λ k h. c.choices.ensures k h)
