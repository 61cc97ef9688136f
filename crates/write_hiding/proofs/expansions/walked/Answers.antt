use Rattle.std.proofs.Common.{◌∙◌}
use Rattle.write_hiding.specs.Choices.{plain_choice, plain_aim}
use Rattle.write_hiding.proofs.MoveLemmas.{walked_is}
use Rattle.write_hiding.proofs.expansions.walked.Goals as goal

pub returns-clause-walked : goal.returns-clause-walked
returns-clause-walked c =
    walked_is c.args.choice.now.viewer (plain_choice c.args.choice.now) (plain_aim c.args.from.now) (plain_aim c.args.to.now) c.args.part.now
    c.from_vec-2.result c.from_vec.result c.in_ok-levels.end c.requires.part (c.from_vec.ensures ∙ c.in_ok-levels.ensures.pairs) c.in_ok-levels.ensures.end
    (c.from_vec-2.ensures ∙ c.in_ok-last_block.ensures.block)
