use Rattle.std.proofs.Common.{◌∙◌, ap}
use Rattle.audit_rules.specs.Challenges.{sums_under}
use Rattle.write_hiding.specs.Choices.{plain_choice, plain_aim}
use Rattle.write_hiding.proofs.LeafLemmas.{other_leaves_are, length-other_leaves}
use Rattle.write_hiding.proofs.audit.audit.Goals as goal

pub sums-requires-2 : goal.sums-requires-2
sums-requires-2 c =
    length-other_leaves c.args.part.now c.args.choice.now.viewer (plain_choice c.args.choice.now) (plain_aim c.args.aim.now) c.args.game.now.addresses.now
    c.deref.result.now c.deref-3.result.now c.other_end-end.result c.requires.part (c.deref.ensures.value ∙ c.in_ok-own.ensures.leaves) c.other_end-end.ensures
    (c.deref-3.ensures.value ∙ c.in_ok-other.ensures.leaves)

pub returns-clause-other : goal.returns-clause-other
returns-clause-other c =
    c.sums-2.ensures.sums
    ∙ ap (sums_under c.args.game.now.ckey c.args.game.now.addresses.now)
    (other_leaves_are c.args.part.now c.args.choice.now.viewer (plain_choice c.args.choice.now) (plain_aim c.args.aim.now) c.args.game.now.addresses.now
    c.deref.result.now c.deref-3.result.now c.other_end-end.result c.requires.part (c.deref.ensures.value ∙ c.in_ok-own.ensures.leaves) c.other_end-end.ensures
    (c.deref-3.ensures.value ∙ c.in_ok-other.ensures.leaves))
