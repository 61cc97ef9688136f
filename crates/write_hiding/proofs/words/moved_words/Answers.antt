use Rattle.std.proofs.Common.{◌≡◌, ◌∙◌, arith}
use Rattle.write_hiding.specs.Choices.{plain_choice, plain_aim, plain_game}
use Rattle.write_hiding.proofs.MoveLemmas.{words_of_zero, words_of_one}
use Rattle.write_hiding.proofs.words.moved_words.Goals as goal

pub returns-then-choice-eq0 : goal.returns-then-choice-eq0
returns-then-choice-eq0 c = λ from so.
    let zero : c.args.choice.now.viewer ≡ 0 = c.if-choice-eq0.true in
    let choice = plain_choice c.args.choice.now in
    rw zero
    (c.with_one.ensures
    ∙ words_of_zero choice from (plain_aim c.args.to.now) (plain_game c.args.game.now) c.args.seen.now c.args.before.now c.args.after.now.other c.args.after.now.difference
    c.moved_masks-u.result.0 c.moved_masks-u.result.1 c.moved_factors-a.result.0 c.moved_factors-a.result.1
    (rw zero at so.viewed) (rw zero at so.before) (rw zero at so.other) (rw zero at c.moved_masks-u.ensures.u) (rw zero at c.moved_masks-u.ensures.v) c.moved_factors-a.ensures.a c.moved_factors-a.ensures.b)

pub returns-else-choice-eq0 : goal.returns-else-choice-eq0
returns-else-choice-eq0 c = λ from so.
    let one : c.args.choice.now.viewer ≡ 1 = omega arith in
    let choice = plain_choice c.args.choice.now in
    rw one
    (c.zero_words.ensures
    ∙ rw (c.challenge-r.ensures.r, c.challenge-r.ensures.s)
    (words_of_one choice from (plain_aim c.args.to.now) (plain_game c.args.game.now) c.args.seen.now c.args.before.now c.args.after.now.other c.args.after.now.difference
    c.moved_masks-u.result.0 c.moved_masks-u.result.1 c.moved_factors-a.result.0 c.moved_factors-a.result.1
    (rw one at so.viewed) (rw one at so.before) (rw one at so.other) (rw one at so.difference) (rw one at c.moved_masks-u.ensures.u) (rw one at c.moved_masks-u.ensures.v) c.moved_factors-a.ensures.a c.moved_factors-a.ensures.b))
