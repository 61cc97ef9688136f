use Rattle.std.proofs.Common.{◌∙◌}
use Rattle.write_hiding.specs.Choices.{plain_choice}
use Rattle.write_hiding.proofs.WordLemmas.{zero_words_are}
use Rattle.write_hiding.proofs.words.zero_words.Goals as goal

pub returns : goal.returns
returns c =
    let choice = plain_choice c.args.choice.now in
    let share = c.args.share.now in
    c.with_zero.ensures ∙ rw (c.prove.ensures.one, c.drawn.ensures, c.with_zero-words.ensures)
    (zero_words_are choice share c.args.difference c.args.r c.args.s share.h c.requires.size)
