use Rattle.std.proofs.Common.{◌≡◌, ◌∙◌, ◌+◌, ◌*◌, ◌%◌, ◌^◌, ap, arith}
use Rattle.rand_chacha.specs.ChaCha.{next_word}
use Rattle.letter_pieces.proofs.PlaceLemmas.{drawn_is}
use Rattle.letter_pieces.proofs.places.draw.Goals as goal

pub returns-clause-value : goal.returns-clause-value
returns-clause-value c id i h at =
    let first = c.next_word-low.ensures ∙ ap (next_word 10) at in
    let draw = drawn_is id i _ _ _ _ h first c.next_word-high.ensures in
    let value : c.from.result + c.from-2.result * 2 ^ 32 % 2 ^ 64
    ≡ c.next_word-low.result + c.next_word-high.result * 2 ^ 32 = omega arith in
    value ∙ draw.0

pub returns-clause-next : goal.returns-clause-next
returns-clause-next c id i h at =
    (drawn_is id i _ _ _ _ h (c.next_word-low.ensures ∙ ap (next_word 10) at) c.next_word-high.ensures).1
