use Rattle.std.proofs.Common.{◌/◌, ◌%◌, ◌^◌, ◌∙◌, sym, ap, slice_index}
use Rattle.std.specs.Int.{bit_at}
use Rattle.sliced_sums.proofs.Fields.{by_words}
use Rattle.sliced_sums.proofs.bits.BitsLevel.gather.Goals as goal

pub returns : goal.returns
returns c j h =
    let numbers = c.args.bytes.now.numbers in
    let from = c.args.from in
    by_words c.bits.result c.bits-2.result c.bits-3.result c.bits-4.result (λ i. bit_at (slice_index numbers i) from)
    c.bits.ensures c.bits-2.ensures c.bits-3.ensures c.bits-4.ensures j h
    ∙ ap (λ w. slice_index numbers j / 2 ^ from % 2 ^ w) (sym c.requires.width)
