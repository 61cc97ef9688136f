use Rattle.std.proofs.Common.{◌≡◌, ◌+◌, ◌-◌, ◌/◌, ◌%◌, ◌<◌, ◌∙◌, [], ap, get_or, take, drop, arith}
use Rattle.std.specs.Int.{bit_at}
use Rattle.std.proofs.lemmas.List.{get_or-take, get_or-drop}
use Rattle.std.proofs.lemmas.Simd.{get_or-chunk}
use Rattle.sliced_sums.proofs.Filled.{bit_of_byte}
use Rattle.sliced_sums.proofs.bytes.Bytes.bits.Goals as goal

pub returns : goal.returns
returns c i h =
    let from = c.args.from in
    let bit = c.args.bit in
    let n = get_or c.args.self.now.numbers (from + i) 0 in
    let row = get_or c.args.self.now.bytes (bit / 8) [] in
    let part = take (from + 64 - from) (drop from row) in
    let inside : bit / 8 < 16 = omega (arith, c.requires.bit) in
    let place : from + i < 256 = omega (arith, c.requires.from) in
    let first : 0 + i ≡ i = omega arith in
    let byte = c.args.self.now.bytes_are (bit / 8) (from + i) inside place in
    let there = get_or-chunk 0 64 part i 0 h ∙ ap (λ k. get_or part k 0) first ∙ get_or-take (from + 64 - from) (drop from row) i 0 (omega arith) ∙ get_or-drop from row i 0 in
    c.bits_of.ensures i h ∙ ap (λ b. bit_at b (bit % 8)) (there ∙ byte) ∙ bit_of_byte n bit
