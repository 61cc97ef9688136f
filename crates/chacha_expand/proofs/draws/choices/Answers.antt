use Rattle.std.proofs.Common.{◌≡◌, ◌+◌, ◌-◌, ◌*◌, ◌∙◌, ap, ℕ, List, take, drop, arith, below_more, get_or-set_same, get_or-set_other}
use Rattle.std.proofs.lemmas.List.{length-set}
use Rattle.dpf_rules.specs.Bytes.{value_in}
use Rattle.dpf_rules.specs.Expansion.{stream_bytes, choice}
use Rattle.chacha_expand.proofs.StreamLemmas.{stream_slice}
use Rattle.chacha_expand.proofs.draws.choices.Goals as goal

pub loop-k-preserved : goal.loop-k-preserved
loop-k-preserved c =
    let i = c.loop-k.k in
    let words = c.loop-k.words in
    let width : 16 * i + 16 - 16 * i ≡ 16 = omega arith in
    let here : c.read_number.result ≡ choice c.args.seed.now c.args.serial i =
    c.read_number.ensures
    ∙ ap (λ (xs : List ℕ). value_in 256 (take (16 * i + 16 - 16 * i) (drop (16 * i) xs))) (c.stream_into.ensures ∙ ap (λ (n : ℕ). stream_bytes c.args.seed.now n 0 256) c.from.ensures)
    ∙ ap (λ (n : ℕ). value_in 256 (take n (drop (16 * i) (stream_bytes c.args.seed.now c.args.serial 0 256)))) width
    ∙ ap (value_in 256) (stream_slice c.args.seed.now c.args.serial 0 (16 * i) 16 256 (16 * i) (omega arith) (omega arith)) in
    record {
      size = length-set words i c.read_number.result ∙ c.loop-k.invariant.size;
      done = below_more _ _
          (λ k h. get_or-set_other words i k c.read_number.result 0 (λ e. omega arith) ∙ c.loop-k.invariant.done k h)
          (get_or-set_same words i c.read_number.result 0 (omega arith) ∙ here);
    }
