use Rattle.std.proofs.Common.{◌≡◌, ℕ, ◌+◌, ◌*◌, List, ◌++◌, length, refl, sym, ap, ap₂, ◌∙◌, arith}
use Rattle.std.specs.Int.{w64, to_le_bytes}
use Rattle.std.proofs.lemmas.Grind.{common_steps}
use Rattle.std.proofs.lemmas.List.{take_all}
use Rattle.std.proofs.lemmas.Slice.{take-put_mid}
use Rattle.rand_chacha.specs.Lanes.{lane_at}
use Rattle.dpf_rules.specs.Expansion.{stream_bytes}
use Rattle.chacha_expand.proofs.StreamLemmas.{half_more}
use Rattle.chacha_expand.proofs.blocks.block_row.Goals as goal

pub loop-k-init : goal.loop-k-init
unfolding stream_bytes
loop-k-init c = record { size = refl; written = λ key stream p has. refl }

pub loop-k-preserved : goal.loop-k-preserved
loop-k-preserved c =
    let k = c.loop-k.k in
    let half = lane_at c.args.halves.now k c.args.j in
    let wrote : c.copy_from_slice.new.self ≡ to_le_bytes w64 half = c.copy_from_slice.ensures.after ∙ c.to_le_bytes.ensures in
    let size : length c.copy_from_slice.new.self ≡ 8 = ap length wrote in
    record {
      size = grind (arith, common_steps, c.loop-k.invariant.size, size);
      written = λ key stream p has.
          take-put_mid (8 * k) _ c.loop-k.bytes c.copy_from_slice.new.self (8 * (k + 1)) (omega arith) (omega (arith, c.loop-k.invariant.size))
          ∙ ap₂ (λ (xs ys : List ℕ). xs ++ ys) (c.loop-k.invariant.written key stream p has) wrote
          ∙ half_more key stream p k half (has k c.loop-k-test.true);
    }

pub returns : goal.returns
returns c key stream p has =
    let full : c.loop-k.k ≡ 8 = omega arith in
    sym (take_all 64 c.loop-k.bytes (omega (arith, c.loop-k.invariant.size))) ∙ rw full at (c.loop-k.invariant.written key stream p has)
