use Rattle.std.proofs.Common.{◌∙◌, ap, bit_xor}
use Rattle.tower_numbers.specs.Levels.{inverse_at}
use Rattle.audit_rules.specs.Audit.{product}
use Rattle.write_hiding.specs.Moved.{weight, moved_mask}
use Rattle.write_hiding.proofs.words.moved_mask.Goals as goal

pub returns : goal.returns
unfolding moved_mask
returns c =
    ap (bit_xor c.args.mask)
    (c.mul_fast.ensures ∙ ap (λ k. product k c.value_through-change.result) c.scale_at.ensures
    ∙ ap (product (inverse_at 7 (weight c.args.sigma))) c.value_through-change.ensures)
