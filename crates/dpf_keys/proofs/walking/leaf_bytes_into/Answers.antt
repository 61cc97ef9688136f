use Rattle.std.proofs.Common.{◌∙◌, sym, arith, refl}
use Rattle.dpf_rules.proofs.WriteLemmas.{set_bytes, clear_bytes}
use Rattle.dpf_keys.proofs.walking.leaf_bytes_into.Goals as goal

pub returns-then-leaf-eq1 : goal.returns-then-leaf-eq1
returns-then-leaf-eq1 c =
    c.xor_into.ensures ∙ rw (c.block_into.ensures, c.last-last.ensures.value, c.requires) refl
    ∙ sym (set_bytes c.args.part.now c.args.leaf c.if-leaf-eq1.true)

pub returns-else-leaf-eq1 : goal.returns-else-leaf-eq1
returns-else-leaf-eq1 c =
    c.block_into.ensures ∙ rw c.requires refl ∙ sym (clear_bytes c.args.part.now c.args.leaf (omega arith))
