use Rattle.std.proofs.Common.{◌≡◌, ℕ, length, ap, ◌∙◌, arith}
use Rattle.file_carry.specs.Parts.{part_of}
use Rattle.client_run.proofs.PartLaws.{part_is}
use Rattle.client_run.proofs.parts.part_of.Goals as goal

pub returns : goal.returns
returns c =
    let len : c.in_ok-part.part.len ≡ c.args.width = c.in_ok-part.ensures.len in
    let size : length c.in_ok-part.part.items ≡ c.args.width
    = omega (arith, ap length c.deref_mut.ensures.value, c.deref_mut.ensures.len, c.in_ok-part.ensures.len) in
    let made : c.cut_into.new.out ≡ part_of c.args.file.now c.args.id c.args.width c.args.index
    = c.cut_into.ensures ∙ ap (λ (n : ℕ). part_of c.args.file.now c.args.id n c.args.index) (ap length c.deref_mut.ensures.value ∙ size) in
    part_is c.in_ok-part.part.len _ _ _ _ c.from_vec.ensures (omega (arith, len, size)) (omega (arith, c.cut_into.auto.out, ap length c.deref_mut.ensures.value, size, len)) made
