use Rattle.std.proofs.Common.{◌∙◌, ap}
use Rattle.std.specs.Prelude.{bit_xor}
use Rattle.std.proofs.lemmas.Nat.{xor_lt}
use Rattle.tower_laws.specs.Elements.{element_add}
use Rattle.tower_laws.proofs.GfLaws.{gf_path, inside_is}
use Rattle.tower_field.proofs.gf128.Gf128Field.add.Goals as goal

pub invariant_of-result : goal.invariant_of-result
invariant_of-result c = xor_lt 128 c.self.inside.0 c.other.inside.0 c.self.invariant c.other.invariant

pub returns : goal.returns
returns c =
    let a = inside_is c.args.self c.self.inside.0 c.self.invariant c.self.view_is in
    let b = inside_is c.args.other c.other.inside.0 c.other.invariant c.other.view_is in
    gf_path (element_add 7 c.args.self c.args.other) (bit_xor c.self.inside.0 c.other.inside.0) (ap (λ n. bit_xor n c.other.inside.0) a ∙ ap (bit_xor c.args.self.value) b)
