use Rattle.std.proofs.Common.{◌∙◌, ap}
use Rattle.tower_numbers.specs.Levels.{product_at}
use Rattle.tower_laws.specs.Elements.{element_mul}
use Rattle.tower_laws.proofs.GfLaws.{gf_path, inside_is}
use Rattle.tower_field.proofs.gf128.Gf128Field.mul.Goals as goal

pub returns : goal.returns
returns c =
    let a = inside_is c.args.self c.self.inside.0 c.self.invariant c.self.view_is in
    let b = inside_is c.args.other c.other.inside.0 c.other.invariant c.other.view_is in
    gf_path (element_mul 7 c.args.self c.args.other) c.product.result
    (c.product.ensures.value ∙ ap (λ n. product_at 7 n c.other.inside.0) a ∙ ap (product_at 7 c.args.self.value) b)
