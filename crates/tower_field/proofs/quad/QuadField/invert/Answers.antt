use Rattle.std.proofs.Common.{◌≡◌, sym, ◌∙◌, ap}
use Rattle.tower_laws.specs.Quads.{norm}
use Rattle.tower_laws.proofs.QuadLaws.{norm_zero, norm_apart}
use Rattle.tower_field.proofs.quad.QuadField.invert.Goals as goal

-- the norm of zero is zero, which has no inverse
pub returns-in-Some-clause-none : goal.returns-in-Some-clause-none
returns-in-Some-clause-none g c = λ e.
    let f = g.K.Field in
    let is_norm : c.add-norm.result ≡ norm f.sum f.product g.K.Tower.constant c.args.self = cc in
    let at_zero : norm f.sum f.product g.K.Tower.constant c.args.self ≡ f.neutral = ap (norm f.sum f.product g.K.Tower.constant) e ∙ norm_zero g.met.K.Field.field_laws g.met.K.Tower.tower_laws in
    let none = c.in-Some.ensures.none (is_norm ∙ at_zero) in
    cc

pub returns-in-None-clause-some : goal.returns-in-None-clause-some
returns-in-None-clause-some g c = λ n.
    let f = g.K.Field in
    let is_norm : c.add-norm.result ≡ norm f.sum f.product g.K.Tower.constant c.args.self = cc in
    let some = c.in-None.ensures.some (λ e. norm_apart g.met.K.Field.field_laws g.met.K.Tower.tower_laws c.args.self n (sym is_norm ∙ e)) in
    cc
