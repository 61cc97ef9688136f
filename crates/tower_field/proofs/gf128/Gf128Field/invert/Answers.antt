use Rattle.std.proofs.Common.{Some, sym, ◌∙◌, ap}
use Rattle.tower_numbers.specs.Levels.{inverse_at}
use Rattle.tower_laws.specs.Elements.{element_zero, element_inverse}
use Rattle.tower_laws.proofs.ElementLaws.{element_path}
use Rattle.tower_laws.proofs.GfLaws.{gf_path, inside_is}
use Rattle.tower_field.proofs.gf128.Gf128Field.invert.Goals as goal

pub returns-then-self-eq0-clause-some : goal.returns-then-self-eq0-clause-some
returns-then-self-eq0-clause-some c = λ n.
    absurd (n (element_path 7 c.args.self (element_zero 7) (sym (inside_is c.args.self c.self.inside.0 c.self.invariant c.self.view_is) ∙ c.if-self-eq0.true)))

pub returns-clause-none : goal.returns-clause-none
returns-clause-none c = λ e.
    absurd (c.if-self-eq0.false (inside_is c.args.self c.self.inside.0 c.self.invariant c.self.view_is ∙ ap (λ x. x.value) e))

pub returns-clause-some : goal.returns-clause-some
returns-clause-some c = λ n.
    let a = inside_is c.args.self c.self.inside.0 c.self.invariant c.self.view_is in
    ap Some (gf_path (element_inverse 7 c.args.self) c.inverse.result (c.inverse.ensures.value ∙ ap (inverse_at 7) a))
