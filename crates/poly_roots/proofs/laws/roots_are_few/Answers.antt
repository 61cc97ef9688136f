use Rattle.std.proofs.Common.{sym, ◌∙◌, length, inl, inr}
use Rattle.std.proofs.lemmas.Bool.{cases_lt}
use Rattle.tower_laws.proofs.Roots.{all_zero}
use Rattle.poly_roots.proofs.laws.roots_are_few.Goals as goal

pub returns : goal.returns
returns g c =
    let p = c.args.p.now in
    let roots = c.args.roots.now in
    let some = c.requires.some in
    elim (cases_lt (length roots) (length p)) [
      | inl h ↦ record { few = h }
      | inr h ↦ absurd (some.4 ((sym some.3 ∙ all_zero g.met.F.Field.field_laws roots p c.requires.distinct c.requires.roots h some.0 some.1 some.2)))
    ]
