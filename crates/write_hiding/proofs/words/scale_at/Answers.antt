use Rattle.std.proofs.Common.{◌≡◌, ◌≢◌, ◌<◌, ◌^◌, ◌∙◌, sym, ap, subst, refl, arith}
use Rattle.std.specs.Option.{IsSome}
use Rattle.tower_numbers.specs.Levels.{inverse_at}
use Rattle.tower_laws.specs.Elements.{element_zero, element_inverse}
use Rattle.tower_laws.specs.Gf.{gf}
use Rattle.tower_laws.proofs.GfLaws.{gf_value}
use Rattle.write_hiding.proofs.MaskLemmas.{inverse_zero}
use Rattle.write_hiding.proofs.words.scale_at.Goals as goal

pub returns-then-weight-eq0 : goal.returns-then-weight-eq0
returns-then-weight-eq0 c = sym inverse_zero ∙ ap (inverse_at 7) (sym c.if-weight-eq0.true ∙ c.value_through-weight.ensures)

pub unwrap-requires : goal.unwrap-requires
unwrap-requires c =
    let w = c.value_through-weight.result in
    let small : w < 2 ^ 128 = omega arith in
    let isnt : gf w ≢ element_zero 7 = λ e. c.if-weight-eq0.false (sym (gf_value w small) ∙ ap (λ e. e.value) e) in
    subst IsSome (sym (c.invert.ensures.some isnt)) refl

pub returns : goal.returns
returns c =
    let w = c.value_through-weight.result in
    let small : w < 2 ^ 128 = omega arith in
    let isnt : gf w ≢ element_zero 7 = λ e. c.if-weight-eq0.false (sym (gf_value w small) ∙ ap (λ e. e.value) e) in
    let some = c.invert.ensures.some isnt in
    let got = c.unwrap.ensures in
    let is : c.unwrap.result ≡ element_inverse 7 (gf w) = cc in
    c.value.ensures ∙ ap (λ e. e.value) is ∙ ap (inverse_at 7) (gf_value w small ∙ c.value_through-weight.ensures)
