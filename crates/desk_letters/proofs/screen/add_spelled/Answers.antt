use Rattle.std.proofs.Common.{◌≡◌, ◌-◌, ◌∙◌, ◌++◌, ℕ, List, ap, sym, subst, arith, OnOk}
use Rattle.std.specs.Prelude.{encode_utf8_all, string_bytes, drop}
use Rattle.std.specs.Char.Iter.{escape_rest, escape_steps}
use Rattle.std.proofs.lemmas.Iterator.Adapters.{items_from_extend}
use Rattle.std.proofs.lemmas.Iterator.Consumers.{YieldsList-from_shown}
use Rattle.std.proofs.lemmas.List.{length-take}
use Rattle.desk_letters.proofs.ScreenLaws.{escaped}
use Rattle.desk_letters.proofs.screen.add_spelled.Goals as goal

pub returns-then-not-is_control : goal.returns-then-not-is_control
returns-then-not-is_control c =
    let all = YieldsList-from_shown escape_steps (λ x. x) escape_rest
    (λ s t e. omega (arith, e.1.0, length-take (s.to - s.from) (drop s.from s.chars)))
    (λ s x t e. e.1.0) c.escape_unicode.result in
    let written = items_from_extend c.extend.result c.extend.ensures.ran all in
    let is : string_bytes c.extend.new.self ≡ string_bytes c.args.out.now ++ encode_utf8_all (escape_rest c.escape_unicode.result) =
    subst (λ r. OnOk r (string_bytes c.extend.new.self ≡ string_bytes c.args.out.now ++ encode_utf8_all (escape_rest c.escape_unicode.result))) c.in_ok-extend.was written in
    is ∙ ap (λ (t : List ℕ). string_bytes c.args.out.now ++ encode_utf8_all t) (c.escape_unicode.ensures.rest ∙ sym (escaped c.args.c (sym c.is_control.ensures ∙ c.if-not-is_control.true)))
