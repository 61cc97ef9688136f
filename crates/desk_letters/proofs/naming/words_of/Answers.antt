use Rattle.std.proofs.Common.{◌≡◌, ◌∙◌, ◌≢◌, ℕ, List, [], IfOk, ap, sym, subst}
use Rattle.std.specs.Prelude.{string_bytes}
use Rattle.std.specs.Str.{trim}
use Rattle.desk_letters.specs.Naming.{cut, one_line}
use Rattle.desk_letters.proofs.NamingLaws.{blank, has_line}
use Rattle.desk_letters.proofs.naming.words_of.Goals as goal

pub returns-in-empty : goal.returns-in-empty
unfolding one_line
returns-in-empty c =
    let is : c.trim.result.now ≡ one_line c.args.text.now = c.trim.ensures.trim ∙ ap trim (c.deref.ensures ∙ c.in_ok-line.ensures) in
    subst (λ (t : List ℕ). IfOk c.no_words.result (λ w. string_bytes w ≡ t)) (sym (blank c.args.text.now (sym is ∙ c.in-empty.is)))
    c.no_words.ensures

pub returns : goal.returns
unfolding one_line
returns c =
    let is : c.trim.result.now ≡ one_line c.args.text.now = c.trim.ensures.trim ∙ ap trim (c.deref.ensures ∙ c.in_ok-line.ensures) in
    let other : one_line c.args.text.now ≢ [] = λ none. c.in_default.not-empty (is ∙ none) in
    subst (λ (t : List ℕ). IfOk c.cut.result (λ w. string_bytes w ≡ t)) (ap cut is ∙ sym (has_line c.args.text.now c.utf8.text other))
    c.cut.ensures
