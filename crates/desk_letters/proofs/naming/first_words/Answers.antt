use Rattle.std.proofs.Common.{◌≡◌, ◌∙◌, ℕ, List, ap, arith, sym, subst}
use Rattle.std.specs.Prelude.{string_bytes}
use Rattle.desk_letters.specs.Naming.{first_words, IsName}
use Rattle.desk_letters.proofs.NamingLaws.{no_text, first_named}
use Rattle.desk_letters.proofs.naming.first_words.Goals.{in-Ok+in_ok-words-in-Ok, in-Err+in_ok-words-in-Err}
use Rattle.desk_letters.proofs.naming.first_words.Goals as goal

words : (c : goal.After-from_string) → c.from_string.result ≡ first_words c.args.text.now
words c =
    c.from_string.ensures ∙ elim c.match-from_utf8.branch [
      | in-Ok+in_ok-words-in-Ok w ↦ ap string_bytes w.words-is ∙ w.in_ok-words-in-Ok.ensures ∙ ap first_words w.in-Ok.ensures.cases.0
      | in-Err+in_ok-words-in-Err w ↦ ap string_bytes w.words-is ∙ w.in_ok-words-in-Err.ensures ∙ sym (no_text c.args.text.now w.in-Err.ensures.cases.0)
    ]

pub returns-clause-words : goal.returns-clause-words
returns-clause-words c = words c

pub returns-clause-name : goal.returns-clause-name
returns-clause-name c = subst (λ (t : List ℕ). IsName t) (sym (words c)) (first_named c.args.text.now (omega arith))
