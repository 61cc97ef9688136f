use Rattle.std.proofs.Common.{arith, ◌≡◌, ◌↔◌, ◌∙◌, ap, sym, subst, IsTrue, length, get_or, string_bytes}
use Rattle.clap.specs.Words.{Text}
use Rattle.desk_words.specs.CommandLine.{IsHelpWord}
use Rattle.desk_words.proofs.WordLaws.{one_word}
use Rattle.desk_words.proofs.asking.wants_help.Goals as goal

pub returns-in-len1 : goal.returns-in-len1
returns-in-len1 c =
    let same = c.as_slice.ensures.value in
    let one : length c.as_slice.result.now ≡ 1 = omega arith in
    let is = c.word-item.is ∙ ap (λ s. get_or s 0 c.word-item.result) same in
    let says = subst (λ (t : Text). IsTrue c.is_help_word.result ↔ IsHelpWord t) c.as_str.ensures.value c.is_help_word.ensures in
    one_word string_bytes c.args.words.now.items c.word-item.result c.is_help_word.result (ap length (sym same) ∙ one) is says
